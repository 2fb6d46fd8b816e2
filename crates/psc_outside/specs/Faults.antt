-- Counts of faults: what a call may do to one.
use Rattle.std.specs.Prelude.{◌≡◌, ℕ, ◌-◌, ◌^◌, ◌<◌, ◌⊎◌}
use Rattle.psc_outside.specs.declared.put.Put.{Put}
use Rattle.psc_outside.specs.declared.put.Put.TheVariants as put
use Rattle.psc_outside.specs.declared.read_file.ReadFile.{ReadFile}
use Rattle.psc_outside.specs.declared.read_file.ReadFile.TheVariants as read

-- the greatest count, at which a count stands still
abbrev pub greatest : ℕ
greatest = 2 ^ 64 - 1

-- a count rose, or stands at its end
abbrev pub Rose : ℕ → ℕ → Type 0
Rose before after = (before < after) ⊎ (after ≡ greatest)

-- a reading fails only where the count rose, and else leaves it
abbrev pub ReadCounts : ℕ → ℕ → ReadFile → Type 0
ReadCounts before after (read.Got bytes) = after ≡ before
ReadCounts before after read.Absent = after ≡ before
ReadCounts before after read.Failed = Rose before after

-- a writing fails only where the count rose, and else leaves it
abbrev pub PutCounts : ℕ → ℕ → Put → Type 0
PutCounts before after put.Done = after ≡ before
PutCounts before after put.Failed = Rose before after
