-- What is held under names, and what a call does to it.
use Rattle.std.specs.Prelude.{◌≡◌, ℕ, ◌^◌, ◌≤◌, List, ◌++◌, take, length, cond, nat_eq, nat_le, Option, Some, None, ◌⊎◌}
use Rattle.std.specs.Cmp.Lexicographic.{pointwise}
use Rattle.psc_outside.specs.declared.put.Put.{Put}
use Rattle.psc_outside.specs.declared.put.Put.TheVariants as put
use Rattle.psc_outside.specs.declared.read_file.ReadFile.{ReadFile}
use Rattle.psc_outside.specs.declared.read_file.ReadFile.TheVariants as read

-- the bytes under each name, if any
abbrev pub Contents : Type 0
Contents = List ℕ → Option (List ℕ)

-- nothing is held
abbrev pub nothing : Contents
nothing name = None

-- the same contents, but these bytes under the name
unfoldable pub replaced : Contents → List ℕ → List ℕ → Contents
replaced held name bytes other = cond (pointwise nat_eq name other) (Some bytes) (held other)

-- a reading gives what is held, and finds it absent where nothing is held
abbrev pub Reads : Option (List ℕ) → ReadFile → Type 0
Reads held (read.Got bytes) = held ≡ Some bytes
Reads held read.Absent = held ≡ None
Reads held read.Failed = Unit {0}

-- no reading gives more than 1 GiB
abbrev pub IsInLimit : ReadFile → Type 0
IsInLimit (read.Got bytes) = length bytes ≤ 2 ^ 30
IsInLimit read.Absent = Unit {0}
IsInLimit read.Failed = Unit {0}

-- what a reading answers where this is held and no fault comes first
abbrev pub answer_at : Option (List ℕ) → ReadFile
answer_at None = read.Absent
answer_at (Some bytes) = cond (nat_le (length bytes) (2 ^ 30)) (read.Got bytes) read.Failed

-- the name holds what it held, or the bytes; every other name what it held
abbrev pub IsOldOrNew : Contents → List ℕ → List ℕ → Contents → Type 0
IsOldOrNew before name bytes after = (after ≡ before) ⊎ (after ≡ replaced before name bytes)

-- what a replacement leaves: where it is done, the bytes stand under the name
abbrev pub Replaces : Contents → List ℕ → List ℕ → Contents → Put → Type 0
Replaces before name bytes after put.Done = after ≡ replaced before name bytes
Replaces before name bytes after put.Failed = IsOldOrNew before name bytes after

-- a prefix of the piece stands behind what was taken before
abbrev pub AppendsPrefix : List ℕ → List ℕ → List ℕ → Type 0
AppendsPrefix before piece after = (n : ℕ) × (after ≡ before ++ take n piece)

-- what a putting leaves: where it is done, the whole piece stands behind what was taken before
abbrev pub Appends : List ℕ → List ℕ → List ℕ → Put → Type 0
Appends before piece after put.Done = after ≡ before ++ piece
Appends before piece after put.Failed = AppendsPrefix before piece after
