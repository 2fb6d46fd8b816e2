-- What the objects in memory hold, and which of their calls fail.
use Rattle.std.specs.Prelude.{◌≡◌, ℕ, ◌+◌, ◌-◌, ◌^◌, min, Bool, cond, ◌==◌, ◌&&◌, nat_eq, List, [], ◌∷◌, ◌++◌, Option, Some, None}
use Rattle.std.specs.List.{list_any}
use Rattle.std.specs.Ordering.{nat_cmp}
use Rattle.std.specs.Cmp.Lexicographic.{slice_cmp, pointwise}
use Rattle.std.specs.BTreeMap.{get}
use Rattle.psc_outside.specs.Contents.{Contents, nothing, replaced}
use Rattle.psc_outside.specs.declared.schedule.Schedule.{Schedule}
use Rattle.psc_outside.specs.declared.mem_files.MemFiles.{MemFiles}
use Rattle.psc_outside.specs.declared.mem_shelf.MemShelf.{MemShelf}
use Rattle.psc_outside.specs.declared.mem_shelf.ShelfCall.{ShelfCall}
use Rattle.psc_outside.specs.declared.mem_shelf.ShelfCall.TheVariants.{Read, Replace}

-- the number of the next call, counted from 1 up to the greatest count
abbrev pub next_call : Schedule → ℕ
next_call schedule = min (schedule.calls + 1) (2 ^ 64 - 1)

-- the next call is one of those that are to fail
abbrev pub is_next_due : Schedule → Bool
is_next_due schedule = list_any (λ n. n == next_call schedule) schedule.failing.items

-- the call of this number is to fail too
abbrev pub FailsToo : Schedule → ℕ → Schedule → Type 0
FailsToo before call after = (after.failing.items ≡ before.failing.items ++ call ∷ []) × (after.calls ≡ before.calls)

-- one more call was counted
abbrev pub IsCounted : Schedule → Schedule → Type 0
IsCounted before after = (after.failing.items ≡ before.failing.items) × (after.calls ≡ next_call before)

-- what files in memory hold
abbrev pub held_by_files : MemFiles → Contents
held_by_files files path = get (slice_cmp nat_cmp) files.contents path

-- what is held after a call
abbrev pub after : Contents → ShelfCall → Contents
after held (Read name answer) = held
after held (Replace name bytes is_stored answer) = cond is_stored (replaced held name bytes) held

-- what is held after these calls, the first one first
abbrev pub after_all : Contents → List ShelfCall → Contents
after_all held [] = held
after_all held (call ∷ calls) = after_all (after held call) calls

-- a shelf holds what its calls left
abbrev pub held_by_shelf : MemShelf → Contents
held_by_shelf shelf = after_all nothing shelf.calls.items

-- the bytes that a call put under the name, if it did
abbrev pub stored_at : ShelfCall → List ℕ → Option (List ℕ)
stored_at (Read other answer) name = None
stored_at (Replace other bytes is_stored answer) name = cond (is_stored && pointwise nat_eq other name) (Some bytes) None

-- how many of n bytes a sink takes that has room for so many, or for all
abbrev pub fits : Option ℕ → ℕ → ℕ
fits None n = n
fits (Some room) n = min room n

-- the room that is left then
abbrev pub room_after : Option ℕ → ℕ → Option ℕ
room_after None n = None
room_after (Some room) n = Some (room - min room n)
