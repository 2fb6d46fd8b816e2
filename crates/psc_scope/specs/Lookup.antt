-- What a name stands for by a table of candidates.
use Rattle.std.specs.Prelude.{ℕ, List, Option, Some, None}
use Rattle.std.specs.declared.cmp.Ordering.{Ordering}
use Rattle.std.specs.Ordering.{nat_cmp, ordering_then}
use Rattle.std.specs.Option.{option_cmp}
use Rattle.std.specs.Cmp.Lexicographic.{slice_cmp}
use Rattle.std.specs.BTreeMap.{get}
use Rattle.psc_scope.specs.declared.keys.Area.{Area}
use Rattle.psc_scope.specs.declared.keys.Area.TheVariants as area
use Rattle.psc_scope.specs.declared.keys.Key.{Key}
use Rattle.psc_scope.specs.declared.scope.Candidates.{Candidates}
use Rattle.psc_scope.specs.declared.scope.Found.{Found}
use Rattle.psc_scope.specs.declared.scope.Found.TheVariants.{Nothing}
use Rattle.psc_scope.specs.declared.scope.Scope.{Scope}
use Rattle.psc_scope.specs.Candidates.{classes, first_class, verdict}

-- name spaces in the order of their words
abbrev pub area_place : Area → ℕ
area_place area.Constructor = 0
area_place area.XType = 1
area_place area.TypeOp = 2
area_place area.Value = 3
area_place area.ValueOp = 4

abbrev pub area_cmp : Area → Area → Ordering
area_cmp a b = nat_cmp (area_place a) (area_place b)

-- names by their space, then by their bytes, then by the module before them
abbrev pub key_cmp : Key → Key → Ordering
key_cmp a b = ordering_then (area_cmp a.area b.area) (ordering_then (slice_cmp nat_cmp a.name b.name) (option_cmp (slice_cmp nat_cmp) a.qualifier b.qualifier))

-- a name in its space, with the module before it
abbrev pub key : Area → List ℕ → Option (List ℕ) → Key
key space name qualifier = record { area = space; name = name; qualifier = qualifier }

-- what the candidates of a name say; without any it stands for nothing
abbrev pub found_by : Option Candidates → Found
found_by None = Nothing
found_by (Some candidates) = verdict (first_class (classes candidates))

-- what a name stands for
abbrev pub found : Scope → Key → Found
found scope name = found_by (get key_cmp scope.rows name)
