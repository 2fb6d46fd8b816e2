-- What the texts of an accepted source tell of it.
use Rattle.std.specs.Prelude.{◌≡◌, ◌≢◌, ℕ, true, List, codes, IsUtf8, ◌↔◌, Option, Some}
use Rattle.std.specs.List.{Contains}
use Rattle.std.specs.Ordering.{nat_cmp}
use Rattle.std.specs.Cmp.Lexicographic.{slice_cmp}
use Rattle.std.specs.List.Sorted.{IsStrictlySortedBy}
use Rattle.psc_externs.specs.declared.externs.Externs.{Externs}
use Rattle.psc_externs.specs.declared.outcome.Outputs.{Outputs}
use Rattle.psc_externs.specs.declared.places.Places.{Places}
use Rattle.psc_externs_rows.specs.Kept.{is_interface, are_places}
use Rattle.psc_externs_text.specs.Texts.{externs_text, places_text}

-- the name of a module and the names of the modules that it imports, as its header tells them
pub record Header : Type 0 where
  pub name : List ℕ
  pub imports : List (List ℕ)

-- the imports without `Prim`, ascending and each once
pub record AreImports (written : List (List ℕ)) (imports : List (List ℕ)) : Type 0 where
  pub ascending : IsStrictlySortedBy (slice_cmp nat_cmp) imports
  pub same : (m : List ℕ) → Contains imports m ↔ (Contains written m × (m ≢ codes "Prim"))

-- the texts tell the module that the header of the source names, with its imports
pub record TellsSource (head : Option Header) (source : List ℕ) (out : Outputs) : Type 0 where
  pub utf8 : IsUtf8 source
  pub header : Header
  pub has_header : head ≡ Some header
  pub externs : Externs
  pub externs_kept : is_interface externs ≡ true
  pub externs_are : externs_text externs ≡ out.externs
  pub name : externs.«module» ≡ header.name
  pub imports : AreImports header.imports externs.imports
  pub places : Places
  pub places_kept : are_places places ≡ true
  pub places_are : places_text places ≡ out.places
