-- Tables that give names their numbers.
use Rattle.std.specs.Prelude.{◌≡◌, ℕ, ◌-◌, ◌<◌, List, length, Option, slice_get, Some, None}
use Rattle.std.specs.declared.cmp.Ordering.{Ordering}
use Rattle.std.specs.BTreeMap.{BTreeMap, get}
use Rattle.psc_text.specs.declared.names.Ident.{Ident}
use Rattle.std.specs.declared.vec.Vec.{Vec}
use Rattle.std.specs.declared.alloc.Global.{Global}
use Rattle.psc_scopes.specs.Scope.{Holds, Rises}

-- what stands at a place stays there
abbrev pub Extends : {X : Type 0} → List X → List X → Type 0
Extends {X} xs ys = (i : ℕ) (x : X) → slice_get xs i ≡ Some x → slice_get ys i ≡ Some x

-- the name of each row is one of the names
abbrev pub AreAmong : List (Ident × ℕ) → List Ident → Type 0
AreAmong rows names = (i k : ℕ) (x : Ident) → slice_get rows i ≡ Some (x, k) → (j : ℕ) × (slice_get names j ≡ Some x)

-- the list has the number of each of the first n names
abbrev pub HasNumbers : List (Ident × ℕ) → List Ident → ℕ → List ℕ → Type 0
HasNumbers rows names n list = (j : ℕ) (x : Ident) → j < n → slice_get names j ≡ Some x → (r k : ℕ) × Holds list r × (slice_get rows r ≡ Some (x, k))

-- each of the list is the number of one of the names
abbrev pub AreNumbersOf : List (Ident × ℕ) → List Ident → List ℕ → Type 0
AreNumbersOf rows names list = (r : ℕ) → Holds list r → (j k : ℕ) × (x : Ident) × (slice_get names j ≡ Some x) × (slice_get rows r ≡ Some (x, k))

-- the list has the numbers of the names and no others, and does not fall
pub record IsListOf (rows : List (Ident × ℕ)) (names : List Ident) (list : List ℕ) : Type 0 where
  pub rises : Rises list
  pub only : AreNumbersOf rows names list
  pub all : HasNumbers rows names (length names) list

-- a call gave the scope, and its list is that of the names
abbrev pub IsScopeOf : List (Vec ℕ Global) → List (Ident × ℕ) → List Ident → ℕ → Type 0
IsScopeOf lists rows names scope = (scope ≡ 0 → ⊥) × (list : Vec ℕ Global) × (slice_get lists (scope - 1) ≡ Some list) × IsListOf rows names list.items

-- the map has each row's number at the row's name
abbrev pub AreIndexed : {K X : Type 0} → (K → K → Ordering) → (X → K) → BTreeMap K ℕ → List X → Type 0
AreIndexed {K} {X} cmp name numbers rows = (i : ℕ) (x : X) → slice_get rows i ≡ Some x → get cmp numbers (name x) ≡ Some i

-- the kind of an application of a type of the kind; 1 is the kind of types
abbrev pub IsResult : List ℕ → Option ℕ → ℕ → Type 0
IsResult results None r = r ≡ 1
IsResult results (Some k) r = slice_get results k ≡ Some r
