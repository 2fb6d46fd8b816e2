-- What the scope of a number is.
use Rattle.std.specs.Prelude.{◌≡◌, ℕ, ◌-◌, ◌≤◌, ◌<◌, List, length, get_or, slice_get, Some, ◌⊎◌}
use Rattle.std.specs.declared.vec.Vec.{Vec}
use Rattle.std.specs.declared.alloc.Global.{Global}
use Rattle.psc_graph.specs.declared.node.Node.{Node}
use Rattle.psc_graph.specs.declared.node.Node.TheVariants.{Atom}
use Rattle.psc_graph.specs.declared.node.Leaf.TheVariants.{Rigid}

-- the rigid variable is one of the list
abbrev pub Holds : List ℕ → ℕ → Type 0
Holds list rigid = (i : ℕ) × (i < length list) × (get_or list i 0 ≡ rigid)

-- each rigid variable below n is one of the list
abbrev pub HoldsBelow : List ℕ → ℕ → Type 0
HoldsBelow list n = (rigid : ℕ) → rigid < n → Holds list rigid

-- the list does not fall
abbrev pub Rises : List ℕ → Type 0
Rises list = (i j : ℕ) → i ≤ j → j < length list → get_or list i 0 ≤ get_or list j 0

-- no list falls
abbrev pub AllRise : List (Vec ℕ Global) → Type 0
AllRise lists = (i : ℕ) (list : Vec ℕ Global) → slice_get lists i ≡ Some list → Rises list.items

-- no list falls, and each has each rigid variable below n
pub record AreOpen (lists : List (Vec ℕ Global)) (n : ℕ) : Type 0 where
  pub rise : AllRise lists
  pub all : (i : ℕ) (list : Vec ℕ Global) → slice_get lists i ≡ Some list → HoldsBelow list.items n

-- a call gave the scope
abbrev pub IsGiven : List (Vec ℕ Global) → ℕ → Type 0
IsGiven lists scope = (list : Vec ℕ Global) × (slice_get lists (scope - 1) ≡ Some list)

-- a call gave the scope, with this list
abbrev pub IsGivenAs : List (Vec ℕ Global) → ℕ → List ℕ → Type 0
IsGivenAs lists scope list = (own : Vec ℕ Global) × (slice_get lists (scope - 1) ≡ Some own) × (own.items ≡ list)

-- the rigid variable is in the list of the scope
abbrev pub IsListed : List (Vec ℕ Global) → ℕ → ℕ → Type 0
IsListed lists scope rigid = (list : Vec ℕ Global) × (slice_get lists (scope - 1) ≡ Some list) × Holds list.items rigid

-- the rigid variable lies in the scope: the scope 0 has all, any other one what its list has
abbrev pub Lies : List (Vec ℕ Global) → ℕ → ℕ → Type 0
Lies lists scope rigid = (scope ≡ 0) ⊎ IsListed lists scope rigid

-- each rigid variable of the one scope lies in the other
abbrev pub IsWithin : List (Vec ℕ Global) → ℕ → ℕ → Type 0
IsWithin lists inner outer = (rigid : ℕ) → Lies lists inner rigid → Lies lists outer rigid

-- scopes that were given stay what they were
abbrev pub Extends : List (Vec ℕ Global) → List (Vec ℕ Global) → Type 0
Extends old new = (i : ℕ) (list : Vec ℕ Global) → slice_get old i ≡ Some list → slice_get new i ≡ Some list

-- a node is a rigid variable that is not below n
pub record HasBeyond (nodes : List Node) (n : ℕ) : Type 0 where
  pub place : ℕ
  pub rigid : ℕ
  pub kind : ℕ
  pub at : slice_get nodes place ≡ Some (Atom (Rigid rigid kind))
  pub beyond : rigid < n → ⊥
