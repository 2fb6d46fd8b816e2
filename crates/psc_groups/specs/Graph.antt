-- Declarations that mention and reach one another.
use Rattle.std.specs.Prelude.{◌≡◌, ℕ, ◌<◌, List, length, slice_get, Some, ◌+◌}
use Rattle.std.specs.declared.vec.Vec.{Vec}
use Rattle.std.specs.declared.alloc.Global.{Global}

-- the declaration a mentions b
pub record Mentions (m : List (Vec ℕ Global)) (a b : ℕ) : Type 0 where
  pub list : Vec ℕ Global
  pub place : ℕ
  pub has : slice_get m a ≡ Some list
  pub at : slice_get list.items place ≡ Some b

-- a step leads from a to b, or several do, or a is b
pub data Reaches (E : ℕ → ℕ → Type 0) : ℕ → ℕ → Type 0 where
  here : (a : ℕ) → Reaches E a a
  onward : (a b c : ℕ) → E a b → Reaches E b c → Reaches E a c

-- each mention is of a declaration
pub record AllDeclared (m : List (Vec ℕ Global)) : Type 0 where
  pub declared : (a b : ℕ) → Mentions m a b → b < length m

-- each declaration has a number, which two share exactly where each reaches the other; none is below that of a mentioned one
pub record IsNumbering (E : ℕ → ℕ → Type 0) (size : ℕ) (numbers : List ℕ) (count : ℕ) : Type 0 where
  pub whole : length numbers ≡ size
  pub counted : (a k : ℕ) → slice_get numbers a ≡ Some k → k < count
  pub falls : (a b k l : ℕ) → E a b → slice_get numbers a ≡ Some k → slice_get numbers b ≡ Some l → l < k + 1
  pub meets : (a b k : ℕ) → slice_get numbers a ≡ Some k → slice_get numbers b ≡ Some k → Reaches E a b
