-- Kinds as the solver tells them apart: all kinds of rows count as one.
use Rattle.std.specs.Prelude.{◌≡◌, ℕ, ◌<◌, Bool, true, false, ◌&&◌, nat_eq, List, Some, slice_get}
use Rattle.psc_type.specs.declared.kind.Kind.{Kind}
use Rattle.psc_type.specs.declared.kind.Kind.TheOpen.{Kind-F}
use Rattle.psc_type.specs.declared.kind.Kind.TheFolds.{fold-Kind}

-- a kind, without what its rows are of
pub data Shape : Type 0 where
  Types : Shape
  Constraints : Shape
  Symbols : Shape
  Rows : Shape
  Arrow : Shape → Shape → Shape
  Unknown : ℕ → Shape

abbrev pub shape_step : Kind-F Shape → Shape
shape_step Kind-F.Star = Types
shape_step Kind-F.Constr = Constraints
shape_step Kind-F.Sym = Symbols
shape_step (Kind-F.RowOf k) = Rows
shape_step (Kind-F.Arrow from to) = Arrow from to
shape_step (Kind-F.Unknown n) = Unknown n

abbrev pub shape : Kind → Shape
shape = fold-Kind Shape shape_step

abbrev pub is_same_shape : Shape → Shape → Bool
is_same_shape Types Types = true
is_same_shape Constraints Constraints = true
is_same_shape Symbols Symbols = true
is_same_shape Rows Rows = true
is_same_shape (Arrow a b) (Arrow c d) = is_same_shape a c && is_same_shape b d
is_same_shape (Unknown m) (Unknown n) = nat_eq m n
is_same_shape s t = false

abbrev pub is_same : Kind → Kind → Bool
is_same k l = is_same_shape (shape k) (shape l)

-- the kind is none of the list
abbrev pub IsNew : List Kind → Kind → Type 0
IsNew kinds kind = (m : ℕ) (k : Kind) → slice_get kinds m ≡ Some k → is_same k kind ≡ false

-- no kind stands at two places
abbrev pub AreDistinct : List Kind → Type 0
AreDistinct kinds = (m n : ℕ) (k l : Kind) → m < n → slice_get kinds m ≡ Some k → slice_get kinds n ≡ Some l → is_same k l ≡ false
