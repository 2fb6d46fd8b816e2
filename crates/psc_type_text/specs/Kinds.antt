-- The texts of kinds.
use Rattle.std.specs.Prelude.{ℕ, Bool, true, false, List, ◌++◌, if◌then◌else◌, codes}
use Rattle.psc_type.specs.declared.kind.Kind.{Kind}
use Rattle.psc_type.specs.declared.kind.Kind.TheOpen.{Kind-F}
use Rattle.psc_type.specs.declared.kind.Kind.TheFolds.{fold-Kind}

-- what a kind shows: its text, whether it is an arrow, and whether it is an arrow or a row kind
pub record ShownKind : Type 0 where
  pub arrow : Bool
  pub wide : Bool
  pub whole : List ℕ

abbrev pub word : List ℕ → ShownKind
word text = record { arrow = false; wide = false; whole = text }

unfoldable pub closed : List ℕ → List ℕ
closed text = codes "(" ++ text ++ codes ")"

abbrev pub left : ShownKind → List ℕ
left k = if k.arrow then closed k.whole else k.whole

abbrev pub argument : ShownKind → List ℕ
argument k = if k.wide then closed k.whole else k.whole

unfoldable pub front_of_arrow : List ℕ → List ℕ
front_of_arrow from = from ++ codes " -> "

unfoldable pub row_of : List ℕ → List ℕ
row_of k = codes "Row " ++ k

abbrev pub kind_step : Kind-F ShownKind → ShownKind
kind_step Kind-F.Star = word (codes "Type")
kind_step Kind-F.Constr = word (codes "Constraint")
kind_step Kind-F.Sym = word (codes "Symbol")
kind_step (Kind-F.RowOf k) = record { arrow = false; wide = true; whole = row_of (argument k) }
kind_step (Kind-F.Arrow from to) = record { arrow = true; wide = true; whole = front_of_arrow (left from) ++ to.whole }
kind_step (Kind-F.Unknown n) = word (codes "_")

abbrev pub show : Kind → ShownKind
show = fold-Kind ShownKind kind_step
