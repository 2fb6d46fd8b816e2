-- How many words a type, a kind or a constraint has in an interface file.
use Rattle.std.specs.Prelude.{ℕ, ◌+◌, Bool, List, [], ◌∷◌, map, nat_lt}
use Rattle.psc_type.specs.declared.kind.Kind.{Kind}
use Rattle.psc_type.specs.declared.kind.Kind.TheOpen.{Kind-F}
use Rattle.psc_type.specs.declared.kind.Kind.TheFolds.{fold-Kind}
use Rattle.psc_type.specs.declared.ty.Constraint.{Constraint}
use Rattle.psc_type.specs.declared.ty.Ty.{Ty}
use Rattle.psc_type.specs.declared.ty.Ty.TheOpen.{Ty-F}
use Rattle.psc_type.specs.declared.ty.Ty.TheFolds.{fold-Ty}

abbrev pub kind_size_step : Kind-F ℕ → ℕ
kind_size_step Kind-F.Star = 1
kind_size_step Kind-F.Constr = 1
kind_size_step Kind-F.Sym = 1
kind_size_step (Kind-F.RowOf k) = 1 + k
kind_size_step (Kind-F.Arrow from to) = 1 + from + to
kind_size_step (Kind-F.Unknown n) = 1

abbrev pub kind_size : Kind → ℕ
kind_size = fold-Kind ℕ kind_size_step

-- each argument of a class stands behind one word more
unfoldable pub arguments_size : List ℕ → ℕ
arguments_size [] = 0
arguments_size (n ∷ ns) = 1 + n + arguments_size ns

abbrev pub size_step : Ty-F ℕ ℕ → ℕ
size_step (Ty-F.Var name) = 1
size_step (Ty-F.Unknown n) = 1
size_step (Ty-F.Con name) = 1
size_step (Ty-F.App f a) = 1 + f + a
size_step (Ty-F.Forall name k body) = 1 + kind_size k + body
size_step (Ty-F.Given c body) = 1 + c + body
size_step (Ty-F.RowCons l t rest) = 1 + t + rest
size_step Ty-F.RowNil = 1
size_step (Ty-F.Symbol text) = 1
size_step (Ty-F.Any k) = 1

abbrev pub size : Ty → ℕ
size = fold-Ty ℕ ℕ size_step (λ c. 1 + arguments_size c.args)

abbrev pub constraint_size : Constraint → ℕ
constraint_size c = 1 + arguments_size (map size c.args)

abbrev pub is_long : ℕ → Bool
is_long n = nat_lt 20000 n
