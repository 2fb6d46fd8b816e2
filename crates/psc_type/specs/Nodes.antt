-- How many nodes a type has: one for each form, and those of its parts. The class of a constraint
-- and a kind have none.
use Rattle.std.specs.Prelude.{ℕ, ◌+◌, sum}
use Rattle.psc_type.specs.declared.ty.Ty.{Ty}
use Rattle.psc_type.specs.declared.ty.Ty.TheOpen.{Ty-F}
use Rattle.psc_type.specs.declared.ty.Ty.TheFolds.{fold-Ty}

abbrev pub nodes_step : Ty-F ℕ ℕ → ℕ
nodes_step (Ty-F.Var name) = 1
nodes_step (Ty-F.Unknown n) = 1
nodes_step (Ty-F.Con name) = 1
nodes_step (Ty-F.App f a) = 1 + f + a
nodes_step (Ty-F.Forall name k body) = 1 + body
nodes_step (Ty-F.Given c body) = 1 + c + body
nodes_step (Ty-F.RowCons l t rest) = 1 + t + rest
nodes_step Ty-F.RowNil = 1
nodes_step (Ty-F.Symbol text) = 1
nodes_step (Ty-F.Any k) = 1

abbrev pub nodes : Ty → ℕ
nodes = fold-Ty ℕ ℕ nodes_step (λ c. sum c.args)
