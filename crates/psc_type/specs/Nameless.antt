-- Types without the names of bound variables: such a variable is the place of its `forall` among
-- those round it. Two types are equal up to these names exactly where they are equal so.
use Rattle.std.specs.Prelude.{ℕ, ◌+◌, if◌then◌else◌, List, [], ◌∷◌, ◌++◌, map, decimal, Option, Some, None}
use Rattle.psc_text.specs.declared.names.Ident.{Ident}
use Rattle.psc_type.specs.declared.ty.Ty.{Ty}
use Rattle.psc_type.specs.declared.ty.Ty.TheVariants as ty
use Rattle.psc_type.specs.declared.ty.Ty.TheOpen.{Ty-F}
use Rattle.psc_type.specs.declared.ty.Ty.TheFolds.{fold-Ty}
use Rattle.psc_type.specs.declared.ty.Constraint.{Constraint}
use Rattle.psc_type.specs.Closed.{is_same}

-- no free name is a bound one: 102 is 'f', 98 is 'b'
abbrev pub free_name : Ident → Ident
free_name x = record { 0 = 102 ∷ [] ++ x.0 }

abbrev pub bound_name : ℕ → Ident
bound_name level = record { 0 = 98 ∷ [] ++ decimal level }

abbrev pub no_name : Ident
no_name = record { 0 = [] }

-- the place of the last that is the name, counted from k, or else what was found
unfoldable pub level_from : ℕ → List Ident → Ident → Option ℕ → Option ℕ
level_from k [] name found = found
level_from k (x ∷ xs) name found = level_from (k + 1) xs name (if is_same x name then Some k else found)

abbrev pub level_of : List Ident → Ident → Option ℕ
level_of bound name = level_from 0 bound name None

abbrev pub var_at : Ident → Option ℕ → Ty
var_at name (Some level) = ty.Var (bound_name level)
var_at name None = ty.Var (free_name name)

abbrev pub nameless_var : List Ident → Ident → Ty
nameless_var bound name = var_at name (level_of bound name)

abbrev pub Under : Type 0
Under = List Ident → Ty

unfoldable pub all_under : List Ident → List Under → List Ty
all_under bound [] = []
all_under bound (p ∷ ps) = p bound ∷ all_under bound ps

abbrev pub nameless_step : Ty-F Under (List Ident → Constraint) → Under
nameless_step (Ty-F.Var name) bound = nameless_var bound name
nameless_step (Ty-F.Unknown n) bound = ty.Unknown n
nameless_step (Ty-F.Con name) bound = ty.Con name
nameless_step (Ty-F.App f a) bound = ty.App (f bound) (a bound)
nameless_step (Ty-F.Forall name k body) bound = ty.Forall no_name k (body (bound ++ name ∷ []))
nameless_step (Ty-F.Given c body) bound = ty.Given (c bound) (body bound)
nameless_step (Ty-F.RowCons l t rest) bound = ty.RowCons l (t bound) (rest bound)
nameless_step Ty-F.RowNil bound = ty.RowNil
nameless_step (Ty-F.Symbol text) bound = ty.Symbol text
nameless_step (Ty-F.Any k) bound = ty.Any k

abbrev pub nameless_under : Ty → List Ident → Ty
nameless_under = fold-Ty Under (List Ident → Constraint) nameless_step (λ c bound. record { class = c.class; args = all_under bound c.args })

abbrev pub nameless_constraint : Constraint → List Ident → Constraint
nameless_constraint c bound = record { class = c.class; args = map (λ t. nameless_under t bound) c.args }

abbrev pub nameless : Ty → Ty
nameless t = nameless_under t []
