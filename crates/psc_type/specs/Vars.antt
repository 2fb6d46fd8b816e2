-- The free variables of a type, and types in their place.
use Rattle.std.specs.Prelude.{ℕ, zero, suc, Bool, false, not, ◌||◌, ◌&&◌, if◌then◌else◌, List, [], ◌∷◌, ◌++◌, map}
use Rattle.std.specs.List.{list_any}
use Rattle.psc_text.specs.declared.names.Ident.{Ident}
use Rattle.psc_type.specs.declared.vars.Replaced.{Replaced}
use Rattle.psc_type.specs.declared.ty.Ty.{Ty}
use Rattle.psc_type.specs.declared.ty.Ty.TheVariants as ty
use Rattle.psc_type.specs.declared.ty.Ty.TheOpen.{Ty-F}
use Rattle.psc_type.specs.declared.ty.Ty.TheFolds.{fold-Ty}
use Rattle.psc_type.specs.declared.ty.Constraint.{Constraint}
use Rattle.psc_type.specs.Closed.{is_same}

unfoldable pub any_true : List Bool → Bool
any_true [] = false
any_true (b ∷ bs) = b || any_true bs

-- whether the variable stands in the type where no `forall` of it binds it
abbrev pub is_free_step : Ident → Ty-F Bool Bool → Bool
is_free_step name (Ty-F.Var found) = is_same name found
is_free_step name (Ty-F.Unknown n) = false
is_free_step name (Ty-F.Con c) = false
is_free_step name (Ty-F.App f a) = f || a
is_free_step name (Ty-F.Forall bound k body) = not (is_same name bound) && body
is_free_step name (Ty-F.Given c body) = c || body
is_free_step name (Ty-F.RowCons l t rest) = t || rest
is_free_step name Ty-F.RowNil = false
is_free_step name (Ty-F.Symbol text) = false
is_free_step name (Ty-F.Any k) = false

abbrev pub is_free : Ident → Ty → Bool
is_free name = fold-Ty Bool Bool (is_free_step name) (λ c. any_true c.args)

-- what stands in place of a variable, where t does if none of the others is for it
unfoldable pub later : List Replaced → Ident → Ty → Ty
later [] name t = t
later (one ∷ others) name t = later others name (if is_same one.name name then one.by else t)

-- of two for one variable the last counts
abbrev pub at_var : List Replaced → Ident → Ty
at_var env name = later env name (ty.Var name)

-- 39 is the prime
abbrev pub primed : Ident → Ident
primed x = record { 0 = x.0 ++ 39 ∷ [] }

abbrev pub is_replaced : List Replaced → Ident → Bool
is_replaced env name = list_any (λ one. is_same one.name name) env

-- whether a type that is put in below a `forall` of bound has the name free; for bound itself nothing is put in there
abbrev pub catches : Ident → Ident → Replaced → Bool
catches bound name one = not (is_same one.name bound) && is_free name one.by

-- whether a `forall` that is written with bound cannot have the name: it would bind a variable that is free in what is
-- put in, or, where it is another name, one that is free in the type and stays
abbrev pub is_taken : Ident → Ident → Ty → List Replaced → Bool
is_taken bound name whole env = list_any (catches bound name) env || (not (is_same name bound) && is_free name whole && not (is_replaced env name))

-- the name with as many primes as it takes
unfoldable pub fresh : ℕ → Ident → Ident → Ty → List Replaced → Ident
fresh zero bound name whole env = name
fresh (suc tries) bound name whole env = if is_taken bound name whole env then fresh tries bound (primed name) whole env else name

abbrev pub renamed : Ident → Ident → Replaced
renamed name other = record { name = name; by = ty.Var other }

-- more primes than a type has names
unfoldable pub fresh_name : Ident → Ty → List Replaced → Ident
fresh_name name whole env = fresh 18446744073709551615 name name whole env

abbrev pub bound : Ty → Ident → List Replaced → List Replaced
bound whole name env = env ++ renamed name (fresh_name name whole env) ∷ []

abbrev pub Placing : Type 0
Placing = List Replaced → Ty

unfoldable pub all_under : List Replaced → List Placing → List Ty
all_under env [] = []
all_under env (p ∷ ps) = p env ∷ all_under env ps

-- the type with types in place of its free variables; whole is the type that it is a part of
abbrev pub put_in_step : Ty → Ty-F Placing (List Replaced → Constraint) → Placing
put_in_step whole (Ty-F.Var name) env = at_var env name
put_in_step whole (Ty-F.Unknown n) env = ty.Unknown n
put_in_step whole (Ty-F.Con name) env = ty.Con name
put_in_step whole (Ty-F.App f a) env = ty.App (f env) (a env)
put_in_step whole (Ty-F.Forall name k body) env = ty.Forall (fresh_name name whole env) k (body (bound whole name env))
put_in_step whole (Ty-F.Given c body) env = ty.Given (c env) (body env)
put_in_step whole (Ty-F.RowCons l t rest) env = ty.RowCons l (t env) (rest env)
put_in_step whole Ty-F.RowNil env = ty.RowNil
put_in_step whole (Ty-F.Symbol text) env = ty.Symbol text
put_in_step whole (Ty-F.Any k) env = ty.Any k

abbrev pub put_in : Ty → Ty → List Replaced → Ty
put_in whole = fold-Ty Placing (List Replaced → Constraint) (put_in_step whole) (λ c env. record { class = c.class; args = all_under env c.args })

abbrev pub constraint_in : Ty → Constraint → List Replaced → Constraint
constraint_in whole c env = record { class = c.class; args = map (λ t. put_in whole t env) c.args }

abbrev pub substitute : List Replaced → Ty → Ty
substitute env t = put_in t t env
