-- Types without synonyms, over synonyms whose bodies are expanded already.
use Rattle.std.specs.Prelude.{Bool, ◌&&◌, List, [], ◌∷◌, ◌++◌, map, if◌then◌else◌, nat_eq, Result, Ok, Err}
use Rattle.std.specs.Option.{option_eq}
use Rattle.std.specs.Cmp.Lexicographic.{pointwise}
use Rattle.psc_text.specs.declared.names.Qualified.{Qualified}
use Rattle.psc_type.specs.declared.synonyms.ExpandFault.{ExpandFault}
use Rattle.psc_type.specs.declared.ty.Constraint.{Constraint}
use Rattle.psc_type.specs.declared.ty.Ty.{Ty}
use Rattle.psc_type.specs.declared.ty.Ty.TheVariants as ty
use Rattle.psc_type.specs.declared.ty.Ty.TheOpen.{Ty-F}
use Rattle.psc_type.specs.declared.ty.Ty.TheFolds.{fold-Ty}
use Rattle.psc_expand.specs.declared.head.Prepared.{Prepared}
use Rattle.psc_expand.specs.declared.head.Head.{Head}
use Rattle.psc_expand.specs.declared.head.Head.TheVariants.{Done}
use Rattle.psc_expand.specs.Head.{begin, finish, limited, apply}

abbrev pub OrFault : Type 0 → Type 0
OrFault A = Result A ExpandFault

-- the first fault counts
abbrev pub and_then : {A B : Type 0} → Result A ExpandFault → (A → Result B ExpandFault) → Result B ExpandFault
and_then (Ok a) f = f a
and_then (Err fault) f = Err fault

abbrev pub is_name : Qualified → Qualified → Bool
is_name a b = option_eq (pointwise nat_eq) a.module b.module && pointwise nat_eq a.name b.name

-- a name that no row has stands for itself
unfoldable pub start : List Prepared → Qualified → Result Head ExpandFault
start [] name = Ok (Done (ty.Con name))
start (row ∷ rows) name = if is_name row.name name then begin row else start rows name

abbrev pub done : Ty → Result Head ExpandFault
done t = Ok (Done t)

abbrev pub finished : Result Head ExpandFault → Result Ty ExpandFault
finished h = and_then h finish

-- the types behind those that are there already; the first fault counts
unfoldable pub finished_onto : List Ty → List (Result Head ExpandFault) → Result (List Ty) ExpandFault
finished_onto ts [] = Ok ts
finished_onto ts (h ∷ hs) = and_then (finished h) (λ t. finished_onto (ts ++ t ∷ []) hs)

abbrev pub all_finished : List (Result Head ExpandFault) → Result (List Ty) ExpandFault
all_finished hs = finished_onto [] hs

abbrev pub head_step : List Prepared → Ty-F (Result Head ExpandFault) (Result Constraint ExpandFault) → Result Head ExpandFault
head_step table (Ty-F.Var name) = done (ty.Var name)
head_step table (Ty-F.Unknown n) = done (ty.Unknown n)
head_step table (Ty-F.Con name) = start table name
head_step table (Ty-F.App f a) = and_then f (λ front. and_then (finished a) (λ t. apply front t))
head_step table (Ty-F.Forall name k b) = and_then (finished b) (λ t. done (ty.Forall name k t))
head_step table (Ty-F.Given c b) = and_then c (λ given. and_then (finished b) (λ t. done (ty.Given given t)))
head_step table (Ty-F.RowCons l t r) = and_then (finished t) (λ first. and_then (finished r) (λ rest. done (ty.RowCons l first rest)))
head_step table Ty-F.RowNil = done ty.RowNil
head_step table (Ty-F.Symbol text) = done (ty.Symbol text)
head_step table (Ty-F.Any k) = done (ty.Any k)

abbrev pub constraint_of : Qualified → Result (List Ty) ExpandFault → Result Constraint ExpandFault
constraint_of class args = and_then args (λ ts. Ok (record { class = class; args = ts }))

abbrev pub head : List Prepared → Ty → Result Head ExpandFault
head table = fold-Ty (Result Head ExpandFault) (Result Constraint ExpandFault) (head_step table) (λ c. constraint_of c.class (all_finished c.args))

abbrev pub part : List Prepared → Ty → Result Ty ExpandFault
part table t = finished (head table t)

abbrev pub parts : List Prepared → List Ty → Result (List Ty) ExpandFault
parts table ts = all_finished (map (head table) ts)

abbrev pub constraint : List Prepared → Constraint → Result Constraint ExpandFault
constraint table c = constraint_of c.class (parts table c.args)

-- the type without synonyms, where it is not too large
abbrev pub expand_over : List Prepared → Ty → Result Ty ExpandFault
expand_over table t = and_then (part table t) limited
