-- Which kinds and types have no unknown in them.
use Rattle.std.specs.Prelude.{Bool, true, false, ◌&&◌, List, [], ◌∷◌, ◌++◌, nat_eq}
use Rattle.std.specs.List.{list_all, list_any}
use Rattle.std.specs.Cmp.Lexicographic.{pointwise}
use Rattle.psc_text.specs.declared.names.Ident.{Ident}
use Rattle.psc_type.specs.declared.kind.Kind.{Kind}
use Rattle.psc_type.specs.declared.kind.Kind.TheOpen.{Kind-F}
use Rattle.psc_type.specs.declared.kind.Kind.TheFolds.{fold-Kind}
use Rattle.psc_type.specs.declared.ty.Ty.{Ty}
use Rattle.psc_type.specs.declared.ty.Ty.TheOpen.{Ty-F}
use Rattle.psc_type.specs.declared.ty.Ty.TheFolds.{fold-Ty}

abbrev pub known_kind_step : Kind-F Bool → Bool
known_kind_step Kind-F.Star = true
known_kind_step Kind-F.Constr = true
known_kind_step Kind-F.Sym = true
known_kind_step (Kind-F.RowOf k) = k
known_kind_step (Kind-F.Arrow from to) = from && to
known_kind_step (Kind-F.Unknown n) = false

abbrev pub is_known_kind : Kind → Bool
is_known_kind = fold-Kind Bool known_kind_step

unfoldable pub all_true : List Bool → Bool
all_true [] = true
all_true (b ∷ bs) = b && all_true bs

unfoldable pub all_at : List Ident → List (List Ident → Bool) → Bool
all_at bound [] = true
all_at bound (p ∷ ps) = p bound && all_at bound ps

abbrev pub is_same : Ident → Ident → Bool
is_same a b = pointwise nat_eq a.0 b.0

abbrev pub known_step : Ty-F Bool Bool → Bool
known_step (Ty-F.Var name) = true
known_step (Ty-F.Unknown n) = false
known_step (Ty-F.Con name) = true
known_step (Ty-F.App f a) = f && a
known_step (Ty-F.Forall name k body) = is_known_kind k && body
known_step (Ty-F.Given c body) = c && body
known_step (Ty-F.RowCons l t rest) = t && rest
known_step Ty-F.RowNil = true
known_step (Ty-F.Symbol text) = true
known_step (Ty-F.Any k) = is_known_kind k

abbrev pub is_known : Ty → Bool
is_known = fold-Ty Bool Bool known_step (λ c. all_true c.args)

abbrev pub are_known : List Ty → Bool
are_known ts = list_all is_known ts

-- whether each variable is one of these or is bound by a `forall` round it
abbrev pub closed_step : Ty-F (List Ident → Bool) (List Ident → Bool) → List Ident → Bool
closed_step (Ty-F.Var name) bound = list_any (is_same name) bound
closed_step (Ty-F.Unknown n) bound = true
closed_step (Ty-F.Con name) bound = true
closed_step (Ty-F.App f a) bound = f bound && a bound
closed_step (Ty-F.Forall name k body) bound = body (bound ++ name ∷ [])
closed_step (Ty-F.Given c body) bound = c bound && body bound
closed_step (Ty-F.RowCons l t rest) bound = t bound && rest bound
closed_step Ty-F.RowNil bound = true
closed_step (Ty-F.Symbol text) bound = true
closed_step (Ty-F.Any k) bound = true

abbrev pub is_closed_under : Ty → List Ident → Bool
is_closed_under = fold-Ty (List Ident → Bool) (List Ident → Bool) closed_step (λ c bound. all_at bound c.args)

-- a type of a declaration: closed, without unknowns
abbrev pub is_scheme : Ty → Bool
is_scheme t = is_known t && is_closed_under t []
