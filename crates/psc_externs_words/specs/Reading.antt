-- The types and kinds that words spell. The words are taken from the last to the first, each with its parts from a stack of
-- what those behind it have made; the top of the stack is its end.
use Rattle.std.specs.Prelude.{ℕ, Bool, ◌==◌, cond, nat_eq, List, [], ◌∷◌, ◌++◌, Option, Some, None, option_map, option_and_then, codes}
use Rattle.std.specs.Cmp.Lexicographic.{pointwise}
use Rattle.std.specs.Str.{chars}
use Rattle.psc_text.specs.Letters.{is_module_name}
use Rattle.psc_text.specs.declared.names.Qualified.{Qualified}
use Rattle.psc_type.specs.declared.kind.Kind.{Kind}
use Rattle.psc_type.specs.declared.kind.Kind.TheVariants as kind
use Rattle.psc_type.specs.declared.ty.Constraint.{Constraint}
use Rattle.psc_type.specs.declared.ty.Ty.{Ty, end_of-Ty, more_of-Ty}
use Rattle.psc_type.specs.declared.ty.Ty.TheVariants as ty
use Rattle.psc_externs_words.specs.declared.stack.Item.{Item}
use Rattle.psc_externs_words.specs.declared.stack.Item.TheVariants.{OfKind, OfType}

abbrev pub Stack : Type 0
Stack = List Item

-- the top and the rest
unfoldable pub pop : Stack → Option (Item × Stack)
pop [] = None
pop (x ∷ []) = Some (x, [])
pop (x ∷ y ∷ rest) = option_map (λ p. (p.0, x ∷ p.1)) (pop (y ∷ rest))

abbrev pub push : Item → Stack → Stack
push x st = st ++ x ∷ []

abbrev pub kind_on : Item × Stack → Option (Kind × Stack)
kind_on (OfKind k, st) = Some (k, st)
kind_on (OfType t, st) = None

abbrev pub type_on : Item × Stack → Option (Ty × Stack)
type_on (OfKind k, st) = None
type_on (OfType t, st) = Some (t, st)

abbrev pub pop_kind : Stack → Option (Kind × Stack)
pop_kind st = option_and_then kind_on (pop st)

abbrev pub pop_type : Stack → Option (Ty × Stack)
pop_type st = option_and_then type_on (pop st)

abbrev pub pop_kinds : Stack → Option (Kind × Kind × Stack)
pop_kinds st = option_and_then (λ p. option_map (λ q. (p.0, q.0, q.1)) (pop_kind p.1)) (pop_kind st)

abbrev pub pop_types : Stack → Option (Ty × Ty × Stack)
pop_types st = option_and_then (λ p. option_map (λ q. (p.0, q.0, q.1)) (pop_type p.1)) (pop_type st)

abbrev pub pop_kind_and_type : Stack → Option (Kind × Ty × Stack)
pop_kind_and_type st = option_and_then (λ p. option_map (λ q. (p.0, q.0, q.1)) (pop_type p.1)) (pop_kind st)

-- the only one of a stack
abbrev pub if_none : Item → Stack → Option Item
if_none x [] = Some x
if_none x (y ∷ rest) = None

abbrev pub lone : Stack → Option Item
lone st = option_and_then (λ p. if_none p.0 p.1) (pop st)

-- ---- names

-- what stands behind a front
abbrev pub strip : List ℕ → List ℕ → Option (List ℕ)
strip [] s = Some s
strip (x ∷ front) [] = None
strip (x ∷ front) (y ∷ s) = cond (x == y) (strip front s) None

-- before and behind the last dot, which is 46
abbrev pub cut_behind : ℕ → List ℕ → Option (List ℕ × List ℕ) → Option (List ℕ × List ℕ)
cut_behind c cs (Some p) = Some (c ∷ p.0, p.1)
cut_behind c cs None = cond (c == 46) (Some ([], cs)) None

abbrev pub cut : List ℕ → Option (List ℕ × List ℕ)
cut [] = None
cut (c ∷ cs) = cut_behind c cs (cut cs)

abbrev pub qualified_of : List ℕ × List ℕ → Option Qualified
qualified_of p = cond (is_module_name (chars p.0)) (Some (record { «module» = Some p.0; name = p.1 })) None

abbrev pub qualified : List ℕ → Option Qualified
qualified text = option_and_then qualified_of (cut text)

-- ---- constraints

pattern abbrev App : Ty → Ty → Ty
App f a = ty.App' tt (more_of-Ty f end_of-Ty) tt (more_of-Ty a end_of-Ty)

-- a class and the types that it is applied to
unfoldable pub class_and_args : Ty → Option (Qualified × List Ty)
class_and_args (ty.Con name) = Some (name, [])
class_and_args (App f a) = option_map (λ p. (p.0, p.1 ++ a ∷ [])) (class_and_args f)
class_and_args t = None

abbrev pub constraint_of : Ty → Option Constraint
constraint_of t = option_map (λ p. record { class = p.0; args = p.1 }) (class_and_args t)

-- ---- one word

abbrev pub Step : Type 0
Step = Stack → Option Stack

abbrev pub makes_kind : Kind → Step
makes_kind k st = Some (push (OfKind k) st)

abbrev pub makes_type : Ty → Step
makes_type t st = Some (push (OfType t) st)

abbrev pub row_kind : Step
row_kind st = option_and_then (λ p. makes_kind (kind.RowOf p.0) p.1) (pop_kind st)

abbrev pub arrow_kind : Step
arrow_kind st = option_and_then (λ p. makes_kind (kind.Arrow p.0 p.1) p.2) (pop_kinds st)

abbrev pub application : Step
application st = option_and_then (λ p. makes_type (ty.App p.0 p.1) p.2) (pop_types st)

abbrev pub given_to : Ty → Stack → Option Constraint → Option Stack
given_to body st (Some c) = makes_type (ty.Given c body) st
given_to body st None = None

abbrev pub constrained : Step
constrained st = option_and_then (λ p. given_to p.1 p.2 (constraint_of p.0)) (pop_types st)

abbrev pub variable : List ℕ → Step
variable name = makes_type (ty.Var (record { 0 = name }))

abbrev pub symbol : List ℕ → Step
symbol text = makes_type (ty.Symbol text)

abbrev pub con_of : Stack → Option Qualified → Option Stack
con_of st (Some name) = makes_type (ty.Con name) st
con_of st None = None

abbrev pub constructor : List ℕ → Step
constructor text st = con_of st (qualified text)

abbrev pub quantified : List ℕ → Step
quantified name st = option_and_then (λ p. makes_type (ty.Forall (record { 0 = name }) p.0 p.1) p.2) (pop_kind_and_type st)

abbrev pub labelled : List ℕ → Step
labelled name st = option_and_then (λ p. makes_type (ty.RowCons (record { 0 = name }) p.0 p.1) p.2) (pop_types st)

abbrev pub behind : Option (List ℕ) → (List ℕ → Step) → Step → Step
behind (Some name) f other = f name
behind None f other = other

-- a word that has a name or a text
unfoldable pub named : List ℕ → Step
named w =
    behind (strip (codes "var ") w) variable
    (behind (strip (codes "con ") w) constructor
    (behind (strip (codes "forall ") w) quantified
    (behind (strip (codes "row ") w) labelled
    (behind (strip (codes "sym ") w) symbol (λ st. None)))))

abbrev pub same : List ℕ → List ℕ → Bool
same a b = pointwise nat_eq a b

-- a kind that has kinds as its parts, or a word that has a name
unfoldable pub made_kind : List ℕ → Step
made_kind w st = cond (same w (codes "R")) (row_kind st) (cond (same w (codes "F")) (arrow_kind st) (named w st))

-- a kind without parts, or what `made_kind` says
unfoldable pub plain_kind : List ℕ → Step
plain_kind w st =
    cond (same w (codes "T")) (makes_kind kind.Star st)
    (cond (same w (codes "C")) (makes_kind kind.Constr st) (cond (same w (codes "S")) (makes_kind kind.Sym st) (made_kind w st)))

unfoldable pub step : List ℕ → Step
step w st =
    cond (same w (codes "nil")) (makes_type ty.RowNil st)
    (cond (same w (codes "app")) (application st) (cond (same w (codes "given")) (constrained st) (plain_kind w st)))

-- ---- all words

unfoldable pub run : List (List ℕ) → Stack → Option Stack
run [] st = Some st
run (w ∷ ws) st = option_and_then (step w) (run ws st)

-- the one thing that all the words make
abbrev pub made : List (List ℕ) → Option Item
made ws = option_and_then lone (run ws [])
