-- What words do to a stack, one after another.
use Rattle.std.proofs.Common.{◌≡◌, ℕ, true, false, ◌&&◌, ◌==◌, List, [], ◌∷◌, ◌++◌, Option, Some, None, option_and_then, codes, refl, ap, ◌∙◌, append_assoc}
use Rattle.std.proofs.lemmas.Bool.{and_parts, or_parts, not-true}
use Rattle.std.specs.Str.{chars}
use Rattle.psc_text.specs.Letters.{is_module_name}
use Rattle.psc_text.specs.declared.names.Ident.{Ident}
use Rattle.psc_text.specs.declared.names.Label.{Label}
use Rattle.psc_text.specs.declared.names.Qualified.{Qualified}
use Rattle.psc_type.specs.declared.kind.Kind.{Kind}
use Rattle.psc_type.specs.declared.kind.Kind.TheVariants as kind
use Rattle.psc_type.specs.declared.ty.Ty.{Ty}
use Rattle.psc_type.specs.declared.ty.Ty.TheVariants as ty
use Rattle.psc_externs.specs.Names.{has_dot, is_name, is_module, is_true_name}
use Rattle.psc_externs_words.specs.Words.{Words, word, first, text_in, qualified_text}
use Rattle.psc_externs_words.specs.Reading.{Stack, Step, push, cut, qualified, makes_kind, makes_type, given_to, constraint_of, step, plain_kind, made_kind, named, run}
use Rattle.psc_externs_words.specs.declared.stack.Item.TheVariants.{OfKind, OfType}
use Rattle.psc_externs_words.proofs.Pops.{pop-push}

-- the words do this to the stack of what stands behind them
abbrev pub Spells : Words → Step → Type 0
Spells w f = (ws : Words) (st : Stack) → run (w ++ ws) st ≡ option_and_then f (run ws st)

then_then : (f g : Step) (o : Option Stack) → option_and_then f (option_and_then g o) ≡ option_and_then (λ st. option_and_then f (g st)) o
then_then f g None = refl
then_then f g (Some st) = refl

then_stays : (o : Option Stack) → o ≡ option_and_then (λ st. Some st) o
then_stays None = refl
then_stays (Some st) = refl

then_same : (f g : Step) → ((st : Stack) → f st ≡ g st) → (o : Option Stack) → option_and_then f o ≡ option_and_then g o
then_same f g same None = refl
then_same f g same (Some st) = same st

pub spells-none : Spells [] (λ st. Some st)
spells-none ws st = then_stays (run ws st)

pub spells-word : (front name : List ℕ) → Spells (word front name) (step (front ++ name))
unfolding run
spells-word front name ws st = refl

pub spells-append : (a b : Words) (f g : Step) → Spells a f → Spells b g → Spells (a ++ b) (λ st. option_and_then f (g st))
spells-append a b f g h k ws st = ap (λ w. run w st) (append_assoc a b ws) ∙ h (b ++ ws) st ∙ ap (option_and_then f) (k ws st) ∙ then_then f g (run ws st)

pub spells-as : (a : Words) (f g : Step) → Spells a f → ((st : Stack) → f st ≡ g st) → Spells a g
spells-as a f g h same ws st = h ws st ∙ then_same f g same (run ws st)

pub spells-first : (front name : List ℕ) (w : Words) (f : Step) → Spells w f → Spells (first front name w) (λ st. option_and_then (step (front ++ name)) (f st))
unfolding first
spells-first front name w f h = spells-append (word front name) w (step (front ++ name)) f (spells-word front name) h

-- ---- each word

pub nil-step : (st : Stack) → step (codes "nil") st ≡ makes_type ty.RowNil st
unfolding step
nil-step st = refl

pub star-step : (st : Stack) → step (codes "T") st ≡ makes_kind kind.Star st
unfolding step plain_kind
star-step st = refl

pub constr-step : (st : Stack) → step (codes "C") st ≡ makes_kind kind.Constr st
unfolding step plain_kind
constr-step st = refl

pub sym-step : (st : Stack) → step (codes "S") st ≡ makes_kind kind.Sym st
unfolding step plain_kind
sym-step st = refl

pub row-step : (k : Kind) (st : Stack) → step (codes "R") (push (OfKind k) st) ≡ makes_kind (kind.RowOf k) st
unfolding step plain_kind made_kind
row-step k st = rw (pop-push st (OfKind k))

pub arrow-step : (k l : Kind) (st : Stack) → step (codes "F") (push (OfKind k) (push (OfKind l) st)) ≡ makes_kind (kind.Arrow k l) st
unfolding step plain_kind made_kind
arrow-step k l st = rw (pop-push (push (OfKind l) st) (OfKind k)) (rw (pop-push st (OfKind l)))

pub app-step : (f a : Ty) (st : Stack) → step (codes "app") (push (OfType f) (push (OfType a) st)) ≡ makes_type (ty.App f a) st
unfolding step
app-step f a st = rw (pop-push (push (OfType a) st) (OfType f)) (rw (pop-push st (OfType a)))

pub given-step : (g b : Ty) (st : Stack) → step (codes "given") (push (OfType g) (push (OfType b) st)) ≡ given_to b st (constraint_of g)
unfolding step
given-step g b st = rw (pop-push (push (OfType b) st) (OfType g)) (rw (pop-push st (OfType b)))

pub var-step : (name : Ident) (st : Stack) → step (codes "var " ++ name.0) st ≡ makes_type (ty.Var name) st
unfolding step plain_kind made_kind named
var-step name st = refl

pub symbol-step : (text : List ℕ) (st : Stack) → step (codes "sym " ++ text) st ≡ makes_type (ty.Symbol text) st
unfolding step plain_kind made_kind named
symbol-step text st = refl

pub forall-step : (name : Ident) (k : Kind) (b : Ty) (st : Stack) → step (codes "forall " ++ name.0) (push (OfKind k) (push (OfType b) st)) ≡ makes_type (ty.Forall name k b) st
unfolding step plain_kind made_kind named
forall-step name k b st = rw (pop-push (push (OfType b) st) (OfKind k)) (rw (pop-push st (OfType b)))

pub label-step : (l : Label) (t r : Ty) (st : Stack) → step (codes "row " ++ l.0) (push (OfType t) (push (OfType r) st)) ≡ makes_type (ty.RowCons l t r) st
unfolding step plain_kind made_kind named
label-step l t r st = rw (pop-push (push (OfType r) st) (OfType t)) (rw (pop-push st (OfType r)))

-- ---- a name behind its module

cut-none : (n : List ℕ) → has_dot n ≡ false → cut n ≡ None
cut-none [] h = refl
cut-none (c ∷ cs) h =
    let p = or_parts (c == 46) (has_dot cs) h in
    rw (cut-none cs p.1) (rw p.0)

pub cut-at : (m n : List ℕ) → has_dot n ≡ false → cut (m ++ (codes "." ++ n)) ≡ Some (m, n)
cut-at [] n h = rw (cut-none n h)
cut-at (c ∷ m) n h = rw (cut-at m n h)

pub no_dot : (n : List ℕ) → is_name n ≡ true → has_dot n ≡ false
no_dot n h = not-true _ (and_parts _ _ h).1

qualified-at : (m : Option (List ℕ)) (n : List ℕ) → (is_module m && is_name n) ≡ true → qualified (text_in m n) ≡ Some (record { «module» = m; name = n })
qualified-at None n h = cc
qualified-at (Some m) n h =
    let p = and_parts (is_module_name (chars m)) (is_name n) h in
    rw (cut-at m n (no_dot n p.1)) (rw p.0)

pub con-step : (q : Qualified) (st : Stack) → is_true_name q ≡ true → step (codes "con " ++ qualified_text q) st ≡ makes_type (ty.Con q) st
unfolding step plain_kind made_kind named
con-step q st h = rw (qualified-at q.«module» q.name h)
