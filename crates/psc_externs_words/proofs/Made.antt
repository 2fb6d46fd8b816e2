-- What all the words of a type, a kind or a constraint make.
use Rattle.std.proofs.Common.{◌≡◌, ℕ, ◌≤◌, true, false, not, [], ◌∷◌, ◌++◌, length, Option, Some, option_and_then, Result, Ok, Err, IfOk, sym, ap, ◌∙◌, subst, arith, append-nil, ltb-false}
use Rattle.std.proofs.lemmas.Bool.{and_parts, not-true}
use Rattle.psc_type.specs.Closed.{is_known_kind}
use Rattle.psc_type.specs.declared.kind.Kind.{Kind}
use Rattle.psc_type.specs.declared.ty.Constraint.{Constraint}
use Rattle.psc_type.specs.declared.ty.Ty.{Ty}
use Rattle.psc_type.specs.declared.ty.Ty.TheVariants as ty
use Rattle.psc_externs.specs.Sizes.{kind_size, size, constraint_size, is_long}
use Rattle.psc_externs.specs.Written.{is_written, is_written_constraint, is_extern_kind, is_extern_type, is_extern_constraint}
use Rattle.psc_externs_words.specs.Reading.{Step, constraint_of, lone, made, run, makes_kind, makes_type}
use Rattle.psc_externs_words.specs.Words.{Words, kind_words, words, constraint_words}
use Rattle.psc_externs_words.specs.declared.stack.Item.{Item}
use Rattle.psc_externs_words.specs.declared.stack.Item.TheVariants.{OfKind, OfType}
use Rattle.psc_externs_words.proofs.Back.{kind_back, type_back, constraint_back, applied}
use Rattle.psc_externs_words.proofs.Pops.{pop-push}
use Rattle.psc_externs_words.proofs.Steps.{Spells}

made_by : (w : Words) (f : Step) → Spells w f → made w ≡ option_and_then lone (f [])
unfolding run
made_by w f h = ap (option_and_then lone) (ap (λ v. run v []) (sym (append-nil w)) ∙ h [] [])

lone-one : (x : Item) → lone ([] ++ x ∷ []) ≡ Some x
lone-one x = rw (pop-push [] x)

short : (n : ℕ) → is_long n ≡ false → n ≤ 20000
short n h = omega (arith, ltb-false 20000 n h)

-- so few words that make the kind
pub kind_made : (k : Kind) → is_extern_kind k ≡ true → (length (kind_words k) ≤ 20000) × (made (kind_words k) ≡ Some (OfKind k))
kind_made k h =
    let p = and_parts (is_known_kind k) (not (is_long (kind_size k))) h in
    let b = kind_back k p.0 in
    (omega (arith, short (kind_size k) (not-true _ p.1), b.0), made_by (kind_words k) (makes_kind k) b.1 ∙ lone-one (OfKind k))

-- so few words that make the type
pub type_made : (t : Ty) → is_extern_type t ≡ true → (length (words t) ≤ 20000) × (made (words t) ≡ Some (OfType t))
type_made t h =
    let p = and_parts (is_written t) (not (is_long (size t))) h in
    let b = type_back t p.0 in
    (omega (arith, short (size t) (not-true _ p.1), b.0), made_by (words t) (makes_type t) b.1 ∙ lone-one (OfType t))

-- so few words that make the class applied to the arguments
pub constraint_made : (c : Constraint) → is_extern_constraint c ≡ true → (length (constraint_words c) ≤ 20000) × (made (constraint_words c) ≡ Some (OfType (applied (ty.Con c.class) c.args)))
constraint_made c h =
    let p = and_parts (is_written_constraint c) (not (is_long (constraint_size c))) h in
    let b = constraint_back c p.0 in
    (omega (arith, short (constraint_size c) (not-true _ p.1), b.0), made_by (constraint_words c) (makes_type (applied (ty.Con c.class) c.args)) b.1 ∙ lone-one (OfType (applied (ty.Con c.class) c.args)))

-- ---- what is read of so few words

pub kind_told : (ws : Words) (o : Option Item) → (length ws ≤ 20000 → o ≡ made ws) → (k : Kind) → is_extern_kind k ≡ true → kind_words k ≡ ws → o ≡ Some (OfKind k)
kind_told ws o m k h w =
    let b = kind_made k h in
    m (subst (λ v. length v ≤ 20000) w b.0) ∙ ap (λ v. made v) (sym w) ∙ b.1

pub type_told : (ws : Words) (o : Option Item) → (length ws ≤ 20000 → o ≡ made ws) → (t : Ty) → is_extern_type t ≡ true → words t ≡ ws → o ≡ Some (OfType t)
type_told ws o m t h w =
    let b = type_made t h in
    m (subst (λ v. length v ≤ 20000) w b.0) ∙ ap (λ v. made v) (sym w) ∙ b.1

pub constraint_told : (ws : Words) (o : Option Item) → (length ws ≤ 20000 → o ≡ made ws) → (c : Constraint) → is_extern_constraint c ≡ true → constraint_words c ≡ ws → o ≡ Some (OfType (applied (ty.Con c.class) c.args))
constraint_told ws o m c h w =
    let b = constraint_made c h in
    m (subst (λ v. length v ≤ 20000) w b.0) ∙ ap (λ v. made v) (sym w) ∙ b.1

pub constraint_read : {E : Type 0} (r : Result (Option Constraint) E) (t : Option Ty) (ws : Words) → IfOk r (λ o. (c : Constraint) → is_extern_constraint c ≡ true → option_and_then constraint_of t ≡ Some c → o ≡ Some c) → ((c : Constraint) → is_extern_constraint c ≡ true → constraint_words c ≡ ws → option_and_then constraint_of t ≡ Some c) → IfOk r (λ o. (c : Constraint) → is_extern_constraint c ≡ true → constraint_words c ≡ ws → o ≡ Some c)
constraint_read (Ok o) t ws f g = λ c h w. f c h (g c h w)
constraint_read (Err e) t ws f g = tt
