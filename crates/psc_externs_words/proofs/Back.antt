-- The words of a kind or type make it again.
use Rattle.std.proofs.Common.{◌≡◌, ℕ, suc, ◌+◌, Bool, true, false, ◌&&◌, List, [], ◌∷◌, ◌++◌, length, map, Option, Some, None, option_map, option_and_then, codes, refl, sym, ap, ◌∙◌, subst, arith, rules, append_assoc, append-nil, length-append}
use Rattle.std.proofs.lemmas.Bool.{and_parts}
use Rattle.psc_text.specs.declared.names.Ident.{Ident}
use Rattle.psc_text.specs.declared.names.Label.{Label}
use Rattle.psc_text.specs.declared.names.Qualified.{Qualified}
use Rattle.psc_type.specs.Closed.{is_known_kind}
use Rattle.psc_type.specs.declared.kind.Kind as kinds
use Rattle.psc_type.specs.declared.kind.Kind.{Kind}
use Rattle.psc_type.specs.declared.kind.Kind.TheVariants as kind
use Rattle.psc_type.specs.declared.kind.Kind.TheOpen.{Kind-F}
use Rattle.psc_type.specs.declared.kind.Kind.TheViews.{roll-Kind}
use Rattle.psc_type.specs.declared.kind.Kind.TheFolds.{ind-Kind}
use Rattle.psc_type.specs.declared.ty.Constraint.{Constraint}
use Rattle.psc_type.specs.declared.ty.Ty as types
use Rattle.psc_type.specs.declared.ty.Ty.{Ty}
use Rattle.psc_type.specs.declared.ty.Ty.TheVariants as ty
use Rattle.psc_type.specs.declared.ty.Ty.TheOpen.{Ty-F}
use Rattle.psc_type.specs.declared.ty.Ty.TheViews.{roll-Ty}
use Rattle.psc_type.specs.declared.ty.Ty.TheFolds.{ind-Ty}
use denote.Hole.Carrier.{roll}
use Rattle.psc_externs.specs.Names.{is_name, is_true_name}
use Rattle.psc_externs.specs.Sizes.{kind_size, size, arguments_size, constraint_size}
use Rattle.psc_externs.specs.Written.{is_written, are_written, is_written_constraint}
use Rattle.psc_externs.proofs.SizeRules.{size-Given}
use Rattle.psc_externs.proofs.WrittenRules.{written-Given}
use Rattle.psc_externs_words.specs.Words.{Words, word, first, kind_words, qualified_text, apps, concatenated, words, constraint_words}
use Rattle.psc_externs_words.specs.Reading.{Stack, Step, push, makes_kind, makes_type, given_to, class_and_args, constraint_of, step}
use Rattle.psc_externs_words.specs.declared.stack.Item.TheVariants.{OfType}
use Rattle.psc_externs_words.proofs.ClassRules.{with_args, class-App, class-Con}
use Rattle.psc_externs_words.proofs.WordRules.{words-Given}
use Rattle.psc_externs_words.proofs.Steps.{Spells, spells-none, spells-word, spells-append, spells-as, spells-first, nil-step, star-step, constr-step, sym-step, row-step, arrow-step, app-step, given-step, var-step, symbol-step, forall-step, label-step, con-step}

length-first : (front name : List ℕ) (w : Words) → length (first front name w) ≡ 1 + length w
unfolding first
length-first front name w = omega arith

wrong : {b : Bool} → b ≡ false → b ≡ true → ⊥
wrong p q = cc

two_parts : (front name : List ℕ) (v w : Words) (f g h : Step) → Spells v f → Spells w g → ((st : Stack) → option_and_then (λ s. option_and_then (step (front ++ name)) (f s)) (g st) ≡ h st) → Spells (first front name v ++ w) h
two_parts front name v w f g h p q same = spells-as (first front name v ++ w) (λ st. option_and_then (λ s. option_and_then (step (front ++ name)) (f s)) (g st)) h (spells-append (first front name v) w (λ s. option_and_then (step (front ++ name)) (f s)) g (spells-first front name v f p) q) same

-- ---- kinds

abbrev KindBack : Kind → Type 0
KindBack k = is_known_kind k ≡ true → (length (kind_words k) ≡ kind_size k) × Spells (kind_words k) (makes_kind k)

abbrev BackKind : Type 0
BackKind = (k : Kind) × KindBack k

kind_as : (k : Kind) (w : Words) (n : ℕ) → kind_words k ≡ w → kind_size k ≡ n → length w ≡ n → Spells w (makes_kind k) → (length (kind_words k) ≡ kind_size k) × Spells (kind_words k) (makes_kind k)
kind_as k w n e s l h = (ap length e ∙ l ∙ sym s, subst (λ v. Spells v (makes_kind k)) (sym e) h)

one_kind : (front : List ℕ) (k : Kind) → ((st : Stack) → step (front ++ []) st ≡ makes_kind k st) → Spells (word front []) (makes_kind k)
one_kind front k h = spells-as (word front []) (step (front ++ [])) (makes_kind k) (spells-word front []) h

row_kind : (k : Kind) → Spells (kind_words k) (makes_kind k) → Spells (first (codes "R") [] (kind_words k)) (makes_kind (kind.RowOf k))
row_kind k h = spells-as (first (codes "R") [] (kind_words k)) (λ st. option_and_then (step (codes "R")) (makes_kind k st)) (makes_kind (kind.RowOf k)) (spells-first (codes "R") [] (kind_words k) (makes_kind k) h) (row-step k)

arrow_kind : (k l : Kind) → Spells (kind_words k) (makes_kind k) → Spells (kind_words l) (makes_kind l) → Spells (first (codes "F") [] (kind_words k) ++ kind_words l) (makes_kind (kind.Arrow k l))
arrow_kind k l h g = two_parts (codes "F") [] (kind_words k) (kind_words l) (makes_kind k) (makes_kind l) (makes_kind (kind.Arrow k l)) h g (arrow-step k l)

known-RowOf : (k : Kind) → is_known_kind (kind.RowOf k) ≡ is_known_kind k
known-RowOf k = search (rules, kinds.the_lemmas)

known-Arrow : (k l : Kind) → is_known_kind (kind.Arrow k l) ≡ (is_known_kind k && is_known_kind l)
known-Arrow k l = search (rules, kinds.the_lemmas)

known-Unknown : (n : ℕ) → is_known_kind (kind.Unknown n) ≡ false
known-Unknown n = search (rules, kinds.the_lemmas)

abbrev forget_kind : Kind-F BackKind → Kind-F Kind
forget_kind Kind-F.Star = Kind-F.Star
forget_kind Kind-F.Constr = Kind-F.Constr
forget_kind Kind-F.Sym = Kind-F.Sym
forget_kind (Kind-F.RowOf a) = Kind-F.RowOf a.0
forget_kind (Kind-F.Arrow a b) = Kind-F.Arrow a.0 b.0
forget_kind (Kind-F.Unknown n) = Kind-F.Unknown n

level_kind : (y : Kind-F BackKind) → KindBack (roll-Kind (forget_kind y))
unfolding roll-Kind roll
level_kind Kind-F.Star h = kind_as kind.Star (word (codes "T") []) 1 (search (rules, kinds.the_lemmas)) (search (rules, kinds.the_lemmas)) refl (one_kind (codes "T") kind.Star star-step)
level_kind Kind-F.Constr h = kind_as kind.Constr (word (codes "C") []) 1 (search (rules, kinds.the_lemmas)) (search (rules, kinds.the_lemmas)) refl (one_kind (codes "C") kind.Constr constr-step)
level_kind Kind-F.Sym h = kind_as kind.Sym (word (codes "S") []) 1 (search (rules, kinds.the_lemmas)) (search (rules, kinds.the_lemmas)) refl (one_kind (codes "S") kind.Sym sym-step)
level_kind (Kind-F.RowOf a) h =
    let b = a.1 (sym (known-RowOf a.0) ∙ h) in
    kind_as (kind.RowOf a.0) (first (codes "R") [] (kind_words a.0)) (1 + kind_size a.0) (search (rules, kinds.the_lemmas)) (search (rules, kinds.the_lemmas)) (omega (arith, length-first (codes "R") [] (kind_words a.0), b.0)) (row_kind a.0 b.1)
level_kind (Kind-F.Arrow a c) h =
    let p = and_parts _ _ (sym (known-Arrow a.0 c.0) ∙ h) in
    let b = a.1 p.0 in
    let d = c.1 p.1 in
    kind_as (kind.Arrow a.0 c.0) (first (codes "F") [] (kind_words a.0) ++ kind_words c.0) (1 + kind_size a.0 + kind_size c.0) (search (rules, kinds.the_lemmas)) (search (rules, kinds.the_lemmas))
    (omega (arith, length-append (first (codes "F") [] (kind_words a.0)) (kind_words c.0), length-first (codes "F") [] (kind_words a.0), b.0, d.0)) (arrow_kind a.0 c.0 b.1 d.1)
level_kind (Kind-F.Unknown n) h = absurd (wrong (known-Unknown n) h)

pub kind_back : (k : Kind) → is_known_kind k ≡ true → (length (kind_words k) ≡ kind_size k) × Spells (kind_words k) (makes_kind k)
kind_back = ind-Kind KindBack (λ x y is. subst (λ z. KindBack (roll-Kind z)) is (level_kind y))

-- ---- a class with its arguments

abbrev pub applied : Ty → List Ty → Ty
applied f [] = f
applied f (a ∷ more) = applied (ty.App f a) more

more_args : (a : Ty) (more : List Ty) (o : Option (Qualified × List Ty)) → option_map (with_args more) (option_map (with_args (a ∷ [])) o) ≡ option_map (with_args (a ∷ more)) o
more_args a more None = refl
more_args a more (Some p) = ap (λ l. Some (p.0, l)) (append_assoc p.1 (a ∷ []) more)

no_args : (o : Option (Qualified × List Ty)) → o ≡ option_map (with_args []) o
no_args None = refl
no_args (Some p) = ap (λ l. Some (p.0, l)) (sym (append-nil p.1))

class-applied : (f : Ty) (args : List Ty) → class_and_args (applied f args) ≡ option_map (with_args args) (class_and_args f)
class-applied f [] = no_args (class_and_args f)
class-applied f (a ∷ more) = class-applied (ty.App f a) more ∙ ap (option_map (with_args more)) (class-App f a) ∙ more_args a more (class_and_args f)

pub constraint_of-applied : (c : Constraint) → constraint_of (applied (ty.Con c.class) c.args) ≡ Some c
constraint_of-applied c = ap (option_map (λ p. record { class = p.0; args = p.1 })) (class-applied (ty.Con c.class) c.args ∙ ap (option_map (with_args c.args)) (class-Con c.class))

-- the types, the first on top
abbrev onto : List Ty → Stack → Stack
onto [] st = st
onto (a ∷ more) st = push (OfType a) (onto more st)

abbrev app_all : List Ty → Step
app_all [] st = Some st
app_all (a ∷ more) st = option_and_then (step (codes "app")) (app_all more st)

first_app : (o : Option Stack) (f g : Step) → option_and_then f (option_and_then g o) ≡ option_and_then (λ st. option_and_then f (g st)) o
first_app None f g = refl
first_app (Some st) f g = refl

only_app : (o : Option Stack) → o ≡ option_and_then (λ st. Some st) o
only_app None = refl
only_app (Some st) = refl

app_all-turn : (a : Ty) (more : List Ty) (st : Stack) → app_all (a ∷ more) st ≡ option_and_then (app_all more) (step (codes "app") st)
app_all-turn a [] st = only_app (step (codes "app") st)
app_all-turn a (b ∷ more) st = ap (option_and_then (step (codes "app"))) (app_all-turn b more st) ∙ first_app (step (codes "app") st) (step (codes "app")) (app_all more)

app_all-onto : (f : Ty) (args : List Ty) (st : Stack) → app_all args (push (OfType f) (onto args st)) ≡ makes_type (applied f args) st
app_all-onto f [] st = refl
app_all-onto f (a ∷ more) st =
    app_all-turn a more (push (OfType f) (onto (a ∷ more) st)) ∙ ap (option_and_then (app_all more)) (app-step f a (onto more st)) ∙ app_all-onto (ty.App f a) more st

spells-apps : (args : List Ty) → Spells (apps (map words args)) (app_all args)
unfolding apps
spells-apps [] = spells-none
spells-apps (a ∷ more) = spells-append (word (codes "app") []) (apps (map words more)) (step (codes "app")) (app_all more) (spells-word (codes "app") []) (spells-apps more)

length-apps : (args : List Ty) → length (apps (map words args)) ≡ length args
unfolding apps
length-apps [] = refl
length-apps (a ∷ more) = ap suc (length-apps more)

-- ---- types

abbrev TypeBack : Ty → Type 0
TypeBack t = is_written t ≡ true → (length (words t) ≡ size t) × Spells (words t) (makes_type t)

abbrev ConstraintBack : Constraint → Type 0
ConstraintBack c = is_written_constraint c ≡ true → (length (constraint_words c) ≡ constraint_size c) × Spells (constraint_words c) (makes_type (applied (ty.Con c.class) c.args))

abbrev BackType : Type 0
BackType = (t : Ty) × TypeBack t

abbrev BackConstraint : Type 0
BackConstraint = (c : Constraint) × ConstraintBack c

abbrev forget : Ty-F BackType BackConstraint → Ty-F Ty Constraint
forget (Ty-F.Var n) = Ty-F.Var n
forget (Ty-F.Unknown n) = Ty-F.Unknown n
forget (Ty-F.Con n) = Ty-F.Con n
forget (Ty-F.App f a) = Ty-F.App f.0 a.0
forget (Ty-F.Forall n k b) = Ty-F.Forall n k b.0
forget (Ty-F.Given c b) = Ty-F.Given c.0 b.0
forget (Ty-F.RowCons l a r) = Ty-F.RowCons l a.0 r.0
forget Ty-F.RowNil = Ty-F.RowNil
forget (Ty-F.Symbol text) = Ty-F.Symbol text
forget (Ty-F.Any k) = Ty-F.Any k

type_as : (t : Ty) (w : Words) (n : ℕ) → words t ≡ w → size t ≡ n → length w ≡ n → Spells w (makes_type t) → (length (words t) ≡ size t) × Spells (words t) (makes_type t)
type_as t w n e s l h = (ap length e ∙ l ∙ sym s, subst (λ v. Spells v (makes_type t)) (sym e) h)

one_word : (front name : List ℕ) (t : Ty) → ((st : Stack) → step (front ++ name) st ≡ makes_type t st) → Spells (word front name) (makes_type t)
one_word front name t h = spells-as (word front name) (step (front ++ name)) (makes_type t) (spells-word front name) h

length-two : (front name : List ℕ) (v w : Words) (m n : ℕ) → length v ≡ m → length w ≡ n → length (first front name v ++ w) ≡ 1 + m + n
length-two front name v w m n p q = omega (arith, length-append (first front name v) w, length-first front name v)

written-Var : (n : Ident) → is_written (ty.Var n) ≡ is_name n.0
written-Var n = search (rules, types.the_lemmas)

written-Unknown : (n : ℕ) → is_written (ty.Unknown n) ≡ false
written-Unknown n = search (rules, types.the_lemmas)

written-Any : (k : Kind) → is_written (ty.Any k) ≡ false
written-Any k = search (rules, types.the_lemmas)

written-Con : (q : Qualified) → is_written (ty.Con q) ≡ is_true_name q
written-Con q = search (rules, types.the_lemmas)

written-App : (f a : Ty) → is_written (ty.App f a) ≡ (is_written f && is_written a)
written-App f a = search (rules, types.the_lemmas)

written-Forall : (n : Ident) (k : Kind) (b : Ty) → is_written (ty.Forall n k b) ≡ (is_name n.0 && (is_known_kind k && is_written b))
written-Forall n k b = search (rules, types.the_lemmas)

written-RowCons : (l : Label) (a r : Ty) → is_written (ty.RowCons l a r) ≡ (is_written a && is_written r)
written-RowCons l a r = search (rules, types.the_lemmas)

given_made : (c : Constraint) (b : Ty) (st : Stack) → step (codes "given") (push (OfType (applied (ty.Con c.class) c.args)) (push (OfType b) st)) ≡ makes_type (ty.Given c b) st
given_made c b st = given-step (applied (ty.Con c.class) c.args) b st ∙ ap (given_to b st) (constraint_of-applied c)

level_type : (y : Ty-F BackType BackConstraint) → TypeBack (roll-Ty (forget y))
unfolding roll-Ty roll
level_type (Ty-F.Var n) h = type_as (ty.Var n) (word (codes "var ") n.0) 1 (search (rules, types.the_lemmas)) (search (rules, types.the_lemmas)) refl (one_word (codes "var ") n.0 (ty.Var n) (var-step n))
level_type (Ty-F.Unknown n) h = absurd (wrong (written-Unknown n) h)
level_type (Ty-F.Con q) h =
    type_as (ty.Con q) (word (codes "con ") (qualified_text q)) 1 (search (rules, types.the_lemmas)) (search (rules, types.the_lemmas)) refl
    (one_word (codes "con ") (qualified_text q) (ty.Con q) (λ st. con-step q st (sym (written-Con q) ∙ h)))
level_type (Ty-F.App f a) h =
    let p = and_parts _ _ (sym (written-App f.0 a.0) ∙ h) in
    let b = f.1 p.0 in
    let d = a.1 p.1 in
    type_as (ty.App f.0 a.0) (first (codes "app") [] (words f.0) ++ words a.0) (1 + size f.0 + size a.0) (search (rules, types.the_lemmas)) (search (rules, types.the_lemmas))
    (length-two (codes "app") [] (words f.0) (words a.0) _ _ b.0 d.0)
    (two_parts (codes "app") [] (words f.0) (words a.0) (makes_type f.0) (makes_type a.0) (makes_type (ty.App f.0 a.0)) b.1 d.1 (app-step f.0 a.0))
level_type (Ty-F.Forall n k b) h =
    let p = and_parts _ _ (sym (written-Forall n k b.0) ∙ h) in
    let q = and_parts _ _ p.1 in
    let c = kind_back k q.0 in
    let d = b.1 q.1 in
    type_as (ty.Forall n k b.0) (first (codes "forall ") n.0 (kind_words k) ++ words b.0) (1 + kind_size k + size b.0) (search (rules, types.the_lemmas)) (search (rules, types.the_lemmas))
    (length-two (codes "forall ") n.0 (kind_words k) (words b.0) _ _ c.0 d.0)
    (two_parts (codes "forall ") n.0 (kind_words k) (words b.0) (makes_kind k) (makes_type b.0) (makes_type (ty.Forall n k b.0)) c.1 d.1 (forall-step n k b.0))
level_type (Ty-F.Given c b) h =
    let p = and_parts _ _ (sym (written-Given c.0 b.0) ∙ h) in
    let e = c.1 p.0 in
    let d = b.1 p.1 in
    type_as (ty.Given c.0 b.0) (first (codes "given") [] (constraint_words c.0) ++ words b.0) (1 + constraint_size c.0 + size b.0) (words-Given c.0 b.0) (size-Given c.0 b.0)
    (length-two (codes "given") [] (constraint_words c.0) (words b.0) _ _ e.0 d.0)
    (two_parts (codes "given") [] (constraint_words c.0) (words b.0) (makes_type (applied (ty.Con c.0.class) c.0.args)) (makes_type b.0) (makes_type (ty.Given c.0 b.0)) e.1 d.1 (given_made c.0 b.0))
level_type (Ty-F.RowCons l a r) h =
    let p = and_parts _ _ (sym (written-RowCons l a.0 r.0) ∙ h) in
    let b = a.1 p.0 in
    let d = r.1 p.1 in
    type_as (ty.RowCons l a.0 r.0) (first (codes "row ") l.0 (words a.0) ++ words r.0) (1 + size a.0 + size r.0) (search (rules, types.the_lemmas)) (search (rules, types.the_lemmas))
    (length-two (codes "row ") l.0 (words a.0) (words r.0) _ _ b.0 d.0)
    (two_parts (codes "row ") l.0 (words a.0) (words r.0) (makes_type a.0) (makes_type r.0) (makes_type (ty.RowCons l a.0 r.0)) b.1 d.1 (label-step l a.0 r.0))
level_type Ty-F.RowNil h = type_as ty.RowNil (word (codes "nil") []) 1 (search (rules, types.the_lemmas)) (search (rules, types.the_lemmas)) refl (one_word (codes "nil") [] ty.RowNil nil-step)
level_type (Ty-F.Symbol text) h = type_as (ty.Symbol text) (word (codes "sym ") text) 1 (search (rules, types.the_lemmas)) (search (rules, types.the_lemmas)) refl (one_word (codes "sym ") text (ty.Symbol text) (symbol-step text))
level_type (Ty-F.Any k) h = absurd (wrong (written-Any k) h)

abbrev types_of : List BackType → List Ty
types_of ts = map (λ b. b.0) ts

spells-types : (ts : List BackType) → are_written (types_of ts) ≡ true → Spells (concatenated (map words (types_of ts))) (λ st. Some (onto (types_of ts) st))
unfolding concatenated
spells-types [] h = spells-none
spells-types (b ∷ more) h =
    let p = and_parts _ _ h in
    spells-append (words b.0) (concatenated (map words (types_of more))) (makes_type b.0) (λ st. Some (onto (types_of more) st)) (b.1 p.0).1 (spells-types more p.1)

length-types : (ts : List BackType) → are_written (types_of ts) ≡ true → length (concatenated (map words (types_of ts))) + length (types_of ts) ≡ arguments_size (map size (types_of ts))
unfolding concatenated arguments_size
length-types [] h = refl
length-types (b ∷ more) h =
    let p = and_parts (is_written b.0) (are_written (types_of more)) h in
    omega (arith, length-append (words b.0) (concatenated (map words (types_of more))), (b.1 p.0).0, length-types more p.1)

level_constraint : (class : Qualified) (ts : List BackType) → ConstraintBack (record { class = class; args = types_of ts })
level_constraint class ts h =
    let p = and_parts (is_true_name class) (are_written (types_of ts)) h in
    let args = types_of ts in
    let con = word (codes "con ") (qualified_text class) in
    let rest = concatenated (map words args) in (
      omega (arith, length-append (apps (map words args) ++ con) rest, length-append (apps (map words args)) con, length-apps args, length-types ts p.1),
      spells-as (apps (map words args) ++ con ++ rest) (λ st. option_and_then (λ s. option_and_then (app_all args) (makes_type (ty.Con class) s)) (Some (onto args st))) (makes_type (applied (ty.Con class) args))
          (spells-append (apps (map words args) ++ con) rest (λ s. option_and_then (app_all args) (makes_type (ty.Con class) s)) (λ st. Some (onto args st))
          (spells-append (apps (map words args)) con (app_all args) (makes_type (ty.Con class)) (spells-apps args)
          (one_word (codes "con ") (qualified_text class) (ty.Con class) (λ st. con-step class st p.0)))
          (spells-types ts p.1))
          (app_all-onto (ty.Con class) args),
    )

pub type_back : (t : Ty) → is_written t ≡ true → (length (words t) ≡ size t) × Spells (words t) (makes_type t)
type_back = ind-Ty TypeBack ConstraintBack (λ x y is. subst (λ z. TypeBack (roll-Ty z)) is (level_type y)) (λ x y is. subst (λ z. ConstraintBack (record { class = z.class; args = z.args })) is (level_constraint y.class y.args))

back_types : (ts : List Ty) → List BackType
back_types [] = []
back_types (t ∷ ts) = (t, type_back t) ∷ back_types ts

types_of-back : (ts : List Ty) → types_of (back_types ts) ≡ ts
unfolding back_types
types_of-back [] = refl
types_of-back (t ∷ ts) = ap (λ l. t ∷ l) (types_of-back ts)

pub constraint_back : (c : Constraint) → is_written_constraint c ≡ true → (length (constraint_words c) ≡ constraint_size c) × Spells (constraint_words c) (makes_type (applied (ty.Con c.class) c.args))
constraint_back c = subst (λ ts. ConstraintBack (record { class = c.class; args = ts })) (types_of-back c.args) (level_constraint c.class (back_types c.args))
