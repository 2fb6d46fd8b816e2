-- Names that keep what they should.
use Rattle.std.proofs.Common.{◌≡◌, ◌↔◌, ℕ, Bool, true, false, List, Option, Some, None, option_map, IsSome, IfSome, IsTrue, Result, Ok, Err, IfOk, sym, ap, ◌∙◌}
use Rattle.std.proofs.lemmas.Bool.{and_parts}
use Rattle.std.proofs.lemmas.Option.{none-some, same_Some}
use denote.Ref.{Bor}
use Rattle.std.specs.Str.{is_utf8}
use Rattle.psc_externs.specs.Entities.{text_of}
use Rattle.psc_externs.specs.Names.{is_name}
use Rattle.psc_externs.specs.declared.name.TrueName.{TrueName}
use Rattle.psc_externs.specs.declared.rows.Entity.{Entity}
use Rattle.psc_externs.specs.declared.rows.Entity.TheVariants.{Constructor, XType, TypeOp, Value, ValueOp}
use Rattle.psc_externs_rows.specs.Kept.{keeps_entity, keeps_module, keeps_name, keeps_true_name}
use Rattle.psc_externs_rows.specs.Rows.{true_name_text}
use Rattle.psc_externs_words.specs.Reading.{cut}
use Rattle.psc_externs_words.proofs.Steps.{cut-at, no_dot}

pub utf8-entity : (e : Entity) → keeps_entity e ≡ true → is_utf8 (text_of e) ≡ true
utf8-entity (Constructor n) h = (and_parts (is_utf8 n) (is_name n) h).0
utf8-entity (XType n) h = (and_parts (is_utf8 n) (is_name n) h).0
utf8-entity (TypeOp op) h = h
utf8-entity (Value n) h = (and_parts (is_utf8 n) (is_name n) h).0
utf8-entity (ValueOp op) h = h

-- the last dot of a name behind its module parts them
pub cut-name : (t : TrueName) → keeps_true_name t ≡ true → cut (true_name_text t) ≡ Some (t.«module», t.name)
cut-name t h =
    let p = and_parts (keeps_module t.«module») (keeps_name t.name) h in
    let q = and_parts (is_utf8 t.name) (is_name t.name) p.1 in
    cut-at t.«module» t.name (no_dot t.name q.1)

abbrev pub parts_of : Bor (List ℕ) × Bor (List ℕ) → List ℕ × List ℕ
parts_of p = (p.0.now, p.1.now)

abbrev pub IsCut : Option (Bor (List ℕ) × Bor (List ℕ)) → List ℕ → Type 0
IsCut r text = option_map parts_of r ≡ cut text

cut_as : (r : Option (Bor (List ℕ) × Bor (List ℕ))) (text : List ℕ) → IsCut r text → (t : TrueName) → keeps_true_name t ≡ true → text ≡ true_name_text t → option_map parts_of r ≡ Some (t.«module», t.name)
cut_as r text h t k e = h ∙ ap cut e ∙ cut-name t k

pub cut_lost : (r : Option (Bor (List ℕ) × Bor (List ℕ))) (text : List ℕ) → IsCut r text → r ≡ None → (t : TrueName) → keeps_true_name t ≡ true → text ≡ true_name_text t → ⊥
cut_lost r text h n t k e = none-some (t.«module», t.name) (sym (ap (option_map parts_of) n) ∙ cut_as r text h t k e)

pub cut_parts : (r : Option (Bor (List ℕ) × Bor (List ℕ))) (text : List ℕ) (p : Bor (List ℕ) × Bor (List ℕ)) → IsCut r text → r ≡ Some p → (t : TrueName) → keeps_true_name t ≡ true → text ≡ true_name_text t → (p.0.now ≡ t.«module») × (p.1.now ≡ t.name)
cut_parts r text p h n t k e =
    let same = same_Some (p.0.now, p.1.now) (t.«module», t.name) (sym (ap (option_map parts_of) n) ∙ cut_as r text h t k e) in
    (ap (λ x. x.0) same, ap (λ x. x.1) same)

-- what is read of the parts is read of the whole
pub parts_read : {E : Type 0} (r : Result (Option TrueName) E) (m n text : List ℕ) → IfOk r (λ o. (t : TrueName) → keeps_true_name t ≡ true → m ≡ t.«module» → n ≡ t.name → o ≡ Some t) → ((t : TrueName) → keeps_true_name t ≡ true → text ≡ true_name_text t → (m ≡ t.«module») × (n ≡ t.name)) → IfOk r (λ o. (t : TrueName) → keeps_true_name t ≡ true → text ≡ true_name_text t → o ≡ Some t)
parts_read (Ok o) m n text f g = λ t k e. f t k (g t k e).0 (g t k e).1
parts_read (Err x) m n text f g = tt

none_given : false ≡ true → ⊥
none_given h = cc

-- a test that gives each text that it holds of gives this one
pub given : (holds : List ℕ → Bool) (text want : List ℕ) (o : Option (List ℕ)) → IsSome o ↔ IsTrue (holds text) → IfSome o (λ x. x ≡ text) → text ≡ want → holds want ≡ true → o ≡ Some want
given holds text want None h k e t = absurd (none_given (h.1 (ap holds e ∙ t)))
given holds text want (Some x) h k e t = ap Some (k ∙ e)
