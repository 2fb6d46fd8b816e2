-- What `==` says of names.
use Rattle.std.proofs.Common.{◌≡◌, ℕ, ◌&&◌, Bool, List, refl, ap, nat_eq}
use Rattle.std.specs.Bool.{Decides}
use Rattle.std.specs.Prelude.{Option, Some, None}
use Rattle.std.specs.Option.{option_eq}
use Rattle.std.specs.Cmp.Lexicographic.{pointwise}
use Rattle.std.proofs.lemmas.Slice.Eq.{slice_eq-Decides}
use Rattle.std.proofs.lemmas.Bool.Decides.{Decides-eqb, Decides-like, Decides-and}
use Rattle.psc_text.specs.declared.names.Qualified.{Qualified}

pub text_Decides : (a b : List ℕ) → Decides (pointwise nat_eq a b) (a ≡ b)
text_Decides a b = slice_eq-Decides Decides-eqb a b _ refl

pub option_Decides : {T : Type 0} {E : T → T → Bool} → ((a b : T) → Decides (E a b) (a ≡ b)) → (a b : Option T) → Decides (option_eq E a b) (a ≡ b)
option_Decides h None None = (λ _. refl, λ _. refl)
option_Decides h None (Some y) = (λ e. cc, λ e. cc)
option_Decides h (Some x) None = (λ e. cc, λ e. cc)
option_Decides h (Some x) (Some y) = (λ e. ap Some ((h x y).0 e), λ e. (h x y).1 (cc))

abbrev qualified_of : Option (List ℕ) × List ℕ → Qualified
qualified_of p = record { «module» = p.0; name = p.1 }

pub qualified_Decides : (a b : Qualified) (r : Bool) → r ≡ (option_eq (pointwise nat_eq) a.module b.module && pointwise nat_eq a.name b.name) → Decides r (a ≡ b)
qualified_Decides a b r e =
    let m = option_Decides {E = pointwise nat_eq} text_Decides a.module b.module in
    let n = text_Decides a.name b.name in
    let f = λ (p : (a.module ≡ b.module) × (a.name ≡ b.name)). (let q : (a.module, a.name) ≡ (b.module, b.name) = cc in ap qualified_of q) in
    rw e (Decides-like _ f (λ p. (ap (λ (q : Qualified). q.module) p, ap (λ (q : Qualified). q.name) p)) (Decides-and _ _ m n))
