-- What a list of a shelf's calls leaves, call by call: under a name, the bytes of the last call that stored some there.
use Rattle.std.proofs.Common.{◌≡◌, ℕ, ◌+◌, ◌<◌, List, [], ◌∷◌, ◌++◌, length, get_or, take, refl, ap, sym, ◌∙◌, nat_eq, true, false, cond, add-one}
use Rattle.std.proofs.Math.Seq.{take-suc}
use Rattle.std.specs.Prelude.{Option, Some, None, Bool}
use Rattle.std.specs.Option.{option_or, option_copied}
use denote.Ref.{Bor}
use Rattle.std.specs.Cmp.Lexicographic.{pointwise}
use Rattle.psc_outside.specs.Contents.{Contents, nothing, replaced}
use Rattle.psc_outside.specs.Memory.{after, after_all, stored_at}
use Rattle.psc_outside.specs.declared.mem_shelf.ShelfCall.{ShelfCall}
use Rattle.psc_outside.specs.declared.mem_shelf.ShelfCall.TheVariants.{Read, Replace}

pub after_all_last : (held : Contents) (calls : List ShelfCall) (call : ShelfCall) → after_all held (calls ++ call ∷ []) ≡ after (after_all held calls) call
after_all_last held [] call = refl
after_all_last held (c ∷ calls) call = after_all_last (after held c) calls call

or_cond : (b : Bool) (bytes : List ℕ) (before : Option (List ℕ)) → cond b (Some bytes) before ≡ option_or (cond b (Some bytes) None) before
or_cond true bytes before = refl
or_cond false bytes before = refl

pub after_at : (held : Contents) (call : ShelfCall) (name : List ℕ) → after held call name ≡ option_or (stored_at call name) (held name)
unfolding replaced
after_at held (Read other answer) name = refl
after_at held (Replace other bytes true answer) name = or_cond (pointwise nat_eq other name) bytes (held name)
after_at held (Replace other bytes false answer) name = refl

pub after_last_at : (held : Contents) (calls : List ShelfCall) (call : ShelfCall) (name : List ℕ) → after_all held (calls ++ call ∷ []) name ≡ option_or (stored_at call name) (after_all held calls name)
after_last_at held calls call name = ap (λ (f : Contents). f name) (after_all_last held calls call) ∙ after_at (after_all held calls) call name

pub held_next : (calls : List ShelfCall) (i : ℕ) (call : ShelfCall) (name : List ℕ) (found : Option (List ℕ)) → i < length calls → call ≡ get_or calls i call → found ≡ after_all nothing (take i calls) name → option_or (stored_at call name) found ≡ after_all nothing (take (i + 1) calls) name
held_next calls i call name found within is e =
    ap (option_or (stored_at call name)) e
    ∙ sym (after_last_at nothing (take i calls) call name)
    ∙ ap (λ (done : List ShelfCall). after_all nothing done name) (ap (λ (last : ShelfCall). take i calls ++ last ∷ []) is ∙ sym (take-suc calls i call within) ∙ ap (λ (n : ℕ). take n calls) (sym (add-one i)))

pub copied_or : {T : Type 0} (a b : Option (Bor T)) → option_copied (option_or a b) ≡ option_or (option_copied a) (option_copied b)
copied_or (Some x) b = refl
copied_or None b = refl
