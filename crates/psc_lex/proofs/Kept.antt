-- The innermost block ends, or stays with all that are round it.
use Rattle.std.proofs.Common.{◌≡◌, ℕ, zero, suc, ◌-◌, ◌<◌, ◌≤◌, true, false, List, [], ◌∷◌, length, get_or, take, cond, ap, sym, ◌∙◌, arith}
use Rattle.psc_lex.specs.declared.blocks.Block.{Block}
use Rattle.psc_lex.specs.declared.blocks.Rule.{Rule}
use Rattle.psc_lex.specs.Blocks.{ends, kept}

abbrev around : Rule → Block → ℕ → ℕ
around rule b n = elim n [ zero ↦ cond (ends rule b) 0 1 | suc m ↦ suc (suc m) ]

pub ends_too : (rule : Rule) (bs : List Block) (m : ℕ) (d : Block) → m < length bs → ends rule (get_or bs m d) ≡ true → kept rule (take m bs) ≡ kept rule (take (suc m) bs)
ends_too rule [] m d p e = grind arith
ends_too rule (b ∷ bs) zero d p e = sym (ap (λ t. cond t 0 1) e)
ends_too rule (b ∷ bs) (suc m) d p e = ap (around rule b) (ends_too rule bs m d (omega (arith, p)) e)

pub stays : (rule : Rule) (bs : List Block) (m : ℕ) (d : Block) → m < length bs → ends rule (get_or bs m d) ≡ false → kept rule (take (suc m) bs) ≡ suc m
stays rule [] m d p e = grind arith
stays rule (b ∷ bs) zero d p e = ap (λ t. cond t 0 1) e
stays rule (b ∷ bs) (suc m) d p e = ap (around rule b) (stays rule bs m d (omega (arith, p)) e)

-- the same of a count of blocks
pub ends_too_at : (rule : Rule) (bs : List Block) (n : ℕ) (d : Block) → 0 < n → n ≤ length bs → ends rule (get_or bs (n - 1) d) ≡ true → kept rule (take (n - 1) bs) ≡ kept rule (take n bs)
ends_too_at rule bs n d s p e = let q : suc (n - 1) ≡ n = omega (arith, s) in ends_too rule bs (n - 1) d (omega (arith, s, p)) e ∙ ap (λ k. kept rule (take k bs)) q

pub stays_at : (rule : Rule) (bs : List Block) (n : ℕ) (d : Block) → 0 < n → n ≤ length bs → ends rule (get_or bs (n - 1) d) ≡ false → kept rule (take n bs) ≡ n
stays_at rule bs n d s p e = let q : suc (n - 1) ≡ n = omega (arith, s) in ap (λ k. kept rule (take k bs)) (sym q) ∙ stays rule bs (n - 1) d (omega (arith, s, p)) e ∙ q
