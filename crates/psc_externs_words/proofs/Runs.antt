-- Words from the last to the first, one more at each turn.
use Rattle.std.proofs.Common.{◌≡◌, ℕ, zero, suc, ◌+◌, ◌-◌, ◌<◌, ◌≤◌, List, [], ◌∷◌, length, drop, get_or, drop-cons, Option, Some, None, option_and_then, Result, Ok, Err, IfOk, sym, ap, ◌∙◌, arith}
use Rattle.std.proofs.Math.Seq.{drop-length}
use Rattle.psc_externs_words.specs.Reading.{Stack, lone, made, run, step}
use Rattle.psc_externs_words.specs.Words.{Words}
use Rattle.psc_externs_words.specs.declared.stack.Item.{Item}

pub run-start : (ws : Words) → run (drop (length ws - 0) ws) [] ≡ Some []
unfolding run
run-start ws =
    let same : length ws - 0 ≡ length ws = omega arith in
    ap (λ n. run (drop n ws) []) same ∙ ap (λ l. run l []) (drop-length ws)

pub run-turn : (ws : Words) (turn : ℕ) (word : List ℕ) (st : Stack) → turn < length ws → run (drop (length ws - turn) ws) [] ≡ Some st → run (drop (length ws - (turn + 1)) ws) [] ≡ step (get_or ws (length ws - 1 - turn) word) st
unfolding run
run-turn ws turn word st h e =
    let place : ℕ = length ws - 1 - turn in
    let here : length ws - (turn + 1) ≡ place = omega arith in
    let next : suc place ≡ length ws - turn = omega arith in
    ap (λ n. run (drop n ws) []) here
    ∙ ap (λ l. run l []) (drop-cons ws place word (omega arith))
    ∙ ap (option_and_then (step (get_or ws place word))) (ap (λ n. run (drop n ws) []) next ∙ e)

pub run-lost : (n : ℕ) (ws : Words) → run (drop n ws) [] ≡ None → run ws [] ≡ None
unfolding run
run-lost zero ws h = h
run-lost (suc n) [] h = h
run-lost (suc n) (w ∷ ws) h = ap (option_and_then (step w)) (run-lost n ws h)

-- the word at this turn does its step
pub run-word : (ws : Words) (turn : ℕ) (w word : List ℕ) (st : Stack) (o : Option Stack) → turn < length ws → run (drop (length ws - turn) ws) [] ≡ Some st → w ≡ get_or ws (length ws - 1 - turn) w → word ≡ w → o ≡ step word st → run (drop (length ws - (turn + 1)) ws) [] ≡ o
run-word ws turn w word st o lt e is same did = run-turn ws turn w st lt e ∙ ap (λ v. step v st) (sym is ∙ sym same) ∙ sym did

pub made-none : (ws : Words) (n : ℕ) → run (drop n ws) [] ≡ None → made ws ≡ None
made-none ws n h = ap (option_and_then lone) (run-lost n ws h)

pub made-all : (ws : Words) (turn : ℕ) (st : Stack) → length ws ≤ turn → run (drop (length ws - turn) ws) [] ≡ Some st → made ws ≡ lone st
made-all ws turn st le h =
    let none : length ws - turn ≡ 0 = omega arith in
    ap (option_and_then lone) (sym (ap (λ n. run (drop n ws) []) none) ∙ h)

-- what words make is what so few of them make
pub within : {E : Type 0} (r : Result (Option Item) E) (ws : Words) → IfOk r (λ o. o ≡ made ws) → IfOk r (λ o. length ws ≤ 20000 → o ≡ made ws)
within (Ok o) ws h = λ _. h
within (Err e) ws h = tt
