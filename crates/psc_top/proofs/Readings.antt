-- A step of reading a file, line by line.
use Rattle.std.proofs.Common.{Ok, Err, Result, ◌||◌, bytes_eq, ◌≡◌, ℕ, ◌+◌, Bool, true, false, cond, List, [], ◌∷◌, Option, Some, None, refl, ap, sym, ◌∙◌}
use Rattle.std.specs.List.{slice_split, onto_first}
use Rattle.std.specs.Ordering.{nat_cmp, is_eq}
use Rattle.std.specs.Cmp.Lexicographic.{slice_cmp}
use Rattle.std.proofs.lemmas.Map.Text.{is_eq-slice_cmp}
use Rattle.psc_top.specs.declared.line.Binding.{Binding}
use Rattle.psc_top.specs.declared.source.Source.{Source}
use Rattle.psc_top.specs.declared.source.RefusedLine.{RefusedLine}
use Rattle.psc_top.specs.Line.{header_of, to_end}
use Rattle.psc_top.specs.Reading.{bindings_in, with_line, refused, source_in, behind_header}

onto_shape : (x : ℕ) (parts : List (List ℕ)) → (y : List ℕ) × (ys : List (List ℕ)) × (onto_first x parts ≡ y ∷ ys)
onto_shape x [] = (x ∷ [], [], refl)
onto_shape x (part ∷ parts) = (x ∷ part, parts, refl)

-- there is always a part
split_shape : (p : ℕ → Bool) (xs : List ℕ) → (y : List ℕ) × (ys : List (List ℕ)) × (slice_split p xs ≡ y ∷ ys)
split_shape p [] = ([], [], refl)
split_shape p (x ∷ xs) =
    elim (p x) as (λ v. (y : List ℕ) × (ys : List (List ℕ)) × (cond v ([] ∷ slice_split p xs) (onto_first x (slice_split p xs)) ≡ y ∷ ys))
    [ true ↦ ([], slice_split p xs, refl) | false ↦ onto_shape x (slice_split p xs) ]

pub refused_line : (p : ℕ → Bool) (k : ℕ) (before : List Binding) (line xs : List ℕ) → with_line k before line ≡ None
    → bindings_in k before (line ∷ slice_split p xs) ≡ refused k
refused_line p k before line xs h =
    let s = split_shape p xs in
    rw s.2 (ap (λ (o : Option (List Binding)). elim o as (λ _. Result (List Binding) RefusedLine) [ None ↦ refused k | Some bindings ↦ bindings_in (k + 1) bindings (s.0 ∷ s.1) ]) h)

pub added_line : (p : ℕ → Bool) (k : ℕ) (before after : List Binding) (line xs : List ℕ) → with_line k before line ≡ Some after
    → bindings_in k before (line ∷ slice_split p xs) ≡ bindings_in (k + 1) after (slice_split p xs)
added_line p k before after line xs h =
    let s = split_shape p xs in
    rw s.2 (ap (λ (o : Option (List Binding)). elim o as (λ _. Result (List Binding) RefusedLine) [ None ↦ refused k | Some bindings ↦ bindings_in (k + 1) bindings (s.0 ∷ s.1) ]) h)

pub header_line : (p : ℕ → Bool) (line xs : List ℕ) → source_in (line ∷ slice_split p xs) ≡ behind_header line (slice_split p xs) (header_of line)
header_line p line xs = let s = split_shape p xs in rw s.2 refl

either : (x old : Bool) → cond x true old ≡ (old || x)
either true true = refl
either true false = refl
either false true = refl
either false false = refl

-- a set of names with a further one
pub holds_more : (a b q : List ℕ) (old : Bool) → a ≡ b → cond (is_eq (slice_cmp nat_cmp a q)) true old ≡ (old || bytes_eq b q)
holds_more a b q old same = rw (same, is_eq-slice_cmp b q) (either (bytes_eq b q) old)

pub accepted : (p : ℕ → Bool) (line xs name : List ℕ) (bindings : List Binding) → Some name ≡ header_of line → Ok bindings ≡ bindings_in 2 [] (slice_split p xs)
    → source_in (line ∷ slice_split p xs) ≡ Ok (record { name = name; header = to_end 1 line 1; bindings = bindings })
accepted p line xs name bindings h g =
    header_line p line xs
    ∙ ap (behind_header line (slice_split p xs)) (sym h)
    ∙ ap (λ (r : Result (List Binding) RefusedLine). elim r as (λ _. Result Source RefusedLine)
    [ Err at ↦ Err at | Ok bindings ↦ Ok (record { name = name; header = to_end 1 line 1; bindings = bindings }) ]) (sym g)
