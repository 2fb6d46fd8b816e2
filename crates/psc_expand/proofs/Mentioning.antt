-- Lists of places that are all below an end.
use Rattle.std.proofs.Common.{◌≡◌, ◌<◌, ℕ, List, [], ◌∷◌, ◌++◌, length, slice_get, Some, inl, inr, arith}
use Rattle.std.specs.declared.vec.Vec.{Vec}
use Rattle.std.specs.declared.alloc.Global.{Global}
use Rattle.psc_groups.specs.Graph.{AllDeclared}
use Rattle.psc_groups.specs.Groups.{AllBelow}
use Rattle.psc_groups.proofs.Lists.{after_push}

pub no_places : (end : ℕ) → AllBelow [] end
no_places end = record { each = λ place number has. absurd cc }

pub one_place : (list : List ℕ) (place end : ℕ) → AllBelow list end → place < end → AllBelow (list ++ place ∷ []) end
one_place list place end all below = record { each = λ at number has. elim (after_push list place at number has) [ inl p ↦ (let q = p.1 in omega arith) | inr q ↦ all.each at number q ] }

-- each list has places below the end alone
pub record ListsBelow (m : List (Vec ℕ Global)) (end : ℕ) : Type 0 where
  pub each : (at : ℕ) (list : Vec ℕ Global) → slice_get m at ≡ Some list → AllBelow list.items end

pub no_lists : (end : ℕ) → ListsBelow [] end
no_lists end = record { each = λ at list has. absurd cc }

pub one_list : (m : List (Vec ℕ Global)) (list : Vec ℕ Global) (end : ℕ) → ListsBelow m end → AllBelow list.items end → ListsBelow (m ++ list ∷ []) end
one_list m list end all below = record { each = λ at other has. elim (after_push m list at other has) [ inl p ↦ rw p.1 below | inr q ↦ all.each at other q ] }

pub lists_declared : (m : List (Vec ℕ Global)) (end : ℕ) → length m ≡ end → ListsBelow m end → AllDeclared m
lists_declared m end e all = record { declared = λ a b mention. rw e ((all.each a mention.list mention.has).each mention.place b mention.at) }
