use Rattle.std.proofs.Common.{◌≡◌, ◌||◌, ℕ, List, bytes_eq, drop}
use Rattle.std.specs.List.{list_any}
use Rattle.std.specs.Ordering.{nat_cmp}
use Rattle.std.specs.Cmp.Lexicographic.{slice_cmp}
use Rattle.std.specs.BTreeSet.{contains}
use Rattle.psc_js_tree.proofs.top.set_of.Given as goal

abbrev pub invariant-loop-name : goal.invariant-loop-name
invariant-loop-name l = (q : List ℕ) → (contains (slice_cmp nat_cmp) l.top q || list_any (λ x. bytes_eq x q) (drop l.name-index l.names)) ≡ list_any (λ x. bytes_eq x q) l.names
