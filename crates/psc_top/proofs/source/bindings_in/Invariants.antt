use Rattle.std.proofs.Common.{◌≡◌, ◌+◌, ◌≤◌, ℕ, List, [], length}
use Rattle.std.specs.Ordering.{nat_cmp}
use Rattle.std.specs.Cmp.Lexicographic.{slice_cmp}
use Rattle.std.specs.BTreeSet.{contains}
use Rattle.psc_top.specs.Reading as spec
use Rattle.psc_top.proofs.source.bindings_in.Given as goal

abbrev pub invariant-loop-line : goal.invariant-loop-line
invariant-loop-line l = record {
  same : spec.bindings_in l.number l.bindings (spec.parts l.rest) ≡ spec.bindings_in 2 [] (spec.parts l.fn.bytes);
  names : (q : List ℕ) → contains (slice_cmp nat_cmp) l.names q ≡ spec.is_bound l.bindings q;
  counted : 2 ≤ l.number;
  short : l.number + length l.rest ≤ 2 + length l.fn.bytes;
}

abbrev pub decreases-loop-line : goal.decreases-loop-line
decreases-loop-line l = length l.rest
