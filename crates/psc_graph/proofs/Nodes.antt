-- What a node says of the values of a solution.
use Rattle.std.proofs.Common.{◌≡◌, ℕ, ◌+◌, List, Some, slice_get, ap, ◌∙◌}
use Rattle.psc_graph.specs.Tree.{Tree, TJoin, put, size}
use Rattle.psc_graph.specs.Model.{Solves, Follows}
use Rattle.psc_graph.specs.declared.node.Node.{Node}
use Rattle.psc_graph.specs.declared.node.Former.{Former}
use Rattle.psc_graph.specs.declared.node.Node.TheVariants.{Link, Join, Field}
use Rattle.psc_graph.proofs.Trees.{size-put}

pub follows : (v : ℕ → Tree) (nodes : List Node) → Solves v nodes → Follows v nodes
follows v nodes s = record { link = λ k j e. s.each k (Link j) e }

pub at_join : (v : ℕ → Tree) (nodes : List Node) (k : ℕ) (f : Former) (a b : ℕ) → Solves v nodes → slice_get nodes k ≡ Some (Join f a b) → v k ≡ TJoin f (v a) (v b)
at_join v nodes k f a b s e = s.each k (Join f a b) e

pub at_field : (v : ℕ → Tree) (nodes : List Node) (k l a r : ℕ) → Solves v nodes → slice_get nodes k ≡ Some (Field l a r) → v k ≡ put l (v a) (v r)
at_field v nodes k l a r s e = s.each k (Field l a r) e

pub size_join : (v : ℕ → Tree) (nodes : List Node) (k : ℕ) (f : Former) (a b : ℕ) → Solves v nodes → slice_get nodes k ≡ Some (Join f a b) → size (v k) ≡ size (v a) + size (v b) + 1
size_join v nodes k f a b s e = ap size (at_join v nodes k f a b s e)

pub size_field : (v : ℕ → Tree) (nodes : List Node) (k l a r : ℕ) → Solves v nodes → slice_get nodes k ≡ Some (Field l a r) → size (v k) ≡ size (v a) + size (v r) + 1
size_field v nodes k l a r s e = ap size (at_field v nodes k l a r s e) ∙ size-put l (v a) (v r)
