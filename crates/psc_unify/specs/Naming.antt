-- Numbers for names.
use Rattle.std.specs.Prelude.{ℕ, Option}
use Rattle.psc_text.specs.declared.names.Ident.{Ident}
use Rattle.psc_text.specs.declared.names.Label.{Label}
use Rattle.psc_graph.specs.declared.node.Leaf.{Leaf}
use Rattle.psc_type.specs.declared.kind.Kind.{Kind}
use Rattle.psc_unify.specs.declared.names.Constant.{Constant}

-- the leaf that a constant is, that `$any` of a kind is, that a rigid variable is, the number of a label, and the kind of an application by that of its head
pub record Naming : Type 0 where
  pub constant : Constant → Leaf
  pub any : Kind → Leaf
  pub rigid : Ident → Leaf
  pub label : Label → ℕ
  pub result : Option ℕ → ℕ
