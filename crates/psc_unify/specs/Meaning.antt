-- The tree that a type is, where its unknowns have values.
use Rattle.std.specs.Prelude.{ℕ, Bool, true, false, ◌&&◌, ltb}
use Rattle.psc_graph.specs.Tree.{Tree, TAtom, TJoin, put}
use Rattle.psc_graph.specs.General.{kind_of}
use Rattle.psc_graph.specs.declared.node.Leaf.TheVariants.{NoArgument}
use Rattle.psc_graph.specs.declared.node.Former.TheVariants.{Apply}
use Rattle.psc_unify.specs.declared.names.Constant.TheVariants.{Con, Symbol, EmptyRow}
use Rattle.psc_type.specs.declared.ty.Ty.{Ty}
use Rattle.psc_type.specs.declared.ty.Ty.TheOpen.{Ty-F}
use Rattle.psc_type.specs.declared.ty.Ty.TheFolds.{fold-Ty}
use Rattle.psc_unify.specs.Naming.{Naming}

-- the kind of an application of a tree
abbrev pub apply : Naming → Tree → Tree → Tree
apply e f a = TJoin (Apply (e.result (kind_of f))) f a

abbrev pub tree_step : Naming → (ℕ → Tree) → Ty-F Tree (Unit {0}) → Tree
tree_step e g (Ty-F.Var name) = TAtom (e.rigid name)
tree_step e g (Ty-F.Unknown n) = g n
tree_step e g (Ty-F.Con name) = TAtom (e.constant (Con name))
tree_step e g (Ty-F.App f a) = apply e f a
tree_step e g (Ty-F.Forall name k body) = TAtom NoArgument
tree_step e g (Ty-F.Given c body) = TAtom NoArgument
tree_step e g (Ty-F.RowCons l t rest) = put (e.label l) t rest
tree_step e g Ty-F.RowNil = TAtom (e.constant EmptyRow)
tree_step e g (Ty-F.Symbol text) = TAtom (e.constant (Symbol text))
tree_step e g (Ty-F.Any k) = TAtom (e.any k)

-- the tree of a type without binders; equal rows are one tree
abbrev pub tree : Naming → (ℕ → Tree) → Ty → Tree
tree e g = fold-Ty Tree (Unit {0}) (tree_step e g) (λ c. tt)

abbrev pub plain_step : ℕ → Ty-F Bool (Unit {0}) → Bool
plain_step n (Ty-F.Var name) = true
plain_step n (Ty-F.Unknown x) = ltb x n
plain_step n (Ty-F.Con name) = true
plain_step n (Ty-F.App f a) = f && a
plain_step n (Ty-F.Forall name k body) = false
plain_step n (Ty-F.Given c body) = false
plain_step n (Ty-F.RowCons l t rest) = t && rest
plain_step n Ty-F.RowNil = true
plain_step n (Ty-F.Symbol text) = true
plain_step n (Ty-F.Any k) = false

-- the type has no binder, no constraint and no `$any`, and its unknowns are among the first n
abbrev pub is_plain : ℕ → Ty → Bool
is_plain n = fold-Ty Bool (Unit {0}) (plain_step n) (λ c. tt)
