-- What the tree of a type is, form by form.
use Rattle.std.proofs.Common.{◌≡◌, ℕ, false, ◌&&◌, ltb, rules}
use Rattle.psc_text.specs.declared.names.Ident.{Ident}
use Rattle.psc_text.specs.declared.names.Label.{Label}
use Rattle.psc_text.specs.declared.names.Qualified.{Qualified}
use Rattle.psc_text.specs.declared.text.Text.{Text}
use Rattle.psc_graph.specs.Tree.{Tree, TAtom, put}
use Rattle.psc_type.specs.declared.kind.Kind.{Kind}
use Rattle.psc_type.specs.declared.ty.Constraint.{Constraint}
use Rattle.psc_type.specs.declared.ty.Ty.{Ty, the_lemmas}
use Rattle.psc_type.specs.declared.ty.Ty.TheVariants as ty
use Rattle.psc_unify.specs.declared.names.Constant.TheVariants.{Con, Symbol, EmptyRow}
use Rattle.psc_unify.specs.Naming.{Naming}
use Rattle.psc_unify.specs.Meaning.{tree, apply, is_plain}

module _ (e : Naming) (g : ℕ → Tree) where
  pub tree-Var : (x : Ident) → tree e g (ty.Var x) ≡ TAtom (e.rigid x)
  tree-Var x = search (rules, the_lemmas)

  pub tree-Unknown : (n : ℕ) → tree e g (ty.Unknown n) ≡ g n
  tree-Unknown n = search (rules, the_lemmas)

  pub tree-Con : (x : Qualified) → tree e g (ty.Con x) ≡ TAtom (e.constant (Con x))
  tree-Con x = search (rules, the_lemmas)

  pub tree-Symbol : (x : Text) → tree e g (ty.Symbol x) ≡ TAtom (e.constant (Symbol x))
  tree-Symbol x = search (rules, the_lemmas)

  pub tree-Any : (k : Kind) → tree e g (ty.Any k) ≡ TAtom (e.any k)
  tree-Any k = search (rules, the_lemmas)

  pub tree-App : (f a : Ty) → tree e g (ty.App f a) ≡ apply e (tree e g f) (tree e g a)
  tree-App f a = search (rules, the_lemmas)

  pub tree-RowCons : (l : Label) (t rest : Ty) → tree e g (ty.RowCons l t rest) ≡ put (e.label l) (tree e g t) (tree e g rest)
  tree-RowCons l t rest = search (rules, the_lemmas)

  pub tree-RowNil : tree e g ty.RowNil ≡ TAtom (e.constant EmptyRow)
  tree-RowNil = search (rules, the_lemmas)

module _ (n : ℕ) where
  pub plain-Unknown : (x : ℕ) → is_plain n (ty.Unknown x) ≡ ltb x n
  plain-Unknown x = search (rules, the_lemmas)

  pub plain-App : (f a : Ty) → is_plain n (ty.App f a) ≡ (is_plain n f && is_plain n a)
  plain-App f a = search (rules, the_lemmas)

  pub plain-RowCons : (l : Label) (t rest : Ty) → is_plain n (ty.RowCons l t rest) ≡ (is_plain n t && is_plain n rest)
  plain-RowCons l t rest = search (rules, the_lemmas)

  pub plain-Forall : (x : Ident) (k : Kind) (body : Ty) → is_plain n (ty.Forall x k body) ≡ false
  plain-Forall x k body = search (rules, the_lemmas)

  pub plain-Given : (c : Constraint) (body : Ty) → is_plain n (ty.Given c body) ≡ false
  plain-Given c body = search (rules, the_lemmas)

  pub plain-Any : (k : Kind) → is_plain n (ty.Any k) ≡ false
  plain-Any k = search (rules, the_lemmas)
