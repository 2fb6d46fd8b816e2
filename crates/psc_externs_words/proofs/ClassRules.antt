-- A class and its arguments, at each form of a type.
use Rattle.std.proofs.Common.{◌≡◌, ℕ, List, [], ◌∷◌, ◌++◌, Some, None, option_map, refl}
use Rattle.psc_text.specs.declared.names.Ident.{Ident}
use Rattle.psc_text.specs.declared.names.Label.{Label}
use Rattle.psc_text.specs.declared.names.Qualified.{Qualified}
use Rattle.psc_type.specs.declared.kind.Kind.{Kind}
use Rattle.psc_type.specs.declared.ty.Constraint.{Constraint}
use Rattle.psc_type.specs.declared.ty.Ty.{Ty}
use Rattle.psc_type.specs.declared.ty.Ty.TheVariants as ty
use Rattle.psc_type.specs.declared.ty.Ty.TheBlock as block
use denote.Hole.Carrier.{hidden}
use Rattle.psc_externs_words.specs.Reading.{class_and_args}

abbrev pub with_args : List Ty → Qualified × List Ty → Qualified × List Ty
with_args more p = (p.0, p.1 ++ more)

pub class-App : (f a : Ty) → class_and_args (ty.App f a) ≡ option_map (with_args (a ∷ [])) (class_and_args f)
unfolding class_and_args block.hidden-the_row-Ty-0 hidden
class-App f a = refl

pub class-Con : (q : Qualified) → class_and_args (ty.Con q) ≡ Some (q, [])
unfolding class_and_args
class-Con q = refl

pub class-Var : (n : Ident) → class_and_args (ty.Var n) ≡ None
unfolding class_and_args
class-Var n = refl

pub class-Unknown : (n : ℕ) → class_and_args (ty.Unknown n) ≡ None
unfolding class_and_args
class-Unknown n = refl

pub class-Forall : (n : Ident) (k : Kind) (b : Ty) → class_and_args (ty.Forall n k b) ≡ None
unfolding class_and_args
class-Forall n k b = refl

pub class-Given : (c : Constraint) (b : Ty) → class_and_args (ty.Given c b) ≡ None
unfolding class_and_args
class-Given c b = refl

pub class-RowCons : (l : Label) (a r : Ty) → class_and_args (ty.RowCons l a r) ≡ None
unfolding class_and_args
class-RowCons l a r = refl

pub class-RowNil : class_and_args ty.RowNil ≡ None
unfolding class_and_args
class-RowNil = refl

pub class-Symbol : (s : List ℕ) → class_and_args (ty.Symbol s) ≡ None
unfolding class_and_args
class-Symbol s = refl

pub class-Any : (k : Kind) → class_and_args (ty.Any k) ≡ None
unfolding class_and_args
class-Any k = refl

pub ruleset classes = (class-App, class-Con, class-Var, class-Unknown, class-Forall, class-Given, class-RowCons, class-RowNil, class-Symbol, class-Any)
