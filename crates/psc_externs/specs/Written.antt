-- Which types, kinds and constraints may stand in an interface file: they have no unknown and no
-- `$any`, each name of theirs that another module may have has its module, and no other has a dot.
use Rattle.std.specs.Prelude.{Bool, true, false, not, ◌&&◌, List}
use Rattle.std.specs.List.{list_all}
use Rattle.psc_type.specs.Closed.{is_known_kind, all_true}
use Rattle.psc_type.specs.declared.kind.Kind.{Kind}
use Rattle.psc_type.specs.declared.ty.Constraint.{Constraint}
use Rattle.psc_type.specs.declared.ty.Ty.{Ty}
use Rattle.psc_type.specs.declared.ty.Ty.TheOpen.{Ty-F}
use Rattle.psc_type.specs.declared.ty.Ty.TheFolds.{fold-Ty}
use Rattle.psc_externs.specs.Names.{is_name, is_true_name}
use Rattle.psc_externs.specs.Sizes.{size, kind_size, constraint_size, is_long}

abbrev pub written_step : Ty-F Bool Bool → Bool
written_step (Ty-F.Var name) = is_name name.0
written_step (Ty-F.Unknown n) = false
written_step (Ty-F.Con name) = is_true_name name
written_step (Ty-F.App f a) = f && a
written_step (Ty-F.Forall name k body) = is_name name.0 && (is_known_kind k && body)
written_step (Ty-F.Given c body) = c && body
written_step (Ty-F.RowCons l t rest) = t && rest
written_step Ty-F.RowNil = true
written_step (Ty-F.Symbol text) = true
written_step (Ty-F.Any k) = false

abbrev pub is_written : Ty → Bool
is_written = fold-Ty Bool Bool written_step (λ c. is_true_name c.class && all_true c.args)

abbrev pub are_written : List Ty → Bool
are_written ts = list_all is_written ts

abbrev pub is_written_constraint : Constraint → Bool
is_written_constraint c = is_true_name c.class && are_written c.args

-- what an interface file holds has no more than 20,000 words
abbrev pub is_extern_type : Ty → Bool
is_extern_type t = is_written t && not (is_long (size t))

abbrev pub is_extern_kind : Kind → Bool
is_extern_kind k = is_known_kind k && not (is_long (kind_size k))

abbrev pub is_extern_constraint : Constraint → Bool
is_extern_constraint c = is_written_constraint c && not (is_long (constraint_size c))
