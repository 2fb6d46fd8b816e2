-- What a type is before its arguments are known.
use Rattle.std.specs.Prelude.{◌==◌, List, [], ◌∷◌, ◌++◌, length, slice_get, if◌then◌else◌, nat_lt, Option, Some, None, Result, Ok, Err}
use Rattle.psc_text.specs.declared.names.Ident.{Ident}
use Rattle.psc_text.specs.declared.names.Qualified.{Qualified}
use Rattle.psc_type.specs.declared.vars.Replaced.{Replaced}
use Rattle.psc_type.specs.declared.synonyms.ExpandFault.{ExpandFault}
use Rattle.psc_type.specs.declared.synonyms.ExpandFault.TheVariants.{Partial, TooLarge}
use Rattle.psc_type.specs.declared.ty.Ty.{Ty}
use Rattle.psc_type.specs.declared.ty.Ty.TheVariants as ty
use Rattle.psc_type.specs.Nodes.{nodes}
use Rattle.psc_type.specs.Vars.{substitute}
use Rattle.psc_expand.specs.declared.head.Prepared.{Prepared}
use Rattle.psc_expand.specs.declared.head.Head.{Head}
use Rattle.psc_expand.specs.declared.head.Head.TheVariants.{Done, Waiting}

-- a synonym with parameters waits for its arguments
abbrev pub begin_with : Qualified → List Ident → Result Ty ExpandFault → Result Head ExpandFault
begin_with name params (Ok t) = if length params == 0 then Ok (Done t) else Ok (Waiting name params t [])
begin_with name params (Err fault) = Err fault

abbrev pub begin : Prepared → Result Head ExpandFault
begin row = begin_with row.name row.params row.body

-- a synonym that still waits has too few arguments
abbrev pub finish : Head → Result Ty ExpandFault
finish (Done t) = Ok t
finish (Waiting name params t given) = Err (Partial name)

abbrev pub limited : Ty → Result Ty ExpandFault
limited t = if nat_lt 20000 (nodes t) then Err TooLarge else Ok t

abbrev pub done_of : Result Ty ExpandFault → Result Head ExpandFault
done_of (Ok t) = Ok (Done t)
done_of (Err fault) = Err fault

-- the body with the arguments in place of the parameters
abbrev pub filled : List Replaced → Ty → Result Head ExpandFault
filled given t = done_of (limited (substitute given t))

abbrev pub one : Ident → Ty → List Replaced
one name t = record { name = name; by = t } ∷ []

unfoldable pub filled_or_waiting : Qualified → List Ident → Ty → List Replaced → Result Head ExpandFault
filled_or_waiting name params t given = if length given == length params then filled given t else Ok (Waiting name params t given)

abbrev pub apply_at : Qualified → List Ident → Ty → List Replaced → Ty → Option Ident → Result Head ExpandFault
apply_at name params t given a None = Err (Partial name)
apply_at name params t given a (Some x) = filled_or_waiting name params t (given ++ one x a)

-- the head with one more argument
unfoldable pub apply : Head → Ty → Result Head ExpandFault
apply (Done t) a = Ok (Done (ty.App t a))
apply (Waiting name params t given) a = apply_at name params t given a (slice_get params (length given))
