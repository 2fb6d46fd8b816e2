-- What the operators of a chain are by the tables of a module, and what is told where they clash.
use Rattle.std.specs.Prelude.{ℕ, Bool, true, false, ◌&&◌, List, [], ◌∷◌, Option, Some, None}
use Rattle.std.specs.declared.cmp.Ordering.{Ordering}
use Rattle.std.specs.Ordering.{nat_cmp, ordering_then}
use Rattle.std.specs.Option.{option_cmp}
use Rattle.std.specs.Cmp.Lexicographic.{slice_cmp}
use Rattle.std.specs.BTreeMap.{BTreeMap, get}
use Rattle.psc_text.specs.declared.span.Span.{Span}
use Rattle.psc_text.specs.declared.names.Qualified.{Qualified}
use Rattle.psc_ast.specs.declared.names.Mention.{Mention}
use Rattle.psc_ast.specs.declared.order.Fixity.{Fixity}
use Rattle.psc_ast.specs.declared.order.Side.{Side}
use Rattle.psc_ast.specs.declared.order.Side.TheVariants as side
use Rattle.psc_brackets.specs.declared.chain.Operator.{Operator}
use Rattle.psc_error.specs.declared.code.Code.{Code}
use Rattle.psc_error.specs.declared.code.Code.TheVariants.{NonAssociativeError, MixedAssociativityError}
use Rattle.psc_order.specs.declared.state.Bracketing.{Bracketing}
use Rattle.psc_order.specs.declared.state.Known.{Known}
use Rattle.psc_order.specs.declared.state.Space.{Space}
use Rattle.psc_order.specs.declared.state.Space.TheVariants as space

-- names by the module before them, none before any, then by their bytes
abbrev pub name_cmp : Qualified → Qualified → Ordering
name_cmp a b = ordering_then (option_cmp (slice_cmp nat_cmp) a.«module» b.«module») (slice_cmp nat_cmp a.name b.name)

-- the operators of values, or of types
abbrev pub table : Bracketing → Space → BTreeMap Qualified Known
table state space.Values = state.values
table state space.Types = state.types

-- the operator that a mention names, if it is known
abbrev pub known : Bracketing → Space → Mention → Option Known
known state which mention = get name_cmp (table state which) mention.name

-- the power and side of an operator; one that is not known binds as tightly as one can, to the left
abbrev pub operator_by : Option Known → Operator
operator_by None = record { side = side.Left; power = 9 }
operator_by (Some known) = known.operator

abbrev pub operator : Bracketing → Space → Mention → Operator
operator state which mention = operator_by (known state which mention)

-- a mention of a name at a place
abbrev pub mention : Qualified → Span → Mention
mention name span = record { name = name; span = span }

-- what stands in the place of an operator: its target, or itself where it is not known
abbrev pub target_by : Mention → Option Known → Mention
target_by op None = mention op.name op.span
target_by op (Some known) = mention known.target op.span

abbrev pub target : Bracketing → Space → Mention → Mention
target state which op = target_by op (known state which op)

-- an operator as a declaration makes it known
abbrev pub known_by : Fixity → Known
known_by row = record { operator = record { side = row.side; power = row.power }; target = row.target }

-- the operator takes none of its power on either side
abbrev pub is_neither : Side → Bool
is_neither side.Neither = true
is_neither side.Left = false
is_neither side.Right = false

abbrev pub is_infix : Operator → Bool
is_infix operator = is_neither operator.side

-- what is wrong with two operators: neither takes one of its power, or they do not agree on the side
abbrev pub code_by : Bool → Code
code_by true = NonAssociativeError
code_by false = MixedAssociativityError

abbrev pub code_of : Operator → Operator → Code
code_of earlier later = code_by (is_infix earlier && is_infix later)

-- the names that are told: the second one, or both
abbrev pub parts_by : Bool → List ℕ → List ℕ → List (List ℕ)
parts_by true earlier later = later ∷ []
parts_by false earlier later = earlier ∷ (later ∷ [])

abbrev pub parts_of : Operator → Operator → List ℕ → List ℕ → List (List ℕ)
parts_of one other earlier later = parts_by (is_infix one && is_infix other) earlier later
