-- The CoreFn module of a source.
use Rattle.std.specs.Prelude.{ℕ, ◌-◌, List, [], map, fold, slice_get, length}
use Rattle.std.specs.Option.{option_map_or}
use Rattle.std.specs.Ordering.{nat_cmp}
use Rattle.std.specs.Cmp.Lexicographic.{slice_cmp}
use Rattle.std.specs.BTreeSet.{insert_key}
use Rattle.psc_text.specs.declared.span.Span.{Span}
use Rattle.psc_core_tree.specs.declared.ann.Ann.{Ann}
use Rattle.psc_core_tree.specs.declared.ann.Meta.TheVariants.{NoMeta}
use Rattle.psc_core_tree.specs.declared.literal.Literal.TheVariants as literal
use Rattle.psc_core_tree.specs.declared.expr.CoreExpr.TheVariants as expr
use Rattle.psc_core_tree.specs.declared.expr.CoreBind.{CoreBind}
use Rattle.psc_core_tree.specs.declared.expr.CoreBind.TheVariants as bind
use Rattle.psc_core_tree.specs.declared.module.CoreModule.{CoreModule}
use Rattle.psc_top.specs.declared.line.Binding.{Binding}
use Rattle.psc_top.specs.declared.source.Source.{Source}
use Rattle.psc_top.specs.Printed.{printed}

-- an annotation with a place alone
abbrev pub plain : Span → Ann
plain span = record { span = span; meta = NoMeta }

abbrev pub bind_of : Binding → CoreBind
bind_of b = bind.NonRec (record { ann = plain b.span; name = b.name; body = expr.Literal (plain b.value_span) (literal.Int b.value) })

-- the printed names in ascending order of their bytes
abbrev pub exports : List Binding → List (List ℕ)
exports bindings = fold (λ names b. insert_key (slice_cmp nat_cmp) names (printed b.name.0)) [] bindings

-- the place of the last line
abbrev pub last_place : Span → List Binding → Span
last_place header bindings = option_map_or (λ b. b.span) (slice_get bindings (length bindings - 1)) header

-- from the start of a place to the end of another
abbrev pub through : Span → Span → Span
through first last = record { line = first.line; column = first.column; end_line = last.end_line; end_column = last.end_column }

-- the module, from the header to the last line: its binds in the order of the source, all of them exported
abbrev pub module_of : Source → CoreModule
module_of source = record {
  name = source.name;
  span = through source.header (last_place source.header source.bindings);
  imports = [];
  exports = exports source.bindings;
  re_exports = [];
  foreign = [];
  decls = map bind_of source.bindings;
}
