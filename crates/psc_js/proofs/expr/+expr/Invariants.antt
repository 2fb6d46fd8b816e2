use Rattle.std.proofs.Common.{◌≡◌, ◌++◌, false, map, drop}
use Rattle.std.specs.String.{string_bytes}
use Rattle.psc_js.specs.Literal.{joined, separated}
use Rattle.psc_js.specs.Expr as spec
use Rattle.psc_js.proofs.expr.+expr.Given as goal

abbrev pub invariant-put_items-loop-item : goal.invariant-put_items-loop-item
invariant-put_items-loop-item l = string_bytes l.out ++ separated l.later (map spec.expr (drop l.item-index l.items)) ≡ string_bytes l.initial.out ++ separated false (map spec.expr l.items)

abbrev pub invariant-put_fields-loop-field : goal.invariant-put_fields-loop-field
invariant-put_fields-loop-field l = string_bytes l.out ++ separated l.later (map spec.field (drop l.field-index l.fields)) ≡ string_bytes l.initial.out ++ separated l.behind (map spec.field l.fields)

abbrev pub invariant-put_consts-loop-row : goal.invariant-put_consts-loop-row
invariant-put_consts-loop-row l = string_bytes l.out ++ joined (map spec.const_of (drop l.row-index l.consts)) ≡ string_bytes l.initial.out ++ joined (map spec.const_of l.consts)

abbrev pub invariant-put_subjects-loop-number : goal.invariant-put_subjects-loop-number
invariant-put_subjects-loop-number l = string_bytes l.out ++ spec.subjects_from l.number (map spec.expr (drop l.number l.subjects)) ≡ string_bytes l.initial.out ++ spec.subjects_from 0 (map spec.expr l.subjects)

abbrev pub invariant-put_alternatives-loop-alternative : goal.invariant-put_alternatives-loop-alternative
invariant-put_alternatives-loop-alternative l = string_bytes l.out ++ joined (map spec.alternative (drop l.alternative-index l.alternatives)) ≡ string_bytes l.initial.out ++ joined (map spec.alternative l.alternatives)

abbrev pub invariant-put_guarded_ones-loop-part : goal.invariant-put_guarded_ones-loop-part
invariant-put_guarded_ones-loop-part l = string_bytes l.out ++ joined (map spec.guarded (drop l.part-index l.parts)) ≡ string_bytes l.initial.out ++ joined (map spec.guarded l.parts)
