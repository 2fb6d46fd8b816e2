use Rattle.std.proofs.Common.{◌≡◌, ◌==◌, ◌<◌, ◌≤◌, None, Some, sym, ap, ◌∙◌, rules, arith}
use Rattle.psc_top.specs.Reading as spec
use Rattle.psc_top.proofs.Readings.{refused_line, added_line}
use Rattle.psc_top.proofs.source.bindings_in.Goals as goal

pub add_line-requires-clause-short : goal.add_line-requires-clause-short
add_line-requires-clause-short c = omega (arith, c.in-Some.ensures.shorter)

pub returns-then-not-branch : goal.returns-then-not-branch
returns-then-not-branch c =
    let refused : spec.with_line c.loop-line.number c.loop-line.bindings c.in-Some.line.now ≡ None = search rules in
    sym (ap (spec.bindings_in c.loop-line.number c.loop-line.bindings) c.in-Some.ensures.parts
    ∙ refused_line (λ b. b == 10) c.loop-line.number c.loop-line.bindings c.in-Some.line.now c.in-Some.after.now refused)
    ∙ c.loop-line.invariant.same

pub loop-line-preserved : goal.loop-line-preserved
loop-line-preserved c =
    let added : spec.with_line c.loop-line.number c.loop-line.bindings c.in-Some.line.now ≡ Some c.add_line.new.bindings = search rules in
    record {
      same =
          sym (ap (spec.bindings_in c.loop-line.number c.loop-line.bindings) c.in-Some.ensures.parts
          ∙ added_line (λ b. b == 10) c.loop-line.number c.loop-line.bindings c.add_line.new.bindings c.in-Some.line.now c.in-Some.after.now added)
          ∙ c.loop-line.invariant.same;
      names = search rules;
      counted = omega arith;
      short = omega (arith, c.in-Some.ensures.shorter);
    }
