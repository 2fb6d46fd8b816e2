use Rattle.std.proofs.Common.{◌≡◌, ◌==◌, sym, ap, ◌∙◌, rules}
use Rattle.psc_top.specs.Reading as spec
use Rattle.psc_top.proofs.Readings.{accepted}
use Rattle.psc_top.proofs.source.source_of.Goals as goal

pub returns-in-Ok : goal.returns-in-Ok
returns-in-Ok c =
    sym (ap spec.source_in c.in-Some.ensures.parts
    ∙ accepted (λ b. b == 10) c.in-Some.line.now c.in-Some.rest.now c.in_ok-name.name c.in-Ok.bindings (search rules) (search rules))
