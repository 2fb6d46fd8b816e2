use Rattle.std.proofs.Common.{ap, ◌∙◌}
use Rattle.psc_js_tree.specs.Scope.{Scope}
use Rattle.psc_js_tree.specs.Module.{lines, module_of}
use Rattle.psc_js_tree.proofs.Scopes.{same_scope}
use Rattle.psc_js_tree.proofs.module.js_tree.Goals as goal

pub returns : goal.returns
returns c = ap module_of (c.in_ok-lines.ensures ∙ ap (λ (s : Scope). lines s c.args.core.now) (same_scope c.in_ok-home.home c.args.core.now c.in_ok-home.ensures.name c.in_ok-home.ensures.top))
