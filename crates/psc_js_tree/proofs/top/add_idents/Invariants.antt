use Rattle.std.proofs.Common.{◌≡◌, ◌++◌, map, drop}
use Rattle.psc_js_tree.specs.Top as spec
use Rattle.psc_js_tree.proofs.top.add_idents.Given as goal

abbrev pub invariant-loop-ident : goal.invariant-loop-ident
invariant-loop-ident l = l.names ++ map spec.ident_text (drop l.ident-index l.idents) ≡ l.initial.names ++ map spec.ident_text l.idents
