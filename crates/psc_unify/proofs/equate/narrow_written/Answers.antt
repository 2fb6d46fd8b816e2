use Rattle.psc_unify.proofs.Small.{on_ok}
use Rattle.psc_unify.proofs.Narrowing.{narrows_covered, keeps_covered, escapes_covered, narrowed_covered}
use Rattle.psc_unify.proofs.equate.narrow_written.Goals as goal

pub returns-clause-narrows : goal.returns-clause-narrows
returns-clause-narrows c = on_ok _ (λ h. narrows_covered _ _ _ _ _ _ _ c.as_slice-nodes.ensures.value c.in-Ok.ensures.zeros c.in-Ok.ensures.longer h) c.narrow_writes.ensures.narrows

pub returns-clause-keeps : goal.returns-clause-keeps
returns-clause-keeps c = on_ok _ (λ h. keeps_covered _ _ _ _ _ _ _ c.as_slice-nodes.ensures.value c.in-Ok.ensures.zeros c.in-Ok.ensures.longer h) c.narrow_writes.ensures.keeps

pub returns-clause-escapes : goal.returns-clause-escapes
returns-clause-escapes c = λ e. escapes_covered _ _ _ c.args.scopes.now.lists.items _ _ c.args.bounds.now.scopes.items c.as_slice-nodes.ensures.value c.in-Ok.ensures.zeros c.in-Ok.ensures.longer (c.narrow_writes.ensures.escapes e)

pub returns-clause-narrowed : goal.returns-clause-narrowed
returns-clause-narrowed c =
    on_ok _ (λ h. narrowed_covered _ _ _ _ _ _ _ c.as_slice-nodes.ensures.value c.in-Ok.ensures.zeros c.in-Ok.ensures.longer _ _ c.as_slice.ensures.value c.in-Ok.ensures.covered h) c.narrow_writes.ensures.narrowed
