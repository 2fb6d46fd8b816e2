use Rattle.std.proofs.Common.{sym, ◌∙◌, ◌++◌, ◌∷◌, []}
use Rattle.psc_unify.proofs.Naming.{continues_more}
use Rattle.psc_unify.proofs.Standing.{stands_named}
use Rattle.psc_unify.proofs.Kept.{scopes_given}
use Rattle.psc_unify.proofs.Promise.{solved_by, scoped_by}
use Rattle.psc_unify.proofs.Scoping.{open_fresh}
use Rattle.psc_unify.proofs.solver.Solver.fresh.Goals as goal

pub returns-clause-number : goal.returns-clause-number
returns-clause-number c = λ kinds eqs h. c.in_ok-number.ensures.number ∙ sym h.stands.count

pub returns-clause-solved : goal.returns-clause-solved
returns-clause-solved c = λ kinds eqs h. (
  c.in_ok-kind.kind,
  solved_by _ (kinds ++ c.in_ok-kind.kind ∷ []) eqs h.running
      (c.in_ok-number.ensures.stands kinds eqs (stands_named _ _ _ _ kinds eqs (continues_more _ _ _ c.in_ok-kind.ensures c.in_ok-bound.ensures.names) h.stands)),
)

pub returns-clause-opened : goal.returns-clause-opened
returns-clause-opened c = λ wide among.
    open_fresh c.args.self.now.state.scopes c.scope_number.new.scopes c.push_unknown.new.self.scopes c.scope_number.new.names c.push_unknown.new.self.names _ _
    c.in_ok-number.ensures.names c.in_ok-number.ensures.scopes c.as_slice.ensures c.in_ok-bound.ensures.opened wide among

pub returns-clause-scoped : goal.returns-clause-scoped
returns-clause-scoped c = λ kinds scopes eqs h.
    let cont = continues_more _ _ _ c.in_ok-kind.ensures c.in_ok-bound.ensures.names in (
      c.in_ok-kind.kind,
      scoped_by _ (kinds ++ c.in_ok-kind.kind ∷ []) (scopes ++ c.args.scope.now.rigid ∷ []) eqs h.solved.running
          (c.in_ok-number.ensures.stands kinds eqs (stands_named _ _ _ _ kinds eqs cont h.solved.stands))
          (scopes_given _ _ _ _ _ c.args.self.now.state.scopes c.scope_number.new.scopes c.push_unknown.new.self.scopes _ _ _ _ scopes c.in_ok-kind.kind c.in_ok-bound.bound c.args.scope.now.rigid _ cont c.in_ok-number.ensures.names c.in_ok-number.ensures.scopes
          c.in_ok-number.ensures.pushed c.in_ok-number.ensures.placed (c.in_ok-number.ensures.scoped h.kept.covers) c.as_slice.ensures
          c.in_ok-bound.ensures.kept c.in_ok-bound.ensures.rise c.in_ok-bound.ensures.given h.solved.stands.inside h.kept),
    )
