use Rattle.std.proofs.Common.{refl}
use Rattle.psc_brackets.proofs.Waiting.{top_within, goes_on, stops, the_clash}
use Rattle.psc_brackets.proofs.chain.settle.Goals as goal

pub bond_at-requires-clause-earlier_within : goal.bond_at-requires-clause-earlier_within
bond_at-requires-clause-earlier_within c = top_within _ _ _ _ _ _ c.loop-earlier.invariant c.in-Some.ensures c.requires.within

pub loop-earlier-preserved : goal.loop-earlier-preserved
loop-earlier-preserved c = goes_on _ _ _ _ _ _ c.loop-earlier.invariant c.in-Some.ensures c.requires.within _ c.in-Earlier.ensures.says c.in_ok-push-in-Earlier.ensures.items

pub returns-in-Later : goal.returns-in-Later
returns-in-Later c = stops _ _ _ _ _ _ c.loop-earlier.invariant c.in-Some.ensures c.requires.within _ c.in-Later.ensures.says c.in_ok-push-in-Later.ensures.items

pub returns-in-Neither : goal.returns-in-Neither
returns-in-Neither c = the_clash _ _ _ _ _ _ c.loop-earlier.invariant c.in-Some.ensures c.requires.within _ refl refl c.in-Neither.ensures.says
