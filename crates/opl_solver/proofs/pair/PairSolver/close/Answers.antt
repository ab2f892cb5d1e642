use Rattle.std.proofs.Common.{◌∙◌, ap, subst}
use Rattle.opl_domain.specs.Family.{Below}
use Rattle.opl_search.specs.States.{Closes, with_sets}
use Rattle.opl_solver.specs.Pairs.{Joint, state_of}
use Rattle.opl_solver.proofs.pair.PairSolver.close.Goals as goal

pub returns-clause-closed : goal.returns-clause-closed
returns-clause-closed c = subst (λ (p : Joint). Closes (state_of p) c.close.new.store.top c.close.result) c.self.view_is c.close.ensures.closed

pub returns-clause-below : goal.returns-clause-below
returns-clause-below c = subst (λ (p : Joint). Below c.close.new.store.top p.store.top) c.self.view_is c.close.ensures.below

pub returns-clause-others : goal.returns-clause-others
returns-clause-others c = c.close.ensures.others ∙ ap (λ (p : Joint). with_sets c.close.new.store.top (state_of p)) c.self.view_is
