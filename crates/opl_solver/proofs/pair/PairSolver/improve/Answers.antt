use Rattle.std.proofs.Common.{◌∙◌, ap, sym, subst}
use Rattle.opl_turns.specs.Covered.{AreAlone}
use Rattle.opl_search.specs.States.{IsMoment, improved}
use Rattle.opl_solver.specs.Pairs.{Joint, state_of}
use Rattle.opl_solver.proofs.pair.PairSolver.improve.Goals as goal

pub improve-requires-clause-moment : goal.improve-requires-clause-moment
improve-requires-clause-moment c = subst (λ (p : Joint). IsMoment (state_of p)) (sym c.self.view_is) c.requires.moment

pub improve-requires-clause-single : goal.improve-requires-clause-single
improve-requires-clause-single c = subst (λ (p : Joint). AreAlone p.store.top) (sym c.self.view_is) c.requires.single

pub returns : goal.returns
returns c = c.improve.ensures.improved ∙ ap (λ (p : Joint). improved (state_of p)) c.self.view_is
