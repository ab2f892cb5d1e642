use Rattle.std.proofs.Common.{◌∙◌, ap}
use Rattle.opl_search.specs.States.{opened}
use Rattle.opl_solver.specs.Pairs.{Joint, state_of}
use Rattle.opl_solver.proofs.pair.PairSolver.open_level.Goals as goal

pub returns : goal.returns
returns c = c.in_ok-open_level.ensures.opened ∙ ap (λ (p : Joint). opened (state_of p)) c.self.view_is
