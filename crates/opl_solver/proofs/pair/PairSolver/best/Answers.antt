use Rattle.std.proofs.Common.{◌∙◌, ap}
use Rattle.opl_solver.specs.Pairs.{Joint, state_of}
use Rattle.opl_solver.proofs.pair.PairSolver.best.Goals as goal

pub returns : goal.returns
returns c = c.best.ensures ∙ ap (λ (p : Joint). (state_of p).best) c.self.view_is
