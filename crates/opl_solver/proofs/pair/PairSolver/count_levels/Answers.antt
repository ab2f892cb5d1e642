use Rattle.std.proofs.Common.{◌∙◌, length, ap, sym}
use Rattle.opl_engine.specs.States.{seen}
use Rattle.opl_solver.specs.Pairs.{Joint, state_of}
use Rattle.opl_solver.proofs.Pairs.{both_count}
use Rattle.opl_solver.proofs.pair.PairSolver.count_levels.Goals as goal

pub returns : goal.returns
returns c =
    let s = c.self.inside in
    c.levels.ensures ∙ sym (both_count (seen s.engine) s.store c.self.invariant) ∙ ap (λ (p : Joint). length (state_of p).levels) c.self.view_is
