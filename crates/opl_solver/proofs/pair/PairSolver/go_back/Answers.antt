use Rattle.std.proofs.Common.{◌∙◌, ◌<◌, length, ap, sym, subst, arith}
use Rattle.opl_engine.specs.States.{seen}
use Rattle.opl_search.specs.States.{back_to}
use Rattle.opl_solver.specs.Pairs.{Joint, state_of}
use Rattle.opl_solver.proofs.Pairs.{both_count}
use Rattle.opl_solver.proofs.pair.PairSolver.go_back.Goals as goal

pub go_back-requires-clause-open : goal.go_back-requires-clause-open
go_back-requires-clause-open c =
    let s = c.self.inside in
    let n = both_count (seen s.engine) s.store c.self.invariant in
    let h = subst (λ (p : Joint). c.args.level < length (state_of p).levels) (sym c.self.view_is) c.requires in
    omega (arith, n, h)

pub returns : goal.returns
returns c = c.go_back.ensures.back ∙ ap (λ (p : Joint). back_to c.args.level (state_of p)) c.self.view_is
