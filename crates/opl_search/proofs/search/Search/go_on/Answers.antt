use Rattle.std.proofs.Common.{rules, ◌∙◌, arith, refl, sym, subst, reverse}
use Rattle.opl_search.specs.Pending.{comes, Goes}
use Rattle.opl_search.proofs.Places.{goes_same, goes_on, best_stays, answer_is}
use Rattle.opl_search.proofs.search.Search.go_on.Goals as goal

pub loop-turn-init : goal.loop-turn-init
loop-turn-init g c =
    let m = c.args.self.now in
    let s = g.S.Solver.state m.solver in
    record {
      goes = goes_same m.left refl (sym (best_stays s.core s.best s.sets c.args.first c.requires.none)) refl c.requires.opens c.requires.turn;
      none = c.requires.none;
      closings = omega arith;
      leaves = omega arith;
    }

pub loop-turn-preserved : goal.loop-turn-preserved
loop-turn-preserved g c =
    let i = c.loop-turn.invariant in
    let e = c.in_ok-turn.ensures in
    record {
      goes = goes_on i.none i.goes e.goes;
      none = search rules;
      closings = omega (arith, e.closings, i.closings);
      leaves = omega (arith, e.leaves, i.leaves);
    }

pub returns-in-Some-clause-goes : goal.returns-in-Some-clause-goes
returns-in-Some-clause-goes g c =
    let m = c.args.self.now in
    let s = g.S.Solver.state m.solver in
    let n = c.path.new.self in
    let i = c.loop-turn.invariant in
    let e = c.in_ok-turn.ensures in
    let done = answer_is c.in_ok-turn.turn c.in-Some.step (sym c.answer.ensures ∙ c.in-Some.is) in
    subst (λ t. Goes s (comes s (reverse m.opens.items) m.left c.args.first) m.left (g.S.Solver.state n.solver) (reverse n.opens.items) n.left t) done (goes_on i.none i.goes e.goes)
