use Rattle.std.proofs.Common.{arith, refl, sym}
use Rattle.opl_search.proofs.Places.{goes_same, goes_on, best_stays}
use Rattle.opl_search.proofs.search.Search.path.Goals as goal

pub loop-alloc-init : goal.loop-alloc-init
loop-alloc-init g c =
    let m = c.args.self.now in
    let s = g.S.Solver.state m.solver in
    record {
      goes = goes_same m.left refl (sym (best_stays s.core s.best s.sets c.args.first c.requires.none)) refl c.requires.opens c.requires.turn;
      same = refl;
      closings = omega arith;
      leaves = omega arith;
    }

pub loop-alloc-preserved : goal.loop-alloc-preserved
loop-alloc-preserved g c =
    let i = c.loop-alloc.invariant in
    let none = c.is_done.ensures.none c.loop-alloc-test.true in
    let e = c.in_ok-turn.ensures in
    record {
      goes = goes_on none i.goes e.goes;
      same = omega (arith, e.fewer, c.if-self-left.false, i.same);
      closings = omega (arith, e.closings, i.closings);
      leaves = omega (arith, e.leaves, i.leaves);
    }

pub returns-then-self-left-clause-goes : goal.returns-then-self-left-clause-goes
returns-then-self-left-clause-goes g c = goes_on (c.is_done.ensures.none c.loop-alloc-test.true) c.loop-alloc.invariant.goes c.in_ok-turn.ensures.goes
