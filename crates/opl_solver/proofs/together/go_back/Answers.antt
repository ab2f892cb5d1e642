use Rattle.std.proofs.Common.{◌∙◌, sym, arith}
use Rattle.opl_engine.specs.States.{seen}
use Rattle.opl_solver.specs.Pairs.{both}
use Rattle.opl_solver.proofs.Pairs.{both_count, not_reached, is_reached, back_step}
use Rattle.opl_solver.proofs.together.go_back.Goals as goal

pub loop-engine-init : goal.loop-engine-init
loop-engine-init c =
    let n = both_count (seen c.args.engine.now) c.args.store.now c.requires.pair in
    record {
      pair = c.requires.pair;
      level = omega (arith, c.requires.open);
      reached = not_reached c.args.level (both (seen c.args.engine.now) c.args.store.now) (omega (arith, n, c.requires.open));
    }

pub loop-engine-preserved : goal.loop-engine-preserved
loop-engine-preserved c =
    let i = c.loop-engine.invariant in
    let n = both_count (seen c.loop-engine.engine) c.loop-engine.store i.pair in
    let e = c.close_level.ensures in
    record {
      pair = e.pair;
      level = omega (arith, e.levels, c.loop-engine-test.true, c.levels.ensures);
      reached = back_step c.args.level (both (seen c.loop-engine.engine) c.loop-engine.store) (both (seen c.close_level.new.engine) c.close_level.new.store) e.closed (omega (arith, n, c.loop-engine-test.true, c.levels.ensures)) ∙ i.reached;
    }

pub returns-clause-back : goal.returns-clause-back
returns-clause-back c =
    let i = c.loop-engine.invariant in
    let n = both_count (seen c.loop-engine.engine) c.loop-engine.store i.pair in
    sym (is_reached c.args.level (both (seen c.loop-engine.engine) c.loop-engine.store) (omega (arith, n, i.level, c.levels.ensures, c.loop-engine-test.false))) ∙ i.reached
