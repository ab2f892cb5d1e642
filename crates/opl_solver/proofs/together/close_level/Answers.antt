use Rattle.std.proofs.Common.{length, ap, arith}
use Rattle.opl_engine.specs.States.{seen}
use Rattle.opl_solver.proofs.Pairs.{level_count, closed_pair, closed_both}
use Rattle.opl_solver.proofs.together.close_level.Goals as goal

pub close_level-requires : goal.close_level-requires
close_level-requires c =
    let n = level_count (seen c.args.engine.now) c.args.store.now c.requires.pair in
    omega (arith, n, c.requires.open)

pub returns-clause-pair : goal.returns-clause-pair
returns-clause-pair c =
    let e = c.close_level.ensures in
    let s = c.close_level-2.ensures in
    closed_pair (seen c.args.engine.now) (seen c.close_level.new.self) c.args.store.now c.close_level-2.new.self e.core e.best e.posted s.levels e.fits c.requires.pair

pub returns-clause-levels : goal.returns-clause-levels
returns-clause-levels c = let h = ap length c.close_level-2.ensures.levels in omega (arith, h)

pub returns-clause-closed : goal.returns-clause-closed
returns-clause-closed c =
    let e = c.close_level.ensures in
    let s = c.close_level-2.ensures in
    closed_both (seen c.args.engine.now) (seen c.close_level.new.self) c.args.store.now c.close_level-2.new.self e.core e.best e.posted s.levels
