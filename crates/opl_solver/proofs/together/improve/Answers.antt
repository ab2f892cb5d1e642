use Rattle.std.proofs.Common.{◌∙◌, subst, sym}
use Rattle.opl_domain.specs.Family.{Below}
use Rattle.opl_expr.specs.Solutions.{declared}
use Rattle.opl_trace.specs.SoundCores.{IsSoundCore}
use Rattle.opl_engine.specs.States.{seen}
use Rattle.opl_solver.proofs.Pairs.{better_pair, improved_both}
use Rattle.opl_solver.proofs.Objectives.{told_better, told_best}
use Rattle.opl_solver.proofs.together.improve.Goals as goal

pub best_after-best-requires-clause-sound : goal.best_after-best-requires-clause-sound
best_after-best-requires-clause-sound c = subst IsSoundCore (sym c.core.ensures) c.requires.pair.sound

pub best_after-best-requires-clause-declared : goal.best_after-best-requires-clause-declared
best_after-best-requires-clause-declared c = subst (λ d. Below c.args.store.now.top (declared d)) (sym c.core.ensures) c.requires.pair.now.within

pub returns-clause-pair : goal.returns-clause-pair
returns-clause-pair c =
    let s = seen c.args.engine.now in
    let e = c.set_best.ensures in
    better_pair s (seen c.set_best.new.self) c.args.store.now c.best_after-best.result
    (told_better s.core c.core.result.now s.posted s.best c.best.result c.best_after-best.result c.args.store.now.top c.requires.pair.sound c.requires.moment c.vars-vars.ensures.sets c.requires.single c.core.ensures c.best.ensures c.best_after-best.ensures)
    e.best e.core e.posted e.levels e.fits c.requires.pair

pub returns-clause-improved : goal.returns-clause-improved
returns-clause-improved c =
    let s = seen c.args.engine.now in
    let e = c.set_best.ensures in
    improved_both s (seen c.set_best.new.self) c.args.store.now e.core
    (e.best ∙ told_best s.core c.core.result.now s.best c.best.result c.best_after-best.result c.args.store.now.top c.core.ensures c.best.ensures c.best_after-best.ensures) e.posted e.levels
