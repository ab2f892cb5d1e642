use Rattle.std.proofs.Common.{◌∙◌, ◌-◌, ap, sym, drop, arith}
use Rattle.opl_expr.proofs.Parts.{drop_none}
use Rattle.opl_range.proofs.Parts.{none_left}
use Rattle.opl_addends.specs.Addends.{plains, picked, with_factor}
use Rattle.opl_addends.proofs.Counting.{factors_next, factor_small, place_sound}
use Rattle.opl_addends.proofs.apart.factors.Goals as goal

pub loop-left-init : goal.loop-left-init
loop-left-init c =
    (omega arith, omega arith, ap (λ ps. with_factor c.args.x (plains c.args.core.now (picked c.args.addends.now ps))) (sym (drop_none c.args.places.now)))

pub factor_at-total-requires-clause-sound : goal.factor_at-total-requires-clause-sound
factor_at-total-requires-clause-sound c =
    place_sound c.args.core.now c.args.x c.args.addends.now c.args.core.now.sets c.args.places.now (c.loop-left.left - 1) (omega (arith, c.loop-left.invariant.0, c.loop-left-test.true)) c.requires.sound

pub overflow_add-total : goal.overflow_add-total
overflow_add-total c =
    let s = factor_small c.args.core.now c.args.x c.args.addends.now c.factor_at-total.result _ c.factor_at-total.ensures in
    omega (arith, s, c.loop-left.invariant.1, c.loop-left-test.true)

pub loop-left-preserved : goal.loop-left-preserved
loop-left-preserved c =
    let s = factor_small c.args.core.now c.args.x c.args.addends.now c.factor_at-total.result _ c.factor_at-total.ensures in (
      omega (arith, c.loop-left.invariant.0),
      omega (arith, s, c.loop-left.invariant.1, c.loop-left-test.true),
      factors_next c.args.core.now c.args.x c.args.addends.now c.args.places.now c.loop-left.left c.factor_at-total.result c.loop-left.total c.loop-left-test.true c.loop-left.invariant.0 c.factor_at-total.ensures c.loop-left.invariant.2,
    )

pub returns : goal.returns
returns c = c.loop-left.invariant.2 ∙ ap (λ k. with_factor c.args.x (plains c.args.core.now (picked c.args.addends.now (drop k c.args.places.now)))) (none_left c.loop-left.left c.loop-left-test.false)
