use Rattle.std.proofs.Common.{◌-◌, arith, take, ap, ◌∙◌}
use Rattle.opl_eval.specs.Turns.{in_turns}
use Rattle.opl_eval.proofs.Pending.{turn-found, turn-passed}
use Rattle.opl_eval.proofs.visible.latest_value.Goals as goal

pub returns-in-Some : goal.returns-in-Some
returns-in-Some c =
    turn-found c.args.name.now c.args.turns.now (c.loop-place.place - 1) c.index-turns-place.result c.in-Some.value.now
    (λ before. c.loop-place.invariant.none_behind before ∙ ap (λ n. in_turns before c.args.name.now (take n c.args.turns.now)) (omega (arith, c.loop-place-test.true)))
    (omega (arith, c.loop-place-test.true, c.loop-place.invariant.within)) c.index-turns-place.is c.in-Some.ensures

pub loop-place-preserved : goal.loop-place-preserved
loop-place-preserved c = record {
  within = omega (arith, c.loop-place.invariant.within);
  none_behind =
      turn-passed c.args.name.now c.args.turns.now (c.loop-place.place - 1) c.index-turns-place.result
      (λ before. c.loop-place.invariant.none_behind before ∙ ap (λ n. in_turns before c.args.name.now (take n c.args.turns.now)) (omega (arith, c.loop-place-test.true)))
      (omega (arith, c.loop-place-test.true, c.loop-place.invariant.within)) c.index-turns-place.is c.in_default.ensures;
}
