use Rattle.opl_eval.specs.Visible.{position_in}
use Rattle.opl_eval.proofs.SetElements.{part-missing}
use Rattle.opl_eval.proofs.connect.inner_part.Goals as goal

pub returns-in_default : goal.returns-in_default
returns-in_default c =
    part-missing c.named_part.result (position_in c.args.positions.now) c.args.names.now c.loop-name.name-index c.loop-name.part.now c.args.whole.now c.name-item.result
    c.named_part.ensures.none c.in_default.is c.loop-name-test.true c.name-item.is c.loop-name.invariant
