use Rattle.std.proofs.Common.{◌∙◌, arith}
use Rattle.opl_closure.proofs.Waking.{wake_more}
use Rattle.opl_closure.proofs.waiting.Waiting.wake_all.Goals as goal

pub loop-i-preserved : goal.loop-i-preserved
loop-i-preserved c =
    record {
      long = c.wake_there.ensures.long ∙ c.loop-i.invariant.long;
      woken = λ i l. wake_more c.args.self.now c.loop-i.self c.wake_there.new.self c.args.members.now c.loop-i.i-index i c.loop-i-test.true (c.loop-i.invariant.woken i l) (c.wake_there.ensures.woken i (omega (arith, l, c.loop-i.invariant.long)));
    }
