use Rattle.std.proofs.Common.{arith}
use Rattle.opl_engine.proofs.Crowds.{crowd_waits}
use Rattle.opl_engine.proofs.members.Members.wake_everybody.Goals as goal

pub wake_everybody-requires : goal.wake_everybody-requires
wake_everybody-requires c = omega (arith, c.self.invariant.few, c.self.invariant.same)

pub invariant_of-self : goal.invariant_of-self
invariant_of-self c =
    let s = c.self.inside in
    crowd_waits s.members.items s.watchers s.end_watchers s.waiting c.wake_everybody.new.self c.self.invariant c.wake_everybody.ensures.long
