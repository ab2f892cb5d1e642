use Rattle.std.proofs.Common.{arith}
use Rattle.opl_closure.proofs.Queues.{count_most}
use Rattle.opl_closure.proofs.waiting.Waiting.push.Goals as goal

pub overflow_sub-member : goal.overflow_sub-member
overflow_sub-member c =
    let s = c.self.inside in
    let q = c.self.invariant in
    omega (arith, c.len.ensures, s.queue.ok.0, c.len-member.ensures, s.flags.ok.0, q.count, q.same, count_most s.queued.items)
