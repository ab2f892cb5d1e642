use Rattle.std.proofs.Common.{arith}
use Rattle.std.specs.VecDeque.{deque_capacity}
use Rattle.opl_closure.proofs.Queues.{has_room, queue_push}
use Rattle.opl_closure.proofs.queue.wake.Goals as goal

pub push_back_reserved-requires : goal.push_back_reserved-requires
push_back_reserved-requires c =
    let r = has_room c.args.flags.now c.args.queued.now c.args.queue.now.items (deque_capacity c.args.queue.now) c.args.i c.requires.queue c.requires.member c.if-queued-i.false in
    omega (arith, c.args.queue.now.ok.0, r)

pub returns-clause-queue : goal.returns-clause-queue
returns-clause-queue c =
    rw (c.push_back_reserved.ensures.items, c.push_back_reserved.ensures.capacity)
    (queue_push c.args.flags.now c.args.queued.now c.args.queue.now.items (deque_capacity c.args.queue.now) c.args.i c.requires.queue c.requires.member c.if-queued-i.false)
