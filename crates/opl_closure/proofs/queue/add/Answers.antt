use Rattle.std.proofs.Common.{◌≡◌, ◌∙◌, ◌<◌, length, arith}
use Rattle.std.specs.VecDeque.{deque_capacity}
use Rattle.opl_closure.proofs.Queues.{count_most, queue_add}
use Rattle.opl_closure.proofs.queue.add.Goals as goal

pub push_back_reserved-requires : goal.push_back_reserved-requires
push_back_reserved-requires c =
    let q = c.requires.queue in
    omega (arith, c.args.queue.now.ok.0, c.args.flags.now.ok.0, c.requires.room, q.count, q.same, count_most c.args.queued.now.items)

pub returns-clause-queue : goal.returns-clause-queue
returns-clause-queue c =
    let e : c.len-member.result ≡ length c.args.flags.now.items = c.len-member.ensures ∙ c.args.flags.now.ok.0 in
    let l : length c.args.flags.now.items < deque_capacity c.args.queue.now = omega (arith, c.args.flags.now.ok.0, c.requires.room) in
    rw (c.push_reserved.ensures.items, c.push_reserved-2.ensures.items, c.push_back_reserved.ensures.items, c.push_back_reserved.ensures.capacity, e)
    (queue_add c.args.flags.now.items c.args.queued.now.items c.args.queue.now.items (deque_capacity c.args.queue.now) c.requires.queue l)
