use Rattle.std.proofs.Common.{◌≡◌, length}
use Rattle.std.specs.VecDeque.{deque_capacity}
use Rattle.opl_closure.specs.Queues.{IsQueue}
use Rattle.opl_closure.proofs.queue.take.Given as goal

abbrev pub invariant-loop-i : goal.invariant-loop-i
invariant-loop-i l = record {
  same : l.flags ≡ l.fn.flags;
  queue : IsQueue l.flags l.queued l.queue.items (deque_capacity l.queue);
}

abbrev pub decreases-loop-i : goal.decreases-loop-i
decreases-loop-i l = length l.queue.items
