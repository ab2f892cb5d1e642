use Rattle.std.proofs.Common.{◌∙◌, arith, length-set, false, set, subst, sym}
use Rattle.std.specs.VecDeque.{deque_capacity}
use Rattle.opl_closure.specs.Queues.{IsQueue}
use Rattle.opl_closure.proofs.Queues.{front_there, queue_take}
use Rattle.opl_closure.proofs.queue.clear.Goals as goal

pub bounds-queued-i : goal.bounds-queued-i
bounds-queued-i c =
    let q = subst (λ js. IsQueue c.loop-i.flags c.loop-i.queued js (deque_capacity c.loop-i.queue)) c.in-Some.ensures.items c.loop-i.invariant.queue in
    omega (arith, (front_there c.loop-i.flags c.loop-i.queued c.pop_front.new.self.items (deque_capacity c.loop-i.queue) c.in-Some.i q).1, q.same)

pub bounds-flags-i : goal.bounds-flags-i
bounds-flags-i c =
    let q = subst (λ js. IsQueue c.loop-i.flags c.loop-i.queued js (deque_capacity c.loop-i.queue)) c.in-Some.ensures.items c.loop-i.invariant.queue in
    (front_there c.loop-i.flags c.loop-i.queued c.pop_front.new.self.items (deque_capacity c.loop-i.queue) c.in-Some.i q).1

pub loop-i-preserved : goal.loop-i-preserved
loop-i-preserved c =
    let q = subst (λ js. IsQueue c.loop-i.flags c.loop-i.queued js (deque_capacity c.loop-i.queue)) c.in-Some.ensures.items c.loop-i.invariant.queue in
    record {
      same = length-set c.loop-i.flags c.in-Some.i false ∙ c.loop-i.invariant.same;
      queue = subst (λ n. IsQueue (set c.loop-i.flags c.in-Some.i false) (set c.loop-i.queued c.in-Some.i false) c.pop_front.new.self.items n) (sym c.in-Some.ensures.capacity) (queue_take c.loop-i.flags c.loop-i.queued c.pop_front.new.self.items (deque_capacity c.loop-i.queue) c.in-Some.i q);
    }
