use Rattle.std.proofs.Common.{◌≡◌, ◌∙◌, ◌≤◌, ap, arith, length, take}
use Rattle.std.specs.VecDeque.{deque_capacity}
use Rattle.std.proofs.lemmas.List.{with_items_is}
use Rattle.opl_closure.proofs.Queues.{queue_rest}
use Rattle.opl_closure.proofs.waiting.Waiting.rest.Goals as goal

pub invariant_of-self : goal.invariant_of-self
invariant_of-self c =
    let s = c.self.inside in
    let q = c.clear.ensures.queue in
    let l : c.args.members ≤ length c.clear.new.flags = omega (arith, c.requires, ap length c.self.view_is, c.clear.ensures.same, ap length c.as_mut_slice.ensures.value) in
    let m : length c.clear.new.flags ≡ s.flags.len = c.clear.ensures.same ∙ c.as_mut_slice.ensures.len in
    let n : length c.clear.new.queued ≡ s.queued.len = omega (arith, q.same, m, c.self.invariant.same, s.queued.ok.0, s.flags.ok.0) in
    let flags : c.truncate.new.self.items ≡ take c.args.members c.clear.new.flags = c.truncate.ensures.items ∙ ap (take c.args.members) (with_items_is s.flags c.clear.new.flags m) in
    let queued : c.truncate-2.new.self.items ≡ take c.args.members c.clear.new.queued = c.truncate-2.ensures.items ∙ ap (take c.args.members) (with_items_is s.queued c.clear.new.queued n) in
    rw (flags, queued) (queue_rest c.clear.new.flags c.clear.new.queued c.clear.new.queue.items (deque_capacity c.clear.new.queue) c.args.members q c.clear.ensures.empty l)
