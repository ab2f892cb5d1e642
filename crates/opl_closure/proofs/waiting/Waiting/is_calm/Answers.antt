use Rattle.std.proofs.Common.{◌≡◌, ◌∙◌, ◌<◌, false, length, sym, ap, arith}
use Rattle.std.specs.VecDeque.{deque_capacity}
use Rattle.std.proofs.lemmas.List.{get_or_read}
use Rattle.opl_closure.specs.Waits.{waits}
use Rattle.opl_closure.proofs.Queues.{calm_first}
use Rattle.opl_closure.proofs.waiting.Waiting.is_calm.Goals as goal

pub returns-then-len-eq1 : goal.returns-then-len-eq1
returns-then-len-eq1 c = λ h i n.
    let s = c.self.inside in
    let k : 0 < length s.queued.items = omega (arith, c.requires, ap length c.self.view_is, c.self.invariant.same) in
    let r = get_or_read s.queued.items 0 c.index.result.now k c.index.ensures false in
    let one : length s.queue.items ≡ 1 = omega (arith, c.if-len-eq1.true, c.len.ensures, s.queue.ok.0) in
    ap (λ w. waits w i) (sym c.self.view_is) ∙ calm_first s.flags.items s.queued.items s.queue.items (deque_capacity s.queue) i c.self.invariant one (sym r ∙ h) n
