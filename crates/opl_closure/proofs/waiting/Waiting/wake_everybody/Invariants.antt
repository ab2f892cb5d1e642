use Rattle.std.proofs.Common.{◌≡◌, ◌<◌, ℕ, true, length}
use Rattle.opl_closure.specs.Waits.{waits}
use Rattle.opl_closure.proofs.waiting.Waiting.wake_everybody.Given as goal

abbrev pub invariant-loop-i : goal.invariant-loop-i
invariant-loop-i l = record {
  long : length l.self ≡ length l.fn.self;
  woken : (k : ℕ) → k < l.i → waits l.self k ≡ true;
}
