use Rattle.std.proofs.Common.{◌≡◌, ◌||◌, ◌<◌, ℕ, length, take}
use Rattle.opl_filter.specs.Mentions.{lists}
use Rattle.opl_closure.specs.Waits.{waits}
use Rattle.opl_closure.proofs.waiting.Waiting.wake_all.Given as goal

abbrev pub invariant-loop-i : goal.invariant-loop-i
invariant-loop-i l = record {
  long : length l.self ≡ length l.fn.self;
  woken : (i : ℕ) → i < length l.fn.self → waits l.self i ≡ (waits l.fn.self i || lists (take l.i-index l.members) i);
}
