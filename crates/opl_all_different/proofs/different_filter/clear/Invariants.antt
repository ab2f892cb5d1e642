use Rattle.std.proofs.Common.{◌≡◌, ◌<◌, ℕ, false, length}
use Rattle.opl_all_different.specs.Spreading.{is_done}
use Rattle.opl_all_different.proofs.different_filter.clear.Given as goal

abbrev pub invariant-loop-i : goal.invariant-loop-i
invariant-loop-i l = record {
  long : length l.done ≡ length l.fn.done;
  none : (k : ℕ) → k < l.i → is_done l.done k ≡ false;
}
