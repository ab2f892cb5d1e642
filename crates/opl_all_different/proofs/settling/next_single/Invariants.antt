use Rattle.std.proofs.Common.{◌≡◌, ◌<◌, ℕ, false}
use Rattle.opl_all_different.specs.Parts.{part_at}
use Rattle.opl_all_different.specs.Singles.{Singles}
use Rattle.opl_all_different.specs.Spreading.{is_done}
use Rattle.opl_all_different.proofs.settling.next_single.Given as goal

abbrev pub invariant-loop-i : goal.invariant-loop-i
invariant-loop-i g l = (k : ℕ) → k < l.i → is_done l.done k ≡ false → Singles (g.V.View.family l.view) (part_at l.parts k) false
