use Rattle.std.proofs.Common.{◌≡◌, ◌≤◌, ◌^◌, length, drop, map}
use Rattle.opl_eval.specs.Compare.{rank}
use Rattle.opl_expr.specs.Sound.{greatest_abs}
use Rattle.opl_elements.proofs.dimensions.greatest_rank.Given as goal

abbrev pub invariant-loop-left : goal.invariant-loop-left
invariant-loop-left l = record {
  within : l.left ≤ length l.values;
  size : l.found ≡ greatest_abs (map rank (drop l.left l.values));
  small : l.found ≤ 2 ^ 127;
}

abbrev pub decreases-loop-left : goal.decreases-loop-left
decreases-loop-left l = l.left
