use Rattle.std.proofs.Common.{◌≡◌, ◌-◌, ◌*◌, ◌/◌, ◌≤◌}
use Rattle.opl_trail.proofs.Counts.{sum_from, left_in}
use Rattle.opl_trail.proofs.scan.count_left.Given as goal

abbrev pub invariant-loop-place : goal.invariant-loop-place
invariant-loop-place l = record {
  start : l.first / 64 ≤ l.place;
  count : l.count ≡ sum_from (left_in l.trail.top l.first l.last) (l.first / 64 * 64) ((l.place - l.first / 64) * 64);
}
