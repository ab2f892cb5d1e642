use Rattle.std.proofs.Common.{◌≡◌, ◌/◌, ◌≤◌, length}
use Rattle.opl_trail.proofs.Words.{Clears}
use Rattle.opl_trail.proofs.scan.let_go.Given as goal

abbrev pub invariant-loop-place : goal.invariant-loop-place
invariant-loop-place l = record {
  below : l.trail.below ≡ l.fn.trail.below;
  long : length l.trail.top ≡ length l.fn.trail.top;
  start : l.first / 64 ≤ l.place;
  clears : Clears l.fn.trail.top l.trail.top l.first l.last l.place;
}
