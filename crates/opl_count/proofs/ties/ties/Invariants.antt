use Rattle.std.proofs.Common.{◌≤◌, ◌-◌, length}
use Rattle.opl_count.proofs.Tying.{AreFirstTies}
use Rattle.opl_count.proofs.ties.ties.Given as goal

abbrev pub invariant-loop-at : goal.invariant-loop-at
invariant-loop-at l = (l.at ≤ length l.literals) × AreFirstTies l.literals l.at l.ties

abbrev pub decreases-loop-at : goal.decreases-loop-at
decreases-loop-at l = length l.literals - l.at
