use Rattle.std.proofs.Common.{◌<◌, ◌-◌, ℕ, length}
use Rattle.opl_count.specs.Ties.{AreApartAt}
use Rattle.opl_count.proofs.ties.is_alone.Given as goal

abbrev pub invariant-loop-other : goal.invariant-loop-other
invariant-loop-other l = (j : ℕ) → j < l.other → AreApartAt l.literals l.at j

abbrev pub decreases-loop-other : goal.decreases-loop-other
decreases-loop-other l = length l.literals - l.other
