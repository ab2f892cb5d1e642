use Rattle.std.proofs.Common.{◌-◌}
use Rattle.opl_domain.proofs.Sets.{IsBracket}
use Rattle.opl_domain.proofs.domain.rank.Given as goal

abbrev pub invariant-loop-low : goal.invariant-loop-low
invariant-loop-low l = IsBracket l.values l.v l.low l.high

abbrev pub decreases-loop-low : goal.decreases-loop-low
decreases-loop-low l = l.high - l.low
