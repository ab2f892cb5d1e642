use Rattle.std.proofs.Common.{length, ◌-◌}
use Rattle.opl_token.proofs.Scanning.{SoFar}
use Rattle.opl_token.proofs.scanner.scan.Given as goal

abbrev pub invariant-loop-at : goal.invariant-loop-at
invariant-loop-at l = SoFar l.bytes l.at l.tokens.items

abbrev pub decreases-loop-at : goal.decreases-loop-at
decreases-loop-at l = length l.bytes - l.at
