use Rattle.std.proofs.Common.{◌≡◌, ◌≤◌, ◌+◌, length, drop, false, get_or, pos}
use Rattle.opl_domain.specs.Family.{member}
use Rattle.opl_sound.proofs.tables.stands_again.Given as goal

abbrev pub invariant-loop-left : goal.invariant-loop-left
invariant-loop-left l = (l.place + 1 ≤ l.left) × (l.left ≤ length l.numbers) × (member (get_or l.numbers l.place (pos 0)) (drop l.left l.numbers) ≡ false)

abbrev pub decreases-loop-left : goal.decreases-loop-left
decreases-loop-left l = l.left
