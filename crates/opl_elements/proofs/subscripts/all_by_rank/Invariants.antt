use Rattle.std.proofs.Common.{◌≡◌, map}
use Rattle.opl_elements.specs.Places.{rank}
use Rattle.opl_elements.proofs.subscripts.all_by_rank.Given as goal

abbrev pub invariant-loop-part : goal.invariant-loop-part
invariant-loop-part l = l.found ≡ map rank l.yielded
