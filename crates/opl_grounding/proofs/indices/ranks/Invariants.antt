use Rattle.std.proofs.Common.{◌≡◌, ◌++◌, length, map}
use Rattle.opl_eval.specs.Compare.{rank}
use Rattle.opl_given.specs.Elements.{left}
use Rattle.opl_grounding.proofs.indices.ranks.Given as goal

-- the ranks so far, and those of the elements that are left
abbrev pub invariant-loop-first : goal.invariant-loop-first
invariant-loop-first l = l.found ++ map rank (left l.rest) ≡ map rank (left l.elements)

abbrev pub decreases-loop-first : goal.decreases-loop-first
decreases-loop-first l = length (left l.rest)
