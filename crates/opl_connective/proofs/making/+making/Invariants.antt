use Rattle.opl_connective.proofs.Made.{AreFirstNodes}
use Rattle.opl_connective.proofs.making.+making.Given as goal

abbrev pub invariant-nodes_of-loop-c : goal.invariant-nodes_of-loop-c
invariant-nodes_of-loop-c l = AreFirstNodes l.core l.cs l.c-index l.found
