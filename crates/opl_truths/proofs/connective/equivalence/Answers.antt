use Rattle.std.proofs.Common.{arith}
use Rattle.opl_truths.proofs.Depths.{depth-Iff, nodes-Iff}
use Rattle.opl_truths.proofs.connective.equivalence.Goals as goal

pub condition_node-requires-clause-depth : goal.condition_node-requires-clause-depth
condition_node-requires-clause-depth c = grind (arith, depth-Iff)

pub condition_node-requires-clause-nodes : goal.condition_node-requires-clause-nodes
condition_node-requires-clause-nodes c = grind (arith, nodes-Iff)
