use Rattle.std.proofs.Common.{arith}
use Rattle.opl_truths.proofs.Depths.{depth-Imp, nodes-Imp}
use Rattle.opl_truths.proofs.connective.implication.Goals as goal

pub condition_node-requires-clause-depth : goal.condition_node-requires-clause-depth
condition_node-requires-clause-depth c = grind (arith, depth-Imp)

pub condition_node-requires-clause-nodes : goal.condition_node-requires-clause-nodes
condition_node-requires-clause-nodes c = grind (arith, nodes-Imp)
