use Rattle.std.proofs.Common.{arith}
use Rattle.opl_truths.proofs.Depths.{depth-Not, nodes-Not}
use Rattle.opl_truths.proofs.negation.denial.Goals as goal

pub condition_node-requires-clause-depth : goal.condition_node-requires-clause-depth
condition_node-requires-clause-depth c = grind (arith, depth-Not)

pub condition_node-requires-clause-nodes : goal.condition_node-requires-clause-nodes
condition_node-requires-clause-nodes c = grind (arith, nodes-Not)
