use Rattle.std.proofs.Common.{◌≡◌, ◌≤◌, length, drop}
use Rattle.opl_trace.specs.GroundCores.{expr_nodes, cons_nodes}
use Rattle.opl_sound.specs.Ground.{count}
use Rattle.opl_sound.proofs.nodes.+nodes.Given as goal

abbrev pub invariant-all_expression_nodes-loop-left : goal.invariant-all_expression_nodes-loop-left
invariant-all_expression_nodes-loop-left l = (l.left ≤ length l.parts) × (l.found ≡ count expr_nodes (drop l.left l.parts))

abbrev pub decreases-all_expression_nodes-loop-left : goal.decreases-all_expression_nodes-loop-left
decreases-all_expression_nodes-loop-left l = l.left

abbrev pub invariant-all_constraint_nodes-loop-left : goal.invariant-all_constraint_nodes-loop-left
invariant-all_constraint_nodes-loop-left l = (l.left ≤ length l.parts) × (l.found ≡ count cons_nodes (drop l.left l.parts))

abbrev pub decreases-all_constraint_nodes-loop-left : goal.decreases-all_constraint_nodes-loop-left
decreases-all_constraint_nodes-loop-left l = l.left
