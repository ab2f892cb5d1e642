use Rattle.std.proofs.Common.{◌≡◌, ◌≤◌, length, drop}
use Rattle.opl_trace.specs.GroundCores.{step_nodes}
use Rattle.opl_sound.specs.Ground.{count, branch_nodes}
use Rattle.opl_sound.proofs.nodes.+step_nodes.Given as goal

abbrev pub invariant-all_statement_nodes-loop-left : goal.invariant-all_statement_nodes-loop-left
invariant-all_statement_nodes-loop-left l = (l.left ≤ length l.parts) × (l.found ≡ count step_nodes (drop l.left l.parts))

abbrev pub decreases-all_statement_nodes-loop-left : goal.decreases-all_statement_nodes-loop-left
decreases-all_statement_nodes-loop-left l = l.left

abbrev pub invariant-all_element_nodes-loop-left : goal.invariant-all_element_nodes-loop-left
invariant-all_element_nodes-loop-left l = (l.left ≤ length l.elements) × (l.found ≡ count branch_nodes (drop l.left l.elements))

abbrev pub decreases-all_element_nodes-loop-left : goal.decreases-all_element_nodes-loop-left
decreases-all_element_nodes-loop-left l = l.left
