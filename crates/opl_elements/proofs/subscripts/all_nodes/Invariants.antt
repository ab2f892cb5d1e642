use Rattle.std.proofs.Common.{◌≡◌, ◌≤◌, length, drop}
use Rattle.opl_form.specs.Measures.{total}
use Rattle.opl_elements.specs.Places.{nodes}
use Rattle.opl_elements.proofs.subscripts.all_nodes.Given as goal

abbrev pub invariant-loop-left : goal.invariant-loop-left
invariant-loop-left l = record {
  within : l.left ≤ length l.parts;
  nodes : l.found ≡ total (nodes (drop l.left l.parts));
}

abbrev pub decreases-loop-left : goal.decreases-loop-left
decreases-loop-left l = l.left
