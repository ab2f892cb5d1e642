use Rattle.std.proofs.Common.{◌≡◌, ◌≤◌, length, drop}
use Rattle.opl_form.specs.Measures.{greatest}
use Rattle.opl_elements.specs.Places.{depths}
use Rattle.opl_elements.proofs.subscripts.deepest.Given as goal

abbrev pub invariant-loop-left : goal.invariant-loop-left
invariant-loop-left l = record {
  within : l.left ≤ length l.parts;
  depth : l.found ≡ greatest (depths (drop l.left l.parts));
  small : l.found ≤ 2049;
}

abbrev pub decreases-loop-left : goal.decreases-loop-left
decreases-loop-left l = l.left
