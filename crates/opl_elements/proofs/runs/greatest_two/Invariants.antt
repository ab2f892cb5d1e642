use Rattle.std.proofs.Common.{◌≡◌, ◌+◌, ◌-◌, ◌^◌, ◌<◌, ◌≤◌}
use Rattle.opl_form.specs.Measures as measures
use Rattle.opl_form.specs.Nodes as nodes
use Rattle.opl_nodes.specs.Contexts.{sets}
use Rattle.opl_elements.specs.Runs as spec
use Rattle.opl_elements.proofs.runs.greatest_two.Given as goal

-- of those that were seen, which are the last
abbrev pub invariant-loop-left : goal.invariant-loop-left
invariant-loop-left l = record {
  within : l.left ≤ l.count;
  small : l.greatest < 2 ^ 64;
  greatest : l.greatest ≡ measures.greatest (spec.run_sizes (sets l.context) (l.first + l.left) (l.count - l.left));
  two : l.two ≡ nodes.two_greatest (spec.run_sizes (sets l.context) (l.first + l.left) (l.count - l.left));
}

abbrev pub decreases-loop-left : goal.decreases-loop-left
decreases-loop-left l = l.left
