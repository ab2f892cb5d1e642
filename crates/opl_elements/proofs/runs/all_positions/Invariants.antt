use Rattle.std.proofs.Common.{◌≡◌, ◌+◌, ◌-◌}
use Rattle.opl_nodes.specs.Contexts.{sets}
use Rattle.opl_elements.specs.Runs as spec
use Rattle.opl_elements.proofs.runs.all_positions.Given as goal

-- what is left decides
abbrev pub invariant-loop-place : goal.invariant-loop-place
invariant-loop-place l = spec.all_positions (sets l.context) l.first l.count ≡ spec.all_positions (sets l.context) (l.first + l.place) (l.count - l.place)
