use Rattle.std.proofs.Common.{◌≡◌}
use Rattle.opl_elements.specs.Runs as spec
use Rattle.opl_elements.proofs.runs.run.Given as goal

abbrev pub invariant-loop-place : goal.invariant-loop-place
invariant-loop-place l = l.found ≡ spec.run l.first l.place
