use Rattle.std.proofs.Common.{◌≡◌, []}
use Rattle.opl_draft.specs.Drafts.{variable_values}
use Rattle.opl_held.proofs.assigned.variables.Given as goal

abbrev pub invariant-loop-place : goal.invariant-loop-place
invariant-loop-place l = l.found.items ≡ variable_values [] l.values l.kind l.first l.place
