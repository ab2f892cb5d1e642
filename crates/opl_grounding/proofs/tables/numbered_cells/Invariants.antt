use Rattle.std.proofs.Common.{◌≡◌}
use Rattle.opl_meaning.specs.declared.variable.Kind.{Kind}
use Rattle.opl_form.specs.Parts.{number_cells}
use Rattle.opl_grounding.proofs.tables.numbered_cells.Given as goal

abbrev pub invariant-loop-place : goal.invariant-loop-place
invariant-loop-place l = (kind : Kind) → l.found ≡ number_cells kind l.first l.place
