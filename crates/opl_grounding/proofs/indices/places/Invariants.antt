use Rattle.std.proofs.Common.{◌≡◌}
use Rattle.opl_form.specs.Parts.{places_from}
use Rattle.opl_grounding.proofs.indices.places.Given as goal

abbrev pub invariant-loop-place : goal.invariant-loop-place
invariant-loop-place l = l.found ≡ places_from 0 l.place
