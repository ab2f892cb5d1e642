use Rattle.std.proofs.Common.{◌≡◌, take, true}
use Rattle.std.specs.List.{list_all}
use Rattle.opl_trace.specs.GroundCores.{is_well_made}
use Rattle.opl_sound.specs.Ground.{element_made}
use Rattle.opl_sound.proofs.sections.+sections.Given as goal

abbrev pub invariant-all_well_made-loop-s : goal.invariant-all_well_made-loop-s
invariant-all_well_made-loop-s l = list_all (is_well_made l.core.tables l.core.resources) (take l.s-index l.parts) ≡ true

abbrev pub invariant-bodies_well_made-loop-b : goal.invariant-bodies_well_made-loop-b
invariant-bodies_well_made-loop-b l = list_all (λ b. (element_made l.core.tables l.core.resources b).is_well_made) (take l.b-index l.elements) ≡ true
