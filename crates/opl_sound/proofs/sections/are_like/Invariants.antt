use Rattle.std.proofs.Common.{◌≡◌, take, true}
use Rattle.std.specs.List.{list_all}
use Rattle.opl_sound.specs.Ground.{is_like, element_made}
use Rattle.opl_sound.proofs.sections.are_like.Given as goal

abbrev pub invariant-loop-b : goal.invariant-loop-b
invariant-loop-b l = list_all (λ b. is_like l.rising l.has_keys (element_made l.core.tables l.core.resources b)) (take l.b-index l.elements) ≡ true
