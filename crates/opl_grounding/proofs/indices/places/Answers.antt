use Rattle.std.proofs.Common.{pos, ◌++◌, ◌∷◌, [], ap, ◌∙◌}
use Rattle.opl_grounding.proofs.Whole.{places-push}
use Rattle.opl_grounding.proofs.indices.places.Goals as goal

pub loop-place-preserved : goal.loop-place-preserved
loop-place-preserved c = c.in_ok-push_place.ensures ∙ ap (λ ns. ns ++ pos c.loop-place.place ∷ []) c.loop-place.invariant ∙ places-push c.loop-place.place
