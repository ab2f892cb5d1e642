use Rattle.opl_choices.proofs.PlaceLists.{places_are}
use Rattle.opl_choices.proofs.laws.places_are_elements.Goals as goal

pub returns : goal.returns
returns c = places_are
