use Rattle.opl_typed_model.proofs.Lawful.{search_sound}
use Rattle.opl_typed_model.proofs.laws.search_sound.Goals as goal

pub returns : goal.returns
returns c = search_sound
