use Rattle.opl_typed_model.proofs.Lawful.{model_sound}
use Rattle.opl_typed_model.proofs.laws.model_sound.Goals as goal

pub returns : goal.returns
returns c = model_sound
