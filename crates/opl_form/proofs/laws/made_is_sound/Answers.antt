use Rattle.opl_form.proofs.FormLaws.{made_is_sound}
use Rattle.opl_form.proofs.laws.made_is_sound.Goals as goal

pub returns : goal.returns
returns c = made_is_sound
