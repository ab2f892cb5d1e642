use Rattle.opl_form.proofs.FormLaws.{forms_are_sound}
use Rattle.opl_form.proofs.laws.forms_are_sound.Goals as goal

pub returns : goal.returns
returns c = forms_are_sound
