use Rattle.opl_form.proofs.FormLaws.{forms_mean}
use Rattle.opl_form.proofs.laws.forms_mean.Goals as goal

pub returns : goal.returns
returns c = forms_mean
