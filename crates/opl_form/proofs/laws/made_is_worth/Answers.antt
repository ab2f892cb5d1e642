use Rattle.opl_form.proofs.FormLaws.{made_is_worth}
use Rattle.opl_form.proofs.laws.made_is_worth.Goals as goal

pub returns : goal.returns
returns c = made_is_worth
