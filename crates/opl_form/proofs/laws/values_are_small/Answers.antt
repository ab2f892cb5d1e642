use Rattle.opl_form.proofs.FormLaws.{values_are_small}
use Rattle.opl_form.proofs.laws.values_are_small.Goals as goal

pub returns : goal.returns
returns c = values_are_small
