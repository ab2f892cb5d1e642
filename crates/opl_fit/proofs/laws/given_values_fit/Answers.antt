use Rattle.opl_fit.proofs.Items.{given_values_fit}
use Rattle.opl_fit.proofs.laws.given_values_fit.Goals as goal

pub returns : goal.returns
returns c = given_values_fit
