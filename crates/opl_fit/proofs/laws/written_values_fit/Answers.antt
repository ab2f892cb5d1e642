use Rattle.opl_fit.proofs.Items.{written_values_fit}
use Rattle.opl_fit.proofs.laws.written_values_fit.Goals as goal

pub returns : goal.returns
returns c = written_values_fit
