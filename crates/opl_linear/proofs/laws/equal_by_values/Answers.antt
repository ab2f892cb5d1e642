use Rattle.opl_linear.proofs.Carrying as laws
use Rattle.opl_linear.proofs.laws.equal_by_values.Goals as goal

pub returns : goal.returns
returns c = laws.equal_by_values
