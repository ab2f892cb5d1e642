use Rattle.opl_clean.proofs.Decided.{variables_decide}
use Rattle.opl_clean.proofs.laws.variables_decide.Goals as goal

pub returns : goal.returns
returns c = variables_decide
