use Rattle.opl_model_types.proofs.Once.{names_are_declared}
use Rattle.opl_model_types.proofs.laws.names_are_declared.Goals as goal

pub returns : goal.returns
returns c = names_are_declared
