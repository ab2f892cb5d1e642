use Rattle.opl_model_types.proofs.Outcome.{one_fault}
use Rattle.opl_model_types.proofs.laws.one_fault.Goals as goal

pub returns : goal.returns
returns c = one_fault
