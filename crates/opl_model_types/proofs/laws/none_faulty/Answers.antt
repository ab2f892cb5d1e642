use Rattle.opl_model_types.proofs.Outcome.{none_faulty}
use Rattle.opl_model_types.proofs.laws.none_faulty.Goals as goal

pub returns : goal.returns
returns c = none_faulty
