use Rattle.opl_model_types.proofs.PureItems.{never_memory}
use Rattle.opl_model_types.proofs.laws.never_memory.Goals as goal

pub returns : goal.returns
returns c = never_memory
