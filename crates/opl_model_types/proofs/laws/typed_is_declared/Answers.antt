use Rattle.opl_model_types.proofs.EachOnce.{typed_is_declared}
use Rattle.opl_model_types.proofs.laws.typed_is_declared.Goals as goal

pub returns : goal.returns
returns c = typed_is_declared
