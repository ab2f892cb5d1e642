use Rattle.opl_trace.proofs.StableFamilies.{union_is_stable}
use Rattle.opl_trace.proofs.laws.unions_are_stable.Goals as goal

pub returns : goal.returns
returns c = union_is_stable
