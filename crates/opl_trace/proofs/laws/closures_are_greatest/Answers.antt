use Rattle.opl_trace.proofs.StableFamilies.{closure_is_greatest}
use Rattle.opl_trace.proofs.laws.closures_are_greatest.Goals as goal

pub returns : goal.returns
returns c = closure_is_greatest
