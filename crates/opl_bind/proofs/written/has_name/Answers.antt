use Rattle.std.proofs.Common.{arith}
use Rattle.std.proofs.lemmas.Grind.{common_steps}
use Rattle.opl_bind.proofs.written.has_name.Goals as goal

pub loop-dim-init : goal.loop-dim-init
loop-dim-init c = grind (arith, common_steps)

pub loop-dim-preserved : goal.loop-dim-preserved
loop-dim-preserved c = grind (arith, common_steps)

pub returns : goal.returns
returns c = grind (arith, common_steps)
