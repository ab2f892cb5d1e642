use Rattle.std.proofs.Common.{arith}
use Rattle.std.proofs.lemmas.Grind.{common_steps}
use Rattle.opl_bind.proofs.each.values_walked.Goals as goal

pub loop-cells-init : goal.loop-cells-init
loop-cells-init c = grind (arith, common_steps)

pub loop-cells-preserved : goal.loop-cells-preserved
loop-cells-preserved c = grind (arith, common_steps)

pub returns : goal.returns
returns c = grind (arith, common_steps)

pub returns-in_err-value : goal.returns-in_err-value
returns-in_err-value c = grind (arith, common_steps)
