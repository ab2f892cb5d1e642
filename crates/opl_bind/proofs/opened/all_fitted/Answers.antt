use Rattle.std.proofs.Common.{arith}
use Rattle.std.proofs.lemmas.Grind.{common_steps}
use Rattle.opl_bind.proofs.opened.all_fitted.Goals as goal

pub loop-cell-init : goal.loop-cell-init
loop-cell-init c = grind (arith, common_steps)

pub loop-cell-preserved : goal.loop-cell-preserved
loop-cell-preserved c = grind (arith, common_steps)

pub returns : goal.returns
returns c = grind (arith, common_steps)

pub returns-in_err-fitted : goal.returns-in_err-fitted
returns-in_err-fitted c = grind (arith, common_steps)
