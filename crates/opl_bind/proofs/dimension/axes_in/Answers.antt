use Rattle.std.proofs.Common.{arith}
use Rattle.std.proofs.lemmas.Grind.{common_steps}
use Rattle.opl_bind.proofs.dimension.axes_in.Goals as goal

pub loop-t-init : goal.loop-t-init
loop-t-init c = grind (arith, common_steps)

pub loop-t-preserved : goal.loop-t-preserved
loop-t-preserved c = grind (arith, common_steps)

pub returns-clause-axes : goal.returns-clause-axes
returns-clause-axes c = grind (arith, common_steps)

pub returns-clause-faults : goal.returns-clause-faults
returns-clause-faults c = grind (arith, common_steps)

pub returns-in_err-axis_in-clause-axes : goal.returns-in_err-axis_in-clause-axes
returns-in_err-axis_in-clause-axes c = grind (arith, common_steps)

pub returns-in_err-axis_in-clause-faults : goal.returns-in_err-axis_in-clause-faults
returns-in_err-axis_in-clause-faults c = grind (arith, common_steps)

pub returns-in_err-push-clause-axes : goal.returns-in_err-push-clause-axes
returns-in_err-push-clause-axes c = grind (arith, common_steps)

pub returns-in_err-push-clause-faults : goal.returns-in_err-push-clause-faults
returns-in_err-push-clause-faults c = grind (arith, common_steps)

pub returns-in_err-axis_in-2-clause-axes : goal.returns-in_err-axis_in-2-clause-axes
returns-in_err-axis_in-2-clause-axes c = grind (arith, common_steps)

pub returns-in_err-axis_in-2-clause-faults : goal.returns-in_err-axis_in-2-clause-faults
returns-in_err-axis_in-2-clause-faults c = grind (arith, common_steps)

pub returns-in_err-push-2-clause-axes : goal.returns-in_err-push-2-clause-axes
returns-in_err-push-2-clause-axes c = grind (arith, common_steps)

pub returns-in_err-push-2-clause-faults : goal.returns-in_err-push-2-clause-faults
returns-in_err-push-2-clause-faults c = grind (arith, common_steps)
