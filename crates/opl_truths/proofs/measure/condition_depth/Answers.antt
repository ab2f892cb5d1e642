use Rattle.std.proofs.Common.{arith}
use Rattle.opl_truths.proofs.Depths.{depths}
use Rattle.opl_truths.proofs.measure.condition_depth.Goals as goal

pub returns-in-Known-clause-value : goal.returns-in-Known-clause-value
returns-in-Known-clause-value c = grind (arith, depths)

pub returns-in-Number-clause-value : goal.returns-in-Number-clause-value
returns-in-Number-clause-value c = grind (arith, depths)
