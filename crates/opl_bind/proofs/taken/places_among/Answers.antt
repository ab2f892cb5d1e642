use Rattle.std.proofs.Common.{arith}
use Rattle.std.proofs.lemmas.Grind.{common_steps}
use Rattle.opl_bind.proofs.taken.places_among.Goals as goal

pub loop-axis-init : goal.loop-axis-init
loop-axis-init c = grind (arith, common_steps)

pub loop-axis-preserved : goal.loop-axis-preserved
loop-axis-preserved c = grind (arith, common_steps)

pub returns : goal.returns
returns c = grind (arith, common_steps)

pub returns-in_default : goal.returns-in_default
returns-in_default c = grind (arith, common_steps)

pub returns-then-not-is_empty : goal.returns-then-not-is_empty
returns-then-not-is_empty c = grind (arith, common_steps)
