use Rattle.std.proofs.Common.{arith}
use Rattle.opl_sound.proofs.StepForms.{made}
use Rattle.opl_sound.proofs.sections.is_like.Goals as goal

-- src/sections.rt:35:1
pub returns-then-rising-b : goal.returns-then-rising-b
returns-then-rising-b c = grind (arith, made)

-- src/sections.rt:35:1
pub returns-else-rising-b : goal.returns-else-rising-b
returns-else-rising-b c = grind (arith, made)
