use Rattle.std.proofs.Common.{arith}
use Rattle.opl_given.proofs.Gifts.{gifts}
use Rattle.opl_given.proofs.given.Given.value.Goals as goal

-- src/given.rt:32:5
pub returns-in-Some : goal.returns-in-Some
returns-in-Some c = grind (arith, gifts)

-- src/given.rt:32:5
pub returns-in-None : goal.returns-in-None
returns-in-None c = grind (arith, gifts)
