use Rattle.std.proofs.Common.{arith}
use Rattle.opl_given.proofs.Gifts.{gifts}
use Rattle.opl_given.proofs.given.Given.with.Goals as goal

-- src/given.rt:43:5
pub returns : goal.returns
returns c = grind (arith, gifts)
