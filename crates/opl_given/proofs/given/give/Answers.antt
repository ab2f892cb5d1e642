use Rattle.std.proofs.Common.{arith}
use Rattle.opl_given.proofs.Gifts.{gifts}
use Rattle.opl_given.proofs.given.give.Goals as goal

-- src/given.rt:146:9
pub returns-then-is_none : goal.returns-then-is_none
returns-then-is_none c = grind (arith, gifts)

-- src/given.rt:149:9
pub returns-then-is_some : goal.returns-then-is_some
returns-then-is_some c = grind (arith, gifts)

-- src/given.rt:135:1
pub returns : goal.returns
returns c = grind (arith, gifts)
