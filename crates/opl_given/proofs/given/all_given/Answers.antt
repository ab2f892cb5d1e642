use Rattle.std.proofs.Common.{arith}
use Rattle.opl_given.proofs.Gifts.{gifts}
use Rattle.opl_given.specs.Given.{all_given}
use Rattle.opl_given.proofs.given.all_given.Goals as goal

-- src/given.rt:196:5
pub loop-file-init : goal.loop-file-init
unfolding all_given
loop-file-init c = grind (arith, gifts)
