use Rattle.std.proofs.Common.{refl}
use Rattle.opl_range.proofs.Compare.{with_zero}
use Rattle.opl_addends.proofs.Counting.{none_factor, some_factor}
use Rattle.opl_addends.proofs.apart.has_factor.Goals as goal

pub last_factor-requires : goal.last_factor-requires
last_factor-requires c = with_zero c.args.core.now c.args.e.now _ c.requires.sound refl

pub returns-in-None : goal.returns-in-None
returns-in-None c = none_factor c.args.core.now c.args.e.now _ c.args.x _ refl refl c.in-None.ensures

pub returns : goal.returns
returns c = some_factor c.args.core.now c.args.e.now _ c.args.x _ c.in-Some.y _ refl refl c.in-Some.ensures
