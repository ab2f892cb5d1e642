use Rattle.std.proofs.Common.{refl}
use Rattle.opl_range.proofs.Compare.{with_zero}
use Rattle.opl_all_different.proofs.Readings.{last_is}
use Rattle.opl_all_different.proofs.reading.last_of.Goals as goal

pub last_factor-requires : goal.last_factor-requires
last_factor-requires c = with_zero c.args.core.now c.args.e.now _ c.requires refl

pub returns : goal.returns
returns c = last_is c.args.core.now c.args.e.now _ c.args.end c.last_factor.result refl c.last_factor.ensures
