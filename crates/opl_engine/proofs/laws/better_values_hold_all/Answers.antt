use Rattle.opl_engine.proofs.Holding.{better_holds}
use Rattle.opl_engine.proofs.laws.better_values_hold_all.Goals as goal

pub returns : goal.returns
returns c = better_holds
