use Rattle.opl_engine.proofs.Holding.{moment_holds}
use Rattle.opl_engine.proofs.laws.moments_hold_all.Goals as goal

pub returns : goal.returns
returns c = moment_holds
