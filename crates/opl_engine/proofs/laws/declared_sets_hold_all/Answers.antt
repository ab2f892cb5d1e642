use Rattle.opl_engine.proofs.Holding.{declared_hold}
use Rattle.opl_engine.proofs.laws.declared_sets_hold_all.Goals as goal

pub returns : goal.returns
returns c = declared_hold
