use Rattle.opl_engine.proofs.Holding.{posting_holds}
use Rattle.opl_engine.proofs.laws.posting_holds_all.Goals as goal

pub returns : goal.returns
returns c = posting_holds
