use Rattle.opl_trace.proofs.Posting.{stable_more}
use Rattle.opl_trace.proofs.laws.stable_for_fewer.Goals as goal

pub returns : goal.returns
returns c = stable_more
