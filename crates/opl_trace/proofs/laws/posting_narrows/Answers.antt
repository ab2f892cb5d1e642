use Rattle.opl_trace.proofs.Posting.{posting_narrows}
use Rattle.opl_trace.proofs.laws.posting_narrows.Goals as goal

pub returns : goal.returns
returns c = posting_narrows
