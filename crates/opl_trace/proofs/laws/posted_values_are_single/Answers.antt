use Rattle.opl_trace.proofs.Posting.{posted_is_single}
use Rattle.opl_trace.proofs.laws.posted_values_are_single.Goals as goal

pub returns : goal.returns
returns c = posted_is_single
