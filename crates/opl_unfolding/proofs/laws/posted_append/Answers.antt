use Rattle.opl_unfolding.proofs.Posted.{posted-append}
use Rattle.opl_unfolding.proofs.laws.posted_append.Goals as goal

pub returns : goal.returns
returns c = posted-append
