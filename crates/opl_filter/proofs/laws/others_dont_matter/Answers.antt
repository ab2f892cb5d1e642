use Rattle.opl_filter.proofs.Agreeing.{agreeing_same}
use Rattle.opl_filter.proofs.laws.others_dont_matter.Goals as goal

pub returns : goal.returns
returns c = agreeing_same
