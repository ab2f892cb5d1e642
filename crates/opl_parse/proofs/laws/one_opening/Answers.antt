use Rattle.opl_parse.proofs.TreeLaws.{one_opening}
use Rattle.opl_parse.proofs.laws.one_opening.Goals as goal

pub returns : goal.returns
returns c = one_opening
