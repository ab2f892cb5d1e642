use Rattle.opl_parse.proofs.TreeLaws.{only_deeper}
use Rattle.opl_parse.proofs.laws.only_deeper.Goals as goal

pub returns : goal.returns
returns c = only_deeper
