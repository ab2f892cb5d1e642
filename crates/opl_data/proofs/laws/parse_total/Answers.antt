use Rattle.opl_data.proofs.TreeLaws.{parse_total}
use Rattle.opl_data.proofs.laws.parse_total.Goals as goal

pub returns : goal.returns
returns c = parse_total
