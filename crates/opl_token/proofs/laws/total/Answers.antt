use Rattle.opl_token.proofs.Unique.{total}
use Rattle.opl_token.proofs.laws.total.Goals as goal

pub returns : goal.returns
returns c = total
