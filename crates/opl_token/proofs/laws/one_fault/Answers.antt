use Rattle.opl_token.proofs.Unique.{one_fault}
use Rattle.opl_token.proofs.laws.one_fault.Goals as goal

pub returns : goal.returns
returns c = one_fault
