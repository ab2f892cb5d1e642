use Rattle.opl_token.proofs.Unique.{no_fault}
use Rattle.opl_token.proofs.laws.no_fault.Goals as goal

pub returns : goal.returns
returns c = no_fault
