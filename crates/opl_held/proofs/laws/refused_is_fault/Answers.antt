use Rattle.opl_held.proofs.Refused.{refused_is_fault}
use Rattle.opl_held.proofs.laws.refused_is_fault.Goals as goal

pub returns : goal.returns
returns c = refused_is_fault
