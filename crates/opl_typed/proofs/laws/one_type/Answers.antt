use Rattle.opl_typed.proofs.Lawful.{one_type}
use Rattle.opl_typed.proofs.laws.one_type.Goals as goal

pub returns : goal.returns
returns c = one_type
