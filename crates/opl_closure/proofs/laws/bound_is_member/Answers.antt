use Rattle.opl_closure.proofs.Closing.{bound_member}
use Rattle.opl_closure.proofs.laws.bound_is_member.Goals as goal

pub returns : goal.returns
returns c = bound_member
