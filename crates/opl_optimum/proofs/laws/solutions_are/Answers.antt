use Rattle.opl_optimum.proofs.Membership.{solutions_are}
use Rattle.opl_optimum.proofs.laws.solutions_are.Goals as goal

pub returns : goal.returns
returns c = solutions_are
