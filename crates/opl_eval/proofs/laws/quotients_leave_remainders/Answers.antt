use Rattle.opl_eval.proofs.NumberLaws.{quotients_leave}
use Rattle.opl_eval.proofs.laws.quotients_leave_remainders.Goals as goal

pub returns : goal.returns
returns c = quotients_leave
