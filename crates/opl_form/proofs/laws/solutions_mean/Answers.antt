use Rattle.opl_form.proofs.Solved.{solutions_mean}
use Rattle.opl_form.proofs.laws.solutions_mean.Goals as goal

pub returns : goal.returns
returns c = solutions_mean c.solutions_unrolled.ensures
