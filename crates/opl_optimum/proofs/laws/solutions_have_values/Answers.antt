use Rattle.opl_optimum.proofs.BestLaws.{solutions_have_values}
use Rattle.opl_optimum.proofs.laws.solutions_have_values.Goals as goal

pub returns : goal.returns
returns c = solutions_have_values
