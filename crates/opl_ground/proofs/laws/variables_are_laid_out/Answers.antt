use Rattle.opl_ground.proofs.Variables.{variables_are_laid_out}
use Rattle.opl_ground.proofs.laws.variables_are_laid_out.Goals as goal

pub returns : goal.returns
returns c = variables_are_laid_out
