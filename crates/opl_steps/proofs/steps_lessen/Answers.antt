use Rattle.opl_steps.proofs.Lessening.{step_less}
use Rattle.opl_steps.proofs.steps_lessen.Goals as goal

pub returns : goal.returns
returns c = step_less
