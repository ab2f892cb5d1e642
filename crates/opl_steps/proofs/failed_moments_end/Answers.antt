use Rattle.opl_steps.proofs.Failed.{failed_tasks}
use Rattle.opl_steps.proofs.failed_moments_end.Goals as goal

pub returns : goal.returns
returns c = λ goal sets end ts P b n e. failed_tasks goal sets P b n e end ts
