use Rattle.opl_steps.proofs.Meaning.{step_means}
use Rattle.opl_steps.proofs.steps_mean.Goals as goal

pub returns : goal.returns
returns c = λ goal sets end ts P b n C e. step_means goal sets end P b n C e ts
