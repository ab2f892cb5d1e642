use Rattle.opl_faults.proofs.Made.{goals_never_memory}
use Rattle.opl_faults.proofs.laws.goals_never_memory.Goals as goal

pub returns : goal.returns
returns c = goals_never_memory c.unrolled_by_form.ensures c.step_by_form.ensures
