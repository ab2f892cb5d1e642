use Rattle.opl_tool.proofs.Outcomes.{one_outcome}
use Rattle.opl_tool.proofs.laws.one_outcome.Goals as goal

pub returns : goal.returns
returns c = one_outcome c.forms_never_memory.ensures c.goals_never_memory.ensures
