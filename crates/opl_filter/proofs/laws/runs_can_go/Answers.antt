use Rattle.opl_filter.proofs.Runs.{runs_can_go}
use Rattle.opl_filter.proofs.laws.runs_can_go.Goals as goal

pub returns : goal.returns
returns c = runs_can_go
