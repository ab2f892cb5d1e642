use Rattle.opl_runs.proofs.DeclaredNames.{names_are_declared}
use Rattle.opl_runs.proofs.laws.names_are_declared.Goals as goal

pub returns : goal.returns
returns c = names_are_declared
