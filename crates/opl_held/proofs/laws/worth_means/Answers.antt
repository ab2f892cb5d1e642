use Rattle.opl_held.proofs.Values.{worth_means}
use Rattle.opl_held.proofs.laws.worth_means.Goals as goal

pub returns : goal.returns
returns c = worth_means
