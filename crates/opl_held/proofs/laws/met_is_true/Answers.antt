use Rattle.opl_held.proofs.Answers.{met_is_true}
use Rattle.opl_held.proofs.laws.met_is_true.Goals as goal

pub returns : goal.returns
returns c = met_is_true
