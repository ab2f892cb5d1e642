use Rattle.opl_eval.proofs.Items.{items-keyed}
use Rattle.opl_eval.proofs.environment.Environment.arrays_are_keyed.Goals as goal

pub returns : goal.returns
returns c = items-keyed c.args.self.now
