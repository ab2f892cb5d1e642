use Rattle.opl_fit.proofs.Given.{set-made}
use Rattle.opl_fit.proofs.set.set_of.Goals as goal

pub returns : goal.returns
returns c = set-made c.set_of.result c.args.elements c.set_of.ensures
