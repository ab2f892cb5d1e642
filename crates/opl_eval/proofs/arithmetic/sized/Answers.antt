use Rattle.opl_eval.proofs.Sized.{sized-edge, sized-within, sized-none}
use Rattle.opl_eval.proofs.arithmetic.sized.Goals as goal

pub returns-then-number : goal.returns-then-number
returns-then-number c z h = sized-edge c.args.at c.in-Some.number z c.args.number h c.in-Some.is c.if-number.true

pub returns-else-number : goal.returns-else-number
returns-else-number c z h = sized-within c.args.at c.in-Some.number z c.args.number h c.in-Some.is c.if-number.false

pub returns-in-None : goal.returns-in-None
returns-in-None c z h = sized-none c.args.at z c.args.number h c.in-None.is
