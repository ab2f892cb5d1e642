use Rattle.opl_eval.proofs.Sized.{remainder-other, remainder-minus_one}
use Rattle.opl_eval.proofs.arithmetic.remainder.Goals as goal

pub returns-then-b-eqminus1 : goal.returns-then-b-eqminus1
returns-then-b-eqminus1 c = remainder-minus_one c.args.at c.args.a c.args.b c.ranges.b c.if-b-eqminus1.true

pub returns : goal.returns
returns c = remainder-other c.args.at c.args.a c.args.b c.ranges.a c.ranges.b c.if-b-eq0.false
