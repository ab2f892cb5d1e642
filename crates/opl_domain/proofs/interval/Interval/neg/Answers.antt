use Rattle.std.proofs.Common.{arith}
use Rattle.std.proofs.lemmas.Int.{ints}
use Rattle.opl_domain.specs.Arithmetic.{span_neg}
use Rattle.opl_domain.proofs.Numbers.{span_is}
use Rattle.opl_domain.proofs.interval.Interval.neg.Goals as goal

pub returns : goal.returns
unfolding span_neg
returns c = span_is _ _ _ _ _ c.new.ensures (omega (arith, ints)) (omega (arith, ints))
