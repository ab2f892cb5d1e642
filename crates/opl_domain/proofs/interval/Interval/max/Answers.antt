use Rattle.std.proofs.Common.{arith}
use Rattle.std.proofs.lemmas.Int.{ints, to_z-of_z}
use Rattle.opl_domain.specs.Arithmetic.{span_max}
use Rattle.opl_domain.proofs.Numbers.{span_is, smaller_tells, larger_tells}
use Rattle.opl_domain.proofs.interval.Interval.max.Goals as goal

pub new-requires : goal.new-requires
new-requires c = grind (arith, ints, smaller_tells, larger_tells)

pub returns : goal.returns
unfolding span_max
returns c = span_is _ _ _ _ _ c.new.ensures (grind (arith, to_z-of_z)) (grind (arith, to_z-of_z))
