use Rattle.std.proofs.Common.{arith}
use Rattle.std.proofs.lemmas.Int.{ints}
use Rattle.opl_domain.specs.Arithmetic.{greatest_rest}
use Rattle.opl_domain.proofs.interval.Interval.greatest_rest.Goals as goal

pub returns-clause-value : goal.returns-clause-value
unfolding greatest_rest
returns-clause-value c = omega (arith, ints)
