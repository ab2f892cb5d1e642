use Rattle.std.proofs.Common.{arith}
use Rattle.std.proofs.lemmas.Int.{ints}
use Rattle.opl_domain.specs.Span.{smaller}
use Rattle.opl_expr.proofs.numbers.lesser.Goals as goal

pub returns-then-x-y : goal.returns-then-x-y
unfolding smaller
returns-then-x-y c = grind (arith, ints)

pub returns-else-x-y : goal.returns-else-x-y
unfolding smaller
returns-else-x-y c = grind (arith, ints)
