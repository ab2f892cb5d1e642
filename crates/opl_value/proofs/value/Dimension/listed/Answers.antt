use Rattle.std.proofs.Common.{arith}
use Rattle.opl_value.proofs.Places.{variants}
use Rattle.opl_value.specs.Rising.{listed_dimension}
use Rattle.opl_value.proofs.value.Dimension.listed.Goals as goal

-- src/dimension.rt:35:5
pub returns-clause-values : goal.returns-clause-values
unfolding listed_dimension
returns-clause-values c = grind (arith, variants)

-- src/dimension.rt:35:5
pub returns-clause-dimension : goal.returns-clause-dimension
unfolding listed_dimension
returns-clause-dimension c = grind (arith, variants)
