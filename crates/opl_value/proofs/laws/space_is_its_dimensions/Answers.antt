use Rattle.std.proofs.Common.{arith}
use Rattle.opl_value.proofs.Places.{spaces}
use Rattle.opl_value.proofs.laws.space_is_its_dimensions.Goals as goal

-- src/laws.rt:84:1
pub returns-clause-dims : goal.returns-clause-dims
returns-clause-dims c = grind (arith, spaces)

-- src/laws.rt:84:1
pub returns-clause-space : goal.returns-clause-space
returns-clause-space c = grind (arith, spaces)
