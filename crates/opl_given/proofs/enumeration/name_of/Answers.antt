use Rattle.std.proofs.Common.{arith}
use Rattle.opl_given.proofs.Enumerations.{variants}
use Rattle.opl_given.proofs.enumeration.name_of.Goals as goal

-- src/enumeration.rt:30:1
pub returns-in-Named : goal.returns-in-Named
returns-in-Named c = grind (arith, variants)

-- src/enumeration.rt:30:1
pub returns-in-Number : goal.returns-in-Number
returns-in-Number c = grind (arith, variants)
