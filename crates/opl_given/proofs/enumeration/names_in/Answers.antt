use Rattle.std.proofs.Common.{arith}
use Rattle.opl_given.proofs.Enumerations.{variants}
use Rattle.opl_given.proofs.enumeration.names_in.Goals as goal

-- src/enumeration.rt:71:1
pub returns-in-Set : goal.returns-in-Set
returns-in-Set c = grind (arith, variants)

-- src/enumeration.rt:71:1
pub returns-in-Number : goal.returns-in-Number
returns-in-Number c = grind (arith, variants)
