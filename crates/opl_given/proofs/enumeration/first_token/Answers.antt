use Rattle.std.proofs.Common.{arith}
use Rattle.opl_given.proofs.Enumerations.{variants}
use Rattle.opl_given.proofs.enumeration.first_token.Goals as goal

-- src/enumeration.rt:15:1
pub returns-in-Number : goal.returns-in-Number
returns-in-Number c = grind (arith, variants)

-- src/enumeration.rt:15:1
pub returns-in-Named : goal.returns-in-Named
returns-in-Named c = grind (arith, variants)

-- src/enumeration.rt:15:1
pub returns-in-Record : goal.returns-in-Record
returns-in-Record c = grind (arith, variants)

-- src/enumeration.rt:15:1
pub returns-in-Set : goal.returns-in-Set
returns-in-Set c = grind (arith, variants)

-- src/enumeration.rt:15:1
pub returns-in-Array : goal.returns-in-Array
returns-in-Array c = grind (arith, variants)

-- src/enumeration.rt:15:1
pub returns-in-KeyedArray : goal.returns-in-KeyedArray
returns-in-KeyedArray c = grind (arith, variants)
