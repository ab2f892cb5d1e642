use Rattle.std.proofs.Common.{arith}
use Rattle.opl_given.proofs.Learnt.{sets}
use Rattle.opl_given.proofs.index.index_set.Goals as goal

-- src/index.rt:86:1
pub returns-in-Set : goal.returns-in-Set
returns-in-Set c = grind (arith, sets)

-- src/index.rt:86:1
pub returns-in-Range : goal.returns-in-Range
returns-in-Range c = grind (arith, sets)

-- src/index.rt:86:1
pub returns-in-Names : goal.returns-in-Names
returns-in-Names c = grind (arith, sets)

-- src/index.rt:86:1
pub returns-in-Int : goal.returns-in-Int
returns-in-Int c = grind (arith, sets)
