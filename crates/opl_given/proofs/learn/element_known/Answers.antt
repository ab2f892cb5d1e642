use Rattle.std.proofs.Common.{arith}
use Rattle.opl_given.proofs.Learnt.{views}
use Rattle.opl_given.proofs.learn.element_known.Goals as goal

-- src/learn.rt:27:1
pub returns-in-Set : goal.returns-in-Set
returns-in-Set c = grind (arith, views)

-- src/learn.rt:27:1
pub returns-in-Nothing : goal.returns-in-Nothing
returns-in-Nothing c = grind (arith, views)
