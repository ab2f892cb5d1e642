use Rattle.std.proofs.Common.{arith}
use Rattle.opl_given.proofs.Learnt.{views}
use Rattle.opl_given.proofs.learn.parts_known.Goals as goal

-- src/learn.rt:11:1
pub returns-in-Record : goal.returns-in-Record
returns-in-Record c = grind (arith, views)

-- src/learn.rt:11:1
pub returns-in-Nothing : goal.returns-in-Nothing
returns-in-Nothing c = grind (arith, views)
