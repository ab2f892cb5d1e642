use Rattle.std.proofs.Common.{arith}
use Rattle.opl_eval.proofs.SetElements.{elements_of_arrays}
use Rattle.opl_eval.proofs.connect.element_of.Goals as goal

-- src/connect.rt:213:1
pub returns-in-Some : goal.returns-in-Some
returns-in-Some c = grind (arith, elements_of_arrays)

-- src/connect.rt:213:1
pub returns-in-None : goal.returns-in-None
returns-in-None c = grind (arith, elements_of_arrays)

-- src/connect.rt:213:1
pub returns-in-Int : goal.returns-in-Int
returns-in-Int c = grind (arith, elements_of_arrays)
