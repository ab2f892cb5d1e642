use Rattle.std.proofs.Common.{arith}
use Rattle.opl_eval.proofs.SetElements.{parts_of_variants}
use Rattle.opl_eval.proofs.scope.parts_of.Goals as goal

-- src/scope.rt:97:1
pub returns-in-Record : goal.returns-in-Record
returns-in-Record c = grind (arith, parts_of_variants)

-- src/scope.rt:97:1
pub returns-in-Int : goal.returns-in-Int
returns-in-Int c = grind (arith, parts_of_variants)
