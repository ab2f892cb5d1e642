use Rattle.std.proofs.Common.{arith}
use Rattle.opl_eval.proofs.TermItems.{items_of_sets}
use Rattle.opl_eval.proofs.scope.declaration_of.Goals as goal

-- src/scope.rt:56:1
pub returns-in-Whole : goal.returns-in-Whole
returns-in-Whole c = grind (arith, items_of_sets)

-- src/scope.rt:56:1
pub returns-in-Between : goal.returns-in-Between
returns-in-Between c = grind (arith, items_of_sets)
