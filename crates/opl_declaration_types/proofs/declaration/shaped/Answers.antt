use Rattle.std.proofs.Common.{arith}
use Rattle.opl_declaration_types.proofs.Declared.{shapes}
use Rattle.opl_type_rules.proofs.Sorts.{sorts}
use Rattle.opl_declaration_types.proofs.declaration.shaped.Goals as goal

pub returns-in_ok-new-in-Some : goal.returns-in_ok-new-in-Some
returns-in_ok-new-in-Some c = grind (arith, shapes, sorts)
