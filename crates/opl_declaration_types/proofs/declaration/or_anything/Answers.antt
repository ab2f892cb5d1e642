use Rattle.std.proofs.Common.{arith}
use Rattle.opl_type_rules.proofs.Sorts.{sorts}
use Rattle.opl_declaration_types.proofs.declaration.or_anything.Goals as goal

pub returns-in-Some : goal.returns-in-Some
returns-in-Some c = grind (arith, sorts)

pub returns-in_ok-new-in-None : goal.returns-in_ok-new-in-None
returns-in_ok-new-in-None c = grind (arith, sorts)
