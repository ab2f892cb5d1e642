use Rattle.std.proofs.Common.{arith}
use Rattle.opl_type_rules.proofs.Sorts.{sorts}
use Rattle.opl_declaration_types.proofs.declaration.variable_type.Goals as goal

pub returns-in_ok-new-in-Int : goal.returns-in_ok-new-in-Int
returns-in_ok-new-in-Int c = grind (arith, sorts)

pub returns-in-Named : goal.returns-in-Named
returns-in-Named c = grind (arith, sorts)
