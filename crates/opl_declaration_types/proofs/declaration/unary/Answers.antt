use Rattle.std.proofs.Common.{arith}
use Rattle.opl_declaration_types.proofs.Declared.{names_within}
use Rattle.opl_type_rules.proofs.Sorts.{sorts}
use Rattle.opl_declaration_types.proofs.declaration.unary.Goals as goal

pub returns-in_err-fresh_outside : goal.returns-in_err-fresh_outside
returns-in_err-fresh_outside c = grind (arith, names_within, sorts)

pub returns : goal.returns
returns c = grind (arith, names_within, sorts)
