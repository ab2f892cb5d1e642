use Rattle.std.proofs.Common.{arith}
use Rattle.opl_declaration_types.proofs.Declared.{names_within}
use Rattle.opl_declaration_types.proofs.declaration.range.Goals as goal

pub returns-in_err-fresh_outside : goal.returns-in_err-fresh_outside
returns-in_err-fresh_outside c = grind (arith, names_within)

pub returns-in_err-number : goal.returns-in_err-number
returns-in_err-number c = grind (arith, names_within)

pub returns-in_err-number-2 : goal.returns-in_err-number-2
returns-in_err-number-2 c = grind (arith, names_within)

pub returns : goal.returns
returns c = grind (arith, names_within)
