use Rattle.std.proofs.Common.{arith}
use Rattle.opl_declaration_types.proofs.Declared.{names_within}
use Rattle.opl_declaration_types.proofs.declaration.data.Goals as goal

pub returns-in_err-element : goal.returns-in_err-element
returns-in_err-element c = grind (arith, names_within)

pub returns-in_err-fresh_outside : goal.returns-in_err-fresh_outside
returns-in_err-fresh_outside c = grind (arith, names_within)

pub returns-in_err-initial_value : goal.returns-in_err-initial_value
returns-in_err-initial_value c = grind (arith, names_within)

pub returns : goal.returns
returns c = grind (arith, names_within)
