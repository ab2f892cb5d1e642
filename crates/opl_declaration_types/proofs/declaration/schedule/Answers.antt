use Rattle.std.proofs.Common.{arith}
use Rattle.opl_declaration_types.proofs.Declared.{names_within}
use Rattle.opl_declaration_types.proofs.declaration.schedule.Goals as goal

pub returns-in_err-number : goal.returns-in_err-number
returns-in_err-number c = grind (arith, names_within)

pub returns-then-is_given : goal.returns-then-is_given
returns-then-is_given c = grind (arith, names_within)

pub returns : goal.returns
returns c = grind (arith, names_within)
