use Rattle.std.proofs.Common.{arith}
use Rattle.opl_declaration_types.proofs.Declared.{names_within}
use Rattle.opl_declaration_types.proofs.declaration.variable.Goals as goal

pub returns-in_err-element : goal.returns-in_err-element
returns-in_err-element c = grind (arith, names_within)

pub returns-in_err-fresh_outside : goal.returns-in_err-fresh_outside
returns-in_err-fresh_outside c = grind (arith, names_within)

pub returns-in_err-bounds : goal.returns-in_err-bounds
returns-in_err-bounds c = grind (arith, names_within)

pub returns-then-not-is_decidable : goal.returns-then-not-is_decidable
returns-then-not-is_decidable c = grind (arith, names_within)

pub returns : goal.returns
returns c = grind (arith, names_within)
