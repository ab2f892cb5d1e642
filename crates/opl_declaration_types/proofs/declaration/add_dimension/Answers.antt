use Rattle.std.proofs.Common.{arith}
use Rattle.opl_declaration_types.proofs.Declared.{names_within}
use Rattle.opl_declaration_types.proofs.declaration.add_dimension.Goals as goal

pub returns-in_err-fresh_name : goal.returns-in_err-fresh_name
returns-in_err-fresh_name c = grind (arith, names_within)

pub returns : goal.returns
returns c = grind (arith, names_within)
