use Rattle.std.proofs.Common.{arith}
use Rattle.opl_declaration_types.proofs.Declared.{names_within}
use Rattle.opl_declaration_types.proofs.declaration.enumeration.Goals as goal

pub returns-in_err-fresh_outside : goal.returns-in_err-fresh_outside
returns-in_err-fresh_outside c = grind (arith, names_within)

pub returns-in_err-enum_name-in-Listed : goal.returns-in_err-enum_name-in-Listed
returns-in_err-enum_name-in-Listed c = grind (arith, names_within)

pub returns-in_ok-enum_name-in-Listed : goal.returns-in_ok-enum_name-in-Listed
returns-in_ok-enum_name-in-Listed c = grind (arith, names_within)

pub returns-in-External : goal.returns-in-External
returns-in-External c = grind (arith, names_within)
