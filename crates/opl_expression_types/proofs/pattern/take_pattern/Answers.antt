use Rattle.std.proofs.Common.{arith}
use Rattle.opl_expression_types.proofs.Patterns.{names_taken}
use Rattle.opl_expression_types.proofs.pattern.take_pattern.Goals as goal

-- src/pattern.rt:68:13
pub returns-in_err-take_name-in-Record : goal.returns-in_err-take_name-in-Record
returns-in_err-take_name-in-Record c = grind (arith, names_taken)

-- src/pattern.rt:55:1
pub returns-in-Single : goal.returns-in-Single
returns-in-Single c = grind (arith, names_taken)

-- src/pattern.rt:55:1
pub returns-in_ok-take_name-in-Record : goal.returns-in_ok-take_name-in-Record
returns-in_ok-take_name-in-Record c = grind (arith, names_taken)
