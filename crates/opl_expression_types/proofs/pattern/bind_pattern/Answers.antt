use Rattle.std.proofs.Common.{arith}
use Rattle.opl_type_rules.proofs.Sorts.{sorts}
use Rattle.opl_expression_types.proofs.Patterns.{patterns_bound}
use Rattle.opl_expression_types.proofs.pattern.bind_pattern.Goals as goal

-- src/pattern.rt:178:60
pub returns-in_err-copy-in-Single : goal.returns-in_err-copy-in-Single
returns-in_err-copy-in-Single c = grind (arith, sorts, patterns_bound)

-- src/pattern.rt:178:13
pub returns-in_err-add_local-in-Single : goal.returns-in_err-add_local-in-Single
returns-in_err-add_local-in-Single c = grind (arith, sorts, patterns_bound)

-- src/pattern.rt:166:1
pub returns-in_ok-add_local-in-Single : goal.returns-in_ok-add_local-in-Single
returns-in_ok-add_local-in-Single c = grind (arith, sorts, patterns_bound)

-- src/pattern.rt:166:1
pub returns-in-Record : goal.returns-in-Record
returns-in-Record c = grind (arith, sorts, patterns_bound)
