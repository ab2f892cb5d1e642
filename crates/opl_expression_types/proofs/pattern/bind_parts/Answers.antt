use Rattle.std.proofs.Common.{arith}
use Rattle.opl_expression_types.proofs.Patterns.{parts_bound}
use Rattle.opl_expression_types.proofs.pattern.bind_parts.Goals as goal

-- src/pattern.rt:147:9
pub returns-then-others-rest : goal.returns-then-others-rest
returns-then-others-rest c = grind (arith, parts_bound)

-- src/pattern.rt:149:53
pub returns-in_err-copy : goal.returns-in_err-copy
returns-in_err-copy c = grind (arith, parts_bound)

-- src/pattern.rt:149:5
pub returns-in_err-add_local : goal.returns-in_err-add_local
returns-in_err-add_local c = grind (arith, parts_bound)

-- src/pattern.rt:150:5
pub returns-in_err-bind_names : goal.returns-in_err-bind_names
returns-in_err-bind_names c = grind (arith, parts_bound)

-- src/pattern.rt:131:1
pub returns : goal.returns
returns c = grind (arith, parts_bound)
