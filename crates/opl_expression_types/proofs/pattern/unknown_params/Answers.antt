use Rattle.std.proofs.Common.{arith}
use Rattle.opl_expression_types.proofs.Patterns.{params_unknown}
use Rattle.opl_expression_types.proofs.pattern.unknown_params.Goals as goal

-- src/pattern.rt:328:21
pub returns-in_err-found : goal.returns-in_err-found
returns-in_err-found c = grind (arith, params_unknown)

-- src/pattern.rt:329:5
pub returns-in_err-unknown_group : goal.returns-in_err-unknown_group
returns-in_err-unknown_group c = grind (arith, params_unknown)

-- src/pattern.rt:330:5
pub returns-in_err-unknown_groups : goal.returns-in_err-unknown_groups
returns-in_err-unknown_groups c = grind (arith, params_unknown)

-- src/pattern.rt:319:1
pub returns : goal.returns
returns c = grind (arith, params_unknown)
