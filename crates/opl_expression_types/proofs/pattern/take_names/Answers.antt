use Rattle.std.proofs.Common.{arith}
use Rattle.opl_expression_types.proofs.Patterns.{names_taken}
use Rattle.opl_expression_types.proofs.pattern.take_names.Goals as goal

-- src/pattern.rt:48:5
pub loop-name-init : goal.loop-name-init
loop-name-init c = grind (arith, names_taken)
