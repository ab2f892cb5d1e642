use Rattle.std.proofs.Common.{◌≡◌, ◌++◌, drop}
use Rattle.opl_type_rules.specs.Steps.{taken}
use Rattle.opl_type_rules.specs.Values.{within}
use Rattle.opl_expression_types.proofs.pattern.take_names.Given as goal

abbrev pub invariant-loop-name : goal.invariant-loop-name
invariant-loop-name l = taken (within l.model (l.locals ++ l.fn.taken)) l.names ≡ taken (within l.model (l.locals ++ l.taken)) (drop l.name-index l.names)
