use Rattle.std.proofs.Common.{◌≡◌, drop}
use Rattle.opl_type_rules.specs.Steps.{unknown}
use Rattle.opl_type_rules.specs.Values.{within}
use Rattle.opl_expression_types.proofs.pattern.unknown_names.Given as goal

abbrev pub invariant-loop-name : goal.invariant-loop-name
invariant-loop-name l = unknown l.names (within l.model l.fn.locals) ≡ unknown (drop l.name-index l.names) (within l.model l.locals)
