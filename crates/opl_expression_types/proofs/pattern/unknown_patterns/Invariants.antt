use Rattle.std.proofs.Common.{◌≡◌, drop}
use Rattle.std.specs.List.{flat_map}
use Rattle.opl_type_rules.specs.Expressions.{pattern_names}
use Rattle.opl_type_rules.specs.Steps.{unknown}
use Rattle.opl_type_rules.specs.Values.{within}
use Rattle.opl_expression_types.proofs.pattern.unknown_patterns.Given as goal

abbrev pub invariant-loop-pattern : goal.invariant-loop-pattern
invariant-loop-pattern l =
    unknown (flat_map pattern_names l.patterns) (within l.model l.fn.locals)
    ≡ unknown (flat_map pattern_names (drop l.pattern-index l.patterns)) (within l.model l.locals)
