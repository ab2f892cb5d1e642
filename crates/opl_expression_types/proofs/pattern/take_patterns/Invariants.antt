use Rattle.std.proofs.Common.{◌≡◌, ◌++◌, drop}
use Rattle.std.specs.List.{flat_map}
use Rattle.opl_type_rules.specs.Expressions.{pattern_names}
use Rattle.opl_type_rules.specs.Steps.{taken}
use Rattle.opl_type_rules.specs.Values.{within}
use Rattle.opl_expression_types.proofs.pattern.take_patterns.Given as goal

abbrev pub invariant-loop-pattern : goal.invariant-loop-pattern
invariant-loop-pattern l =
    taken (within l.model (l.locals ++ l.fn.taken)) (flat_map pattern_names l.patterns)
    ≡ taken (within l.model (l.locals ++ l.taken)) (flat_map pattern_names (drop l.pattern-index l.patterns))
