use Rattle.std.proofs.Common.{◌≡◌, ◌∷◌, drop}
use Rattle.opl_type_rules.specs.Types.{sort}
use Rattle.opl_type_rules.specs.Expressions.{bind_patterns}
use Rattle.opl_type_rules.specs.Values.{within}
use Rattle.opl_expression_types.proofs.expression.bind_patterns.Given as goal

abbrev pub invariant-loop-pattern : goal.invariant-loop-pattern
invariant-loop-pattern l =
    bind_patterns (within l.model l.fn.locals) (sort l.element) (l.first ∷ l.rest)
    ≡ bind_patterns (within l.model l.locals) (sort l.element) (drop l.pattern-index l.rest)
