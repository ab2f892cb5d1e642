use Rattle.std.proofs.Common.{◌∙◌}
use Rattle.opl_expression_types.proofs.Patterns.{unknown-next}
use Rattle.opl_expression_types.proofs.pattern.unknown_patterns.Goals as goal

pub loop-pattern-preserved : goal.loop-pattern-preserved
loop-pattern-preserved c =
    c.loop-pattern.invariant
    ∙ unknown-next _ _ c.args.patterns.now c.loop-pattern.pattern-index c.pattern-item.result c.loop-pattern-test.true c.pattern-item.is c.in_ok-unknown_pattern.ensures
