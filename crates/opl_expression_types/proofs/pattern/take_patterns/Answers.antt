use Rattle.std.proofs.Common.{◌∙◌, ◌++◌, rules}
use Rattle.opl_type_rules.specs.Expressions.{pattern_names}
use Rattle.opl_type_rules.specs.Steps.{taken}
use Rattle.opl_type_rules.specs.Values.{within}
use Rattle.opl_expression_types.proofs.Patterns.{patterns-next, patterns-stop, fault-of}
use Rattle.opl_expression_types.proofs.pattern.take_patterns.Goals as goal

pub returns-in_err-take_pattern : goal.returns-in_err-take_pattern
returns-in_err-take_pattern c =
    fault-of {B = Unit {0}} (λ u. within c.args.model.now (c.args.locals.now ++ c.take_pattern.new.taken)) _ (taken (within c.args.model.now (c.args.locals.now ++ c.loop-pattern.taken)) (pattern_names c.pattern-item.result)) _ _ c.in_err-take_pattern.field-0.0
    (λ f h. c.loop-pattern.invariant ∙ patterns-stop _ f c.args.patterns.now c.loop-pattern.pattern-index c.pattern-item.result c.loop-pattern-test.true c.pattern-item.is h)
    c.in_err-take_pattern.ensures (search rules)

pub loop-pattern-preserved : goal.loop-pattern-preserved
loop-pattern-preserved c =
    c.loop-pattern.invariant
    ∙ patterns-next _ _ c.args.patterns.now c.loop-pattern.pattern-index c.pattern-item.result c.loop-pattern-test.true c.pattern-item.is c.in_ok-take_pattern.ensures
