use Rattle.std.proofs.Common.{◌∙◌, rules}
use Rattle.opl_expression_types.proofs.Patterns.{values-next}
use Rattle.opl_expression_types.proofs.pattern.bind_names.Goals as goal

pub loop-name-preserved : goal.loop-name-preserved
loop-name-preserved c =
    c.loop-name.invariant
    ∙ values-next c.args.model.now c.args.names.now c.loop-name.name-index c.name-item.result c.loop-name.left.now c.in-Some.ty.now c.in-Some.rest.now c.loop-name.locals c.add_local.new.locals
    c.loop-name-test.true c.name-item.is (search rules) (search rules)
