use Rattle.std.proofs.Common.{◌∙◌, ap, sym}
use Rattle.opl_type_rules.specs.Steps.{unknown, group_names}
use Rattle.opl_type_rules.specs.Values.{within}
use Rattle.opl_type_rules.proofs.Forms.{form_group_step-is}
use Rattle.opl_expression_types.proofs.Patterns.{groups-next}
use Rattle.opl_expression_types.proofs.pattern.unknown_groups.Goals as goal

pub loop-step-preserved : goal.loop-step-preserved
loop-step-preserved c =
    c.loop-step.invariant
    ∙ groups-next _ _ c.args.steps.now c.loop-step.step-index c.step-item.result c.loop-step-test.true c.step-item.is
    (c.in_ok-unknown_group.ensures ∙ ap (λ g. unknown (group_names g) (within c.args.model.now c.loop-step.locals)) (sym (form_group_step-is c.step-item.result)))
