use Rattle.std.proofs.Common.{◌≡◌, map, drop}
use Rattle.std.specs.List.{flat_map}
use Rattle.opl_type_rules.specs.Forms.{form_group_step}
use Rattle.opl_type_rules.specs.Steps.{unknown, group_names}
use Rattle.opl_type_rules.specs.Values.{within}
use Rattle.opl_expression_types.proofs.pattern.unknown_groups.Given as goal

abbrev pub invariant-loop-step : goal.invariant-loop-step
invariant-loop-step l =
    unknown (flat_map group_names (map form_group_step l.steps)) (within l.model l.fn.locals)
    ≡ unknown (flat_map group_names (map form_group_step (drop l.step-index l.steps))) (within l.model l.locals)
