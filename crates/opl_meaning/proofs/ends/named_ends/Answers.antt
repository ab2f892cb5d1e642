use Rattle.std.proofs.Common.{sym, ◌∙◌}
use Rattle.opl_meaning.proofs.VariableNames.{declared_reach, hidden_reach, unknown_reach}
use Rattle.opl_meaning.proofs.ends.named_ends.Goals as goal

pub returns-then-is_hidden : goal.returns-then-is_hidden
returns-then-is_hidden c =
    hidden_reach c.args.visible.environment.now c.args.visible.parameters.now c.args.name.now (sym c.is_hidden.ensures ∙ c.if-is_hidden.true) c.no_ends.result c.no_ends.ensures

pub returns-in-Some : goal.returns-in-Some
returns-in-Some c =
    declared_reach c.args.visible.environment.now c.args.visible.parameters.now c.args.name.now (sym c.is_hidden.ensures ∙ c.if-is_hidden.false) c.value_ends.result c.in-Some.value.now c.in-Some.ensures c.value_ends.ensures

pub returns-in-None : goal.returns-in-None
returns-in-None c =
    unknown_reach c.args.visible.environment.now c.args.visible.parameters.now c.args.name.now (sym c.is_hidden.ensures ∙ c.if-is_hidden.false) c.no_ends-in-None.result c.in-None.ensures c.no_ends-in-None.ensures
