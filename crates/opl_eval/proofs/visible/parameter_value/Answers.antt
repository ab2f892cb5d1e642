use Rattle.std.proofs.Common.{map, None, sym, ◌∙◌}
use Rattle.opl_eval.specs.Evaluation.{parameter_or}
use Rattle.opl_eval.specs.Visible.{parameter_of}
use Rattle.opl_eval.proofs.Latest.{parameter-in}
use Rattle.opl_eval.proofs.visible.parameter_value.Goals as goal

pub returns-in-Some : goal.returns-in-Some
returns-in-Some c = sym (parameter-in c.args.scope.environment.now c.args.scope.parameters.now c.args.scope.turns.now.chosen.items c.args.name.now ∙ c.in-Some.ensures (parameter_or None c.args.name.now (map parameter_of c.args.scope.parameters.now)))

pub returns-in-None : goal.returns-in-None
returns-in-None c =
    c.given_value.ensures
    ∙ sym (parameter-in c.args.scope.environment.now c.args.scope.parameters.now c.args.scope.turns.now.chosen.items c.args.name.now ∙ c.in-None.ensures (parameter_or None c.args.name.now (map parameter_of c.args.scope.parameters.now)))
