use Rattle.opl_eval.specs.Scopes.{names_in}
use Rattle.opl_eval.proofs.Latest.{items-in, value-declared, value-hidden, value-unknown}
use Rattle.opl_eval.proofs.visible.value_named.Goals as goal

pub returns-in-Some : goal.returns-in-Some
returns-in-Some c = value-hidden (names_in c.args.scope) c.args.name.now c.in-Some.value.now c.in-Some.ensures

pub returns-in-Some-value : goal.returns-in-Some-value
returns-in-Some-value c = value-declared c.args.scope.environment.now (names_in c.args.scope) c.args.name.now c.in-Some-value.value.now (items-in c.args.scope.environment.now c.args.scope.parameters.now c.args.scope.turns.now.chosen.items) c.in-None.ensures c.in-Some-value.ensures

pub returns-in-None-value : goal.returns-in-None-value
returns-in-None-value c = value-unknown c.args.scope.environment.now (names_in c.args.scope) c.args.name.now (items-in c.args.scope.environment.now c.args.scope.parameters.now c.args.scope.turns.now.chosen.items) c.in-None.ensures c.in-None-value.ensures
