use Rattle.std.proofs.Common.{sym}
use Rattle.std.specs.Option.{option_copied}
use Rattle.opl_eval.specs.Scopes.{names_in}
use Rattle.opl_eval.proofs.Latest.{item-hidden, item-visible, items-in}
use Rattle.opl_eval.proofs.visible.entry_named.Goals as goal

pub returns-in-Some : goal.returns-in-Some
returns-in-Some c = sym (item-hidden (names_in c.args.scope) c.args.name.now c.in-Some.field-0.now c.in-Some.ensures)

pub returns-in-None : goal.returns-in-None
returns-in-None c =
    item-visible c.args.scope.environment.now (names_in c.args.scope) c.args.name.now (option_copied c.entry.result) (items-in c.args.scope.environment.now c.args.scope.parameters.now c.args.scope.turns.now.chosen.items) c.in-None.ensures c.entry.ensures
