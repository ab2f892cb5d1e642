use Rattle.opl_groups.specs.Visits.{met_at, sees}
use Rattle.opl_groups.proofs.Steps.{steps-groups}
use Rattle.opl_groups.proofs.choices.step.Goals as goal

pub returns-in-Groups : goal.returns-in-Groups
returns-in-Groups c =
    steps-groups (met_at c.args.visit) (sees c.args.scope) c.args.turns.now.chosen.items c.args.ahead c.in-Groups.place c.reach.result c.in-Groups.is c.reach.ensures
