use Rattle.opl_objective_filter.specs.ObjectiveFilters.{goal_in}
use Rattle.opl_engine.proofs.Made.{objective_some}
use Rattle.opl_engine.proofs.member.filter_bound.Goals as goal

pub keep_better-requires-clause-sound : goal.keep_better-requires-clause-sound
keep_better-requires-clause-sound g c =
    let core = c.args.core.now in
    (c.requires.goal (goal_in core c.in-Some-goal.goal) (objective_some core c.in-Some-goal.goal c.in-Some-goal.is)).0.sound

pub keep_better-requires-clause-named : goal.keep_better-requires-clause-named
keep_better-requires-clause-named g c =
    let core = c.args.core.now in
    (c.requires.goal (goal_in core c.in-Some-goal.goal) (objective_some core c.in-Some-goal.goal c.in-Some-goal.is)).0.named

pub keep_better-requires-clause-form : goal.keep_better-requires-clause-form
keep_better-requires-clause-form g c =
    let core = c.args.core.now in
    (c.requires.goal (goal_in core c.in-Some-goal.goal) (objective_some core c.in-Some-goal.goal c.in-Some-goal.is)).1
