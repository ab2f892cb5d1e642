use Rattle.std.proofs.Common.{suc, ◌*◌, ◌≤◌, max, [], drop}
use Rattle.opl_steps.specs.Costs.{cost, cost_tasks, cost_choice}
use Rattle.opl_reference_labelling.specs.Outcomes.{outcome}
use Rattle.opl_reference_labelling.proofs.Labels.{IsUnderWay}
use Rattle.opl_reference_search.specs.Made.{rests}
use Rattle.opl_reference_search.specs.Steps.{ways_in}
use Rattle.opl_choices.specs.Branches.{statement_in}
use Rattle.opl_reference_search.specs.Tasks.{tasks_in}
use Rattle.opl_reference_search.proofs.run.+running.Given as goal

abbrev pub decreases-run : goal.decreases-run
decreases-run g l = 2 * cost_tasks (tasks_in l.search.now.core.now l.tasks.now) l.left

abbrev pub decreases-choose : goal.decreases-choose
decreases-choose g l = cost_choice (ways_in l.search.now.core.now l.ways.now) l.left

abbrev pub decreases-commit : goal.decreases-commit
decreases-commit g l = suc (2 * max (cost (statement_in l.search.now.core.now l.step.now) l.left) (cost_tasks (tasks_in l.search.now.core.now l.others.now) l.left))

abbrev pub invariant-choose-loop-way : goal.invariant-choose-loop-way
invariant-choose-loop-way g l =
    let core = l.fn.search.core.now in
    (IsUnderWay core (rests core l.fn.end (ways_in core l.ways)) (rests core l.fn.end (ways_in core (drop l.way-index l.ways))) [] l.fn.best l.fn.left (outcome core l.made))
    × (l.made.left ≤ l.fn.left)
