use Rattle.std.proofs.Common.{rules}
use Rattle.std.specs.Prelude.{FitsSigned}
use mir.Syntax.{w128}
use Rattle.std.proofs.lemmas.Int.{to_z-of_z}
use Rattle.opl_filter.proofs.Refuting.{refutes_falls}
use Rattle.opl_filter.proofs.Mentioned.{refutes_looks}
use Rattle.opl_trace.specs.Objective.{better_than}
use Rattle.opl_objective_filter.specs.ObjectiveFilters.{goal_in}
use Rattle.opl_engine.proofs.Made.{inside_declared}
use Rattle.opl_engine.proofs.Resting.{bound_variables}
use Rattle.opl_engine.proofs.bound.sweep_better.Goals as goal

pub remove_dead-requires-clause-falls : goal.remove_dead-requires-clause-falls
remove_dead-requires-clause-falls g c =
    let fits : FitsSigned w128 c.args.best = search rules in
    rw (to_z-of_z w128 c.args.best fits) (refutes_falls (better_than (goal_in c.args.core.now c.args.goal.now) c.args.best))

pub remove_dead-requires-clause-there : goal.remove_dead-requires-clause-there
remove_dead-requires-clause-there g c = λ x h. inside_declared c.args.core.now _ x c.requires.declared.same (c.requires.there x h)

pub remove_dead-requires-clause-others : goal.remove_dead-requires-clause-others
remove_dead-requires-clause-others g c =
    let fits : FitsSigned w128 c.args.best = search rules in
    rw (to_z-of_z w128 c.args.best fits)
    (refutes_looks (better_than (goal_in c.args.core.now c.args.goal.now) c.args.best) c.args.variables.now
    (bound_variables (goal_in c.args.core.now c.args.goal.now) c.args.best c.args.variables.now c.requires.named))
