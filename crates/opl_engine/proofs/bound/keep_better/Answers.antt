use Rattle.std.proofs.Common.{subst}
use Rattle.opl_objective_filter.specs.ObjectiveFilters.{goal_in}
use Rattle.opl_engine.specs.Members.{IsObjectiveFilterIfAny}
use Rattle.opl_engine.proofs.bound.keep_better.Goals as goal

pub filter-requires-clause-objective : goal.filter-requires-clause-objective
filter-requires-clause-objective g c = subst (IsObjectiveFilterIfAny c.args.core.now (goal_in c.args.core.now c.args.goal.now)) c.in-Some.is c.requires.form
