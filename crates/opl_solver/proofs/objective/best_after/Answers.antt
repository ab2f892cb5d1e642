use Rattle.opl_trace.specs.Run.{values_of}
use Rattle.opl_solver.proofs.Objectives.{sound_goal, best_none, best_some}
use Rattle.opl_solver.proofs.objective.best_after.Goals as goal

pub value_at-requires-clause-sound : goal.value_at-requires-clause-sound
value_at-requires-clause-sound g c = sound_goal c.args.core.now c.in-Some.goal c.requires.sound c.in-Some.is

pub returns-in-None : goal.returns-in-None
returns-in-None g c = best_none c.args.core.now (values_of (g.V.View.family c.args.view.now)) c.args.best c.in-None.is

pub returns-in-Some : goal.returns-in-Some
returns-in-Some g c = best_some c.args.core.now c.in-Some.goal (values_of (g.V.View.family c.args.view.now)) c.args.best c.value_at.result c.in-Some.is c.value_at.ensures
