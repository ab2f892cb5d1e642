use Rattle.opl_groups.specs.Visits.{sees}
use Rattle.opl_optimum.specs.Optima.{is_greatest}
use Rattle.opl_posting.proofs.Objectives.{aim-made, aim-refused}
use Rattle.opl_posting.proofs.aiming.term_objective.Goals as goal

pub returns-in_ok-aim-in-Ok : goal.returns-in_ok-aim-in-Ok
returns-in_ok-aim-in-Ok c =
    aim-made c.args.plan (sees c.args.scope) (is_greatest c.args.optimum) c.args.term.now c.place.result c.place.ensures _ c.in-Ok.part c.in_ok-aim-in-Ok.aim c.in-Ok.ensures
    (c.in_ok-aim-in-Ok.ensures.goal c.args.term.now) c.in_ok-aim-in-Ok.ensures.nodes

pub returns-in-Err : goal.returns-in-Err
returns-in-Err c = aim-refused c.args.plan (sees c.args.scope) (is_greatest c.args.optimum) c.args.term.now c.place.result c.place.ensures c.in-Err.fault c.in-Err.ensures
