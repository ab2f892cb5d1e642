use Rattle.std.proofs.Common.{Some, None}
use Rattle.std.proofs.lemmas.Result.{err_from_is_err_and}
use Rattle.opl_solve.proofs.Found.{solution-long, turn_is}
use Rattle.opl_solve.proofs.Going.{going-step, going-stop, going-end, going-ends, going-count}
use Rattle.opl_solve.proofs.each.show_each.Goals as goal

pub show_answer-requires-clause-long : goal.show_answer-requires-clause-long
show_answer-requires-clause-long g c =
    let t = turn_is c.args.limit c.loop-so_far.so_far c.loop-so_far.machine c.turn.new.machine c.in_ok-turn.field-0 None c.in-None.is c.in_ok-turn.ensures in
    solution-long c.loop-so_far.machine c.turn.new.machine t.2 t.1

pub returns-in_err-show_answer-in-None-clause-prints : goal.returns-in_err-show_answer-in-None-clause-prints
returns-in_err-show_answer-in-None-clause-prints g c =
    let p = err_from_is_err_and c.from_residual-in_err-show_answer-in-None.result c.from_residual-in_err-show_answer-in-None.ensures.1 in
    let t = turn_is c.args.limit c.loop-so_far.so_far c.loop-so_far.machine c.turn.new.machine c.in_ok-turn.field-0 None c.in-None.is c.in_ok-turn.ensures in
    rw (p.1, p.2) (going-stop _ _ c.args.limit c.args.machine.now c.loop-so_far.machine c.turn.new.machine c.loop-so_far.so_far c.loop-so_far.shown c.saturating_add-shown.result _ _ _ _ _ _ c.loop-so_far.invariant
    t c.saturating_add-shown.ensures c.in_err-show_answer-in-None.field-0.0 c.in_err-show_answer-in-None.ensures)

pub returns-in-Some-clause-prints : goal.returns-in-Some-clause-prints
returns-in-Some-clause-prints g c =
    going-end _ _ c.args.limit c.args.machine.now c.loop-so_far.machine c.turn.new.machine c.loop-so_far.so_far c.loop-so_far.shown _ _ _ _ c.loop-so_far.invariant _ c.in-Some.last
    (turn_is c.args.limit c.loop-so_far.so_far c.loop-so_far.machine c.turn.new.machine c.in_ok-turn.field-0 (Some c.in-Some.last) c.in-Some.is c.in_ok-turn.ensures)

pub returns-in-Some-clause-shown : goal.returns-in-Some-clause-shown
returns-in-Some-clause-shown g c =
    let t = turn_is c.args.limit c.loop-so_far.so_far c.loop-so_far.machine c.turn.new.machine c.in_ok-turn.field-0 (Some c.in-Some.last) c.in-Some.is c.in_ok-turn.ensures in (
      going-count _ _ c.args.limit c.args.machine.now c.loop-so_far.machine c.turn.new.machine c.loop-so_far.so_far c.loop-so_far.shown _ _ _ _ c.loop-so_far.invariant c.in-Some.last t,
      (going-ends _ _ c.args.limit c.args.machine.now c.loop-so_far.machine c.turn.new.machine c.loop-so_far.so_far c.loop-so_far.shown _ _ _ _ c.loop-so_far.invariant c.in-Some.last t).ending_is,
    )

pub returns-in-Some-clause-choices : goal.returns-in-Some-clause-choices
returns-in-Some-clause-choices g c =
    let t = turn_is c.args.limit c.loop-so_far.so_far c.loop-so_far.machine c.turn.new.machine c.in_ok-turn.field-0 (Some c.in-Some.last) c.in-Some.is c.in_ok-turn.ensures in
    (going-ends _ _ c.args.limit c.args.machine.now c.loop-so_far.machine c.turn.new.machine c.loop-so_far.so_far c.loop-so_far.shown _ _ _ _ c.loop-so_far.invariant c.in-Some.last t).choices_are

pub returns-in-Some-clause-best : goal.returns-in-Some-clause-best
returns-in-Some-clause-best g c =
    let t = turn_is c.args.limit c.loop-so_far.so_far c.loop-so_far.machine c.turn.new.machine c.in_ok-turn.field-0 (Some c.in-Some.last) c.in-Some.is c.in_ok-turn.ensures in
    (going-ends _ _ c.args.limit c.args.machine.now c.loop-so_far.machine c.turn.new.machine c.loop-so_far.so_far c.loop-so_far.shown _ _ _ _ c.loop-so_far.invariant c.in-Some.last t).best

pub loop-so_far-preserved : goal.loop-so_far-preserved
loop-so_far-preserved g c =
    let t = turn_is c.args.limit c.loop-so_far.so_far c.loop-so_far.machine c.turn.new.machine c.in_ok-turn.field-0 None c.in-None.is c.in_ok-turn.ensures in
    going-step _ _ c.args.limit c.args.machine.now c.loop-so_far.machine c.turn.new.machine c.loop-so_far.so_far c.loop-so_far.shown c.saturating_add-shown.result _ _ _ _ _ _ c.loop-so_far.invariant
    t c.saturating_add-shown.ensures tt c.in_ok-show_answer-in-None.ensures
