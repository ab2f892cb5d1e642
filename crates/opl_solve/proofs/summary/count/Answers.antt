use Rattle.std.proofs.Common.{Some, None}
use Rattle.opl_solve.proofs.Counting.{counting-count, counting-ends, counting-step}
use Rattle.opl_solve.proofs.Found.{turn_is}
use Rattle.opl_solve.proofs.summary.count.Goals as goal

pub returns-in-Some-clause-shown : goal.returns-in-Some-clause-shown
returns-in-Some-clause-shown g c =
    let t = turn_is None c.loop-so_far.so_far c.loop-so_far.machine c.turn.new.machine c.in_ok-turn.field-0 (Some c.in-Some.last) c.in-Some.is c.in_ok-turn.ensures in (
      counting-count None c.args.machine.now c.loop-so_far.machine c.turn.new.machine c.loop-so_far.so_far c.loop-so_far.solutions c.loop-so_far.invariant c.in-Some.last t,
      (counting-ends None c.args.machine.now c.loop-so_far.machine c.turn.new.machine c.loop-so_far.so_far c.loop-so_far.solutions c.loop-so_far.invariant c.in-Some.last t).ending_is,
    )

pub returns-in-Some-clause-choices : goal.returns-in-Some-clause-choices
returns-in-Some-clause-choices g c =
    let t = turn_is None c.loop-so_far.so_far c.loop-so_far.machine c.turn.new.machine c.in_ok-turn.field-0 (Some c.in-Some.last) c.in-Some.is c.in_ok-turn.ensures in
    (counting-ends None c.args.machine.now c.loop-so_far.machine c.turn.new.machine c.loop-so_far.so_far c.loop-so_far.solutions c.loop-so_far.invariant c.in-Some.last t).choices_are

pub returns-in-Some-clause-best : goal.returns-in-Some-clause-best
returns-in-Some-clause-best g c =
    let t = turn_is None c.loop-so_far.so_far c.loop-so_far.machine c.turn.new.machine c.in_ok-turn.field-0 (Some c.in-Some.last) c.in-Some.is c.in_ok-turn.ensures in
    (counting-ends None c.args.machine.now c.loop-so_far.machine c.turn.new.machine c.loop-so_far.so_far c.loop-so_far.solutions c.loop-so_far.invariant c.in-Some.last t).best

pub loop-so_far-preserved : goal.loop-so_far-preserved
loop-so_far-preserved g c =
    let t = turn_is None c.loop-so_far.so_far c.loop-so_far.machine c.turn.new.machine c.in_ok-turn.field-0 None c.in-None.is c.in_ok-turn.ensures in
    counting-step None c.args.machine.now c.loop-so_far.machine c.turn.new.machine c.loop-so_far.so_far c.loop-so_far.solutions c.loop-so_far.invariant c.saturating_add-solutions.result t c.saturating_add-solutions.ensures
