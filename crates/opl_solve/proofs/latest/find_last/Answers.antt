use Rattle.std.proofs.Common.{Some, None}
use Rattle.opl_solve.proofs.Found.{latest-is, solution-long, standing-ends, standing-step, turn_is}
use Rattle.opl_solve.proofs.latest.find_last.Goals as goal

pub returns-in-Some-clause-found : goal.returns-in-Some-clause-found
returns-in-Some-clause-found g c =
    let t = turn_is c.args.limit c.loop-so_far.so_far c.loop-so_far.machine c.turn.new.machine c.in_ok-turn.field-0 (Some c.in-Some.last) c.in-Some.is c.in_ok-turn.ensures in
    let e = standing-ends c.args.limit c.args.machine.now c.loop-so_far.machine c.turn.new.machine c.loop-so_far.so_far _ c.loop-so_far.invariant c.in-Some.last t in
    (latest-is c.args.limit c.args.machine.now c.loop-so_far.machine c.turn.new.machine c.loop-so_far.so_far _ c.loop-so_far.invariant c.in-Some.last e, e.ending_is)

pub returns-in-Some-clause-choices : goal.returns-in-Some-clause-choices
returns-in-Some-clause-choices g c =
    let t = turn_is c.args.limit c.loop-so_far.so_far c.loop-so_far.machine c.turn.new.machine c.in_ok-turn.field-0 (Some c.in-Some.last) c.in-Some.is c.in_ok-turn.ensures in
    (standing-ends c.args.limit c.args.machine.now c.loop-so_far.machine c.turn.new.machine c.loop-so_far.so_far _ c.loop-so_far.invariant c.in-Some.last t).choices_are

pub returns-in-Some-clause-best : goal.returns-in-Some-clause-best
returns-in-Some-clause-best g c =
    let t = turn_is c.args.limit c.loop-so_far.so_far c.loop-so_far.machine c.turn.new.machine c.in_ok-turn.field-0 (Some c.in-Some.last) c.in-Some.is c.in_ok-turn.ensures in
    (standing-ends c.args.limit c.args.machine.now c.loop-so_far.machine c.turn.new.machine c.loop-so_far.so_far _ c.loop-so_far.invariant c.in-Some.last t).best

pub numbers-requires-clause-long : goal.numbers-requires-clause-long
numbers-requires-clause-long g c =
    let t = turn_is c.args.limit c.loop-so_far.so_far c.loop-so_far.machine c.turn.new.machine c.in_ok-turn.field-0 None c.in-None.is c.in_ok-turn.ensures in
    solution-long c.loop-so_far.machine c.turn.new.machine t.2 t.1

pub loop-so_far-preserved : goal.loop-so_far-preserved
loop-so_far-preserved g c =
    let t = turn_is c.args.limit c.loop-so_far.so_far c.loop-so_far.machine c.turn.new.machine c.in_ok-turn.field-0 None c.in-None.is c.in_ok-turn.ensures in
    rw c.in_ok-numbers-in-None.ensures (standing-step c.args.limit c.args.machine.now c.loop-so_far.machine c.turn.new.machine c.loop-so_far.so_far _ c.loop-so_far.invariant t.0 t.1 t.2)
