use Rattle.std.proofs.Common.{◌+◌}
use Rattle.opl_count.proofs.Readings.{truth_read, room_with, room_without}
use Rattle.opl_count.proofs.reading.add_truth.Goals as goal

pub returns-then-is_negative : goal.returns-then-is_negative
returns-then-is_negative c =
    truth_read c.args.core.now c.args.is_negative c.args.times c.args.c.now c.in-Some.part c.in_ok-literal.field-0 c.args.costs.now c.push.new.self (c.args.costs.now.room + c.args.times) c.in-Some.is c.in_ok-literal.ensures.part c.in_ok-literal.ensures.kind
    c.in_ok-push-in-Some.ensures.ok (room_with c.args.costs.now.room c.args.times c.args.is_negative c.if-is_negative.true)

pub returns-else-is_negative : goal.returns-else-is_negative
returns-else-is_negative c =
    truth_read c.args.core.now c.args.is_negative c.args.times c.args.c.now c.in-Some.part c.in_ok-literal.field-0 c.args.costs.now c.push.new.self c.args.costs.now.room c.in-Some.is c.in_ok-literal.ensures.part c.in_ok-literal.ensures.kind
    c.in_ok-push-in-Some.ensures.ok (room_without c.args.costs.now.room c.args.times c.args.is_negative c.if-is_negative.false)
