use Rattle.std.proofs.Common.{◌≤◌, length, arith, ◌∙◌}
use Rattle.opl_fields.specs.Walk.{walk}
use Rattle.opl_fields.proofs.Lists.{cells_done, keys_done, said}
use Rattle.opl_fields.proofs.Walks.{walk-Aggregate, walk-Described}
use Rattle.opl_fields.proofs.walk.Walk.+walk.Goals as goal

pub term-returns-in_ok-condition-in-Aggregate : goal.term-returns-in_ok-condition-in-Aggregate
term-returns-in_ok-condition-in-Aggregate t c =
    said c.term-in-Aggregate.result c.term-in-Aggregate.new.self _ _ c.term-in-Aggregate.ensures
    (cc (walk-Aggregate c.args.decls.now c.in-Aggregate.field-0 c.in-Aggregate.field-1 c.in-Aggregate.groups c.in-Aggregate.condition c.in-Aggregate.body c.args.self.now, c.in_ok-groups-in-Aggregate.ensures, c.in_ok-condition-in-Aggregate.ensures))

pub term-returns-in_ok-groups-in-Described : goal.term-returns-in_ok-groups-in-Described
term-returns-in_ok-groups-in-Described t c =
    said c.condition-in-Described.result c.condition-in-Described.new.self _ _ c.condition-in-Described.ensures
    (cc (walk-Described c.args.decls.now c.in-Described.field-0 c.in-Described.t c.in-Described.groups c.in-Described.condition c.args.self.now, c.in_ok-term-in-Described.ensures, c.in_ok-groups-in-Described.ensures))

pub term-returns-then-i-cells : goal.term-returns-then-i-cells
term-returns-then-i-cells t c =
    let all : length c.as_slice-cells.result.now ≤ c.loop-i.i = omega arith in
    cells_done (walk c.args.decls.now) c.as_slice-key-items.result.now c.as_slice-cells.result.now c.loop-i.i c.loop-i.self all ∙ c.loop-i.invariant

pub term-returns-after-loop-i : goal.term-returns-after-loop-i
term-returns-after-loop-i t c =
    let all : length c.as_slice-key-items.result.now ≤ c.loop-i.i = omega arith in
    keys_done (walk c.args.decls.now) c.as_slice-key-items.result.now c.as_slice-cells.result.now c.loop-i.i c.loop-i.self all ∙ c.loop-i.invariant
