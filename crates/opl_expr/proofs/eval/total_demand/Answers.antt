use Rattle.std.proofs.Common.{◌-◌, get_or, rules, arith, pos, to_z}
use Rattle.std.specs.Prelude.{FitsSigned}
use mir.Syntax.{w64, w128}
use Rattle.std.proofs.lemmas.Int.{to_z-of_z}
use Rattle.opl_expr.specs.declared.tables.Use.{Use}
use Rattle.opl_expr.proofs.Parts.{use_there, added_small, total_more, idle, busy}
use Rattle.opl_expr.proofs.eval.total_demand.Goals as goal

pub is_active-requires-clause-start : goal.is_active-requires-clause-start
is_active-requires-clause-start c = (use_there _ _ _ _ (omega (arith, c.loop-left.invariant.0)) c.requires.there).0

pub is_active-requires-clause-duration : goal.is_active-requires-clause-duration
is_active-requires-clause-duration c = (use_there _ _ _ _ (omega (arith, c.loop-left.invariant.0)) c.requires.there).1

pub added-total-requires : goal.added-total-requires
added-total-requires c =
    let none : Use = record { demand = pos 0; start = 0; duration = 0 } in
    let time : FitsSigned w64 c.args.time = c.ranges.time in
    let fits : FitsSigned w128 (get_or c.args.uses.now (c.loop-left.left - 1) none).demand = search rules in
    let total = simp to_z-of_z at c.loop-left.invariant.1 in
    simp to_z-of_z (added_small c.args.values.now c.args.time c.args.uses.now c.loop-left.left none (to_z w128 c.loop-left.total-bits) c.loop-left-test.true c.loop-left.invariant.0 c.requires.small total)

pub loop-left-preserved : goal.loop-left-preserved
loop-left-preserved c =
    let none : Use = record { demand = pos 0; start = 0; duration = 0 } in
    let time : FitsSigned w64 c.args.time = c.ranges.time in
    let total = simp to_z-of_z at c.loop-left.invariant.1 in
    let test = simp to_z-of_z at (c.if-is_active.ensures) in (
      omega (arith, c.loop-left.invariant.0),
      simp to_z-of_z (total_more c.args.values.now c.args.time c.args.uses.now c.loop-left.left none (to_z w128 c.loop-left.total-bits) (to_z w128 c.loop-left.total-bits) c.loop-left-test.true c.loop-left.invariant.0 total
          (idle c.args.values.now c.args.time (get_or c.args.uses.now (c.loop-left.left - 1) none) (to_z w128 c.loop-left.total-bits) test)),
    )

pub loop-left-preserved-then-is_active : goal.loop-left-preserved-then-is_active
loop-left-preserved-then-is_active c =
    let none : Use = record { demand = pos 0; start = 0; duration = 0 } in
    let time : FitsSigned w64 c.args.time = c.ranges.time in
    let fits : FitsSigned w128 (get_or c.args.uses.now (c.loop-left.left - 1) none).demand = search rules in
    let sum : FitsSigned w128 c.added-total.result = search rules in
    let total = simp to_z-of_z at c.loop-left.invariant.1 in
    let test = simp to_z-of_z at (c.if-is_active.ensures) in
    let more = simp to_z-of_z at c.added-total.ensures in (
      omega (arith, c.loop-left.invariant.0),
      simp to_z-of_z (total_more c.args.values.now c.args.time c.args.uses.now c.loop-left.left none (to_z w128 c.loop-left.total-bits) c.added-total.result c.loop-left-test.true c.loop-left.invariant.0 total
          (busy c.args.values.now c.args.time (get_or c.args.uses.now (c.loop-left.left - 1) none) (to_z w128 c.loop-left.total-bits) c.added-total.result test more)),
    )
