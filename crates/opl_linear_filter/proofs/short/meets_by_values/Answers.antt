use Rattle.std.proofs.Common.{rules, to_z}
use Rattle.std.specs.Prelude.{FitsSigned}
use mir.Syntax.{w64, w128}
use Rattle.std.proofs.lemmas.Int.{to_z-of_z}
use Rattle.opl_range.proofs.Roots.{found_value, last_value, next_value}
use Rattle.opl_linear_filter.proofs.short.meets_by_values.Goals as goal

pub returns-then-is_value : goal.returns-then-is_value
returns-then-is_value g c =
    let s = c.ranges.shift in
    let j : FitsSigned w128 c.shifted.result = search rules in
    let e = simp to_z-of_z at c.shifted.ensures in
    let f = simp to_z-of_z at c.is_value.ensures in
    let p = simp to_z-of_z at c.loop-x.invariant in
    found_value (g.V.View.family c.args.view.now) c.args.x c.args.y c.args.shift (to_z w64 c.loop-x.v-bits) c.shifted.result c.is_value.result p e f c.if-is_value.true

pub returns-in-None : goal.returns-in-None
returns-in-None g c =
    let s = c.ranges.shift in
    let j : FitsSigned w128 c.shifted.result = search rules in
    let e = simp to_z-of_z at c.shifted.ensures in
    let f = simp to_z-of_z at c.is_value.ensures in
    let p = simp to_z-of_z at c.loop-x.invariant in
    last_value (g.V.View.family c.args.view.now) c.args.x c.args.y c.args.shift (to_z w64 c.loop-x.v-bits) c.shifted.result c.is_value.result p e f c.if-is_value.false (c.in-None.ensures)

pub loop-x-preserved : goal.loop-x-preserved
loop-x-preserved g c =
    let s = c.ranges.shift in
    let j : FitsSigned w128 c.shifted.result = search rules in
    let w : FitsSigned w64 c.in-Some.w = search rules in
    let e = simp to_z-of_z at c.shifted.ensures in
    let f = simp to_z-of_z at c.is_value.ensures in
    let p = simp to_z-of_z at c.loop-x.invariant in
    simp to_z-of_z (next_value (g.V.View.family c.args.view.now) c.args.x c.args.y c.args.shift (to_z w64 c.loop-x.v-bits) c.shifted.result c.in-Some.w c.is_value.result p e f c.if-is_value.false (c.in-Some.ensures))
