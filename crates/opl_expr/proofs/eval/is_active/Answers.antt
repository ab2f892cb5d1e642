use Rattle.std.proofs.Common.{◌+ℤ◌, get_or, refl, rules, arith, pos}
use Rattle.std.specs.Prelude.{FitsSigned}
use mir.Syntax.{w64, w128}
use Rattle.std.proofs.lemmas.Int.{ints, to_z-of_z}
use Rattle.opl_expr.proofs.eval.is_active.Goals as goal

pub returns-then-start-time : goal.returns-then-start-time
returns-then-start-time c =
    let start : FitsSigned w64 (get_or c.args.values.now c.args.u.now.start (pos 0)) = search rules in
    let duration : FitsSigned w64 (get_or c.args.values.now c.args.u.now.duration (pos 0)) = search rules in
    let time : FitsSigned w64 c.args.time = c.ranges.time in
    let wide_start : FitsSigned w128 (get_or c.args.values.now c.args.u.now.start (pos 0)) = omega (arith, ints) in
    let wide_duration : FitsSigned w128 (get_or c.args.values.now c.args.u.now.duration (pos 0)) = omega (arith, ints) in
    let wide_time : FitsSigned w128 c.args.time = omega (arith, ints) in
    let end : FitsSigned w128 (get_or c.args.values.now c.args.u.now.start (pos 0) +ℤ get_or c.args.values.now c.args.u.now.duration (pos 0)) = omega (arith, ints) in
    let test = simp to_z-of_z at c.if-start-time.true in
    simp to_z-of_z (rw test refl)
