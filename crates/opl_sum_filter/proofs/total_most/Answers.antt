use Rattle.std.proofs.Common.{◌-◌, ◌<◌, ◌≤◌, ◌≡◌, get_or, length, rules, arith, refl, ◌+ℤ◌, to_z}
use Rattle.std.specs.Prelude.{FitsSigned}
use mir.Syntax.{w64, w128}
use Rattle.std.proofs.lemmas.Int.{ints, to_z-of_z}
use Rattle.opl_expr.proofs.Parts.{any_default}
use Rattle.opl_sum_filter.proofs.Sums.{more_total}
use Rattle.opl_sum_filter.proofs.total_most.Goals as goal

pub loop-left-preserved : goal.loop-left-preserved
loop-left-preserved g c =
    let F = g.V.View.family c.args.v.now in
    let xs = c.args.variables.now in
    let left = c.loop-left.left in
    let x = get_or xs (left - 1) 0 in
    let total = to_z w128 c.loop-left.total-bits in
    let some : 0 < left = search rules in
    let few : left ≤ length xs = c.loop-left.invariant.0 in
    let here : x ≡ get_or xs (left - 1) x = any_default xs (left - 1) 0 x (omega (arith, some, few)) in
    let narrow : FitsSigned w64 c.max.result = search rules in
    let wide : FitsSigned w128 c.max.result = omega (arith, ints) in
    let fits : FitsSigned w128 (total +ℤ c.max.result) = omega (arith, ints, c.loop-left.invariant.2, c.requires.few, few) in
    simp to_z-of_z (
      omega (arith, few),
      more_total F xs left x total c.max.result (total +ℤ c.max.result) some few here c.loop-left.invariant.1 c.max.ensures refl,
      omega (arith, ints, c.loop-left.invariant.2, few, some),
    )
