use Rattle.std.proofs.Common.{arith, rules, refl}
use Rattle.std.specs.Prelude.{FitsSigned}
use mir.Syntax.{w128}
use Rattle.std.proofs.lemmas.Int.{ints, to_z-of_z}
use Rattle.opl_domain.specs.Span.{magnitude}
use Rattle.opl_domain.specs.Arithmetic.{span_mul}
use Rattle.opl_domain.proofs.Numbers.{mul_below}
use Rattle.opl_domain.proofs.interval.Interval.mul.Goals as goal

pub product-requires : goal.product-requires
product-requires c = mul_below _ _ (magnitude c.args.self) (magnitude c.args.other) _ (omega (arith, ints)) (omega (arith, ints)) c.requires

pub product-requires-2 : goal.product-requires-2
product-requires-2 c = mul_below _ _ (magnitude c.args.self) (magnitude c.args.other) _ (omega (arith, ints)) (omega (arith, ints)) c.requires

pub product-requires-3 : goal.product-requires-3
product-requires-3 c = mul_below _ _ (magnitude c.args.self) (magnitude c.args.other) _ (omega (arith, ints)) (omega (arith, ints)) c.requires

pub product-requires-4 : goal.product-requires-4
product-requires-4 c = mul_below _ _ (magnitude c.args.self) (magnitude c.args.other) _ (omega (arith, ints)) (omega (arith, ints)) c.requires

pub returns : goal.returns
unfolding span_mul
returns c =
    let low_fits : FitsSigned w128 c.lo-low.result = search rules in
    let high_fits : FitsSigned w128 c.hi-high.result = search rules in
    let least_fits : FitsSigned w128 c.lo-least.result = search rules in
    let most_fits : FitsSigned w128 c.hi-most.result = search rules in
    let first_fits : FitsSigned w128 c.product.result = search rules in
    let second_fits : FitsSigned w128 c.product-2.result = search rules in
    let third_fits : FitsSigned w128 c.product-3.result = search rules in
    let fourth_fits : FitsSigned w128 c.product-4.result = search rules in
    let first = simp to_z-of_z at c.product.ensures in
    let second = simp to_z-of_z at c.product-2.ensures in
    let third = simp to_z-of_z at c.product-3.ensures in
    let fourth = simp to_z-of_z at c.product-4.ensures in
    let all = simp to_z-of_z at c.hull_of_four.ensures in
    rw (all, first, second, third, fourth, c.lo-low.ensures.value, c.hi-high.ensures.value, c.lo-least.ensures.value, c.hi-most.ensures.value) refl
