use Rattle.std.proofs.Common.{arith, ◌-ℤ◌}
use Rattle.std.specs.Prelude.{FitsSigned}
use mir.Syntax.{w128}
use Rattle.std.proofs.lemmas.Int.{ints}
use Rattle.opl_domain.proofs.Numbers.{span_is}
use Rattle.opl_addends.proofs.Going.{less_low, less_high}
use Rattle.opl_addends.proofs.rounds.less.Goals as goal

pub overflow_sub-lo : goal.overflow_sub-lo
overflow_sub-lo c =
    let e = less_low c.args.whole c.requires.rest c.args.part c.requires.is in
    omega (arith, ints, e, c.lo.ensures.value, c.lo-2.ensures.value, c.requires.small)

pub overflow_sub-hi : goal.overflow_sub-hi
overflow_sub-hi c =
    let e = less_high c.args.whole c.requires.rest c.args.part c.requires.is in
    omega (arith, ints, e, c.hi.ensures.value, c.hi-2.ensures.value, c.requires.small)

pub new-requires : goal.new-requires
new-requires c =
    let e = less_low c.args.whole c.requires.rest c.args.part c.requires.is in
    let h = less_high c.args.whole c.requires.rest c.args.part c.requires.is in
    let low_fits : FitsSigned w128 (c.lo.result -ℤ c.lo-2.result) = omega (arith, ints, e, c.lo.ensures.value, c.lo-2.ensures.value, c.requires.small) in
    let high_fits : FitsSigned w128 (c.hi.result -ℤ c.hi-2.result) = omega (arith, ints, h, c.hi.ensures.value, c.hi-2.ensures.value, c.requires.small) in
    omega (arith, ints, e, h, c.lo.ensures.value, c.lo-2.ensures.value, c.hi.ensures.value, c.hi-2.ensures.value, c.requires.ordered)

pub returns : goal.returns
returns c = λ r i.
    let e = less_low c.args.whole c.requires.rest c.args.part c.requires.is in
    let h = less_high c.args.whole c.requires.rest c.args.part c.requires.is in
    let low_fits : FitsSigned w128 (c.lo.result -ℤ c.lo-2.result) = omega (arith, ints, e, c.lo.ensures.value, c.lo-2.ensures.value, c.requires.small) in
    let high_fits : FitsSigned w128 (c.hi.result -ℤ c.hi-2.result) = omega (arith, ints, h, c.hi.ensures.value, c.hi-2.ensures.value, c.requires.small) in
    span_is _ _ _ r.low r.high c.new.ensures
    (omega (arith, ints, less_low c.args.whole r c.args.part i, c.lo.ensures.value, c.lo-2.ensures.value))
    (omega (arith, ints, less_high c.args.whole r c.args.part i, c.hi.ensures.value, c.hi-2.ensures.value))
