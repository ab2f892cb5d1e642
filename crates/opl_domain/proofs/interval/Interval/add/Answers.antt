use Rattle.std.proofs.Common.{arith, ◌+ℤ◌}
use Rattle.std.specs.Prelude.{FitsSigned}
use mir.Syntax.{w128}
use Rattle.std.proofs.lemmas.Int.{ints}
use Rattle.opl_domain.specs.Arithmetic.{span_add}
use Rattle.opl_domain.proofs.Numbers.{span_is}
use Rattle.opl_domain.proofs.interval.Interval.add.Goals as goal

pub new-requires : goal.new-requires
new-requires c =
    let low_fits : FitsSigned w128 (c.lo.result +ℤ c.lo-2.result) = omega (arith, ints) in
    let high_fits : FitsSigned w128 (c.hi.result +ℤ c.hi-2.result) = omega (arith, ints) in
    omega (arith, ints)

pub returns : goal.returns
unfolding span_add
returns c =
    let low_fits : FitsSigned w128 (c.lo.result +ℤ c.lo-2.result) = omega (arith, ints) in
    let high_fits : FitsSigned w128 (c.hi.result +ℤ c.hi-2.result) = omega (arith, ints) in
    span_is _ _ _ _ _ c.new.ensures (omega (arith, ints)) (omega (arith, ints))
