use Rattle.std.proofs.Common.{◌≤ℤ◌, subst, arith}
use Rattle.std.specs.Prelude.{FitsSigned}
use Rattle.std.specs.Int.{w128}
use Rattle.std.proofs.lemmas.Int.{ints}
use Rattle.opl_eval.proofs.Sizes.{sized-none, sized-far, as_passed}
use Rattle.opl_eval.proofs.compare.size_between.Goals as goal

pub returns-then-high-low : goal.returns-then-high-low
returns-then-high-low c =
    sized-none c.args.at c.args.low c.args.high (grind (arith, ints))

pub returns-in-None : goal.returns-in-None
returns-in-None c =
    let far : c.args.low ≤ℤ c.args.high = grind (arith, ints) in
    sized-far c.args.at c.args.low c.args.high far
    (λ fits. c.in-None.ensures (subst (FitsSigned w128) (as_passed c.args.low c.args.high c.ranges.low c.ranges.high) fits))
