use Rattle.std.proofs.Common.{arith, rules, ap, ◌∙◌}
use Rattle.std.specs.Prelude.{FitsSigned}
use mir.Syntax.{w128}
use Rattle.std.proofs.lemmas.Int.{ints, to_z-of_z}
use Rattle.opl_domain.specs.Span.{larger}
use Rattle.opl_domain.proofs.Rows.{low_zero, low_more, low_sign}
use Rattle.opl_domain.proofs.interval.low_rest.Goals as goal

pub returns-then-lo-ge0-clause-value : goal.returns-then-lo-ge0-clause-value
returns-then-lo-ge0-clause-value c = low_zero _ _ (omega (arith, ints))

pub returns-else-lo-ge0-clause-value : goal.returns-else-lo-ge0-clause-value
returns-else-lo-ge0-clause-value c =
    let fits : FitsSigned w128 c.greater.result = search rules in
    let lo_fits : FitsSigned w128 c.args.lo = c.ranges.lo in
    let most_fits : FitsSigned w128 c.args.most = c.ranges.most in
    let neg_fits : FitsSigned w128 c.negated.result = search rules in
    let n = simp to_z-of_z at c.negated.ensures in
    let e = simp to_z-of_z at c.greater.ensures in
    to_z-of_z w128 c.greater.result fits ∙ low_more _ _ _ (omega (arith, ints)) (e ∙ ap (larger c.args.lo) n)

pub returns-else-lo-ge0-clause-sign : goal.returns-else-lo-ge0-clause-sign
returns-else-lo-ge0-clause-sign c =
    let lo_fits : FitsSigned w128 c.args.lo = c.ranges.lo in
    let most_fits : FitsSigned w128 c.args.most = c.ranges.most in
    let neg_fits : FitsSigned w128 c.negated.result = search rules in
    let n = simp to_z-of_z at c.negated.ensures in
    let e = simp to_z-of_z at c.greater.ensures in
    omega (arith, ints, low_sign c.args.lo c.args.most c.greater.result (omega (arith, ints)) (omega (arith, ints)) (e ∙ ap (larger c.args.lo) n))
