use Rattle.std.proofs.Common.{arith, rules, ◌∙◌}
use Rattle.std.specs.Prelude.{FitsSigned}
use mir.Syntax.{w128}
use Rattle.std.proofs.lemmas.Int.{ints, to_z-of_z}
use Rattle.opl_domain.proofs.Rows.{high_zero, high_more, high_sign}
use Rattle.opl_domain.proofs.interval.high_rest.Goals as goal

pub returns-then-hi-le0-clause-value : goal.returns-then-hi-le0-clause-value
returns-then-hi-le0-clause-value c = high_zero _ _ (omega (arith, ints))

pub returns-else-hi-le0-clause-value : goal.returns-else-hi-le0-clause-value
returns-else-hi-le0-clause-value c =
    let fits : FitsSigned w128 c.lesser.result = search rules in
    let hi_fits : FitsSigned w128 c.args.hi = c.ranges.hi in
    let most_fits : FitsSigned w128 c.args.most = c.ranges.most in
    to_z-of_z w128 c.lesser.result fits ∙ high_more _ _ _ (omega (arith, ints)) (simp to_z-of_z at c.lesser.ensures)

pub returns-else-hi-le0-clause-sign : goal.returns-else-hi-le0-clause-sign
returns-else-hi-le0-clause-sign c =
    let hi_fits : FitsSigned w128 c.args.hi = c.ranges.hi in
    let most_fits : FitsSigned w128 c.args.most = c.ranges.most in
    let e = simp to_z-of_z at c.lesser.ensures in
    omega (arith, ints, high_sign c.args.hi c.args.most c.lesser.result (omega (arith, ints)) (omega (arith, ints)) e)
