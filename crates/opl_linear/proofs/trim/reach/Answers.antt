use Rattle.std.proofs.Common.{rules, ◌*ℤ◌, ◌≤ℤ◌, subst, arith}
use Rattle.std.specs.Prelude.{FitsSigned}
use mir.Syntax.{w128}
use Rattle.std.proofs.lemmas.Int.{ints, to_z-of_z}
use Rattle.opl_linear.proofs.Trims.{reaches_part, reaches_all}
use Rattle.opl_linear.proofs.Widths.{width_bound}
use Rattle.opl_linear.proofs.trim.reach.Goals as goal

pub is_within-requires-clause-width : goal.is_within-requires-clause-width
is_within-requires-clause-width c =
    let rl = c.ranges.lo in
    let rh = c.ranges.hi in
    let fw : FitsSigned w128 c.width-whole.result = search rules in
    let w = simp to_z-of_z at c.width-whole.ensures in
    simp to_z-of_z (width_bound c.args.lo c.args.hi c.width-whole.result rl rh w)

pub returns-then-is_within : goal.returns-then-is_within
returns-then-is_within c =
    let rf = c.ranges.factor in
    let rs = c.ranges.slack in
    let rl = c.ranges.lo in
    let rh = c.ranges.hi in
    let fw : FitsSigned w128 c.width-whole.result = search rules in
    let w = simp to_z-of_z at c.width-whole.ensures in
    let h = simp to_z-of_z at c.is_within.ensures in
    subst (λ d. (c.args.factor *ℤ d) ≤ℤ c.args.slack) w (h c.if-is_within.true)

pub returns-then-steps-whole : goal.returns-then-steps-whole
returns-then-steps-whole c =
    let rf = c.ranges.factor in
    let rs = c.ranges.slack in
    let rl = c.ranges.lo in
    let rh = c.ranges.hi in
    let fq : FitsSigned w128 c.quotient-steps.result = search rules in
    let fw : FitsSigned w128 c.width-whole.result = search rules in
    let e = simp to_z-of_z at c.quotient-steps.ensures in
    let w = simp to_z-of_z at c.width-whole.ensures in
    let l = simp to_z-of_z at c.if-steps-whole.true in
    simp to_z-of_z (reaches_part c.args.factor c.args.slack c.args.lo c.args.hi c.quotient-steps.result c.width-whole.result c.requires.factor c.requires.slack e w (omega (arith, ints, l)))

pub returns-else-steps-whole : goal.returns-else-steps-whole
returns-else-steps-whole c =
    let rf = c.ranges.factor in
    let rs = c.ranges.slack in
    let rl = c.ranges.lo in
    let rh = c.ranges.hi in
    let fq : FitsSigned w128 c.quotient-steps.result = search rules in
    let fw : FitsSigned w128 c.width-whole.result = search rules in
    let e = simp to_z-of_z at c.quotient-steps.ensures in
    let w = simp to_z-of_z at c.width-whole.ensures in
    let l = simp to_z-of_z at c.if-steps-whole.false in
    let o : c.width-whole.result ≤ℤ c.quotient-steps.result = grind (arith, ints) in
    reaches_all c.args.factor c.args.slack c.args.lo c.args.hi c.quotient-steps.result c.width-whole.result c.requires.factor c.requires.slack e w o
