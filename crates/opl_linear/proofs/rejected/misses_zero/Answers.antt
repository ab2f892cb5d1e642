use Rattle.std.proofs.Common.{rules, ◌+◌, ◌∙◌, length, sym, subst}
use Rattle.std.specs.Prelude.{FitsSigned, unsigned_abs, neg_ℤ}
use mir.Syntax.{w128}
use Rattle.std.proofs.lemmas.Int.{to_z-of_z}
use Rattle.opl_expr.specs.Sound.{IsSmall}
use Rattle.opl_linear.specs.Linear.{factor_in, NamesOnce, AreAmong, AreFactors, is_above, bulk}
use Rattle.opl_linear.proofs.Turned.{opposite_once, opposite_among, opposite_factors, opposite_fits, opposite_above, second_alone}
use Rattle.opl_linear.proofs.rejected.misses_zero.Goals as goal

pub is_above-requires-2-clause-once : goal.is_above-requires-2-clause-once
is_above-requires-2-clause-once g c = subst NamesOnce (sym c.requires.opposites) (opposite_once c.args.parts.now c.requires.once)

pub is_above-requires-2-clause-there : goal.is_above-requires-2-clause-there
is_above-requires-2-clause-there g c = subst (AreAmong (length (g.V.View.family c.args.view.now))) (sym c.requires.opposites) (opposite_among _ c.args.parts.now c.requires.there)

pub is_above-requires-2-clause-factors : goal.is_above-requires-2-clause-factors
is_above-requires-2-clause-factors g c = subst AreFactors (sym c.requires.opposites) (opposite_factors c.args.parts.now c.requires.factors)

pub is_above-requires-2-clause-fits : goal.is_above-requires-2-clause-fits
is_above-requires-2-clause-fits g c =
    let F = g.V.View.family c.args.view.now in
    let rk = c.ranges.constant in
    let o : FitsSigned w128 c.negated.result = search rules in
    let e = simp to_z-of_z at c.negated.ensures in
    simp to_z-of_z (subst (λ ps. IsSmall (unsigned_abs c.negated.result + bulk F ps)) (sym c.requires.opposites) (opposite_fits F c.args.parts.now c.args.constant c.negated.result e c.requires.fits))

pub returns : goal.returns
returns g c =
    let F = g.V.View.family c.args.view.now in
    let ps = c.args.parts.now in
    let rk = c.ranges.constant in
    let o : FitsSigned w128 c.negated.result = search rules in
    let e = simp to_z-of_z at c.negated.ensures in
    let a = simp to_z-of_z at c.is_above.ensures in
    let b = simp to_z-of_z at c.is_above-2.ensures in
    b ∙ opposite_above ps c.args.opposites.now c.args.constant c.negated.result F c.requires.opposites e
    ∙ second_alone (is_above (factor_in ps) c.args.constant F) (is_above (λ x. neg_ℤ (factor_in ps x)) (neg_ℤ c.args.constant) F) (sym a ∙ c.if-is_above.false)
