use Rattle.std.proofs.Common.{rules, length, sym, subst, ◌+◌}
use Rattle.std.specs.Prelude.{FitsSigned, unsigned_abs}
use mir.Syntax.{w128}
use Rattle.std.proofs.lemmas.Int.{to_z-of_z}
use Rattle.opl_expr.specs.Sound.{IsSmall}
use Rattle.opl_filter.specs.Filtering.{IsBetween, Filters}
use Rattle.opl_linear.specs.Linear.{NamesOnce, AreAmong, AreFactors, bulk}
use Rattle.opl_linear.proofs.Turned.{opposite_once, opposite_among, opposite_factors, opposite_fits, zero_test}
use Rattle.opl_linear.proofs.form.filter_zero.Goals as goal

pub filter_both-requires-clause-down_once : goal.filter_both-requires-clause-down_once
filter_both-requires-clause-down_once g c = subst NamesOnce (sym c.requires.opposites) (opposite_once c.args.parts.now c.requires.once)

pub filter_both-requires-clause-down_there : goal.filter_both-requires-clause-down_there
filter_both-requires-clause-down_there g c = subst (AreAmong (length (g.N.View.family c.args.n.now))) (sym c.requires.opposites) (opposite_among _ c.args.parts.now c.requires.there)

pub filter_both-requires-clause-down_factors : goal.filter_both-requires-clause-down_factors
filter_both-requires-clause-down_factors g c = subst AreFactors (sym c.requires.opposites) (opposite_factors c.args.parts.now c.requires.factors)

pub filter_both-requires-clause-down_fits : goal.filter_both-requires-clause-down_fits
filter_both-requires-clause-down_fits g c =
    let rk = c.ranges.constant in
    let o : FitsSigned w128 c.negated.result = search rules in
    let e = simp to_z-of_z at c.negated.ensures in
    simp to_z-of_z (subst (λ ps. IsSmall (unsigned_abs c.negated.result + bulk (g.N.View.family c.args.n.now) ps)) (sym c.requires.opposites) (opposite_fits (g.N.View.family c.args.n.now) c.args.parts.now c.args.constant c.negated.result e c.requires.fits))

pub returns-clause-between : goal.returns-clause-between
returns-clause-between g c =
    let rk = c.ranges.constant in
    let o : FitsSigned w128 c.negated.result = search rules in
    let e = simp to_z-of_z at c.negated.ensures in
    let b = simp to_z-of_z at c.filter_both.ensures.between in
    subst (λ d. IsBetween d (g.N.View.family c.args.n.now) (g.N.View.family c.filter_both.new.n)) (zero_test c.args.parts.now c.args.opposites.now c.args.constant c.negated.result c.requires.opposites e) b

pub returns-clause-outcome : goal.returns-clause-outcome
returns-clause-outcome g c =
    let rk = c.ranges.constant in
    let o : FitsSigned w128 c.negated.result = search rules in
    let e = simp to_z-of_z at c.negated.ensures in
    let b = simp to_z-of_z at c.filter_both.ensures.outcome in
    subst (λ d. Filters d (g.N.View.family c.args.n.now) (g.N.View.family c.filter_both.new.n) c.filter_both.result) (zero_test c.args.parts.now c.args.opposites.now c.args.constant c.negated.result c.requires.opposites e) b
