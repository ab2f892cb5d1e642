use Rattle.std.proofs.Common.{rules, arith, length, get_or, pos, ◌+ℤ◌, ◌≡◌}
use Rattle.std.specs.Prelude.{FitsSigned, neg_ℤ}
use mir.Syntax.{w128}
use Rattle.std.proofs.lemmas.Int.{ints, to_z-of_z}
use Rattle.opl_domain.specs.Family.{hull}
use Rattle.opl_linear.specs.Linear.{least_sum, least_product}
use Rattle.opl_linear.proofs.AtMost.{among_at, factor_fits, factors_at, whole_bound, others_bound, part_fits, nothing_between}
use Rattle.opl_linear.proofs.Differs.{before_end, fails_closed, ends_closed, ends_two, ends_avoided}
use Rattle.opl_linear.proofs.different.filter_different.Goals as goal

pub added-requires : goal.added-requires
added-requires g c =
    let D = g.N.View.family c.args.n.now in
    let rk = c.ranges.constant in
    let f : FitsSigned w128 c.least_sum.result = search rules in
    simp to_z-of_z (omega (arith, ints, c.least_sum.ensures, whole_bound D c.args.parts.now, c.requires.fits))

pub returns-then-added-eq0-clause-between : goal.returns-then-added-eq0-clause-between
returns-then-added-eq0-clause-between g c =
    nothing_between _ (g.N.View.family c.args.n.now) c.vars-vars.ensures.sets

pub returns-then-added-eq0-clause-outcome : goal.returns-then-added-eq0-clause-outcome
returns-then-added-eq0-clause-outcome g c =
    let D = g.N.View.family c.args.n.now in
    let rk = c.ranges.constant in
    let f : FitsSigned w128 c.least_sum.result = search rules in
    let h : FitsSigned w128 c.added.result = search rules in
    let i = simp to_z-of_z at c.added.ensures in
    let e : c.added.result ≡ c.args.constant +ℤ least_sum D c.args.parts.now = omega (arith, ints, i, c.least_sum.ensures) in
    fails_closed D c.args.parts.now c.args.constant c.requires.once c.requires.there c.requires.factors c.vars-vars.ensures.sets c.next_open-first.result c.added.result c.next_open-first.ensures (omega (arith, c.if-first-parts.true)) e (omega (arith, ints, c.if-added-eq0.true))

pub returns-else-added-eq0-clause-between : goal.returns-else-added-eq0-clause-between
returns-else-added-eq0-clause-between g c =
    nothing_between _ (g.N.View.family c.args.n.now) c.vars-vars.ensures.sets

pub returns-else-added-eq0-clause-outcome : goal.returns-else-added-eq0-clause-outcome
returns-else-added-eq0-clause-outcome g c =
    let D = g.N.View.family c.args.n.now in
    let rk = c.ranges.constant in
    let f : FitsSigned w128 c.least_sum.result = search rules in
    let h : FitsSigned w128 c.added.result = search rules in
    let i = simp to_z-of_z at c.added.ensures in
    let e : c.added.result ≡ c.args.constant +ℤ least_sum D c.args.parts.now = omega (arith, ints, i, c.least_sum.ensures) in
    ends_closed D c.args.parts.now c.args.constant c.requires.once c.requires.there c.requires.factors c.vars-vars.ensures.sets c.next_open-first.result c.added.result c.next_open-first.ensures (omega (arith, c.if-first-parts.true)) e (λ z. c.if-added-eq0.false (omega (arith, ints, z)))

pub next_open-requires-clause-from : goal.next_open-requires-clause-from
next_open-requires-clause-from g c =
    let b = before_end c.next_open-first.result (length c.args.parts.now) c.next_open-first.ensures.most (λ e. c.if-first-parts.false (omega (arith, e))) in
    omega (arith, b)

pub returns-then-next_open-parts-clause-between : goal.returns-then-next_open-parts-clause-between
returns-then-next_open-parts-clause-between g c =
    nothing_between _ (g.N.View.family c.args.n.now) c.vars-vars.ensures.sets

pub returns-then-next_open-parts-clause-outcome : goal.returns-then-next_open-parts-clause-outcome
returns-then-next_open-parts-clause-outcome g c =
    let D = g.N.View.family c.args.n.now in
    let rk = c.ranges.constant in
    let b = before_end c.next_open-first.result (length c.args.parts.now) c.next_open-first.ensures.most (λ e. c.if-first-parts.false (omega (arith, e))) in
    ends_two D c.args.parts.now c.args.constant c.requires.once c.requires.there c.requires.factors c.vars-vars.ensures.sets c.next_open-first.result c.next_open.result c.next_open-first.ensures c.next_open.ensures b c.if-next_open-parts.true

pub added-sum-requires : goal.added-sum-requires
added-sum-requires g c =
    let D = g.N.View.family c.args.n.now in
    let rk = c.ranges.constant in
    let f : FitsSigned w128 c.least_sum-2.result = search rules in
    simp to_z-of_z (omega (arith, ints, c.least_sum-2.ensures, whole_bound D c.args.parts.now, c.requires.fits))

pub bounds-parts-first : goal.bounds-parts-first
bounds-parts-first g c =
    let b = before_end c.next_open-first.result (length c.args.parts.now) c.next_open-first.ensures.most (λ e. c.if-first-parts.false (omega (arith, e))) in
    b

pub bounds-parts-first-2 : goal.bounds-parts-first-2
bounds-parts-first-2 g c =
    let b = before_end c.next_open-first.result (length c.args.parts.now) c.next_open-first.ensures.most (λ e. c.if-first-parts.false (omega (arith, e))) in
    b

pub least_product-requires-clause-there : goal.least_product-requires-clause-there
least_product-requires-clause-there g c =
    let b = before_end c.next_open-first.result (length c.args.parts.now) c.next_open-first.ensures.most (λ e. c.if-first-parts.false (omega (arith, e))) in
    among_at (length (g.N.View.family c.args.n.now)) c.args.parts.now c.next_open-first.result c.requires.there b

pub least_product-requires-clause-fits : goal.least_product-requires-clause-fits
least_product-requires-clause-fits g c =
    let D = g.N.View.family c.args.n.now in
    let rk = c.ranges.constant in
    let b = before_end c.next_open-first.result (length c.args.parts.now) c.next_open-first.ensures.most (λ e. c.if-first-parts.false (omega (arith, e))) in
    let k = factor_fits c.args.parts.now c.next_open-first.result c.requires.factors b in
    simp to_z-of_z (part_fits D c.args.parts.now c.next_open-first.result b (omega (arith, c.requires.fits)))

pub less-requires : goal.less-requires
less-requires g c =
    let D = g.N.View.family c.args.n.now in
    let rk = c.ranges.constant in
    let b = before_end c.next_open-first.result (length c.args.parts.now) c.next_open-first.ensures.most (λ e. c.if-first-parts.false (omega (arith, e))) in
    let k = factor_fits c.args.parts.now c.next_open-first.result c.requires.factors b in
    let f : FitsSigned w128 c.least_sum-2.result = search rules in
    let h : FitsSigned w128 c.added-sum.result = search rules in
    let i = simp to_z-of_z at c.added-sum.ensures in
    let e : c.added-sum.result ≡ c.args.constant +ℤ least_sum D c.args.parts.now = omega (arith, ints, i, c.least_sum-2.ensures) in
    let o : FitsSigned w128 c.least_product.result = search rules in
    let l = simp to_z-of_z at c.least_product.ensures in
    simp to_z-of_z (omega (arith, ints, e, l, others_bound D c.args.parts.now c.next_open-first.result b, c.requires.fits))

pub avoid-removed-requires-clause-there : goal.avoid-removed-requires-clause-there
avoid-removed-requires-clause-there g c =
    let b = before_end c.next_open-first.result (length c.args.parts.now) c.next_open-first.ensures.most (λ e. c.if-first-parts.false (omega (arith, e))) in
    among_at (length (g.N.View.family c.args.n.now)) c.args.parts.now c.next_open-first.result c.requires.there b

pub avoid-removed-requires-clause-full : goal.avoid-removed-requires-clause-full
avoid-removed-requires-clause-full g c =
    c.vars-vars.ensures.sets.full

pub avoid-removed-requires-clause-some : goal.avoid-removed-requires-clause-some
avoid-removed-requires-clause-some g c =
    let b = before_end c.next_open-first.result (length c.args.parts.now) c.next_open-first.ensures.most (λ e. c.if-first-parts.false (omega (arith, e))) in
    let k = factor_fits c.args.parts.now c.next_open-first.result c.requires.factors b in
    simp to_z-of_z ((factors_at c.args.parts.now c.next_open-first.result c.requires.factors b).0)

pub avoid-removed-requires-clause-small : goal.avoid-removed-requires-clause-small
avoid-removed-requires-clause-small g c =
    let D = g.N.View.family c.args.n.now in
    let rk = c.ranges.constant in
    let b = before_end c.next_open-first.result (length c.args.parts.now) c.next_open-first.ensures.most (λ e. c.if-first-parts.false (omega (arith, e))) in
    let k = factor_fits c.args.parts.now c.next_open-first.result c.requires.factors b in
    let f : FitsSigned w128 c.least_sum-2.result = search rules in
    let h : FitsSigned w128 c.added-sum.result = search rules in
    let i = simp to_z-of_z at c.added-sum.ensures in
    let e : c.added-sum.result ≡ c.args.constant +ℤ least_sum D c.args.parts.now = omega (arith, ints, i, c.least_sum-2.ensures) in
    let o : FitsSigned w128 c.least_product.result = search rules in
    let l = simp to_z-of_z at c.least_product.ensures in
    let s : FitsSigned w128 c.less.result = search rules in
    let r = simp to_z-of_z at c.less.ensures in
    simp to_z-of_z (omega (arith, ints, e, l, r, others_bound D c.args.parts.now c.next_open-first.result b, c.requires.fits))

pub avoid-removed-requires-clause-open : goal.avoid-removed-requires-clause-open
avoid-removed-requires-clause-open g c =
    let b = before_end c.next_open-first.result (length c.args.parts.now) c.next_open-first.ensures.most (λ e. c.if-first-parts.false (omega (arith, e))) in
    c.next_open-first.ensures.has_more b

pub returns-clause-between : goal.returns-clause-between
returns-clause-between g c =
    let D = g.N.View.family c.args.n.now in
    let rk = c.ranges.constant in
    let b = before_end c.next_open-first.result (length c.args.parts.now) c.next_open-first.ensures.most (λ e. c.if-first-parts.false (omega (arith, e))) in
    let k = factor_fits c.args.parts.now c.next_open-first.result c.requires.factors b in
    let f : FitsSigned w128 c.least_sum-2.result = search rules in
    let h : FitsSigned w128 c.added-sum.result = search rules in
    let i = simp to_z-of_z at c.added-sum.ensures in
    let e : c.added-sum.result ≡ c.args.constant +ℤ least_sum D c.args.parts.now = omega (arith, ints, i, c.least_sum-2.ensures) in
    let o : FitsSigned w128 c.least_product.result = search rules in
    let l = simp to_z-of_z at c.least_product.ensures in
    let s : FitsSigned w128 c.less.result = search rules in
    let r = simp to_z-of_z at c.less.ensures in
    let q : c.less.result ≡ c.added-sum.result +ℤ neg_ℤ (least_product (get_or c.args.parts.now c.next_open-first.result (0, pos 0)).1 (hull D (get_or c.args.parts.now c.next_open-first.result (0, pos 0)).0)) = omega (arith, ints, r, l) in
    let w = simp to_z-of_z at c.avoid-removed.ensures.avoids in
    (ends_avoided D c.args.parts.now c.args.constant c.requires.once c.requires.there c.requires.factors c.vars-vars.ensures.sets c.next_open-first.result c.next_open.result c.less.result c.added-sum.result c.next_open-first.ensures c.next_open.ensures b c.if-next_open-parts.false e q _ c.avoid-removed.result w).1

pub returns-clause-outcome : goal.returns-clause-outcome
returns-clause-outcome g c =
    let D = g.N.View.family c.args.n.now in
    let rk = c.ranges.constant in
    let b = before_end c.next_open-first.result (length c.args.parts.now) c.next_open-first.ensures.most (λ e. c.if-first-parts.false (omega (arith, e))) in
    let k = factor_fits c.args.parts.now c.next_open-first.result c.requires.factors b in
    let f : FitsSigned w128 c.least_sum-2.result = search rules in
    let h : FitsSigned w128 c.added-sum.result = search rules in
    let i = simp to_z-of_z at c.added-sum.ensures in
    let e : c.added-sum.result ≡ c.args.constant +ℤ least_sum D c.args.parts.now = omega (arith, ints, i, c.least_sum-2.ensures) in
    let o : FitsSigned w128 c.least_product.result = search rules in
    let l = simp to_z-of_z at c.least_product.ensures in
    let s : FitsSigned w128 c.less.result = search rules in
    let r = simp to_z-of_z at c.less.ensures in
    let q : c.less.result ≡ c.added-sum.result +ℤ neg_ℤ (least_product (get_or c.args.parts.now c.next_open-first.result (0, pos 0)).1 (hull D (get_or c.args.parts.now c.next_open-first.result (0, pos 0)).0)) = omega (arith, ints, r, l) in
    let w = simp to_z-of_z at c.avoid-removed.ensures.avoids in
    (ends_avoided D c.args.parts.now c.args.constant c.requires.once c.requires.there c.requires.factors c.vars-vars.ensures.sets c.next_open-first.result c.next_open.result c.less.result c.added-sum.result c.next_open-first.ensures c.next_open.ensures b c.if-next_open-parts.false e q _ c.avoid-removed.result w).0
