use Rattle.std.proofs.Common.{rules, arith, ◌+ℤ◌, ◌≡◌}
use Rattle.std.specs.Prelude.{FitsSigned}
use mir.Syntax.{w128}
use Rattle.std.proofs.lemmas.Int.{ints, to_z-of_z}
use Rattle.opl_linear.specs.Linear.{least_sum, limit}
use Rattle.opl_linear.proofs.AtMost.{whole_bound, limits, nothing_between, stable_is, between_is, failed_is}
use Rattle.opl_linear.proofs.at_most.narrow_at_most.Goals as goal

pub added-least-requires : goal.added-least-requires
added-least-requires g c =
    let rk = c.ranges.constant in
    let f : FitsSigned w128 c.least_sum.result = search rules in
    let e = c.least_sum.ensures in
    let b = whole_bound (g.N.View.family c.args.n.now) c.args.parts.now in
    simp to_z-of_z (omega (arith, ints, e, b, c.requires.fits))

pub slack-requires : goal.slack-requires
slack-requires g c =
    let rk = c.ranges.constant in
    let f : FitsSigned w128 c.least_sum.result = search rules in
    let h : FitsSigned w128 c.added-least.result = search rules in
    let e = c.least_sum.ensures in
    let i = simp to_z-of_z at c.added-least.ensures in
    let b = whole_bound (g.N.View.family c.args.n.now) c.args.parts.now in
    simp to_z-of_z (omega (arith, ints, e, i, b, c.requires.fits))

pub returns-in-None-clause-between : goal.returns-in-None-clause-between
returns-in-None-clause-between g c = nothing_between _ (g.N.View.family c.args.n.now) c.vars-vars.ensures.sets

pub returns-in-None-clause-narrows : goal.returns-in-None-clause-narrows
returns-in-None-clause-narrows g c =
    let rk = c.ranges.constant in
    let f : FitsSigned w128 c.least_sum.result = search rules in
    let h : FitsSigned w128 c.added-least.result = search rules in
    let i = simp to_z-of_z at c.added-least.ensures in
    let t = simp to_z-of_z at c.in-None.ensures in
    let e : c.added-least.result ≡ c.args.constant +ℤ least_sum (g.N.View.family c.args.n.now) c.args.parts.now = omega (arith, ints, i, c.least_sum.ensures) in
    failed_is (g.N.View.family c.args.n.now) c.args.parts.now (limit c.args.strict c.args.constant) (limit c.args.strict c.added-least.result) c.requires.once c.requires.there (limits c.args.strict c.added-least.result c.args.constant _ e) t

pub returns-in-Some-clause-narrows : goal.returns-in-Some-clause-narrows
returns-in-Some-clause-narrows g c =
    let rk = c.ranges.constant in
    let f : FitsSigned w128 c.least_sum.result = search rules in
    let h : FitsSigned w128 c.added-least.result = search rules in
    let s : FitsSigned w128 c.in-Some.most = search rules in
    let i = simp to_z-of_z at c.added-least.ensures in
    let e : c.added-least.result ≡ c.args.constant +ℤ least_sum (g.N.View.family c.args.n.now) c.args.parts.now = omega (arith, ints, i, c.least_sum.ensures) in
    let o = simp to_z-of_z at c.in-Some.ensures in
    let t = simp to_z-of_z at c.trim_all.ensures.trims in
    (stable_is (g.N.View.family c.args.n.now) _ c.args.parts.now (limit c.args.strict c.args.constant) (limit c.args.strict c.added-least.result) c.in-Some.most c.requires.once c.requires.there c.vars-vars.ensures.sets o.1 (limits c.args.strict c.added-least.result c.args.constant _ e) o.0 t, c.trim_all.ensures.changes)

pub returns-in-Some-clause-between : goal.returns-in-Some-clause-between
returns-in-Some-clause-between g c =
    let rk = c.ranges.constant in
    let f : FitsSigned w128 c.least_sum.result = search rules in
    let h : FitsSigned w128 c.added-least.result = search rules in
    let s : FitsSigned w128 c.in-Some.most = search rules in
    let i = simp to_z-of_z at c.added-least.ensures in
    let e : c.added-least.result ≡ c.args.constant +ℤ least_sum (g.N.View.family c.args.n.now) c.args.parts.now = omega (arith, ints, i, c.least_sum.ensures) in
    let o = simp to_z-of_z at c.in-Some.ensures in
    let t = simp to_z-of_z at c.trim_all.ensures.trims in
    between_is (g.N.View.family c.args.n.now) _ c.args.parts.now (limit c.args.strict c.args.constant) (limit c.args.strict c.added-least.result) c.in-Some.most c.vars-vars.ensures.sets (limits c.args.strict c.added-least.result c.args.constant _ e) o.0 t
