use Rattle.std.proofs.Common.{rules, arith, length, subst, ◌∙◌}
use Rattle.std.specs.Prelude.{None, Some, FitsSigned}
use mir.Syntax.{w128}
use Rattle.std.proofs.lemmas.Int.{to_z-of_z}
use Rattle.opl_range.specs.Between.{between, IsLastFactor}
use Rattle.opl_range.proofs.Minus.{part_fits, bare_fits}
use Rattle.opl_range.proofs.Roots.{by_none, by_one, by_two, by_three}
use Rattle.opl_range.proofs.zeros.zero_by_values.Goals as goal

pub returns-in_err-x : goal.returns-in_err-x
returns-in_err-x g c =
    c.from_residual.ensures ∙ by_none (g.V.View.family c.args.view.now) (between c.args.core.now c.args.a.now c.args.b.now) (length (g.V.View.family c.args.view.now)) c.args.k
    (subst (λ n. IsLastFactor (between c.args.core.now c.args.a.now c.args.b.now) n None) c.vars.ensures.count (c.in_err-x.ensures))

pub zero_by_two-requires-clause-small : goal.zero_by_two-requires-clause-small
zero_by_two-requires-clause-small g c = let k = c.ranges.k in simp to_z-of_z (part_fits _ c.args.k c.requires.small)

pub zero_by_two-requires-clause-fits : goal.zero_by_two-requires-clause-fits
zero_by_two-requires-clause-fits g c =
    let k = c.ranges.k in
    let F = g.V.View.family c.args.view.now in
    let form = between c.args.core.now c.args.a.now c.args.b.now in
    let last = subst (λ n. IsLastFactor form n (Some (c.in_ok-x.x, c.in_ok-x.first))) c.vars.ensures.count (c.in_ok-x.ensures) in
    λ v m. simp to_z-of_z (bare_fits c.args.core.now F form c.in_ok-x.x c.args.k v c.requires.within last.0.below last.0.nonzero m c.requires.small)

pub returns-in-None : goal.returns-in-None
returns-in-None g c =
    let k = c.ranges.k in
    let d : FitsSigned w128 c.in_ok-x.first = search rules in
    let F = g.V.View.family c.args.view.now in
    let form = between c.args.core.now c.args.a.now c.args.b.now in
    let last = subst (λ n. IsLastFactor form n (Some (c.in_ok-x.x, c.in_ok-x.first))) c.vars.ensures.count (c.in_ok-x.ensures) in
    let h = simp to_z-of_z at c.has_root.ensures in
    by_one F c.vars.ensures.sets.full form (length F) c.in_ok-x.x c.args.k c.in_ok-x.first c.has_root.result (omega arith) last.0 (c.in-None.ensures) last.1 h

pub returns-in-None-last_factor : goal.returns-in-None-last_factor
returns-in-None-last_factor g c =
    let k = c.ranges.k in
    let i : FitsSigned w128 c.in_ok-x.first = search rules in
    let j : FitsSigned w128 c.in-Some.second = search rules in
    let F = g.V.View.family c.args.view.now in
    let form = between c.args.core.now c.args.a.now c.args.b.now in
    let last = subst (λ n. IsLastFactor form n (Some (c.in_ok-x.x, c.in_ok-x.first))) c.vars.ensures.count (c.in_ok-x.ensures) in
    let h = simp to_z-of_z at c.zero_by_two.ensures in
    by_two F c.vars.ensures.sets.full form (length F) c.in_ok-x.x c.in-Some.y c.args.k c.in_ok-x.first c.in-Some.second c.zero_by_two.result (omega arith)
    last.0 (c.in-Some.ensures).0 (c.in-None-last_factor.ensures) last.1 (c.in-Some.ensures).1 h

pub returns-in-Some-last_factor : goal.returns-in-Some-last_factor
returns-in-Some-last_factor g c =
    let F = g.V.View.family c.args.view.now in
    let form = between c.args.core.now c.args.a.now c.args.b.now in
    let last = subst (λ n. IsLastFactor form n (Some (c.in_ok-x.x, c.in_ok-x.first))) c.vars.ensures.count (c.in_ok-x.ensures) in
    by_three F form (length F) c.in_ok-x.x c.in-Some.y _ c.args.k last.0 (c.in-Some.ensures).0 (c.in-Some-last_factor.ensures).0
