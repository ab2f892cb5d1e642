use Rattle.std.proofs.Common.{rules, ◌∙◌, ap, sym, arith}
use Rattle.std.specs.Prelude.{FitsSigned}
use mir.Syntax.{w128}
use Rattle.std.proofs.lemmas.Int.{ints, to_z-of_z}
use Rattle.opl_linear.specs.Linear.{factor_in, is_above, limit}
use Rattle.opl_linear.proofs.AtMost.{whole_bound}
use Rattle.opl_linear.proofs.Leasts.{above_by_least, reaches_by_least, sum_read}
use Rattle.opl_linear.proofs.rejected.is_above.Goals as goal

pub added-least-requires : goal.added-least-requires
added-least-requires g c =
    let rk = c.ranges.constant in
    let f : FitsSigned w128 c.least_sum.result = search rules in
    simp to_z-of_z (omega (arith, ints, c.least_sum.ensures, whole_bound (g.V.View.family c.args.view.now) c.args.parts.now, c.requires.fits))

pub returns-then-strict : goal.returns-then-strict
returns-then-strict g c =
    let F = g.V.View.family c.args.view.now in
    let rk = c.ranges.constant in
    let f : FitsSigned w128 c.least_sum.result = search rules in
    let h : FitsSigned w128 c.added-least.result = search rules in
    let i = simp to_z-of_z at c.added-least.ensures in
    let e = sum_read F c.args.parts.now c.args.constant c.least_sum.result c.added-least.result i c.least_sum.ensures in
    simp to_z-of_z (reaches_by_least F c.args.parts.now c.args.constant c.added-least.result c.requires.once c.requires.there e ∙ ap (λ b. is_above (factor_in c.args.parts.now) (limit b c.args.constant) F) (sym c.if-strict.true))

pub returns-else-strict : goal.returns-else-strict
returns-else-strict g c =
    let F = g.V.View.family c.args.view.now in
    let rk = c.ranges.constant in
    let f : FitsSigned w128 c.least_sum.result = search rules in
    let h : FitsSigned w128 c.added-least.result = search rules in
    let i = simp to_z-of_z at c.added-least.ensures in
    let e = sum_read F c.args.parts.now c.args.constant c.least_sum.result c.added-least.result i c.least_sum.ensures in
    simp to_z-of_z (above_by_least F c.args.parts.now c.args.constant c.added-least.result c.requires.once c.requires.there e ∙ ap (λ b. is_above (factor_in c.args.parts.now) (limit b c.args.constant) F) (sym c.if-strict.false))
