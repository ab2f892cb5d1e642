use Rattle.std.proofs.Common.{rules, ◌≡◌, length, sym, arith}
use Rattle.std.specs.Prelude.{FitsSigned}
use mir.Syntax.{w128}
use Rattle.std.proofs.lemmas.Int.{ints, to_z-of_z}
use Rattle.opl_linear.proofs.AtMost.{whole_bound}
use Rattle.opl_linear.proofs.Differs.{zero_is, zero_misses, zero_open}
use Rattle.opl_linear.proofs.Leasts.{sum_read}
use Rattle.opl_linear.proofs.rejected.is_zero.Goals as goal

pub returns-then-next_open-parts : goal.returns-then-next_open-parts
returns-then-next_open-parts g c =
    sym (zero_open (g.V.View.family c.args.view.now) c.args.parts.now c.args.constant c.requires.once c.requires.there c.requires.factors c.vars-vars.ensures.sets c.next_open.result c.next_open.ensures c.if-next_open-parts.true)

pub added-requires : goal.added-requires
added-requires g c =
    let rk = c.ranges.constant in
    let f : FitsSigned w128 c.least_sum.result = search rules in
    simp to_z-of_z (omega (arith, ints, c.least_sum.ensures, whole_bound (g.V.View.family c.args.view.now) c.args.parts.now, c.requires.fits))

pub returns-then-added-ne0 : goal.returns-then-added-ne0
returns-then-added-ne0 g c =
    let F = g.V.View.family c.args.view.now in
    let rk = c.ranges.constant in
    let f : FitsSigned w128 c.least_sum.result = search rules in
    let h : FitsSigned w128 c.added.result = search rules in
    let i = simp to_z-of_z at c.added.ensures in
    let n : c.next_open.result ≡ length c.args.parts.now = omega (arith, c.next_open.ensures.most, c.if-next_open-parts.false) in
    sym (zero_misses F c.args.parts.now c.args.constant c.requires.once c.requires.there c.requires.factors c.vars-vars.ensures.sets c.next_open.result c.added.result c.next_open.ensures n
    (sum_read F c.args.parts.now c.args.constant c.least_sum.result c.added.result i c.least_sum.ensures) (λ z. c.if-added-ne0.true (omega (arith, ints, z))))

pub returns : goal.returns
returns g c =
    let F = g.V.View.family c.args.view.now in
    let rk = c.ranges.constant in
    let f : FitsSigned w128 c.least_sum.result = search rules in
    let h : FitsSigned w128 c.added.result = search rules in
    let i = simp to_z-of_z at c.added.ensures in
    let n : c.next_open.result ≡ length c.args.parts.now = omega (arith, c.next_open.ensures.most, c.if-next_open-parts.false) in
    sym (zero_is F c.args.parts.now c.args.constant c.requires.once c.requires.there c.requires.factors c.vars-vars.ensures.sets c.next_open.result c.added.result c.next_open.ensures n
    (sum_read F c.args.parts.now c.args.constant c.least_sum.result c.added.result i c.least_sum.ensures) (omega (arith, ints, c.if-added-ne0.false)))
