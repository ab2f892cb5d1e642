use Rattle.std.proofs.Common.{rules, arith, ap, length, ◌∙◌}
use Rattle.std.specs.Prelude.{FitsSigned, unsigned_abs}
use mir.Syntax.{w128}
use Rattle.std.proofs.lemmas.Int.{to_z-of_z}
use Rattle.opl_range.specs.Between.{between, is_pure_between}
use Rattle.opl_range.proofs.Minus.{rest_fits}
use Rattle.opl_range.proofs.Roots.{never_open, never_known}
use Rattle.opl_range.proofs.Compare.{zero_apart}
use Rattle.opl_range.proofs.zeros.never_zero.Goals as goal

pub zero_of_linear-requires-clause-small : goal.zero_of_linear-requires-clause-small
zero_of_linear-requires-clause-small g c =
    let fits : FitsSigned w128 c.lo.result = search rules in
    let small = rest_fits c.args.core.now (g.V.View.family c.args.view.now) c.args.a.now c.args.b.now c.args.rest c.requires.within c.requires.sound c.requires.rest in
    simp to_z-of_z (omega (arith, ap unsigned_abs c.lo.ensures.value, small))

pub returns-in-None : goal.returns-in-None
returns-in-None g c =
    let fits : FitsSigned w128 c.lo.result = search rules in
    let e = simp to_z-of_z at (c.in-None.ensures) in
    let value = never_open (g.V.View.family c.args.view.now) (between c.args.core.now c.args.a.now c.args.b.now) (length (g.V.View.family c.args.view.now)) (is_pure_between c.args.core.now c.args.a.now c.args.b.now) c.args.rest c.args.whole c.lo.result c.misses_zero.result
    c.lo.ensures.value e c.requires.whole c.misses_zero.ensures in
    record { value = value; apart = λ z. value ∙ zero_apart (g.V.View.family c.args.view.now) c.vars-vars.ensures.sets.full (between c.args.core.now c.args.a.now c.args.b.now) (is_pure_between c.args.core.now c.args.a.now c.args.b.now) c.args.rest c.args.whole c.lo.ensures.ordered c.requires.whole z }

pub returns-in-Some : goal.returns-in-Some
returns-in-Some g c =
    let fits : FitsSigned w128 c.lo.result = search rules in
    let e = simp to_z-of_z at (c.in-Some.ensures) in
    let value = never_known (g.V.View.family c.args.view.now) (between c.args.core.now c.args.a.now c.args.b.now) (length (g.V.View.family c.args.view.now)) (is_pure_between c.args.core.now c.args.a.now c.args.b.now) c.args.rest c.lo.result c.in-Some.found
    c.lo.ensures.value e in
    record { value = value; apart = λ z. value ∙ zero_apart (g.V.View.family c.args.view.now) c.vars-vars.ensures.sets.full (between c.args.core.now c.args.a.now c.args.b.now) (is_pure_between c.args.core.now c.args.a.now c.args.b.now) c.args.rest c.args.whole c.lo.ensures.ordered c.requires.whole z }
