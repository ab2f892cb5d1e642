use Rattle.std.proofs.Common.{◌≡◌, rules, arith, sym, subst, length, pos}
use Rattle.std.specs.Prelude.{FitsSigned}
use mir.Syntax.{w128}
use Rattle.std.proofs.lemmas.Int.{ints, to_z-of_z}
use Rattle.opl_expr.specs.Range.{has_zero}
use Rattle.opl_linear.specs.Linear.{factor_in}
use Rattle.opl_linear_filter.proofs.Weights.{below_length}
use Rattle.opl_linear_filter.proofs.Values.{part, within, first_there, second_there, first_factor_fits, one_part, two_parts, of_one, of_two, one_zero, rise_zero, fall_zero, first_small, second_small, opposite_small}
use Rattle.opl_linear_filter.proofs.short.has_zero.Goals as goal

pub has_root-requires-clause-variable : goal.has_root-requires-clause-variable
has_root-requires-clause-variable g c = within c.requires.core (g.V.View.family c.args.view.now) _ c.requires.below (first_there c.requires.core c.args.parts.now c.args.constant c.requires.form)

pub returns-then-parts-eq1 : goal.returns-then-parts-eq1
returns-then-parts-eq1 g c =
    let core = c.requires.core in
    let F = g.V.View.family c.args.view.now in
    let ps = c.args.parts.now in
    let k = c.ranges.constant in
    let n : length ps ≡ 1 = omega (arith, c.if-parts-eq1.true) in
    let d : FitsSigned w128 (part ps 0).1 = first_factor_fits core ps c.args.constant c.requires.form in
    let h = simp to_z-of_z at c.has_root.ensures in
    subst (λ qs. c.has_root.result ≡ has_zero F (factor_in qs) c.args.constant (length F)) (sym (one_part core ps c.args.constant c.requires.form n))
    (one_zero core (part ps 0) c.args.constant F c.has_root.result (of_one core ps c.args.constant c.requires.form n) c.vars-vars.ensures.sets.full (below_length core F c.requires.below) h)

pub meets-requires-clause-first : goal.meets-requires-clause-first
meets-requires-clause-first g c = within c.requires.core (g.V.View.family c.args.view.now) _ c.requires.below (first_there c.requires.core c.args.parts.now c.args.constant c.requires.form)

pub meets-requires-clause-second : goal.meets-requires-clause-second
meets-requires-clause-second g c = within c.requires.core (g.V.View.family c.args.view.now) _ c.requires.below (second_there c.requires.core c.args.parts.now c.args.constant c.requires.form (λ e. c.if-parts-eq1.false e))

pub meets-requires-clause-small : goal.meets-requires-clause-small
meets-requires-clause-small g c = λ v m.
    let ps = c.args.parts.now in
    let k = c.ranges.constant in
    simp to_z-of_z (first_small c.requires.core (part ps 0) (part ps 1) c.args.constant (g.V.View.family c.args.view.now) v (of_two c.requires.core ps c.args.constant c.requires.form (λ e. c.if-parts-eq1.false e)) c.requires.below m)

pub meets-requires-clause-opposite : goal.meets-requires-clause-opposite
meets-requires-clause-opposite g c = λ v m.
    let ps = c.args.parts.now in
    let k = c.ranges.constant in
    simp to_z-of_z (second_small c.requires.core (part ps 0) (part ps 1) c.args.constant (g.V.View.family c.args.view.now) v (of_two c.requires.core ps c.args.constant c.requires.form (λ e. c.if-parts-eq1.false e)) c.requires.below m)

pub returns-then-factor-eq1 : goal.returns-then-factor-eq1
returns-then-factor-eq1 g c =
    let core = c.requires.core in
    let F = g.V.View.family c.args.view.now in
    let ps = c.args.parts.now in
    let k = c.ranges.constant in
    let d : FitsSigned w128 (part ps 0).1 = first_factor_fits core ps c.args.constant c.requires.form in
    let h = simp to_z-of_z at c.meets.ensures in
    let u : (part ps 0).1 ≡ pos 1 = omega (arith, ints, c.if-factor-eq1.true) in
    subst (λ qs. c.meets.result ≡ has_zero F (factor_in qs) c.args.constant (length F)) (sym (two_parts core ps c.args.constant c.requires.form (λ e. c.if-parts-eq1.false e)))
    (rise_zero core (part ps 0) (part ps 1) c.args.constant F c.meets.result (of_two core ps c.args.constant c.requires.form (λ e. c.if-parts-eq1.false e)) c.vars-vars.ensures.sets.full (below_length core F c.requires.below) u h)

pub meets-requires-2-clause-first : goal.meets-requires-2-clause-first
meets-requires-2-clause-first g c = within c.requires.core (g.V.View.family c.args.view.now) _ c.requires.below (first_there c.requires.core c.args.parts.now c.args.constant c.requires.form)

pub meets-requires-2-clause-second : goal.meets-requires-2-clause-second
meets-requires-2-clause-second g c = within c.requires.core (g.V.View.family c.args.view.now) _ c.requires.below (second_there c.requires.core c.args.parts.now c.args.constant c.requires.form (λ e. c.if-parts-eq1.false e))

pub meets-requires-2-clause-small : goal.meets-requires-2-clause-small
meets-requires-2-clause-small g c = λ v m.
    let ps = c.args.parts.now in
    let k = c.ranges.constant in
    let n : FitsSigned w128 c.negated.result = search rules in
    let e = simp to_z-of_z at c.negated.ensures in
    let s = first_small c.requires.core (part ps 0) (part ps 1) c.args.constant (g.V.View.family c.args.view.now) v (of_two c.requires.core ps c.args.constant c.requires.form (λ e. c.if-parts-eq1.false e)) c.requires.below m in
    simp to_z-of_z (opposite_small v c.args.constant c.negated.result e s)

pub meets-requires-2-clause-opposite : goal.meets-requires-2-clause-opposite
meets-requires-2-clause-opposite g c = λ v m.
    let ps = c.args.parts.now in
    let k = c.ranges.constant in
    let n : FitsSigned w128 c.negated.result = search rules in
    let e = simp to_z-of_z at c.negated.ensures in
    let s = second_small c.requires.core (part ps 0) (part ps 1) c.args.constant (g.V.View.family c.args.view.now) v (of_two c.requires.core ps c.args.constant c.requires.form (λ e. c.if-parts-eq1.false e)) c.requires.below m in
    simp to_z-of_z (opposite_small v c.args.constant c.negated.result e s)

pub returns : goal.returns
returns g c =
    let core = c.requires.core in
    let F = g.V.View.family c.args.view.now in
    let ps = c.args.parts.now in
    let k = c.ranges.constant in
    let d : FitsSigned w128 (part ps 0).1 = first_factor_fits core ps c.args.constant c.requires.form in
    let n : FitsSigned w128 c.negated.result = search rules in
    let i = simp to_z-of_z at c.negated.ensures in
    let h = simp to_z-of_z at c.meets-2.ensures in
    subst (λ qs. c.meets-2.result ≡ has_zero F (factor_in qs) c.args.constant (length F)) (sym (two_parts core ps c.args.constant c.requires.form (λ e. c.if-parts-eq1.false e)))
    (fall_zero core (part ps 0) (part ps 1) c.args.constant c.negated.result F c.meets-2.result (of_two core ps c.args.constant c.requires.form (λ e. c.if-parts-eq1.false e)) c.vars-vars.ensures.sets.full (below_length core F c.requires.below)
    (λ z. c.if-factor-eq1.false (omega (arith, ints, z))) i h)
