use Rattle.std.proofs.Common.{◌≡◌, pos, rules, arith, sym, ◌∙◌}
use Rattle.std.specs.Prelude.{FitsSigned}
use mir.Syntax.{w128}
use Rattle.std.proofs.lemmas.Int.{ints, to_z-of_z}
use Rattle.opl_range.proofs.Roots.{two_rise, two_fall}
use Rattle.opl_range.proofs.zeros.zero_by_two.Goals as goal

pub negated-requires : goal.negated-requires
negated-requires g c = let k = c.ranges.k in simp to_z-of_z c.requires.small

pub returns-then-first-eq1 : goal.returns-then-first-eq1
returns-then-first-eq1 g c =
    let k = c.ranges.k in
    let i = c.ranges.first in
    let j = c.ranges.second in
    let e = simp to_z-of_z at c.are_opposite_units.ensures in
    let h = simp to_z-of_z at c.meets.ensures in
    let p : c.args.first ≡ pos 1 = omega (arith, ints, c.if-first-eq1.true) in
    two_rise (g.V.View.family c.args.view.now) c.args.x c.args.y c.args.k c.args.first c.args.second c.meets.result (sym e ∙ c.if-not-are_opposite_units.false) p h

pub returns : goal.returns
returns g c =
    let k = c.ranges.k in
    let i = c.ranges.first in
    let j = c.ranges.second in
    let m : FitsSigned w128 c.negated.result = search rules in
    let e = simp to_z-of_z at c.are_opposite_units.ensures in
    let n = simp to_z-of_z at c.negated.ensures in
    let h = simp to_z-of_z at c.meets-2.ensures in
    two_fall (g.V.View.family c.args.view.now) c.args.x c.args.y c.args.k c.args.first c.args.second c.negated.result c.meets-2.result (sym e ∙ c.if-not-are_opposite_units.false) (λ z. c.if-first-eq1.false (omega (arith, ints, z))) n h
