use Rattle.std.proofs.Common.{rules, arith, ap, refl, ◌∙◌, ◌≡◌, pos, neg_ℤ}
use Rattle.std.specs.Prelude.{FitsSigned, int_rem}
use mir.Syntax.{w128}
use Rattle.std.proofs.lemmas.Int.{ints, to_z-of_z}
use Rattle.opl_range.proofs.Roots.{root_none, root_some}
use Rattle.opl_linear.proofs.Widths.{root_one, root_less}
use Rattle.opl_linear.proofs.roots.root.Goals as goal

pub returns-then-c-eq1 : goal.returns-then-c-eq1
returns-then-c-eq1 c =
    let k = c.ranges.k in
    let d = c.ranges.c in
    let r : FitsSigned w128 c.negated.result = search rules in
    let e = simp to_z-of_z at c.negated.ensures in
    simp to_z-of_z (root_one c.args.k c.args.c c.negated.result (omega (arith, ints, c.if-c-eq1.true)) e)

pub returns-then-c-eqminus1 : goal.returns-then-c-eqminus1
returns-then-c-eqminus1 c =
    let k = c.ranges.k in
    let d = c.ranges.c in
    simp to_z-of_z (root_less c.args.k c.args.c c.args.k (omega (arith, ints, c.if-c-eqminus1.true)) refl)

pub returns-then-remainder-eq0 : goal.returns-then-remainder-eq0
returns-then-remainder-eq0 c =
    let k = c.ranges.k in
    let d = c.ranges.c in
    let q : FitsSigned w128 c.quotient.result = search rules in
    let r : FitsSigned w128 c.negated-then-remainder-eq0.result = search rules in
    let e = simp to_z-of_z at c.negated-then-remainder-eq0.ensures in
    let f = simp to_z-of_z at c.quotient.ensures.value in
    let m = simp to_z-of_z at c.remainder.ensures in
    let z : int_rem c.args.k c.args.c ≡ pos 0 = omega (arith, ints, m) in
    simp to_z-of_z (root_some c.args.k c.args.c c.negated-then-remainder-eq0.result c.requires.nonzero z (e ∙ ap neg_ℤ f))

pub returns-else-remainder-eq0 : goal.returns-else-remainder-eq0
returns-else-remainder-eq0 c =
    let k = c.ranges.k in
    let d = c.ranges.c in
    let m = simp to_z-of_z at c.remainder.ensures in
    root_none c.args.k c.args.c c.requires.nonzero (λ z. c.if-remainder-eq0.false (omega (arith, ints, m, z)))
