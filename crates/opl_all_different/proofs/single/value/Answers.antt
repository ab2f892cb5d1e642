use Rattle.std.proofs.Common.{rules, arith, ◌≢◌, pos}
use Rattle.std.specs.Prelude.{FitsSigned}
use mir.Syntax.{w64, w128}
use Rattle.std.proofs.lemmas.Int.{ints, to_z-of_z, unsigned_abs-mul}
use Rattle.opl_all_different.proofs.Takings.{least_number, value_none, value_least}
use Rattle.opl_all_different.proofs.single.value.Goals as goal

pub returns-then-part-eq0 : goal.returns-then-part-eq0
returns-then-part-eq0 g c =
    let k : FitsSigned w128 c.args.part.now.factor = search rules in
    let j : FitsSigned w128 c.args.part.now.constant = search rules in
    simp to_z-of_z (value_none (g.V.View.family c.args.view.now) c.args.part.now (omega (arith, ints, c.if-part-eq0.true)))

pub product-requires : goal.product-requires
product-requires g c =
    let k : FitsSigned w128 c.args.part.now.factor = search rules in
    let l : FitsSigned w64 c.min.result = search rules in
    let n : c.args.part.now.factor ≢ pos 0 = λ e. c.if-part-eq0.false (omega (arith, ints, e)) in
    let f = c.requires.fits c.min.result (least_number (g.V.View.family c.args.view.now) c.args.part.now c.min.result n c.min.ensures) in
    simp to_z-of_z (omega (arith, f))

pub added-requires : goal.added-requires
added-requires g c =
    let k : FitsSigned w128 c.args.part.now.factor = search rules in
    let j : FitsSigned w128 c.args.part.now.constant = search rules in
    let l : FitsSigned w64 c.min.result = search rules in
    let r : FitsSigned w128 c.product.result = search rules in
    let n : c.args.part.now.factor ≢ pos 0 = λ e. c.if-part-eq0.false (omega (arith, ints, e)) in
    let f = c.requires.fits c.min.result (least_number (g.V.View.family c.args.view.now) c.args.part.now c.min.result n c.min.ensures) in
    let e = simp to_z-of_z at c.product.ensures in
    let m = unsigned_abs-mul c.args.part.now.factor c.min.result in
    simp to_z-of_z (omega (arith, ints, f, e, m))

pub returns : goal.returns
returns g c =
    let k : FitsSigned w128 c.args.part.now.factor = search rules in
    let j : FitsSigned w128 c.args.part.now.constant = search rules in
    let l : FitsSigned w64 c.min.result = search rules in
    let r : FitsSigned w128 c.product.result = search rules in
    let s : FitsSigned w128 c.added.result = search rules in
    let n : c.args.part.now.factor ≢ pos 0 = λ e. c.if-part-eq0.false (omega (arith, ints, e)) in
    let e = simp to_z-of_z at c.product.ensures in
    let f = simp to_z-of_z at c.added.ensures in
    simp to_z-of_z (value_least (g.V.View.family c.args.view.now) c.args.part.now c.min.result c.product.result c.added.result n c.min.ensures c.requires.single e f)
