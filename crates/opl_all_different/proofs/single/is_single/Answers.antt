use Rattle.std.proofs.Common.{rules, arith}
use Rattle.std.specs.Prelude.{FitsSigned}
use mir.Syntax.{w64, w128}
use Rattle.std.proofs.lemmas.Int.{ints, to_z-of_z}
use Rattle.opl_all_different.proofs.Takings.{single_none, single_more, single_ends}
use Rattle.opl_all_different.proofs.single.is_single.Goals as goal

pub returns-then-part-eq0 : goal.returns-then-part-eq0
returns-then-part-eq0 g c =
    let k : FitsSigned w128 c.args.part.now.factor = search rules in
    single_none (g.V.View.family c.args.view.now) c.args.part.now (omega (arith, ints, c.if-part-eq0.true))

pub returns-then-min-max : goal.returns-then-min-max
returns-then-min-max g c =
    let k : FitsSigned w128 c.args.part.now.factor = search rules in
    let l : FitsSigned w64 c.min.result = search rules in
    let h : FitsSigned w64 c.max.result = search rules in
    let t = simp to_z-of_z at c.if-min-max.true in
    single_more (g.V.View.family c.args.view.now) c.args.part.now c.min.result c.max.result (λ e. c.if-part-eq0.false (omega (arith, ints, e))) c.min.ensures c.max.ensures (omega (arith, ints, t))

pub returns : goal.returns
returns g c =
    let k : FitsSigned w128 c.args.part.now.factor = search rules in
    let l : FitsSigned w64 c.min.result = search rules in
    let h : FitsSigned w64 c.max.result = search rules in
    let t = simp to_z-of_z at c.if-min-max.false in
    single_ends (g.V.View.family c.args.view.now) c.args.part.now c.min.result c.max.result (λ e. c.if-part-eq0.false (omega (arith, ints, e))) c.min.ensures c.max.ensures (omega (arith, ints, t))
