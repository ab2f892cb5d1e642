use Rattle.std.proofs.Common.{rules}
use Rattle.std.specs.Prelude.{FitsSigned}
use mir.Syntax.{w128}
use Rattle.std.proofs.lemmas.Int.{to_z-of_z}
use Rattle.opl_all_different.proofs.Takings.{number_none, number_value}
use Rattle.opl_all_different.proofs.taking.number_for.Goals as goal

pub returns-in-None : goal.returns-in-None
returns-in-None g c =
    let rv = c.ranges.v in
    let j : FitsSigned w128 c.args.part.now.constant = search rules in
    let k : FitsSigned w128 c.args.part.now.factor = search rules in
    let r : FitsSigned w128 c.less.result = search rules in
    let e = simp to_z-of_z at c.less.ensures in
    let n = simp to_z-of_z at c.in-None.ensures in
    number_none (g.V.View.family c.args.view.now) c.args.part.now c.args.v c.less.result e n

pub returns-in-Some : goal.returns-in-Some
returns-in-Some g c =
    let rv = c.ranges.v in
    let j : FitsSigned w128 c.args.part.now.constant = search rules in
    let k : FitsSigned w128 c.args.part.now.factor = search rules in
    let r : FitsSigned w128 c.less.result = search rules in
    let u : FitsSigned w128 c.in-Some.wanted = search rules in
    let e = simp to_z-of_z at c.less.ensures in
    let i = simp to_z-of_z at c.in-Some.ensures in
    let w = simp to_z-of_z at c.value_of.ensures in
    number_value (g.V.View.family c.args.view.now) c.args.part.now c.args.v c.less.result c.in-Some.wanted c.value_of.result e i w
