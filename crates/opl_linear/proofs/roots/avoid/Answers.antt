use Rattle.std.proofs.Common.{rules}
use Rattle.std.specs.Prelude.{FitsSigned}
use mir.Syntax.{w64, w128}
use Rattle.std.proofs.lemmas.Int.{to_z-of_z}
use Rattle.opl_linear.proofs.Differs.{avoids_missing, avoids_value, another_stays}
use Rattle.opl_linear.proofs.roots.avoid.Goals as goal

pub cut-requires-clause-stays : goal.cut-requires-clause-stays
cut-requires-clause-stays g c =
    let w : FitsSigned w64 c.in-Some-value_of.value = search rules in
    simp to_z-of_z (another_stays (g.N.View.family c.args.n.now) c.args.x c.in-Some-value_of.value c.requires.there c.requires.open)

pub returns-in-None-value_of-clause-avoids : goal.returns-in-None-value_of-clause-avoids
returns-in-None-value_of-clause-avoids g c =
    let rf = c.ranges.factor in
    let rr = c.ranges.rest in
    let v : FitsSigned w128 c.in-Some.wanted = search rules in
    let i = simp to_z-of_z at c.in-Some.ensures in
    let m = simp to_z-of_z at c.in-None-value_of.ensures in
    avoids_missing (g.N.View.family c.args.n.now) c.args.x c.args.factor c.args.rest c.in-Some.wanted i m

pub returns-in-Some-value_of-clause-avoids : goal.returns-in-Some-value_of-clause-avoids
returns-in-Some-value_of-clause-avoids g c =
    let rf = c.ranges.factor in
    let rr = c.ranges.rest in
    let v : FitsSigned w128 c.in-Some.wanted = search rules in
    let w : FitsSigned w64 c.in-Some-value_of.value = search rules in
    let i = simp to_z-of_z at c.in-Some.ensures in
    let m = simp to_z-of_z at c.in-Some-value_of.ensures in
    let u = simp to_z-of_z at c.cut.ensures.cut in
    avoids_value (g.N.View.family c.args.n.now) _ c.args.x c.args.factor c.args.rest c.in-Some.wanted c.in-Some-value_of.value c.requires.there c.requires.open i m.0 m.1 u
