use Rattle.std.proofs.Common.{rules, arith, ◌≢◌, pos}
use Rattle.std.specs.Prelude.{FitsSigned}
use mir.Syntax.{w64, w128}
use Rattle.std.proofs.lemmas.Int.{ints, to_z-of_z}
use Rattle.opl_all_different.proofs.Takings.{takes_missing, takes_value}
use Rattle.opl_all_different.proofs.taking.take.Goals as goal

pub number_for-requires-clause-there : goal.number_for-requires-clause-there
number_for-requires-clause-there g c =
    let k : FitsSigned w128 c.args.part.now.factor = search rules in
    c.requires.there (λ e. c.if-part-eq0.false (omega (arith, ints, e)))

pub number_for-requires-clause-some : goal.number_for-requires-clause-some
number_for-requires-clause-some g c =
    let k : FitsSigned w128 c.args.part.now.factor = search rules in
    λ e. c.if-part-eq0.false (omega (arith, ints, e))

pub returns-in-None-clause-takes : goal.returns-in-None-clause-takes
returns-in-None-clause-takes g c =
    let rv = c.ranges.v in
    let k : FitsSigned w128 c.args.part.now.factor = search rules in
    let n = simp to_z-of_z at c.in-None.ensures in
    takes_missing (g.N.View.family c.args.n.now) c.args.part.now c.args.v (λ e. c.if-part-eq0.false (omega (arith, ints, e))) n

pub returns-in-Some-clause-takes : goal.returns-in-Some-clause-takes
returns-in-Some-clause-takes g c =
    let rv = c.ranges.v in
    let k : FitsSigned w128 c.args.part.now.factor = search rules in
    let w : FitsSigned w64 c.in-Some.value = search rules in
    let n : c.args.part.now.factor ≢ pos 0 = λ e. c.if-part-eq0.false (omega (arith, ints, e)) in
    let i = simp to_z-of_z at c.in-Some.ensures in
    let l = simp to_z-of_z at c.lose.ensures.loses in
    takes_value (g.N.View.family c.args.n.now) (g.N.View.family c.lose.new.n) c.args.part.now c.args.v c.in-Some.value c.lose.result n (c.requires.there n) i l
