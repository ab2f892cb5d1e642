use Rattle.std.proofs.Common.{arith}
use Rattle.std.proofs.lemmas.Int.{to_z-of_z}
use Rattle.opl_linear.proofs.AtMost.{among_at, factor_fits, factors_at, trimmed_next, changes_next}
use Rattle.opl_linear.proofs.at_most.trim_all.Goals as goal

pub trim-changed-requires-clause-there : goal.trim-changed-requires-clause-there
trim-changed-requires-clause-there g c =
    let a = among_at _ c.args.parts.now c.loop-part.part-index c.requires.there c.loop-part-test.true in
    omega (arith, a, c.loop-part.invariant.0.same)

pub trim-changed-requires-clause-some : goal.trim-changed-requires-clause-some
trim-changed-requires-clause-some g c =
    let k = factor_fits c.args.parts.now c.loop-part.part-index c.requires.factors c.loop-part-test.true in
    simp to_z-of_z ((factors_at c.args.parts.now c.loop-part.part-index c.requires.factors c.loop-part-test.true).0)

pub trim-changed-requires-clause-small : goal.trim-changed-requires-clause-small
trim-changed-requires-clause-small g c =
    let k = factor_fits c.args.parts.now c.loop-part.part-index c.requires.factors c.loop-part-test.true in
    simp to_z-of_z ((factors_at c.args.parts.now c.loop-part.part-index c.requires.factors c.loop-part-test.true).1)

pub loop-part-preserved : goal.loop-part-preserved
loop-part-preserved g c =
    let rs = c.ranges.slack in
    let k = factor_fits c.args.parts.now c.loop-part.part-index c.requires.factors c.loop-part-test.true in
    let t = simp to_z-of_z at c.trim-changed.ensures.trims in
    let i = simp to_z-of_z at c.loop-part.invariant.0 in
    (simp to_z-of_z (trimmed_next (g.N.View.family c.args.n.now) (g.N.View.family c.loop-part.n) (g.N.View.family c.trim-changed.new.n) c.args.parts.now c.args.slack c.loop-part.part-index c.trim-changed.result c.requires.once c.requires.there c.requires.sets c.loop-part-test.true i t), changes_next (g.N.View.family c.args.n.now) (g.N.View.family c.loop-part.n) (g.N.View.family c.trim-changed.new.n) c.args.parts.now c.args.slack c.loop-part.part-index c.loop-part.changed c.trim-changed.result c.requires.once c.requires.there c.requires.sets c.loop-part-test.true i t c.loop-part.invariant.1, g.met.N.Narrow.leads_on _ _ _ c.loop-part.invariant.2 c.trim-changed.ensures.leads_to)
