use Rattle.std.proofs.Common.{sym}
use Rattle.std.proofs.lemmas.Int.{to_z-of_z}
use Rattle.opl_linear.specs.Linear.{factor_in, is_above}
use Rattle.opl_linear.proofs.AtMost.{above_falls}
use Rattle.opl_filter.proofs.Removals.{left_join, left_below}
use Rattle.opl_linear.proofs.Alternating.{either_falls, left_by_first, left_by_second, first_fails, second_fails, left_so_far, fits_later, among_later, turns_end}
use Rattle.opl_linear.proofs.equal.filter_both.Goals as goal

pub narrow_at_most-requires-clause-there : goal.narrow_at_most-requires-clause-there
narrow_at_most-requires-clause-there g c =
    let rk = c.ranges.k in
    let rm = c.ranges.m in
    let d = is_above (factor_in c.args.up.now) c.args.k in
    let e = is_above (factor_in c.args.down.now) c.args.m in
    let m = either_falls d e (above_falls (factor_in c.args.up.now) c.args.k) (above_falls (factor_in c.args.down.now) c.args.m) in
    let D = g.N.View.family c.args.n.now in
    let F = g.N.View.family c.loop-changed.n in
    let i = simp to_z-of_z at c.loop-changed.invariant.0 in
    among_later _ _ c.args.up.now (sym (left_below _ D F i).same) c.requires.up_there

pub narrow_at_most-requires-clause-fits : goal.narrow_at_most-requires-clause-fits
narrow_at_most-requires-clause-fits g c =
    let rk = c.ranges.k in
    let rm = c.ranges.m in
    let d = is_above (factor_in c.args.up.now) c.args.k in
    let e = is_above (factor_in c.args.down.now) c.args.m in
    let m = either_falls d e (above_falls (factor_in c.args.up.now) c.args.k) (above_falls (factor_in c.args.down.now) c.args.m) in
    let D = g.N.View.family c.args.n.now in
    let F = g.N.View.family c.loop-changed.n in
    let i = simp to_z-of_z at c.loop-changed.invariant.0 in
    simp to_z-of_z (fits_later F D c.args.up.now _ (left_so_far d e D F c.vars-vars.ensures.sets i).sets (left_below _ D F i) c.requires.up_fits)

pub returns-in-None-clause-between : goal.returns-in-None-clause-between
returns-in-None-clause-between g c =
    let rk = c.ranges.k in
    let rm = c.ranges.m in
    let d = is_above (factor_in c.args.up.now) c.args.k in
    let e = is_above (factor_in c.args.down.now) c.args.m in
    let m = either_falls d e (above_falls (factor_in c.args.up.now) c.args.k) (above_falls (factor_in c.args.down.now) c.args.m) in
    let D = g.N.View.family c.args.n.now in
    let F = g.N.View.family c.loop-changed.n in
    let i = simp to_z-of_z at c.loop-changed.invariant.0 in
    let G = g.N.View.family c.narrow_at_most.new.n in
    let a = left_by_first d e F G (simp to_z-of_z at c.narrow_at_most.ensures.between.removals) in
    let j = left_join _ D F G i a in
    left_so_far d e D G c.vars-vars.ensures.sets j

pub returns-in-None-clause-outcome : goal.returns-in-None-clause-outcome
returns-in-None-clause-outcome g c =
    let rk = c.ranges.k in
    let rm = c.ranges.m in
    let d = is_above (factor_in c.args.up.now) c.args.k in
    let e = is_above (factor_in c.args.down.now) c.args.m in
    let m = either_falls d e (above_falls (factor_in c.args.up.now) c.args.k) (above_falls (factor_in c.args.down.now) c.args.m) in
    let D = g.N.View.family c.args.n.now in
    let F = g.N.View.family c.loop-changed.n in
    let i = simp to_z-of_z at c.loop-changed.invariant.0 in
    let G = g.N.View.family c.narrow_at_most.new.n in
    let a = left_by_first d e F G (simp to_z-of_z at c.narrow_at_most.ensures.between.removals) in
    let j = left_join _ D F G i a in
    first_fails d e D F m i (simp to_z-of_z at c.in-None.ensures.narrows)

pub narrow_at_most-requires-in-Some-clause-there : goal.narrow_at_most-requires-in-Some-clause-there
narrow_at_most-requires-in-Some-clause-there g c =
    let rk = c.ranges.k in
    let rm = c.ranges.m in
    let d = is_above (factor_in c.args.up.now) c.args.k in
    let e = is_above (factor_in c.args.down.now) c.args.m in
    let m = either_falls d e (above_falls (factor_in c.args.up.now) c.args.k) (above_falls (factor_in c.args.down.now) c.args.m) in
    let D = g.N.View.family c.args.n.now in
    let F = g.N.View.family c.loop-changed.n in
    let i = simp to_z-of_z at c.loop-changed.invariant.0 in
    let G = g.N.View.family c.narrow_at_most.new.n in
    let a = left_by_first d e F G (simp to_z-of_z at c.narrow_at_most.ensures.between.removals) in
    let j = left_join _ D F G i a in
    among_later _ _ c.args.down.now (sym (left_below _ D G j).same) c.requires.down_there

pub narrow_at_most-requires-in-Some-clause-fits : goal.narrow_at_most-requires-in-Some-clause-fits
narrow_at_most-requires-in-Some-clause-fits g c =
    let rk = c.ranges.k in
    let rm = c.ranges.m in
    let d = is_above (factor_in c.args.up.now) c.args.k in
    let e = is_above (factor_in c.args.down.now) c.args.m in
    let m = either_falls d e (above_falls (factor_in c.args.up.now) c.args.k) (above_falls (factor_in c.args.down.now) c.args.m) in
    let D = g.N.View.family c.args.n.now in
    let F = g.N.View.family c.loop-changed.n in
    let i = simp to_z-of_z at c.loop-changed.invariant.0 in
    let G = g.N.View.family c.narrow_at_most.new.n in
    let a = left_by_first d e F G (simp to_z-of_z at c.narrow_at_most.ensures.between.removals) in
    let j = left_join _ D F G i a in
    simp to_z-of_z (fits_later G D c.args.down.now _ (left_so_far d e D G c.vars-vars.ensures.sets j).sets (left_below _ D G j) c.requires.down_fits)

pub returns-in-None-narrow_at_most-clause-between : goal.returns-in-None-narrow_at_most-clause-between
returns-in-None-narrow_at_most-clause-between g c =
    let rk = c.ranges.k in
    let rm = c.ranges.m in
    let d = is_above (factor_in c.args.up.now) c.args.k in
    let e = is_above (factor_in c.args.down.now) c.args.m in
    let m = either_falls d e (above_falls (factor_in c.args.up.now) c.args.k) (above_falls (factor_in c.args.down.now) c.args.m) in
    let D = g.N.View.family c.args.n.now in
    let F = g.N.View.family c.loop-changed.n in
    let i = simp to_z-of_z at c.loop-changed.invariant.0 in
    let G = g.N.View.family c.narrow_at_most.new.n in
    let a = left_by_first d e F G (simp to_z-of_z at c.narrow_at_most.ensures.between.removals) in
    let j = left_join _ D F G i a in
    let H = g.N.View.family c.narrow_at_most-in-Some.new.n in
    let b = left_by_second d e G H (simp to_z-of_z at c.narrow_at_most-in-Some.ensures.between.removals) in
    let l = left_join _ D G H j b in
    left_so_far d e D H c.vars-vars.ensures.sets l

pub returns-in-None-narrow_at_most-clause-outcome : goal.returns-in-None-narrow_at_most-clause-outcome
returns-in-None-narrow_at_most-clause-outcome g c =
    let rk = c.ranges.k in
    let rm = c.ranges.m in
    let d = is_above (factor_in c.args.up.now) c.args.k in
    let e = is_above (factor_in c.args.down.now) c.args.m in
    let m = either_falls d e (above_falls (factor_in c.args.up.now) c.args.k) (above_falls (factor_in c.args.down.now) c.args.m) in
    let D = g.N.View.family c.args.n.now in
    let F = g.N.View.family c.loop-changed.n in
    let i = simp to_z-of_z at c.loop-changed.invariant.0 in
    let G = g.N.View.family c.narrow_at_most.new.n in
    let a = left_by_first d e F G (simp to_z-of_z at c.narrow_at_most.ensures.between.removals) in
    let j = left_join _ D F G i a in
    let H = g.N.View.family c.narrow_at_most-in-Some.new.n in
    let b = left_by_second d e G H (simp to_z-of_z at c.narrow_at_most-in-Some.ensures.between.removals) in
    let l = left_join _ D G H j b in
    second_fails d e D G m j (simp to_z-of_z at c.in-None-narrow_at_most.ensures.narrows)

pub loop-changed-preserved : goal.loop-changed-preserved
loop-changed-preserved g c =
    let rk = c.ranges.k in
    let rm = c.ranges.m in
    let d = is_above (factor_in c.args.up.now) c.args.k in
    let e = is_above (factor_in c.args.down.now) c.args.m in
    let m = either_falls d e (above_falls (factor_in c.args.up.now) c.args.k) (above_falls (factor_in c.args.down.now) c.args.m) in
    let D = g.N.View.family c.args.n.now in
    let F = g.N.View.family c.loop-changed.n in
    let i = simp to_z-of_z at c.loop-changed.invariant.0 in
    let G = g.N.View.family c.narrow_at_most.new.n in
    let a = left_by_first d e F G (simp to_z-of_z at c.narrow_at_most.ensures.between.removals) in
    let j = left_join _ D F G i a in
    let H = g.N.View.family c.narrow_at_most-in-Some.new.n in
    let b = left_by_second d e G H (simp to_z-of_z at c.narrow_at_most-in-Some.ensures.between.removals) in
    let l = left_join _ D G H j b in
    (simp to_z-of_z l, g.met.N.Narrow.leads_on _ _ _ c.loop-changed.invariant.1 (g.met.N.Narrow.leads_on _ _ _ c.narrow_at_most.ensures.leads_to c.narrow_at_most-in-Some.ensures.leads_to))

pub returns-in-Some-false-clause-between : goal.returns-in-Some-false-clause-between
returns-in-Some-false-clause-between g c =
    let rk = c.ranges.k in
    let rm = c.ranges.m in
    let d = is_above (factor_in c.args.up.now) c.args.k in
    let e = is_above (factor_in c.args.down.now) c.args.m in
    let m = either_falls d e (above_falls (factor_in c.args.up.now) c.args.k) (above_falls (factor_in c.args.down.now) c.args.m) in
    let D = g.N.View.family c.args.n.now in
    let F = g.N.View.family c.loop-changed.n in
    let i = simp to_z-of_z at c.loop-changed.invariant.0 in
    let G = g.N.View.family c.narrow_at_most.new.n in
    let a = left_by_first d e F G (simp to_z-of_z at c.narrow_at_most.ensures.between.removals) in
    let j = left_join _ D F G i a in
    let H = g.N.View.family c.narrow_at_most-in-Some.new.n in
    let b = left_by_second d e G H (simp to_z-of_z at c.narrow_at_most-in-Some.ensures.between.removals) in
    let l = left_join _ D G H j b in
    left_so_far d e D H c.vars-vars.ensures.sets l

pub returns-in-Some-false-clause-outcome : goal.returns-in-Some-false-clause-outcome
returns-in-Some-false-clause-outcome g c =
    let rk = c.ranges.k in
    let rm = c.ranges.m in
    let d = is_above (factor_in c.args.up.now) c.args.k in
    let e = is_above (factor_in c.args.down.now) c.args.m in
    let m = either_falls d e (above_falls (factor_in c.args.up.now) c.args.k) (above_falls (factor_in c.args.down.now) c.args.m) in
    let D = g.N.View.family c.args.n.now in
    let F = g.N.View.family c.loop-changed.n in
    let i = simp to_z-of_z at c.loop-changed.invariant.0 in
    let G = g.N.View.family c.narrow_at_most.new.n in
    let a = left_by_first d e F G (simp to_z-of_z at c.narrow_at_most.ensures.between.removals) in
    let j = left_join _ D F G i a in
    let H = g.N.View.family c.narrow_at_most-in-Some.new.n in
    let b = left_by_second d e G H (simp to_z-of_z at c.narrow_at_most-in-Some.ensures.between.removals) in
    let l = left_join _ D G H j b in
    let s = simp to_z-of_z at c.in-Some.ensures.narrows in
    let t = simp to_z-of_z at c.in-Some-false.ensures.narrows in
    turns_end d e D F G H _ m c.vars-vars.ensures.sets l s.0 t.0 t.1 c.in-Some-false.field-0-test
