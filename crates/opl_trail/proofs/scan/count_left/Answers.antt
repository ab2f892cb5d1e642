use Rattle.std.proofs.Common.{◌≡◌, ◌∙◌, ◌+◌, ◌-◌, ◌*◌, ◌/◌, ◌<◌, ◌^◌, arith, refl}
use Rattle.std.specs.Prelude.{slice_index}
use Rattle.opl_trail.proofs.Counts.{left_in, sum_most, left_one, left_step, left_between}
use Rattle.opl_trail.proofs.scan.count_left.Goals as goal

pub loop-place-init : goal.loop-place-init
loop-place-init c =
    let z : (c.args.first / 64 - c.args.first / 64) * 64 ≡ 0 = omega arith in
    record { start = omega arith; count = rw z refl }

pub overflow_add-count : goal.overflow_add-count
overflow_add-count c =
    let words = c.args.trail.now.top in
    let k = c.loop-place.place in
    let first = c.args.first in
    let inv = c.loop-place.invariant in
    let f : slice_index words k < 2 ^ 64 = rw c.word.ensures at c.word.type_inv in
    let s = rw (← c.word.ensures) at (left_step words first c.args.last k c.mask.result c.loop-place.count inv.start c.mask.ensures f inv.count) in
    let m = sum_most (left_in words first c.args.last) (first / 64 * 64) ((k + 1 - first / 64) * 64) (left_one words first c.args.last) in
    omega (arith, s, m, c.loop-place-test.true, c.requires.within, c.requires.small)

pub loop-place-preserved : goal.loop-place-preserved
loop-place-preserved c =
    let words = c.args.trail.now.top in
    let k = c.loop-place.place in
    let inv = c.loop-place.invariant in
    let f : slice_index words k < 2 ^ 64 = rw c.word.ensures at c.word.type_inv in
    record {
      start = omega (arith, inv.start);
      count = rw (← c.word.ensures) at (left_step words c.args.first c.args.last k c.mask.result c.loop-place.count inv.start c.mask.ensures f inv.count);
    }

pub returns : goal.returns
returns c =
    let words = c.args.trail.now.top in
    let first = c.args.first in
    let last = c.args.last in
    let k : c.loop-place.place ≡ last / 64 + 1 = omega (arith, c.loop-place-test.false, c.loop-place.auto.place-end, c.requires.order) in
    (rw k at c.loop-place.invariant.count) ∙ left_between words first last c.requires.order
