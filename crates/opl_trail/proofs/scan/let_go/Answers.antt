use Rattle.std.proofs.Common.{◌≡◌, ◌+◌, ◌/◌, ◌<◌, ◌∙◌, arith, ap, length, length-set}
use Rattle.std.specs.Prelude.{slice_index, slice_set, bit_or}
use Rattle.std.proofs.lemmas.List.{get_or-set_same, get_or-set_other}
use Rattle.opl_trail.specs.Levels.{Levels}
use Rattle.opl_trail.proofs.Words.{clears_next, clears_end}
use Rattle.opl_trail.proofs.scan.let_go.Goals as goal

pub loop-place-preserved : goal.loop-place-preserved
loop-place-preserved c =
    let inv = c.loop-place.invariant in
    let mid = c.loop-place.trail.top in
    let k = c.loop-place.place in
    let v = bit_or (slice_index mid k) c.mask.result in
    let made : c.turn_on.new.trail.top ≡ slice_set mid k v = ap (λ (l : Levels). l.top) c.turn_on.ensures.word in
    let below : c.turn_on.new.trail.below ≡ c.loop-place.trail.below = ap (λ (l : Levels). l.below) c.turn_on.ensures.word in
    let inside : k < length mid = omega (arith, inv.long, c.requires.within, c.loop-place-test.true) in
    record {
      below = below ∙ inv.below;
      long = ap length made ∙ length-set mid k v ∙ inv.long;
      start = omega (arith, inv.start);
      clears = rw made (clears_next c.args.trail.now.top mid (slice_set mid k v) c.args.first c.args.last k c.mask.result inv.start inv.clears c.mask.ensures (get_or-set_same mid k v 0 inside) c.turn_on.ensures.change (λ j n. get_or-set_other mid k j v 0 n));
    }

pub returns-clause-gone : goal.returns-clause-gone
returns-clause-gone c =
    let inv = c.loop-place.invariant in
    let k : c.loop-place.place ≡ c.args.last / 64 + 1 = omega (arith, c.loop-place-test.false, c.loop-place.auto.place-end, c.requires.order) in
    clears_end c.args.trail.now.top c.loop-place.trail.top c.args.first c.args.last c.requires.order (rw k at inv.clears)

pub returns-clause-changes : goal.returns-clause-changes
returns-clause-changes c = c.loop-place.invariant.clears.changes
