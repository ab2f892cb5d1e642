use Rattle.std.proofs.Common.{◌<◌, ◌+◌, length, pos, refl, sym, subst, arith}
use Rattle.std.proofs.lemmas.List.{get_or_read}
use Rattle.opl_value.specs.declared.value.Value.TheVariants.{Int}
use Rattle.opl_value.specs.Ranked.{ArePaired}
use Rattle.opl_value.proofs.Ranked.{pairs_none, pairs_more}
use Rattle.opl_value.proofs.dimension.pair_with_places.Goals as goal

pub loop-place-init : goal.loop-place-init
loop-place-init c = subst (ArePaired c.args.values.now 0) (sym c.new-pairs.ensures.items) (pairs_none c.args.values.now)

pub loop-place-preserved : goal.loop-place-preserved
loop-place-preserved c =
    let values = c.args.values.now in
    let l : c.loop-place.place < length values = omega arith in
    let read = get_or_read values _ _ l c.index-values-place.is (Int (pos 0)) in
    subst (ArePaired values (c.loop-place.place + 1)) (sym c.in_ok-push.ensures.items)
    (pairs_more values c.loop-place.place c.loop-place.pairs.items _ l refl read c.loop-place.invariant)
