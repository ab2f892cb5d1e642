use Rattle.std.proofs.Common.{Some, None, ap, cond, length, sym, ◌<◌, ◌∙◌, arith}
use Rattle.std.specs.Option.{option_or}
use Rattle.opl_value.specs.Order.{value_eq}
use Rattle.opl_bind.proofs.FirstPlaces.{place_in-more}
use Rattle.opl_bind.proofs.first_place.first_places.Goals as goal

pub loop-place-preserved : goal.loop-place-preserved
loop-place-preserved c = λ wanted.
    let values = c.args.values.now in
    let l : c.loop-place.place < length values = omega arith in
    c.in_ok-add_first.ensures wanted
    ∙ ap (λ o. option_or o (cond (value_eq wanted c.index-values-place.result) (Some c.loop-place.place) None)) (c.loop-place.invariant wanted)
    ∙ sym (place_in-more wanted values c.loop-place.place c.index-values-place.result l c.index-values-place.is)
