use Rattle.std.proofs.Common.{◌≡◌, ℕ, ◌+◌, ◌-◌, ◌/◌, ◌<◌, length, sym, ap, ◌∙◌, arith}
use Rattle.std.specs.declared.cmp.Ordering.TheVariants.{Less, Equal, Greater}
use Rattle.std.proofs.lemmas.List.{get_or_read}
use Rattle.opl_value.specs.Order.{value_cmp}
use Rattle.opl_value.specs.declared.value.Value.TheVariants.{Int}
use Rattle.std.proofs.Common.{pos}
use Rattle.opl_value.proofs.Search.{side, less_before, greater_behind, here, nowhere}
use Rattle.opl_value.proofs.index.place_among.Goals as goal

pub loop-low-preserved-in-Less : goal.loop-low-preserved-in-Less
loop-low-preserved-in-Less c =
    let values = c.args.values.now in
    let rising = c.args.rising.now in
    let middle : ℕ = c.loop-low.low + (c.loop-low.high - c.loop-low.low) / 2 in
    let l : middle < length rising = omega arith in
    let read = get_or_read values _ _ (c.requires.within middle l) c.index-values-place.is (Int (pos 0)) in
    let e : side values rising c.requires c.args.wanted.now middle ≡ Less =
    ap (λ v. value_cmp v c.args.wanted.now) (sym read) ∙ sym c.order.ensures ∙ c.in-Less.is in
    (omega arith, omega arith, less_before values rising c.requires c.args.wanted.now middle l e, c.loop-low.invariant.3)

pub returns-in-Equal : goal.returns-in-Equal
returns-in-Equal c =
    let values = c.args.values.now in
    let rising = c.args.rising.now in
    let middle : ℕ = c.loop-low.low + (c.loop-low.high - c.loop-low.low) / 2 in
    let l : middle < length rising = omega arith in
    let read = get_or_read values _ _ (c.requires.within middle l) c.index-values-place.is (Int (pos 0)) in
    let e : side values rising c.requires c.args.wanted.now middle ≡ Equal =
    ap (λ v. value_cmp v c.args.wanted.now) (sym read) ∙ sym c.order.ensures ∙ c.in-Equal.is in
    sym (here values rising c.requires c.args.wanted.now middle l e)

pub loop-low-preserved : goal.loop-low-preserved
loop-low-preserved c =
    let values = c.args.values.now in
    let rising = c.args.rising.now in
    let middle : ℕ = c.loop-low.low + (c.loop-low.high - c.loop-low.low) / 2 in
    let l : middle < length rising = omega arith in
    let read = get_or_read values _ _ (c.requires.within middle l) c.index-values-place.is (Int (pos 0)) in
    let e : side values rising c.requires c.args.wanted.now middle ≡ Greater =
    ap (λ v. value_cmp v c.args.wanted.now) (sym read) ∙ sym c.order.ensures ∙ c.in-Greater.is in
    (omega arith, omega arith, c.loop-low.invariant.2, greater_behind values rising c.requires c.args.wanted.now middle e)

pub returns : goal.returns
returns c = sym (nowhere c.args.values.now c.args.rising.now c.requires c.args.wanted.now c.loop-low.low c.loop-low.high (omega arith) c.loop-low.invariant.2 c.loop-low.invariant.3)
