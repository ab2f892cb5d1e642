use Rattle.std.proofs.Common.{◌+◌, Some, ap, sym, refl, ◌∙◌, arith}
use Rattle.std.specs.Option.{option_map}
use Rattle.std.proofs.lemmas.List.{at_drop_all}
use Rattle.opl_value.specs.Places.{place_in}
use Rattle.opl_held.proofs.Places.{place-first, place-found, place-next}
use Rattle.opl_held.proofs.keys.place_among.Goals as goal

pub loop-value-init : goal.loop-value-init
loop-value-init c = record { place = refl; behind = place-first c.args.wanted.now c.args.values.now }

pub returns-then-is_wanted : goal.returns-then-is_wanted
returns-then-is_wanted c =
    ap (λ k. Some k) c.loop-value.invariant.place
    ∙ place-found c.args.wanted.now c.args.values.now c.loop-value.value-index c.value-item.result c.loop-value-test.true c.value-item.is c.loop-value.invariant.behind (sym c.eq-is_wanted.ensures ∙ c.if-is_wanted.true)

pub loop-value-preserved : goal.loop-value-preserved
loop-value-preserved c = record {
  place = omega (arith, c.loop-value.invariant.place);
  behind = place-next c.args.wanted.now c.args.values.now c.loop-value.value-index c.value-item.result c.loop-value-test.true c.value-item.is c.loop-value.invariant.behind (sym c.eq-is_wanted.ensures ∙ c.if-is_wanted.false);
}

pub returns : goal.returns
returns c =
    let i = c.loop-value.value-index in
    sym (c.loop-value.invariant.behind ∙ at_drop_all (λ ys. option_map (λ k. i + k) (place_in c.args.wanted.now ys)) c.args.values.now i (omega (arith, c.loop-value-test.false)))
