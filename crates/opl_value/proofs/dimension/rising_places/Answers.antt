use Rattle.std.proofs.Common.{◌∙◌, map, ap, sym, subst}
use Rattle.opl_value.specs.Places.{AreRising}
use Rattle.opl_value.proofs.Ranked.{sorted_are_rising, sorted_are_all}
use Rattle.opl_value.proofs.dimension.rising_places.Goals as goal

pub returns : goal.returns
returns c =
    let values = c.args.values.now in
    let pairs = c.in_ok-pairs.pairs.items in
    let sorted = c.sort.new.self.items in
    let places = c.in_ok-rising.ensures ∙ ap (map (λ p. p.1)) c.as_slice.ensures.value in
    record {
      rising = subst (AreRising values) (sym places) (sorted_are_rising values pairs sorted c.requires c.in_ok-pairs.ensures c.in_ok-sort.ensures.permutation c.in_ok-sort.ensures.sorted);
      places = places ∙ sorted_are_all values pairs sorted c.requires c.in_ok-pairs.ensures c.in_ok-sort.ensures.permutation c.in_ok-sort.ensures.sorted;
    }
