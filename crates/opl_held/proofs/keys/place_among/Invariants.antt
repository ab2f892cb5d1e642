use Rattle.std.proofs.Common.{◌≡◌, ◌+◌, drop}
use Rattle.std.specs.Option.{option_map}
use Rattle.opl_value.specs.Places.{place_in}
use Rattle.opl_held.proofs.keys.place_among.Given as goal

-- the value stands behind those that were seen, or nowhere
abbrev pub invariant-loop-value : goal.invariant-loop-value
invariant-loop-value l = record {
  place : l.place ≡ l.value-index;
  behind : place_in l.wanted l.values ≡ option_map (λ k. l.value-index + k) (place_in l.wanted (drop l.value-index l.values));
}
