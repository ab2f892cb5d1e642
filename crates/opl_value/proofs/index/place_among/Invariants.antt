use Rattle.std.proofs.Common.{◌≡◌, ℕ, ◌<◌, ◌≤◌, ◌-◌, length, slice_index}
use Rattle.std.specs.declared.cmp.Ordering.TheVariants.{Less, Greater}
use Rattle.opl_value.specs.Order.{value_cmp}
use Rattle.opl_value.specs.Places.{value_at}
use Rattle.opl_value.proofs.index.place_among.Given as goal

-- what stands before the part that is left comes before the value, and what stands behind it comes after
abbrev pub invariant-loop-low : goal.invariant-loop-low
invariant-loop-low l = (l.low ≤ l.high) × (l.high ≤ length l.rising)
    × ((k : ℕ) → k < l.low → value_cmp (value_at l.values (slice_index l.rising k)) l.wanted ≡ Less)
    × ((k : ℕ) → l.high ≤ k → k < length l.rising → value_cmp (value_at l.values (slice_index l.rising k)) l.wanted ≡ Greater)

abbrev pub decreases-loop-low : goal.decreases-loop-low
decreases-loop-low l = l.high - l.low
