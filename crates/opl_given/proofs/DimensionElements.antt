-- The elements of index sets, by how they are kept.
use Rattle.std.proofs.Common.{◌≡◌, ℕ, ℤ, List, [], ap, sym, subst}
use Rattle.opl_value.specs.declared.value.Value.{Value}
use Rattle.opl_value.specs.declared.value.Dimension.TheVariants as dimensions
use Rattle.opl_value.specs.Places.{IsSorted, sorted_layer}
use Rattle.opl_value.proofs.Places.{values-Whole, values-Listed}
use Rattle.opl_given.specs.Elements.{listed_layer, listed_values}

pub sorted-Whole : (low high : ℤ) → IsSorted (dimensions.Whole low high)
sorted-Whole low high = subst (λ d. sorted_layer d) (sym (dimensions.outs-Whole low high)) tt

pub listed-Whole : (low high : ℤ) → listed_values (dimensions.Whole low high) ≡ []
listed-Whole low high = ap listed_layer (dimensions.outs-Whole low high)

pub listed-Listed : (values : List Value) (rising : List ℕ) → listed_values (dimensions.Listed values rising) ≡ values
listed-Listed values rising = ap listed_layer (dimensions.outs-Listed values rising)

pub ruleset dimension_elements = (values-Whole, values-Listed, sorted-Whole, listed-Whole, listed-Listed)
