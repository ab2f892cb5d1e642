-- Arrays of data files: the shape of the whole, then the elements in index order.
use Rattle.std.specs.Prelude.{ℕ, Bool, true, false, cond, List, [], ◌∷◌, ◌++◌, length, map, set, slice_get, nat_eq, Option, Some, None, Ok, Err}
use Rattle.opl_data.specs.declared.tree.DataPair.{DataPair}
use Rattle.opl_data.specs.declared.tree.DataValue.{DataValue}
use Rattle.opl_data.specs.declared.tree.DataValue.TheOpen.{DataValue-F}
use Rattle.opl_data.specs.declared.tree.DataValue.TheViews.{out-DataValue, out-DataPair}
use Rattle.opl_value.specs.declared.value.Value.{Value}
use Rattle.opl_value.specs.declared.value.Dimension.{Dimension}
use Rattle.opl_value.specs.Places.{dimension_values, place_in}
use Rattle.opl_given.specs.declared.fault.BindFault.{BindFault}
use Rattle.opl_given.specs.declared.form.Form.{Form}
use Rattle.opl_given.specs.Faults.{Bound, then}
use Rattle.opl_given.specs.Forms.{Known}
use Rattle.opl_given.specs.Values.{value_in, key_in, all_by_form}

-- the index set of one dimension, and the form of its elements
pub record Axis : Type 0 where
  pub dimension : Dimension
  pub form : Form

-- the elements of an index set, in order
abbrev pub values_of : Axis → List Value
values_of axis = dimension_values axis.dimension

-- ---- the cells of one dimension

-- the place of a key among the elements of the index set, if it is one of them
abbrev pub place_of_value : List Value → Option Value → Option ℕ
place_of_value values (Some v) = place_in v values
place_of_value values None = None

abbrev pub key_place : Known → Axis → DataValue → Option ℕ
key_place known axis key = place_of_value (values_of axis) (key_in known key axis.form)

-- whether a place has no cell yet
abbrev pub is_free : {C : Type 0} → Option (Option C) → Bool
is_free (Some None) = true
is_free (Some (Some cell)) = false
is_free None = false

-- a cell at its place, where none is there yet
abbrev pub put : {C : Type 0} → BindFault → List (Option C) → Option ℕ → C → Bound (List (Option C))
put wrong slots (Some place) cell = cond (is_free (slice_get slots place)) (Ok (set slots place (Some cell))) (Err wrong)
put wrong slots None cell = Err wrong

-- each cell at the place of its key
abbrev pub lay : Known → BindFault → Axis → List (Option DataValue) → List DataPair → Bound (List (Option DataValue))
lay known wrong axis slots [] = Ok slots
lay known wrong axis slots (p ∷ ps) =
    then (put wrong slots (key_place known axis (out-DataPair p).key) (out-DataPair p).value) (λ laid. lay known wrong axis laid ps)

-- the cells in the order of their places, where none is missing, behind those before
abbrev pub filled : {C : Type 0} → BindFault → List C → List (Option C) → Bound (List C)
filled wrong before [] = Ok before
filled wrong before (Some cell ∷ slots) = filled wrong (before ++ cell ∷ []) slots
filled wrong before (None ∷ slots) = Err wrong

-- so many free places
abbrev pub free : {A C : Type 0} → List A → List (Option C)
free pairs = map (λ p. None) pairs

abbrev pub listed : BindFault → Axis → List DataValue → Bound (List DataValue)
listed wrong axis parts = cond (nat_eq (length parts) (length (values_of axis))) (Ok parts) (Err wrong)

abbrev pub keyed : Known → BindFault → Axis → List DataPair → Bound (List DataValue)
keyed known wrong axis pairs =
    cond (nat_eq (length pairs) (length (values_of axis))) (then (lay known wrong axis (free pairs) pairs) (filled wrong [])) (Err wrong)

-- `[..]` has as many cells as the index set has elements; `#[..]#` has one for each key, in any order
abbrev pub cells_layer : Known → BindFault → Axis → DataValue-F DataValue DataPair → Bound (List DataValue)
cells_layer known wrong axis (DataValue-F.Array at parts) = listed wrong axis parts
cells_layer known wrong axis (DataValue-F.KeyedArray at pairs) = keyed known wrong axis pairs
cells_layer known wrong axis value = Err wrong

unfoldable pub cells_of : Known → BindFault → Axis → DataValue → Bound (List DataValue)
cells_of known wrong axis value = cells_layer known wrong axis (out-DataValue value)

-- ---- dimension after dimension

-- the cells of all these, one after another
abbrev pub opened : Known → BindFault → Axis → List DataValue → List DataValue → Bound (List DataValue)
opened known wrong axis before [] = Ok before
opened known wrong axis before (v ∷ vs) = then (cells_of known wrong axis v) (λ cells. opened known wrong axis (before ++ cells) vs)

-- each dimension opens what the one before it has; the last varies fastest
abbrev pub flat : Known → BindFault → List Axis → List DataValue → Bound (List DataValue)
flat known wrong [] values = Ok values
flat known wrong (a ∷ others) values = then (opened known wrong a [] values) (flat known wrong others)

-- the elements of an array, in index order: the shape of all comes before any element
abbrev pub elements_in : Known → ℕ → BindFault → List Axis → Form → DataValue → Bound (List Value)
elements_in known file wrong axes form value =
    then (flat known wrong axes (value ∷ [])) (λ cells. all_by_form [] (map (value_in known file) cells) form)
