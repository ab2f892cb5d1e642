-- When the values of the visible names are of the types that typing knows of them.
use Rattle.std.specs.Prelude.{◌≡◌, ℕ, true, false, Some}
use Rattle.opl_type_rules.specs.Types.{Sort, Sorts, is_storable}
use Rattle.opl_type_rules.specs.Types.Sort.{array, index}
use Rattle.opl_type_rules.specs.Scope.{Scope, Text, Thing, field_sorts, is_decided, lookup, sort_of}
use Rattle.opl_eval.specs.Evaluation.{Environment, Item, elements, item_named, value_named}
use Rattle.opl_typed_values.specs.OfSort.{AllHaveSort, HasSort, IsArrayOf, are_plain, is_of_data}

-- a name that is data and no array has a value of its type; a name of an array of data stands for one with elements of their type, and that of a range or an enumeration for values of its type
pub record AreOfTheirSorts (names : ℕ → ℕ) (sc : Scope) (env : Environment) : Type 0 where
  pub values : (name : Text) (thing : Thing) → lookup sc name ≡ Some thing → is_decided thing ≡ false → is_storable (sort_of thing) ≡ true → HasSort (field_sorts sc) names (sort_of thing) (value_named name env)
  pub arrays : (name : Text) (thing : Thing) (indices : Sorts) (s : Sort) → lookup sc name ≡ Some thing → is_decided thing ≡ false → sort_of thing ≡ array indices s → is_storable s ≡ true →
      (i : Item) × (item_named name env ≡ Some i) × IsArrayOf (field_sorts sc) names s i.value
  pub indices : (name : Text) (thing : Thing) (s : Sort) → lookup sc name ≡ Some thing → is_decided thing ≡ false → sort_of thing ≡ index s →
      (i : Item) × (item_named name env ≡ Some i) × AllHaveSort (field_sorts sc) names s (elements i.declaration i.value)
  -- only decisions are activities
  pub kinds : (name : Text) (thing : Thing) → lookup sc name ≡ Some thing → is_decided thing ≡ false → is_of_data (sort_of thing) ≡ true
  -- the fields of structs have types that a declaration may write
  pub structs : (k : ℕ) → are_plain (field_sorts sc k) ≡ true
