-- What the value of a declared item is, by its type and its dimensions as they are where it is declared.
use Rattle.std.specs.Prelude.{◌≡◌, ℕ, List, [], length, Option, Some, None, Ok}
use Rattle.std.specs.List.{AllByRecursion, slice_get}
use Rattle.opl_tree.specs.declared.declaration.DataDeclTree.{DataDeclTree}
use Rattle.opl_tree.specs.declared.declaration.DeclTree.{DeclTree}
use Rattle.opl_tree.specs.declared.declaration.DimsTree.{DimsTree}
use Rattle.opl_value.specs.declared.value.Value.{Value}
use Rattle.opl_value.specs.Places.{elements}
use Rattle.opl_given.specs.declared.assigned.Override.{Override}
use Rattle.opl_given.specs.Arrays.{Axis}
use Rattle.opl_given.specs.Given.{Given}
use Rattle.opl_given.specs.Items.{array_over, lists_of}
use Rattle.opl_bind.specs.Bind.{Data, no_data, with_decls}
use Rattle.opl_bind.specs.Dimensions.{axes_in, dims_of}

-- an array over these index sets, with a cell for each key, of which this holds
pub record IsArrayOf (P : Value → Type 0) (axes : List Axis) (v : Value) : Type 0 where
  pub cells : List Value
  pub is : v ≡ array_over axes cells
  pub filled : length cells ≡ elements (lists_of axes)
  pub each : AllByRecursion P cells

-- without dimensions this holds of the value; with dimensions the value is an array over the index sets that they come to
abbrev pub ItemIs : (Value → Type 0) → Data → Option DimsTree → Value → Type 0
ItemIs P d None v = P v
ItemIs P d (Some dims) v = (axes : List Axis) × (axes_in d.environment [] (dims_of dims) ≡ Ok axes) × IsArrayOf P axes v

-- an item among the data of a model: what the declarations before it come to, and the value with which it stands behind them
pub record Stands (position : ℕ → ℕ) (given : Given) (os : List Override) (before : List DeclTree) (t : DataDeclTree) (final : Data) (Is : Data → Value → Type 0) : Type 0 where
  pub earlier : Data
  pub comes : with_decls given os before (no_data position) ≡ Ok earlier
  pub value : Value
  pub stands : slice_get final.environment.items (length earlier.environment.items) ≡ Some (record { name = t.name.text; value = value; declaration = 0 })
  pub is : Is earlier value
