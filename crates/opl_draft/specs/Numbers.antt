-- The numbers of decision variables and of arrays, by name. Variables are numbered from 0 in the order of their declarations, the elements
-- of an array in index order; arrays are numbered from 0 in the order of theirs, those of data before those of variables.
use Rattle.std.specs.Prelude.{ℕ, suc, ◌+◌, cond, bytes_eq, List, [], ◌∷◌, ◌++◌, length, map, Option, Some, None}
use Rattle.opl_value.specs.declared.value.IndexSpace.{IndexSpace}
use Rattle.opl_value.specs.declared.value.Value.{Value}
use Rattle.opl_value.specs.declared.value.Dimension.TheOpen.{Value-F}
use Rattle.opl_value.specs.declared.value.Dimension.TheViews.{out-Value}
use Rattle.opl_value.specs.Places.{lists}
use Rattle.opl_eval.specs.Evaluation.{Item}
use Rattle.opl_meaning.specs.declared.variable.VariableItem.{VariableItem}
use Rattle.opl_meaning.specs.Runs.{Text}
use Rattle.opl_draft.specs.Drafts.{Cells}
use Rattle.opl_draft.specs.Drafts.Leaves.{listed, numbered}

-- ---- decision variables

-- the variables of a declaration, and the number of the first of them
pub record Numbered : Type 0 where
  pub item : VariableItem
  pub first : ℕ

-- the latest variables of a name, else those before; the first variable here has this number
abbrev pub variable_or : Option Numbered → Text → ℕ → List VariableItem → Option Numbered
variable_or before name number [] = before
variable_or before name number (v ∷ vs) =
    variable_or (cond (bytes_eq name v.name) (Some (record { item = v; first = number })) before) name (number + length v.sets) vs

-- the variables of a name
abbrev pub variable_named : Text → List VariableItem → Option Numbered
variable_named name items = variable_or None name 0 items

-- ---- elements

-- the elements of a value, where it is an array
abbrev pub cells_layer : {A : Type 0} → Text → Value-F A Value IndexSpace → Option Cells
cells_layer name (Value-F.Array space cells) = Some (record { name = name; dims = lists space; leaves = listed cells })
cells_layer name v = None

abbrev pub data_cells : Text → Value → Option Cells
data_cells name v = cells_layer name (out-Value v)

-- the elements of variables of which the first has this number, where they are an array
abbrev pub variable_cells : VariableItem → ℕ → Option IndexSpace → Option Cells
variable_cells v first None = None
variable_cells v first (Some space) = Some (record { name = v.name; dims = lists space; leaves = numbered v.kind first (length v.sets) })

-- ---- declared names

-- a declared name, with its elements where it stands for an array
pub record Entry : Type 0 where
  pub name : Text
  pub cells : Option Cells

-- the names of data
abbrev pub data_entries : List Item → List Entry
data_entries items = map (λ i. record { name = i.name; cells = data_cells i.name i.value }) items

-- the names of variables, of which the first has this number
abbrev pub variable_entries : ℕ → List VariableItem → List Entry
variable_entries number [] = []
variable_entries number (v ∷ vs) = record { name = v.name; cells = variable_cells v number v.space } ∷ variable_entries (number + length v.sets) vs

-- all declared names: those of data, then those of variables
abbrev pub entries : List Item → List VariableItem → List Entry
entries data_items items = data_entries data_items ++ variable_entries 0 items

-- the elements of the latest declaration of a name, else those before
abbrev pub cells_or : Option Cells → Text → List Entry → Option Cells
cells_or before name [] = before
cells_or before name (e ∷ es) = cells_or (cond (bytes_eq name e.name) e.cells before) name es

-- ---- arrays

-- elements before others, where there are some
abbrev pub with_cells : Option Cells → List Cells → List Cells
with_cells None arrays = arrays
with_cells (Some a) arrays = a ∷ arrays

-- the arrays among declared names
abbrev pub arrays_of : List Entry → List Cells
arrays_of [] = []
arrays_of (e ∷ es) = with_cells e.cells (arrays_of es)

-- the number of an array, if it is one and has this number, and the number of the next
abbrev pub number_of : ℕ → Option Cells → Option ℕ
number_of k None = None
number_of k (Some a) = Some k

abbrev pub number_after : ℕ → Option Cells → ℕ
number_after k None = k
number_after k (Some a) = suc k

-- the number of the array that the latest declaration of a name declares, else the one before; the first array here has this number
abbrev pub array_or : Option ℕ → ℕ → Text → List Entry → Option ℕ
array_or before k name [] = before
array_or before k name (e ∷ es) = array_or (cond (bytes_eq name e.name) (number_of k e.cells) before) (number_after k e.cells) name es
