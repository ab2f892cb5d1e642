-- How names are looked up by the places of their latest declarations.
use Rattle.std.specs.Prelude.{◌≡◌, ℕ, Bool, true, false, List, [], ◌∷◌, Option, None, Some, is_some}
use Rattle.std.specs.List.{slice_get}
use Rattle.opl_value.specs.declared.value.Value.{Value}
use Rattle.opl_value.specs.declared.value.Dimension.TheOpen.{Value-F}
use Rattle.opl_value.specs.declared.value.Dimension.TheViews.{out-Value}
use Rattle.opl_eval.specs.Evaluation.{Environment, Item, parameter_or}
use Rattle.opl_meaning.specs.declared.variable.VariableItem.{VariableItem}
use Rattle.opl_meaning.specs.Runs.{Text}
use Rattle.opl_draft.specs.Drafts.{Cells}
use Rattle.opl_draft.specs.Numbers.{Numbered, array_or, cells_or, data_cells, entries, variable_cells}
use Rattle.opl_draft.specs.Unrolled.{named_array, named_cells}

-- both of a pair
abbrev pub both : Option VariableItem → Option ℕ → Option Numbered
both None n = None
both (Some v) None = None
both (Some v) (Some n) = Some (record { item = v; first = n })

-- the declaration at a place, with the number of its first variable
abbrev pub numbered_at : Option ℕ → List VariableItem → List ℕ → Option Numbered
numbered_at None items firsts = None
numbered_at (Some i) items firsts = both (slice_get items i) (slice_get firsts i)

-- the array at a place
abbrev pub cells_at : Option ℕ → List Cells → Option Cells
cells_at None arrays = None
cells_at (Some i) arrays = slice_get arrays i

-- a place, where something is
abbrev pub guarded : Bool → Option ℕ → Option ℕ
guarded true place = place
guarded false place = None

-- whether a value is an array
abbrev pub array_layer : {A C : Type 0} → Value-F A Value C → Bool
array_layer (Value-F.Array space cells) = true
array_layer v = false

abbrev pub is_array : Value → Bool
is_array v = array_layer (out-Value v)

-- the elements of a declared value
abbrev pub item_cells : Option Item → Option Cells
item_cells None = None
item_cells (Some i) = data_cells i.name i.value

-- the elements of variables, else those before
abbrev pub or_cells : Option Numbered → Option Cells → Option Cells
or_cells None before = before
or_cells (Some v) before = variable_cells v.item v.first v.item.space

-- whether a name stands for an array: that of variables, else that of a value
abbrev pub names_value : Option Value → Bool
names_value None = false
names_value (Some v) = is_array v

abbrev pub names_array : Option Numbered → Option Value → Bool
names_array None v = names_value v
names_array (Some n) v = is_some n.item.space

-- ---- terms that are names

-- the number of the array that a name stands for, and its elements
abbrev pub array_named : List VariableItem → Option Text → Environment → Option ℕ
array_named items None env = None
array_named items (Some name) env = named_array (parameter_or None name env.parameters) (array_or None 0 name (entries env.items items))

abbrev pub cells_named : List VariableItem → Option Text → Environment → Option Cells
cells_named items None env = None
cells_named items (Some name) env = named_cells (parameter_or None name env.parameters) (cells_or None name (entries env.items items))
