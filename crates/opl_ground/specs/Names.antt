-- The names of decision variables.
use Rattle.std.specs.Prelude.{ℕ, codes, List, [], ◌∷◌, ◌++◌, map, Option, Some, None}
use Rattle.std.specs.List.{flat_map}
use Rattle.opl_value.specs.declared.value.IndexSpace.{IndexSpace}
use Rattle.opl_value.specs.declared.value.Value.{Value}
use Rattle.opl_value.specs.Places.{lists}
use Rattle.opl_bind.specs.Keys.{keys}
use Rattle.opl_meaning.specs.declared.variable.VariableItem.{VariableItem}
use Rattle.opl_show.specs.Texts.{Enumerations, joined, value_text}

-- The name of an element: NAME[k,..], with the texts of its key.
abbrev pub element_name : Enumerations → List ℕ → List Value → List ℕ
element_name enumerations name key = name ++ codes "[" ++ joined (map (value_text enumerations) key) ++ codes "]"

-- The name of a variable that is no array, and those of an array's elements in index order.
abbrev pub names_over : Enumerations → List ℕ → Option IndexSpace → List (List ℕ)
names_over enumerations name None = name ∷ []
names_over enumerations name (Some space) = map (element_name enumerations name) (keys (lists space))

-- The names of all variables, in the order of their numbers.
abbrev pub variable_names : Enumerations → List VariableItem → List (List ℕ)
variable_names enumerations items = flat_map (λ v. names_over enumerations v.name v.space) items
