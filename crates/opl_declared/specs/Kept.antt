-- The declared names of a model, as the program keeps them.
use Rattle.std.specs.Prelude.{◌≡◌, ℕ, ◌+◌, List, [], ◌∷◌, length, map, Option, None, Some}
use Rattle.std.specs.List.{flat_map}
use Rattle.opl_value.specs.declared.value.IndexSpace.{IndexSpace}
use Rattle.opl_eval.specs.Evaluation.{Item}
use Rattle.opl_meaning.specs.declared.variable.VariableItem.{VariableItem}
use Rattle.opl_meaning.specs.Runs.{Names, Text}
use Rattle.opl_draft.specs.Numbers.{Numbered, arrays_of, entries}
use Rattle.opl_declared.specs.declared.declared.Declared as code
use Rattle.opl_declared.specs.declared.declared.Numbered as numbered
use Rattle.opl_declared.specs.declared.names.Names as names

-- the names of a list of names
abbrev pub texts_of : names.Names → List Text
texts_of n = map (λ t. t.now) n.texts

-- the name of a declaration, where it declares no array
abbrev pub plain_name : Text → Option IndexSpace → List Text
plain_name name None = name ∷ []
plain_name name (Some space) = []

abbrev pub plain_names : List VariableItem → List Text
plain_names items = flat_map (λ v. plain_name v.name v.space) items

-- the names of decision variables
abbrev pub declared_names : List VariableItem → Names
declared_names items = record { all = map (λ v. v.name) items; plain = plain_names items }

-- the same as they are kept
unfoldable pub names_in : code.Declared → Names
names_in d = record { all = texts_of d.names; plain = plain_names d.items.now }

-- the number of the first variable of each declaration, where the first of all has this number
abbrev pub firsts_of : ℕ → List VariableItem → List ℕ
firsts_of n [] = []
firsts_of n (v ∷ vs) = n ∷ firsts_of (n + length v.sets) vs

-- what is kept is right for these names of data
pub record IsDeclared (d : code.Declared) (items : List Item) : Type 0 where
  pub names : texts_of d.names ≡ map (λ v. v.name) d.items.now
  pub firsts : d.firsts ≡ firsts_of 0 d.items.now
  pub arrays : texts_of d.arrays ≡ map (λ a. a.name) (arrays_of (entries items d.items.now))

-- the variables of a declaration
abbrev pub numbered_of : numbered.Numbered → Numbered
numbered_of n = record { item = n.item.now; first = n.first }
