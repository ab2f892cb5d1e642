-- The values that data files give, and the names that await them.
use Rattle.std.specs.Prelude.{ℕ, ◌+◌, cond, is_some, List, [], ◌∷◌, ◌++◌, slice_get, Option, Some, None, Ok, Err}
use Rattle.opl_tree.specs.declared.declaration.DeclTree.{DeclTree}
use Rattle.opl_tree.specs.declared.declaration.DeclTree.TheVariants as decls
use Rattle.opl_tree.specs.declared.declaration.EnumNamesTree.{EnumNamesTree}
use Rattle.opl_tree.specs.declared.declaration.EnumNamesTree.TheVariants as names
use Rattle.opl_tree.specs.declared.declaration.InitialTree.{InitialTree}
use Rattle.opl_tree.specs.declared.declaration.InitialTree.TheVariants as initials
use Rattle.opl_data.specs.declared.tree.DataTree.{DataTree}
use Rattle.opl_data.specs.declared.tree.DataItem.{DataItem}
use Rattle.opl_data.specs.declared.tree.DataValue.{DataValue}
use Rattle.opl_given.specs.declared.fault.BindFault.TheVariants as faults
use Rattle.opl_given.specs.Faults.{Bound, then, provided}
use Rattle.opl_given.specs.Names.{Text, position}

-- ---- the names that await a value

-- where the value stands in a data file, the name
abbrev pub awaited_initial : InitialTree → Text → List Text
awaited_initial (initials.External at) name = name ∷ []
awaited_initial (initials.Written value) name = []

abbrev pub awaited_names : EnumNamesTree → Text → List Text
awaited_names (names.External at is_written) name = name ∷ []
awaited_names (names.Listed at first rest) name = []

-- the name of a declaration that awaits its value
abbrev pub awaited_by : DeclTree → List Text
awaited_by (decls.Data t) = awaited_initial t.initial t.name.text
awaited_by (decls.Enumeration t) = awaited_names t.names t.name.text
awaited_by t = []

-- the names that await a value, behind those before
abbrev pub awaited : List Text → List DeclTree → List Text
awaited before [] = before
awaited before (t ∷ ts) = awaited (before ++ awaited_by t) ts

-- ---- the values that are given

-- a value that is given, and the number of its file
pub record GivenValue : Type 0 where
  pub file : ℕ
  pub value : DataValue

-- the names to which values are given, and the values in the same order
pub record Given : Type 0 where
  pub names : List Text
  pub values : List GivenValue

abbrev pub nothing_given : Given
nothing_given = record { names = []; values = [] }

-- the value that is given to a name, if there is one
abbrev pub value_at : List GivenValue → Option ℕ → Option GivenValue
value_at values (Some place) = slice_get values place
value_at values None = None

unfoldable pub given_to : Given → Text → Option GivenValue
given_to given name = value_at given.values (position name given.names)

-- one more value
unfoldable pub with_value : Given → ℕ → DataItem → Given
with_value given file item = record { names = given.names ++ item.name.text ∷ []; values = given.values ++ record { file = file; value = item.value } ∷ [] }

-- a value may be given once, to a name that awaits it
abbrev pub give : List Text → ℕ → Given → DataItem → Bound Given
give awaiting file given item =
    provided (is_some (position item.name.text awaiting)) (faults.Given item.name.text)
    (cond (is_some (position item.name.text given.names)) (Err (faults.Twice item.name.text)) (Ok (with_value given file item)))

-- the items of a file, in order
abbrev pub give_items : List Text → ℕ → Given → List DataItem → Bound Given
give_items awaiting file given [] = Ok given
give_items awaiting file given (item ∷ items) = then (give awaiting file given item) (λ more. give_items awaiting file more items)

-- the items of all files, in order, of which the first has this number
abbrev pub give_files : List Text → ℕ → Given → List DataTree → Bound Given
give_files awaiting file given [] = Ok given
give_files awaiting file given (f ∷ fs) = then (give_items awaiting file given f.items) (λ more. give_files awaiting (file + 1) more fs)

-- the values that data files give to what these declarations await
unfoldable pub all_given : List DeclTree → List DataTree → Bound Given
all_given ts files = give_files (awaited [] ts) 1 nothing_given files
