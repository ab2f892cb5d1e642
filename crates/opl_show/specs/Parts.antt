-- The texts of parts of arrays, over lists of values.
use Rattle.std.specs.Prelude.{ℕ, codes, List, ◌++◌, map}
use Rattle.opl_value.specs.declared.value.Dimension.{Dimension}
use Rattle.opl_value.specs.declared.value.Value.{Value}
use Rattle.opl_show.specs.Texts.{Enumerations, Brackets, brackets, nested, value_text}

-- the texts of values
abbrev pub texts : Enumerations → List Value → List (List ℕ)
texts enumerations values = map (value_text enumerations) values

-- the texts of keys, each with `:` behind it
abbrev pub keyed : Enumerations → List Value → List (List ℕ)
keyed enumerations keys = map (λ t. t ++ codes ":") (texts enumerations keys)

-- how these dimensions are written
abbrev pub layers : Enumerations → List Dimension → List Brackets
layers enumerations dims = map (brackets enumerations) dims

-- the text of the cells in these dimensions
abbrev pub part_text : Enumerations → List Dimension → List Value → List ℕ
part_text enumerations dims cells = nested (layers enumerations dims) (texts enumerations cells)
