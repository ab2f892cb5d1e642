-- What the program's values stand for in the definitions.
use Rattle.std.specs.Prelude.{ℕ, List, map}
use Rattle.std.specs.Borrow.{Bor}
use Rattle.opl_value.specs.declared.value.Value.{Value}
use Rattle.opl_meaning.specs.Assigned.{value_of}
use Rattle.opl_show.specs.declared.cells.Cells.{Cells}
use Rattle.opl_show.specs.declared.cells.Cells.TheVariants.{Values, Numbers}
use Rattle.opl_show.specs.Texts.{Enumerations}

-- the lists of names that are lent
abbrev pub names_of : List (List (Bor (List ℕ))) → Enumerations
names_of enumerations = map (λ names. map (λ name. name.now) names) enumerations

-- the values of cells
abbrev pub values_of : Cells → List Value
values_of (Values values) = values.now
values_of (Numbers kind numbers) = map (value_of kind) numbers.now
