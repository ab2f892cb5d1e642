-- The texts of values and of solutions.
use Rattle.std.specs.Prelude.{ℕ, ◌*◌, ℤ, Bool, cond, codes, decimal, drop, get_or, length, List, [], ◌∷◌, ◌++◌, map, take, Option, Some, None}
use Rattle.std.specs.Fmt.{signed_decimal}
use Rattle.opl_value.specs.declared.value.Value.{Value}
use Rattle.opl_value.specs.declared.value.Dimension.{Dimension}
use Rattle.opl_value.specs.declared.value.Dimension.TheOpen.{Dimension-F, IndexSpace-F, Value-F}
use Rattle.opl_value.specs.declared.value.Dimension.TheFolds.{fold-Dimension, fold-Value}
use Rattle.opl_value.specs.Places.{numbers_between}
use Rattle.opl_meaning.specs.declared.variable.VariableItem.{VariableItem}
use Rattle.opl_meaning.specs.Assigned.{item_value}
use Rattle.opl_show.specs.declared.ending.Last.{Last}
use Rattle.opl_show.specs.declared.ending.Last.TheVariants as last

-- the names of each enumeration, by the number of its declaration
abbrev pub Enumerations : Type 0
Enumerations = List (List (List ℕ))

-- each of these behind a `,`
abbrev pub behind : List (List ℕ) → List ℕ
behind [] = []
behind (t ∷ ts) = codes "," ++ t ++ behind ts

-- these with `,` between them
abbrev pub joined : List (List ℕ) → List ℕ
joined [] = []
joined (t ∷ ts) = t ++ behind ts

-- ---- arrays

-- how one dimension is written: what opens and closes it, and what stands before each element
pub record Brackets : Type 0 where
  pub opening : List ℕ
  pub closing : List ℕ
  pub prefixes : List (List ℕ)

-- the number of elements behind these dimensions
abbrev pub size_of : List Brackets → ℕ
size_of [] = 1
size_of (d ∷ ds) = length d.prefixes * size_of ds

-- each prefix before the text of the cells from its own on
abbrev pub parts_with : (List (List ℕ) → List ℕ) → ℕ → List (List ℕ) → List (List ℕ) → List (List ℕ)
parts_with text size [] cells = []
parts_with text size (p ∷ ps) cells = (p ++ text cells) ∷ parts_with text size ps (drop size cells)

-- the texts of as many cells as there are elements, nested dimension after dimension, the first outermost
abbrev pub nested : List Brackets → List (List ℕ) → List ℕ
nested [] [] = []
nested [] (c ∷ cells) = c
nested (d ∷ ds) cells = d.opening ++ joined (parts_with (nested ds) (size_of ds) d.prefixes cells) ++ d.closing

-- ---- values

-- a name of an enumeration
abbrev pub name_text : Enumerations → ℕ → ℕ → List ℕ
name_text enumerations declaration position = get_or (get_or enumerations declaration []) position []

-- a range has no keys before its elements; every other index set has
abbrev pub dimension_layer : {C : Type 0} → Dimension-F Brackets (List ℕ) C → Brackets
dimension_layer (Dimension-F.Whole low high) = record { opening = codes "["; closing = codes "]"; prefixes = map (λ v. []) (numbers_between low high) }
dimension_layer (Dimension-F.Listed values rising) = record { opening = codes "#["; closing = codes "]#"; prefixes = map (λ t. t ++ codes ":") values }

abbrev pub space_layer : {B C : Type 0} → IndexSpace-F Brackets B C → List Brackets
space_layer space = space.dims

-- numbers, names of enumerations, `<a,..>`, `{a,..}`, `[a,..]` and `#[k:a,..]#`; no other value is printed
abbrev pub value_layer : {A : Type 0} → Enumerations → Value-F A (List ℕ) (List Brackets) → List ℕ
value_layer enumerations (Value-F.Int n) = signed_decimal n
value_layer enumerations (Value-F.Bool b) = cond b (codes "1") (codes "0")
value_layer enumerations (Value-F.Enum declaration position) = name_text enumerations declaration position
value_layer enumerations (Value-F.Record parts) = codes "<" ++ joined parts ++ codes ">"
value_layer enumerations (Value-F.Set elements) = codes "{" ++ joined elements ++ codes "}"
value_layer enumerations (Value-F.Range low high) = []
value_layer enumerations (Value-F.Names names) = []
value_layer enumerations (Value-F.Array space cells) = nested space cells

-- the text of a value
unfoldable pub value_text : Enumerations → Value → List ℕ
value_text enumerations = fold-Value Brackets (List ℕ) (List Brackets) dimension_layer (value_layer enumerations) space_layer

-- how a dimension is written
unfoldable pub brackets : Enumerations → Dimension → Brackets
brackets enumerations = fold-Dimension Brackets (List ℕ) (List Brackets) dimension_layer (value_layer enumerations) space_layer

-- ---- solutions

-- NAME = VALUE
abbrev pub value_line : Enumerations → VariableItem → List ℤ → List ℕ
value_line enumerations v ns = v.name ++ codes " = " ++ value_text enumerations (item_value v.kind v.space ns) ++ codes "\n"

-- a line for each declaration of variables, in their order
abbrev pub value_lines : Enumerations → List VariableItem → List ℤ → List ℕ
value_lines enumerations [] ns = []
value_lines enumerations (v ∷ vs) ns =
    value_line enumerations v (take (length v.sets) ns) ++ value_lines enumerations vs (drop (length v.sets) ns)

-- a line with a number behind a label; none where there is no number
abbrev pub number_line : List ℕ → Option ℤ → List ℕ
number_line label None = []
number_line label (Some n) = label ++ signed_decimal n ++ codes "\n"

-- the value that the objective has under a solution, if there is an objective
abbrev pub objective_line : Option ℤ → List ℕ
objective_line value = number_line (codes "Objective: ") value

-- a solution with its number, and the value of the objective
abbrev pub solution_text : Enumerations → List VariableItem → ℕ → List ℤ → Option ℤ → List ℕ
solution_text enumerations vs number ns value =
    codes "Solution " ++ decimal number ++ codes "\n" ++ value_lines enumerations vs ns ++ objective_line value

-- ---- closing lines

-- the best value of the objective, if there is an objective and a solution was found
abbrev pub best_line : Option ℤ → List ℕ
best_line value = number_line (codes "Best: ") value

-- how the search ended: no other solution is left, as many are found as were asked for, or the choices are spent
abbrev pub end_line : Last → List ℕ
end_line (last.End) = codes "End\n"
end_line (last.Limit) = codes "Limit\n"
end_line (last.Spent) = codes "Spent\n"

-- the closing lines, where so many solutions are shown and so many choices made
abbrev pub closing : (shown choices : ℕ) (best : Option ℤ) → Last → List ℕ
closing shown choices best last =
    codes "Solutions: " ++ decimal shown ++ codes "\nChoices: " ++ decimal choices ++ codes "\n" ++ best_line best ++ end_line last
