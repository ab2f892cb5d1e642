-- Texts worked out by hand.
use Rattle.std.proofs.Common.{◌≡◌, ℕ, true, false, pos, negsuc, List, [], ◌∷◌, ◌++◌, codes, map, Some, None, refl, ap, ◌∙◌}
use Rattle.std.specs.Fmt.{digits}
use Rattle.opl_value.specs.declared.value.Value.{Value}
use Rattle.opl_value.specs.declared.value.Value.TheVariants as values
use Rattle.opl_value.specs.declared.value.Dimension.{Dimension}
use Rattle.opl_value.specs.declared.value.Dimension.TheVariants.{Whole, Listed}
use Rattle.opl_value.specs.Places.{space_of}
use Rattle.opl_value.proofs.Places.{dimensions-space_of}
use Rattle.opl_meaning.specs.declared.variable.VariableItem.{VariableItem}
use Rattle.opl_meaning.specs.declared.variable.Kind.TheVariants.{Number, Enumeration}
use Rattle.opl_show.specs.declared.ending.Last.TheVariants as last
use Rattle.opl_show.specs.Texts.{Enumerations, brackets, closing, nested, solution_text, value_line, value_text}
use Rattle.opl_show.proofs.Texts.{texts, text-Array}

-- one enumeration, with the names a and b
abbrev letters : Enumerations
letters = (codes "a" ∷ codes "b" ∷ []) ∷ []

-- the names as the keys of an array
abbrev names : Dimension
names = Listed (values.Enum 0 0 ∷ values.Enum 0 1 ∷ []) (0 ∷ 1 ∷ [])

-- an array with these cells
abbrev array : List Dimension → List Value → Value
array ds cells = values.Array (space_of ds) cells

abbrev number : ℕ → Value
number n = values.Int (pos n)

array_text : (ds : List Dimension) (cells : List Value) → value_text letters (array ds cells) ≡ nested (map (brackets letters) ds) (map (value_text letters) cells)
array_text ds cells = text-Array letters (space_of ds) cells ∙ ap (λ es. nested (map (brackets letters) es) (map (value_text letters) cells)) (dimensions-space_of ds)

over_names : value_text letters (array (names ∷ []) (number 1 ∷ number 1 ∷ [])) ≡ codes "#[a:1,b:1]#"
unfolding digits
over_names = array_text (names ∷ []) (number 1 ∷ number 1 ∷ []) ∙ simp texts refl

-- the line of an array of variables
array_line : value_line letters (record { name = codes "x"; kind = Number; space = Some (space_of (names ∷ [])); sets = [] }) (pos 1 ∷ pos 1 ∷ []) ≡ codes "x = #[a:1,b:1]#\n"
array_line = ap (λ t. codes "x = " ++ t ++ codes "\n") over_names

over_numbers : value_text letters (array (Whole (pos 1) (pos 4) ∷ []) (number 2 ∷ number 4 ∷ number 1 ∷ number 3 ∷ [])) ≡ codes "[2,4,1,3]"
unfolding digits
over_numbers = array_text (Whole (pos 1) (pos 4) ∷ []) (number 2 ∷ number 4 ∷ number 1 ∷ number 3 ∷ []) ∙ simp texts refl

-- the numbers from 1 to 4
abbrev four : List Value
four = number 1 ∷ number 2 ∷ number 3 ∷ number 4 ∷ []

two_dimensions : value_text letters (array (Whole (pos 1) (pos 2) ∷ Whole (pos 1) (pos 2) ∷ []) four) ≡ codes "[[1,2],[3,4]]"
unfolding digits
two_dimensions = array_text (Whole (pos 1) (pos 2) ∷ Whole (pos 1) (pos 2) ∷ []) four ∙ simp texts refl

names_before_numbers : value_text letters (array (names ∷ Whole (pos 0) (pos 1) ∷ []) four) ≡ codes "#[a:[1,2],b:[3,4]]#"
unfolding digits
names_before_numbers = array_text (names ∷ Whole (pos 0) (pos 1) ∷ []) four ∙ simp texts refl

-- where cells are missing, their places are empty
too_few : value_text letters (array (Whole (pos 1) (pos 3) ∷ []) (number 7 ∷ [])) ≡ codes "[7,,]"
unfolding digits
too_few = array_text (Whole (pos 1) (pos 3) ∷ []) (number 7 ∷ []) ∙ simp texts refl

-- a record with a set as the only key
abbrev records : Dimension
records = Listed (values.Record (number 1 ∷ values.Set (number 2 ∷ number 3 ∷ []) ∷ []) ∷ []) (0 ∷ [])

record_key : value_text letters (array (records ∷ []) (number 5 ∷ [])) ≡ codes "#[<1,{2,3}>:5]#"
unfolding digits
record_key = array_text (records ∷ []) (number 5 ∷ []) ∙ simp texts refl

no_elements : value_text letters (array (Whole (pos 1) (pos 0) ∷ []) []) ≡ codes "[]"
no_elements = array_text (Whole (pos 1) (pos 0) ∷ []) [] ∙ simp texts refl

negative : value_text letters (values.Int (negsuc 11)) ≡ codes "-12"
unfolding digits
negative = simp texts refl

-- the line of a variable whose values are names
name_line : value_line letters (record { name = codes "y"; kind = Enumeration 0; space = None; sets = [] }) (pos 1 ∷ []) ≡ codes "y = b\n"
name_line = simp texts refl

-- two variables with one number each
abbrev items : List VariableItem
items =
    record { name = codes "x"; kind = Number; space = None; sets = record { low = pos 0; high = pos 9 } ∷ [] }
    ∷ record { name = codes "y"; kind = Enumeration 0; space = None; sets = record { low = pos 0; high = pos 1 } ∷ [] }
    ∷ []

two_lines : solution_text letters items 3 (pos 7 ∷ pos 0 ∷ []) None ≡ codes "Solution 3\nx = 7\ny = a\n"
unfolding digits
two_lines = simp texts refl

with_value : solution_text letters items 3 (pos 7 ∷ pos 0 ∷ []) (Some (negsuc 6)) ≡ codes "Solution 3\nx = 7\ny = a\nObjective: -7\n"
unfolding digits
with_value = simp texts refl

ten : closing 10 25 None last.End ≡ codes "Solutions: 10\nChoices: 25\nEnd\n"
unfolding digits
ten = refl

spent : closing 10 25 None last.Spent ≡ codes "Solutions: 10\nChoices: 25\nSpent\n"
unfolding digits
spent = refl

limited : closing 1 25 (Some (pos 7)) last.Limit ≡ codes "Solutions: 1\nChoices: 25\nBest: 7\nLimit\n"
unfolding digits
limited = refl
