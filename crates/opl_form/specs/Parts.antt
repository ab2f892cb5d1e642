-- What a part of an unrolled expression becomes, and how it stands as a number, in the order of values, and as a condition.
use Rattle.std.specs.Prelude.{ℕ, zero, suc, ℤ, pos, nat_eq, is_some, Bool, true, false, ◌&&◌, cond, List, [], ◌∷◌, length, map, Option, Some, None}
use Rattle.std.specs.List.{list_all}
use Rattle.opl_value.specs.declared.value.Value.{Value}
use Rattle.opl_value.specs.declared.value.Dimension.TheOpen.{Value-F}
use Rattle.opl_value.specs.declared.value.Dimension.TheViews.{out-Value}
use Rattle.opl_value.specs.Places.{place_in}
use Rattle.opl_eval.specs.Compare as compare
use Rattle.opl_eval.specs.Compare.{rank}
use Rattle.opl_eval.specs.Evaluation.{is_true}
use Rattle.opl_meaning.specs.declared.variable.Kind.{Kind}
use Rattle.opl_meaning.specs.declared.variable.Kind.TheVariants.{Number, Enumeration}
use Rattle.opl_draft.specs.Drafts.{Cells, Leaves}
use Rattle.opl_draft.specs.Drafts.Leaves.{listed, numbered}
use Rattle.opl_expr.specs.declared.forms.Cons.{Cons}
use Rattle.opl_expr.specs.declared.forms.Cons.TheVariants as C
use Rattle.opl_expr.specs.declared.forms.Expr.{Expr}
use Rattle.opl_expr.specs.declared.forms.Expr.TheVariants as E
use Rattle.opl_expr.specs.declared.forms.Op.TheVariants.{Ne}
use Rattle.opl_expr.specs.declared.tables.Cell.{Cell}
use Rattle.opl_expr.specs.declared.tables.Cell.TheVariants as cell
use Rattle.opl_expr.specs.declared.tables.Table.{Table}

-- ---- forms

-- A part becomes a value where no variable is left in it, and else a number, a name of the enumeration of this declaration by its position, or
-- a condition. A condition in an arithmetic place is its truth, which is a node more.
pub data Form : Type 0 where
  known : Value → Form
  number : Expr → Form
  name : ℕ → Expr → Form
  condition : Cons → Form
  truth : Cons → Form

-- 0 wherever an expression has a value.
abbrev pub nothing : Expr → Expr
nothing e = E.Mul (E.Const (pos 0)) e

-- The number that a part counts as. A name counts as 0, which typing rules out.
abbrev pub as_number : Form → Expr
as_number (known v) = E.Const (compare.number v)
as_number (number e) = e
as_number (name d e) = nothing e
as_number (condition c) = E.Truth c
as_number (truth c) = E.Truth c

-- Where a part stands in the order of its values: a name at its position.
abbrev pub ranked : Form → Expr
ranked (known v) = E.Const (rank v)
ranked (number e) = e
ranked (name d e) = e
ranked (condition c) = E.Truth c
ranked (truth c) = E.Truth c

-- Whether a part holds. A number or a name never does, which typing rules out.
abbrev pub as_condition : Form → Cons
as_condition (known v) = C.Fixed (is_true v)
as_condition (number e) = C.Cmp Ne (nothing e) (nothing e)
as_condition (name d e) = C.Cmp Ne (nothing e) (nothing e)
as_condition (condition c) = c
as_condition (truth c) = c

-- The value of one part before those of others.
abbrev pub with_value : Form → Option (List Value) → Option (List Value)
with_value (known v) (Some vs) = Some (v ∷ vs)
with_value g vs = None

-- The values of parts, where a variable is left in none of them.
abbrev pub all_known : List Form → Option (List Value)
all_known [] = Some []
all_known (g ∷ gs) = with_value g (all_known gs)

-- ---- sorts

-- Numbers, the names of one enumeration, and all else, of which there are no variables.
pub data Sort : Type 0 where
  whole : Sort
  named : ℕ → Sort
  other : Sort

-- Two parts can be equal where they are numbers, or names of one enumeration.
abbrev pub alike : Sort → Sort → Bool
alike whole whole = true
alike (named c) (named d) = nat_eq c d
alike s t = false

-- The sort of a value: a truth counts as a number.
abbrev pub value_sort : {A C : Type 0} → Value-F A Value C → Sort
value_sort (Value-F.Int n) = whole
value_sort (Value-F.Bool b) = whole
value_sort (Value-F.Enum d p) = named d
value_sort v = other

-- The sort of a part.
abbrev pub sort_of : Form → Sort
sort_of (known v) = value_sort (out-Value v)
sort_of (number e) = whole
sort_of (name d e) = named d
sort_of (condition c) = whole
sort_of (truth c) = whole

-- ---- arrays and their subscripts

-- So many variables from number x on.
abbrev pub number_cells : Kind → ℕ → ℕ → List Cell
number_cells kind x zero = []
number_cells kind x (suc n) = cell.Var x ∷ number_cells kind (suc x) n

-- The cells of an array: values by their ranks, or variables.
abbrev pub cells_of : Leaves → List Cell
cells_of (listed vs) = map (λ v. cell.Const (rank v)) vs
cells_of (numbered kind x n) = number_cells kind x n

-- The sort of an index or an element: a truth is no number there.
abbrev pub key_layer : {A C : Type 0} → Value-F A Value C → Sort
key_layer (Value-F.Int n) = whole
key_layer (Value-F.Enum d p) = named d
key_layer v = other

-- The sort of a subscript.
abbrev pub key_sort : Form → Sort
key_sort (known v) = key_layer (out-Value v)
key_sort (number e) = whole
key_sort (name d e) = named d
key_sort (condition c) = other
key_sort (truth c) = other

-- All these values are of this sort.
abbrev pub all_alike : Sort → List Value → Bool
all_alike s vs = list_all (λ v. alike s (key_layer (out-Value v))) vs

-- The sort of the first of these values.
abbrev pub first_sort : List Value → Sort
first_sort [] = whole
first_sort (v ∷ vs) = key_layer (out-Value v)

-- So many numbers from n on.
abbrev pub places_from : ℕ → ℕ → List ℤ
places_from n zero = []
places_from n (suc count) = pos n ∷ places_from (suc n) count

-- The indices of a dimension as numbers: their ranks where these tell them apart, which they do of numbers and of names of one enumeration, and
-- else their places. By others no subscript has a variable.
abbrev pub indices_of : List Value → List ℤ
indices_of d = cond (all_alike (first_sort d) d) (map rank d) (places_from 0 (length d))

-- The table of an array.
abbrev pub table_of : Cells → Table
table_of a = record { name = a.name; dims = map indices_of a.dims; cells = cells_of a.leaves }

-- The tables of arrays, each with the number of its array.
abbrev pub tables : List Cells → List Table
tables arrays = map table_of arrays

-- One subscript for each dimension, of the sort of each of its indices.
abbrev pub subscripts_fit : List (List Value) → List Form → Bool
subscripts_fit [] [] = true
subscripts_fit (d ∷ ds) (g ∷ gs) = all_alike (key_sort g) d && subscripts_fit ds gs
subscripts_fit ds gs = false

-- A subscript without variables is an index.
abbrev pub is_index : List Value → Form → Bool
is_index d (known v) = is_some (place_in v d)
is_index d g = true

abbrev pub are_indices : List (List Value) → List Form → Bool
are_indices (d ∷ ds) (g ∷ gs) = is_index d g && are_indices ds gs
are_indices ds gs = true

-- A variable, by the kind of its values.
abbrev pub of_kind : Kind → Expr → Form
of_kind Number e = number e
of_kind (Enumeration d) e = name d e

abbrev pub variables : Kind → ℕ → ℕ → List Form
variables kind x zero = []
variables kind x (suc n) = of_kind kind (E.Var x) ∷ variables kind (suc x) n

-- The elements of an array as parts.
abbrev pub leaves : Leaves → List Form
leaves (listed vs) = map known vs
leaves (numbered kind x n) = variables kind x n
