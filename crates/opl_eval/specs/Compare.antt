-- What values count as, and how they compare.
use Rattle.std.specs.Prelude.{ℕ, ℤ, pos, ◌+ℤ◌, ◌-ℤ◌, Bool, true, false, cond, not, ◌&&◌, List, [], ◌∷◌, length, int_le, int_lt, Result, Ok}
use Rattle.std.specs.List.{list_any}
use Rattle.std.specs.Ordering.{int_eq}
use Rattle.opl_tree.specs.declared.expression.Relation.{Relation}
use Rattle.opl_tree.specs.declared.expression.Relation.TheVariants.{Equal, NotEqual, Less, LessOrEqual, Greater, GreaterOrEqual}
use Rattle.opl_value.specs.declared.value.Value.{Value}
use Rattle.opl_value.specs.declared.value.Dimension.TheOpen.{Value-F}
use Rattle.opl_value.specs.declared.value.Dimension.TheViews.{out-Value}
use Rattle.opl_value.specs.Order.{value_eq}
use Rattle.opl_value.specs.Places.{or_zero}
use Rattle.opl_eval.specs.declared.fault.EvalFault.{EvalFault}
use Rattle.opl_eval.specs.Arithmetic.{sized}

-- ---- numbers

-- 1 for what holds, and 0 for what does not
abbrev pub bit : Bool → ℤ
bit b = cond b (pos 1) (pos 0)

-- the number that a value counts as, which is 0 for what is no number
abbrev pub number_layer : {A C : Type 0} → Value-F A Value C → ℤ
number_layer (Value-F.Int n) = n
number_layer (Value-F.Bool b) = bit b
number_layer v = pos 0

abbrev pub number : Value → ℤ
number v = number_layer (out-Value v)

abbrev pub is_number_layer : {A C : Type 0} → Value-F A Value C → Bool
is_number_layer (Value-F.Int n) = true
is_number_layer (Value-F.Bool b) = true
is_number_layer v = false

abbrev pub is_number : Value → Bool
is_number v = is_number_layer (out-Value v)

-- ---- relations

-- numbers are equal as numbers, all else as values
unfoldable pub equal : Value → Value → Bool
equal a b = cond (is_number a && is_number b) (int_eq (number a) (number b)) (value_eq a b)

-- where a value stands in its order: a number where it is, a name of an enumeration at its position
abbrev pub rank_layer : {A C : Type 0} → Value-F A Value C → ℤ
rank_layer (Value-F.Int n) = n
rank_layer (Value-F.Bool b) = bit b
rank_layer (Value-F.Enum declaration position) = pos position
rank_layer v = pos 0

abbrev pub rank : Value → ℤ
rank v = rank_layer (out-Value v)

abbrev pub relates : Relation → Value → Value → Bool
relates Equal a b = equal a b
relates NotEqual a b = not (equal a b)
relates Less a b = int_lt (rank a) (rank b)
relates LessOrEqual a b = int_le (rank a) (rank b)
relates Greater a b = int_lt (rank b) (rank a)
relates GreaterOrEqual a b = int_le (rank b) (rank a)

-- ---- sets

-- whether a value is in a set, between the ends of a range, or has a position in an enumeration
abbrev pub member_layer : {A C : Type 0} → Value → Value-F A Value C → Bool
member_layer v (Value-F.Set elements) = list_any (value_eq v) elements
member_layer v (Value-F.Range low high) = int_le low (number v) && int_le (number v) high
member_layer v (Value-F.Names names) = int_lt (rank v) (pos (length names))
member_layer v s = false

abbrev pub is_member : Value → Value → Bool
is_member v s = member_layer v (out-Value s)

-- how many elements a set or an enumeration lists, or a range has, which may be too many for a number
abbrev pub size_layer : {A C : Type 0} → ℕ → Value-F A Value C → Result ℤ EvalFault
size_layer at (Value-F.Set elements) = Ok (pos (length elements))
size_layer at (Value-F.Range low high) = sized at (pos (or_zero (high +ℤ pos 1 -ℤ low)))
size_layer at (Value-F.Names names) = Ok (pos (length names))
size_layer at s = Ok (pos 0)

abbrev pub cardinality : ℕ → Value → Result ℤ EvalFault
cardinality at s = size_layer at (out-Value s)

-- no value stands twice
abbrev pub all_different : List Value → Bool
all_different [] = true
all_different (v ∷ vs) = not (list_any (value_eq v) vs) && all_different vs
