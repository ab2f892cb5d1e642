-- Expressions that were evaluated by hand.
use Rattle.std.proofs.Common.{◌≡◌, ◌∙◌, ◌^◌, ℕ, ℤ, pos, negsuc, Bool as Truth, true, false, cond, ◌||◌, List, [], ◌∷◌, ◌++◌, map, None, Some, Ok, Err, refl, ap}
use Rattle.std.specs.Prelude.{codes}
use denote.Hole
use Rattle.std.specs.Ordering.{is_eq}
use Rattle.opl_tree.specs.declared.expression.AggregateOp.{AggregateOp}
use Rattle.opl_tree.specs.declared.expression.AggregateOp.TheVariants.{Sum, Product, Min}
use Rattle.opl_tree.specs.declared.expression.CallOp.TheVariants.{Cardinality}
use Rattle.opl_tree.specs.declared.expression.Relation.TheVariants.{Equal, Less}
use Rattle.opl_term.specs.declared.term.Pattern.TheVariants.{Single, Parts}
use Rattle.opl_value.specs.declared.value.Value.{Value}
use Rattle.opl_value.specs.declared.value.Value.TheVariants as values
use Rattle.opl_value.specs.declared.value.Value.TheVariants.{Int, Bool, Enum}
use Rattle.opl_value.specs.declared.value.IndexSpace.{IndexSpace}
use Rattle.opl_value.specs.declared.value.Dimension.TheVariants as dimensions
use Rattle.opl_value.specs.declared.value.Dimension.TheViews as views
use Rattle.opl_value.specs.declared.value.Dimension.TheViews.{roll-IndexSpace, out-roll-IndexSpace}
use Rattle.opl_value.specs.Order.{tree_cmp, row, natural, value_tree, value_eq}
use Rattle.opl_value.specs.Order.{number as number_tree}
use Rattle.opl_value.specs.Places.{value_at, dimension_values, lists, joint, place_of}
use Rattle.opl_value.proofs.Places.{values-Listed}
use Rattle.opl_value.proofs.Trees.{tree-Int, tree-Record}
use Rattle.opl_term.specs.declared.term.GroupTerm.TheOpen.{Term-F}
use Rattle.opl_eval.specs.declared.fault.EvalFault.TheVariants.{DivByZero, OutOfIndex, TooLarge, EmptyMinMax}
use Rattle.opl_eval.specs.Arithmetic.{sized, then}
use Rattle.opl_eval.specs.Compare as values_as
use Rattle.opl_eval.specs.Compare.{equal}
use Rattle.opl_eval.specs.Evaluation.{Environment, Item, Parameter, Found, Group, Meaning, value_named, item_named, declaration_of, with_parameters, parts_layer, elements, elements_layer, at_place, element, element_layer, choices, bound_parts, gathered, body_where, integer, value_layer}
use Rattle.opl_eval.specs.Evaluation.{aggregate as aggregate_of}
use Rattle.opl_eval.proofs.Known.{Known, KnownGroup, ComesTo, computed, number, name, bracket, negative, chain, related, member, conjunction, aggregate, aggregate_where, call, fields, element as element_of, tuple, listed, plus, minus, times, quotient, remainder, whole, between, unordered, ordered}

abbrev num : ℤ → Known
num n = number 0 n

abbrev i : Known
i = name 0 (codes "i")

abbrev j : Known
j = name 0 (codes "j")

-- the record of two numbers
abbrev pair : ℤ → ℤ → Value
pair m n = values.Record (Int m ∷ Int n ∷ [])

abbrev three : List Value
three = Int (pos 2) ∷ Int (pos 1) ∷ Int (pos 3) ∷ []

abbrev two_rows : List Value
two_rows = pair (pos 1) (pos 3) ∷ pair (pos 2) (pos 4) ∷ []

-- the array over {<1,3>}, with 7 as its element
abbrev space : IndexSpace
space = roll-IndexSpace (record { dims = dimensions.Listed (pair (pos 1) (pos 3) ∷ []) (0 ∷ []) ∷ [] })

abbrev named : List ℕ → Value → Item
named text v = record { name = text; value = v; declaration = 0 }

-- R is 1..0, S is {2,1,3}, T is {<1,3>,<2,4>}, E is an enumeration of a and b by declaration 4, b its second name, A is the array; each field stands second
abbrev env : Environment
env = record {
  items = named (codes "R") (values.Range (pos 1) (pos 0))
      ∷ named (codes "S") (values.Set three)
      ∷ named (codes "T") (values.Set two_rows)
      ∷ record { name = codes "E"; value = values.Names (codes "a" ∷ codes "b" ∷ []); declaration = 4 }
      ∷ named (codes "b") (Enum 4 1)
      ∷ named (codes "A") (values.Array space (Int (pos 7) ∷ []))
      ∷ [];
  parameters = [];
  position = λ p. 1;
}

abbrev means_of : KnownGroup → Group
means_of g = g.means

-- a function of what is found, and then another
elements_first : (r : Found Value) (f : Value → List Value) (next : List Value → Found (List Value)) → then r (λ v. next (f v)) ≡ then (then r (λ v. Ok (f v))) next
elements_first (Ok v) f next = refl
elements_first (Err e) f next = refl

-- an aggregate over one group, by the elements of its set and the choices from these
one_group : (at : ℕ) (op : AggregateOp) (g : Group) (body : Meaning) (vs : List Value) (cs : List (List Parameter))
    → then (g.over.value env) (λ s. Ok (elements (declaration_of (g.over.item env)) s)) ≡ Ok vs → choices g vs ≡ cs
    → value_layer (Term-F.Aggregate at op (g ∷ []) None body) env
    ≡ then (gathered (map (λ ps. body_where None body (with_parameters ps env)) cs)) (λ ws. integer (aggregate_of op at (map values_as.number ws)))
one_group at op g body vs cs e h =
    let inner : List Parameter → Found (List Value) = λ ps. body_where None body (with_parameters ps env) in
    let after : List Value → Found Value = λ ws. integer (aggregate_of op at (map values_as.number ws)) in
    let whole_set = elements_first (g.over.value env) (elements (declaration_of (g.over.item env))) (λ vs. gathered (map inner (choices g vs))) in
    ap (λ r. then r after) whole_set
    ∙ ap (λ r. then (then r (λ vs. gathered (map inner (choices g vs)))) after) e
    ∙ ap (λ c. then (gathered (map inner c)) after) h

of_three : (d : ℕ) → ◌≡◌ {A = Found (List Value)} (Ok (elements d (values.Set three))) (Ok three)
of_three d = ap (λ s. Ok (elements_layer d s)) (values.outs-Set three)

of_two_rows : (d : ℕ) → ◌≡◌ {A = Found (List Value)} (Ok (elements d (values.Set two_rows))) (Ok two_rows)
of_two_rows d = ap (λ s. Ok (elements_layer d s)) (values.outs-Set two_rows)

-- the names of the enumeration, by the number of its declaration
of_names : ◌≡◌ {A = Found (List Value)} (Ok (elements 4 (values.Names (codes "a" ∷ codes "b" ∷ [])))) (Ok (Enum 4 0 ∷ Enum 4 1 ∷ []))
of_names = ap (λ s. Ok (elements_layer 4 s)) (values.outs-Names (codes "a" ∷ codes "b" ∷ []))

abbrev called_by : List ℕ → Value → Parameter
called_by text v = record { name = text; value = v }

-- the parts of the two rows by name
named_parts : choices (means_of (unordered (Parts (codes "i" ∷ codes "j" ∷ []) ∷ []) (whole (name 0 (codes "T"))))) two_rows
    ≡ (called_by (codes "i") (Int (pos 1)) ∷ called_by (codes "j") (Int (pos 3)) ∷ []) ∷ (called_by (codes "i") (Int (pos 2)) ∷ called_by (codes "j") (Int (pos 4)) ∷ []) ∷ []
named_parts = λ i. (bound_parts (codes "i" ∷ codes "j" ∷ []) (parts_layer (values.outs-Record (Int (pos 1) ∷ Int (pos 3) ∷ []) i)) ++ [])
    ∷ (bound_parts (codes "i" ∷ codes "j" ∷ []) (parts_layer (values.outs-Record (Int (pos 2) ∷ Int (pos 4) ∷ []) i)) ++ []) ∷ []

-- ---- chains

-- 8 - 3 - 2
from_left : ComesTo (chain 0 (num (pos 8)) (minus (num (pos 3)) ∷ minus (num (pos 2)) ∷ [])) env (Ok (Int (pos 3)))
unfolding sized equal value_named item_named views.out-Value denote.Hole.Carrier.out
from_left = computed _ env _ refl

-- -7 div 2
towards_zero : ComesTo (chain 0 (negative 0 (num (pos 7))) (quotient (num (pos 2)) ∷ [])) env (Ok (Int (negsuc 2)))
unfolding sized equal value_named item_named views.out-Value denote.Hole.Carrier.out
towards_zero = computed _ env _ refl

-- -7 mod 2
sign_of_the_first : ComesTo (chain 0 (negative 0 (num (pos 7))) (remainder (num (pos 2)) ∷ [])) env (Ok (Int (negsuc 0)))
unfolding sized equal value_named item_named views.out-Value denote.Hole.Carrier.out
sign_of_the_first = computed _ env _ refl

-- 2^126 * 2
too_large : ComesTo (chain 5 (num (pos (2 ^ 126))) (times (num (pos 2)) ∷ [])) env (Err (TooLarge 5))
unfolding sized equal value_named item_named views.out-Value denote.Hole.Carrier.out
too_large = computed _ env _ refl

-- 2^126 * 2^126 * (1 div 0): the operands come before the operations
operands_first : ComesTo (chain 0 (num (pos (2 ^ 126))) (times (num (pos (2 ^ 126))) ∷ times (bracket 9 (chain 10 (num (pos 1)) (quotient (num (pos 0)) ∷ []))) ∷ [])) env (Err (DivByZero 10))
unfolding sized equal value_named item_named views.out-Value denote.Hole.Carrier.out
operands_first = computed _ env _ refl

-- ---- truth values

-- 1 = (2 = 2)
truth_counts : ComesTo (related 0 (num (pos 1)) Equal (bracket 4 (related 5 (num (pos 2)) Equal (num (pos 2))))) env (Ok (Bool true))
unfolding sized equal value_named item_named views.out-Value denote.Hole.Carrier.out
truth_counts = computed _ env _ refl

-- 1 = 2 & 1 div 0 = 1: each operand is evaluated
no_short_cut : ComesTo (conjunction 0 (related 0 (num (pos 1)) Equal (num (pos 2)) ∷ related 8 (chain 8 (num (pos 1)) (quotient (num (pos 0)) ∷ [])) Equal (num (pos 1)) ∷ [])) env (Err (DivByZero 8))
unfolding sized equal value_named item_named views.out-Value denote.Hole.Carrier.out
no_short_cut = computed _ env _ refl

-- ---- aggregates

abbrev each : List ℕ → Known → Known → KnownGroup
each text low high = unordered (Single text ∷ []) (between low high)

abbrev ten_i_and_j : Known
ten_i_and_j = chain 0 (chain 0 (num (pos 10)) (times i ∷ [])) (plus j ∷ [])

-- min (i in 1..0) i
of_none : ComesTo (aggregate 3 Min (each (codes "i") (num (pos 1)) (num (pos 0)) ∷ []) i) env (Err (EmptyMinMax 3))
unfolding sized equal value_named item_named views.out-Value denote.Hole.Carrier.out
of_none = computed _ env _ refl

-- prod (i in 1..0) i
product_of_none : ComesTo (aggregate 3 Product (each (codes "i") (num (pos 1)) (num (pos 0)) ∷ []) i) env (Ok (Int (pos 1)))
unfolding sized equal value_named item_named views.out-Value denote.Hole.Carrier.out
product_of_none = computed _ env _ refl

-- sum (i in 0..1 : i = 1) 1 div i: where the condition does not hold the body is not evaluated
hidden_fault : ComesTo (aggregate_where 0 Sum (each (codes "i") (num (pos 0)) (num (pos 1)) ∷ []) (related 0 i Equal (num (pos 1))) (chain 0 (num (pos 1)) (quotient i ∷ []))) env (Ok (Int (pos 1)))
unfolding sized equal value_named item_named views.out-Value denote.Hole.Carrier.out
hidden_fault = computed _ env _ refl

-- sum (ordered i,j in S) (10 * i + j) is 21 + 23 + 13
ordered_pairs : ComesTo (aggregate 0 Sum (ordered (Single (codes "i") ∷ Single (codes "j") ∷ []) (whole (name 0 (codes "S"))) ∷ []) ten_i_and_j) env (Ok (Int (pos 57)))
unfolding sized equal value_named item_named views.out-Value denote.Hole.Carrier.out
ordered_pairs = computed _ env _ (one_group 0 Sum (means_of (ordered (Single (codes "i") ∷ Single (codes "j") ∷ []) (whole (name 0 (codes "S"))))) ten_i_and_j.means three _ (of_three 0) refl)

-- sum (i,j in S) (10 * i + j) is 3 * (20 + 10 + 30) + 3 * (2 + 1 + 3)
all_pairs : ComesTo (aggregate 0 Sum (unordered (Single (codes "i") ∷ Single (codes "j") ∷ []) (whole (name 0 (codes "S"))) ∷ []) ten_i_and_j) env (Ok (Int (pos 198)))
unfolding sized equal value_named item_named views.out-Value denote.Hole.Carrier.out
all_pairs = computed _ env _ (one_group 0 Sum (means_of (unordered (Single (codes "i") ∷ Single (codes "j") ∷ []) (whole (name 0 (codes "S"))))) ten_i_and_j.means three _ (of_three 0) refl)

-- sum (i in 1..2, j in 1..i) (10 * i + j) is 11 + 21 + 22
later_groups : ComesTo (aggregate 0 Sum (each (codes "i") (num (pos 1)) (num (pos 2)) ∷ each (codes "j") (num (pos 1)) i ∷ []) ten_i_and_j) env (Ok (Int (pos 54)))
unfolding sized equal value_named item_named views.out-Value denote.Hole.Carrier.out
later_groups = computed _ env _ refl

-- sum (<i,j> in T) (10 * i + j) is 13 + 24
parts_of_rows : ComesTo (aggregate 0 Sum (unordered (Parts (codes "i" ∷ codes "j" ∷ []) ∷ []) (whole (name 0 (codes "T"))) ∷ []) ten_i_and_j) env (Ok (Int (pos 37)))
unfolding sized equal value_named item_named views.out-Value denote.Hole.Carrier.out
parts_of_rows = computed _ env _ (one_group 0 Sum (means_of (unordered (Parts (codes "i" ∷ codes "j" ∷ []) ∷ []) (whole (name 0 (codes "T"))))) ten_i_and_j.means two_rows _ (of_two_rows 0) named_parts)

-- sum (i in (E)) (i < b) is 1 + 0
earlier_names : ComesTo (aggregate 0 Sum (unordered (Single (codes "i") ∷ []) (whole (bracket 0 (name 1 (codes "E")))) ∷ []) (related 0 i Less (name 0 (codes "b")))) env (Ok (Int (pos 1)))
unfolding sized equal value_named item_named views.out-Value denote.Hole.Carrier.out
earlier_names = computed _ env _ (one_group 0 Sum (means_of (unordered (Single (codes "i") ∷ []) (whole (bracket 0 (name 1 (codes "E")))))) (related 0 i Less (name 0 (codes "b"))).means (Enum 4 0 ∷ Enum 4 1 ∷ []) _ of_names refl)

-- ---- sets and records

one_is_one : value_eq (Int (pos 1)) (Int (pos 1)) ≡ true
one_is_one = λ i. is_eq (tree_cmp (tree-Int (pos 1) i) (tree-Int (pos 1) i))

-- {1,1}
no_copies : ComesTo (listed 0 (num (pos 1) ∷ num (pos 1) ∷ [])) env (Ok (values.Set (Int (pos 1) ∷ [])))
no_copies = computed _ env _ (ap (λ b. Ok (values.Set (cond (b || false) (Int (pos 1) ∷ []) (Int (pos 1) ∷ Int (pos 1) ∷ [])))) one_is_one)

-- card(R)
empty_range : ComesTo (call 0 Cardinality (name 5 (codes "R"))) env (Ok (Int (pos 0)))
unfolding sized equal value_named item_named views.out-Value denote.Hole.Carrier.out
empty_range = computed _ env _ refl

-- 3 in 1..3
last_of_a_range : ComesTo (member 0 (num (pos 3)) (between (num (pos 1)) (num (pos 3)))) env (Ok (Bool true))
unfolding sized equal value_named item_named views.out-Value denote.Hole.Carrier.out
last_of_a_range = computed _ env _ refl

-- <5,6>.f, where f is the second field
second_field : ComesTo (fields 0 (tuple 0 (num (pos 5) ∷ num (pos 6) ∷ [])) (record { at = 6; text = codes "f" } ∷ [])) env (Ok (Int (pos 6)))
unfolding sized equal value_named item_named views.out-Value denote.Hole.Carrier.out
second_field = computed _ env _ (ap (λ v. Ok (value_at (parts_layer v) 1)) (values.outs-Record (Int (pos 5) ∷ Int (pos 6) ∷ [])))

-- ---- arrays

pair-tree : (m n : ℤ) → value_tree (pair m n) ≡ row (natural 3 ∷ row (row (natural 0 ∷ number_tree m ∷ []) ∷ row (natural 0 ∷ number_tree n ∷ []) ∷ []) ∷ [])
pair-tree m n = tree-Record (Int m ∷ Int n ∷ []) ∙ (λ i. row (natural 3 ∷ row (tree-Int m i ∷ tree-Int n i ∷ []) ∷ []))

other_key : value_eq (pair (pos 1) (pos 2)) (pair (pos 1) (pos 3)) ≡ false
other_key = λ i. is_eq (tree_cmp (pair-tree (pos 1) (pos 2) i) (pair-tree (pos 1) (pos 3) i))

same_key : value_eq (pair (pos 1) (pos 3)) (pair (pos 1) (pos 3)) ≡ true
same_key = λ i. is_eq (tree_cmp (pair-tree (pos 1) (pos 3) i) (pair-tree (pos 1) (pos 3) i))

keys : lists space ≡ (pair (pos 1) (pos 3) ∷ []) ∷ []
keys = ap (λ s. map dimension_values s.dims) (out-roll-IndexSpace (record { dims = dimensions.Listed (pair (pos 1) (pos 3) ∷ []) (0 ∷ []) ∷ [] }))
    ∙ ap (λ d. d ∷ []) (values-Listed (pair (pos 1) (pos 3) ∷ []) (0 ∷ []))

-- what is found at a key
found_at : (key : Value) (b : Truth) → value_eq key (pair (pos 1) (pos 3)) ≡ b
    → element 6 (key ∷ []) (Some (named (codes "A") (values.Array space (Int (pos 7) ∷ [])))) ≡ at_place 6 (Int (pos 7) ∷ []) (joint 1 (cond b (Some 0) None) (Some 0))
found_at key b e =
    ap (element_layer 6 (key ∷ [])) (values.outs-Array space (Int (pos 7) ∷ []))
    ∙ ap (λ ds. at_place 6 (Int (pos 7) ∷ []) (place_of ds (key ∷ []))) keys
    ∙ ap (λ x. at_place 6 (Int (pos 7) ∷ []) (joint 1 (cond x (Some 0) None) (Some 0))) e

-- A[<1,3>]
an_element : ComesTo (element_of 6 (name 6 (codes "A")) (tuple 8 (num (pos 1) ∷ num (pos 3) ∷ []) ∷ [])) env (Ok (Int (pos 7)))
unfolding item_named
an_element = computed _ env _ (found_at (pair (pos 1) (pos 3)) true same_key)

-- A[<1,2>]
no_element : ComesTo (element_of 6 (name 6 (codes "A")) (tuple 8 (num (pos 1) ∷ num (pos 2) ∷ []) ∷ [])) env (Err (OutOfIndex 6))
unfolding item_named
no_element = computed _ env _ (found_at (pair (pos 1) (pos 2)) false other_key)
