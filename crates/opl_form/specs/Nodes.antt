-- The nodes of forms, each with its tests: at a node its magnitude first, then the depth, then the number of nodes. A node whose parts are
-- all values is evaluated, and what is undefined there is a fault.
use Rattle.std.specs.Prelude.{unsigned_abs, int_le, slice_index_or, ℕ, zero, suc, ◌+◌, ◌^◌, ℤ, pos, max, nat_le, nat_lt, Bool, true, false, cond, not, ◌||◌, ◌&&◌, List, [], ◌∷◌, ◌++◌, length, map, Option, Some, None, Result, Ok, Err}
use Rattle.std.specs.List.{list_any, list_all}
use Rattle.std.specs.Ordering.{int_eq}
use Rattle.opl_tree.specs.declared.expression.AggregateOp.{AggregateOp}
use Rattle.opl_tree.specs.declared.expression.AggregateOp.TheVariants.{Sum, Product, Min, Max}
use Rattle.opl_tree.specs.declared.expression.Relation.{Relation}
use Rattle.opl_tree.specs.declared.expression.Relation.TheVariants.{Equal, NotEqual, Less, LessOrEqual, Greater, GreaterOrEqual}
use Rattle.opl_value.specs.declared.value.Value.{Value}
use Rattle.opl_value.specs.declared.value.Value.TheVariants as values
use Rattle.opl_value.specs.Places.{place_of, value_at}
use Rattle.opl_eval.specs.declared.fault.EvalFault.{EvalFault}
use Rattle.opl_eval.specs.declared.fault.EvalFault.TheVariants.{DivByZero, OutOfIndex, EmptyMinMax}
use Rattle.opl_eval.specs.declared.arithmetic.Operation.TheVariants as operations
use Rattle.opl_eval.specs.Arithmetic as arithmetic
use Rattle.opl_eval.specs.Compare as compare
use Rattle.opl_eval.specs.Compare.{rank}
use Rattle.opl_eval.specs.Evaluation as evaluation
use Rattle.opl_eval.specs.Evaluation.{Found, is_true}
use Rattle.opl_meaning.specs.declared.variable.Kind.{Kind}
use Rattle.opl_meaning.specs.declared.variable.Kind.TheVariants.{Number, Enumeration}
use Rattle.opl_draft.specs.Drafts.{Cells, Leaves, Sign}
use Rattle.opl_draft.specs.Drafts.Leaves.{listed, numbered}
use Rattle.opl_draft.specs.Drafts.Sign.{plus, minus, quotient, remainder}
use Rattle.opl_expr.specs.declared.forms.Cons.{Cons}
use Rattle.opl_expr.specs.declared.forms.Cons.TheVariants as C
use Rattle.opl_expr.specs.declared.forms.Expr.{Expr}
use Rattle.opl_expr.specs.declared.forms.Expr.TheVariants as E
use Rattle.opl_expr.specs.declared.forms.Op.{Op}
use Rattle.opl_expr.specs.declared.forms.Op.TheVariants.{Eq, Ne, Lt, Le, Gt, Ge}
use Rattle.opl_expr.specs.Forms.{term}
use Rattle.opl_expr.specs.Sound.{term_magnitude, greatest_abs}
use Rattle.opl_form.specs.Parts.{Form, Sort, alike, all_alike, all_known, are_indices, as_condition, as_number, first_sort, indices_of, leaves, nothing, ranked, sort_of, subscripts_fit, tables}
use Rattle.opl_form.specs.Parts.Form.{known, number, name, condition, truth}
use Rattle.opl_form.specs.Parts.Sort.{whole, named, other}
use Rattle.opl_form.specs.Measures.{all_nodes, depth, depth_of, greatest, nodes, nodes_of}

-- Why no form is made: a fault of data, a magnitude of 2^127 and more at this place, or in the item at this place a form that nests too
-- deep, or too many nodes.
pub data Fault : Type 0 where
  eval : EvalFault → Fault
  large : ℕ → Fault
  deep : ℕ → Fault
  many : ℕ → Fault

abbrev pub Made : Type 0 → Type 0
Made A = Result A Fault

-- What is done with a form, if it is made.
abbrev pub next : {A B : Type 0} → Made A → (A → Made B) → Made B
next (Ok a) f = f a
next (Err fault) f = Err fault

-- A magnitude is at most 2^127 - 1.
abbrev pub sized : {A : Type 0} → ℕ → ℕ → Made A → Made A
sized at m r = cond (nat_lt m (2 ^ 127)) r (Err (large at))

-- The magnitude of an expression, by the declared sets of the variables.
abbrev pub size : List (ℤ × ℤ) → List Cells → Expr → ℕ
size sets arrays e = term_magnitude sets (term (tables arrays) [] e)

-- ---- how parts are put together

-- The sum of a first value and others.
abbrev pub chain_of : ℕ → List Value → Found Value
chain_of at [] = Ok (values.Int (pos 0))
chain_of at (v ∷ vs) = evaluation.integer (arithmetic.run at (compare.number v) (map operations.Plus (map compare.number vs)))

-- A divisor 0 without variables has no quotient, whatever is divided.
abbrev pub is_zero : Form → Bool
is_zero (known v) = int_eq (compare.number v) (pos 0)
is_zero g = false

abbrev pub unless_zero : ℕ → Form → Made Form → Made Form
unless_zero at g r = cond (is_zero g) (Err (eval (DivByZero at))) r

abbrev pub op_of : Relation → Op
op_of Equal = Eq
op_of NotEqual = Ne
op_of Less = Lt
op_of LessOrEqual = Le
op_of Greater = Gt
op_of GreaterOrEqual = Ge

-- A comparison by ranks. Parts of unlike kinds are never equal, wherever they have values; typing rules them out.
abbrev pub by_kind : Bool → Op → Expr → Expr → Cons
by_kind true op e f = C.Cmp op e f
by_kind false Eq e f = C.And (C.Cmp Ne (nothing e) (nothing e) ∷ C.Cmp Ne (nothing f) (nothing f) ∷ [])
by_kind false Ne e f = C.And (C.Cmp Eq (nothing e) (nothing e) ∷ C.Cmp Eq (nothing f) (nothing f) ∷ [])
by_kind false op e f = C.Cmp op e f

-- The greatest sum of the magnitudes of two of these; one alone stands for itself.
abbrev pub two_greatest : List ℕ → ℕ
two_greatest [] = 0
two_greatest (m ∷ []) = m
two_greatest (m ∷ n ∷ ns) = max (m + greatest (n ∷ ns)) (two_greatest (n ∷ ns))

-- The first part of a sum, and the others.
abbrev pub Parts : Type 0
Parts = Form × List Form

abbrev pub parts_nodes : Parts → ℕ
parts_nodes ps = all_nodes (ps.0 ∷ ps.1)

-- ---- the sorts of variables

-- A declared set of positions has no number below 0.
abbrev pub has_positions : ℤ × ℤ → Bool
has_positions ends = int_le (pos 0) ends.0

module _ (sets : List (ℤ × ℤ)) where
  -- The sort of a variable, by the kind of its values and its declared set.
  abbrev pub variable_sort : Kind → ℕ → Sort
  variable_sort Number x = whole
  variable_sort (Enumeration d) x = cond (has_positions (slice_index_or sets x (pos 0, pos 0))) (named d) other

  -- The variables from number x on are of this sort.
  abbrev pub variable_sorts : Sort → Kind → ℕ → ℕ → Bool
  variable_sorts s kind x zero = true
  variable_sorts s kind x (suc n) = alike s (variable_sort kind x) && variable_sorts s kind (suc x) n

  -- The sort of the elements of an array, other where they are not alike.
  abbrev pub element_sort : Leaves → Sort
  element_sort (listed vs) = cond (all_alike (first_sort vs) vs) (first_sort vs) other
  element_sort (numbered kind x n) = cond (variable_sorts (variable_sort kind x) kind x n) (variable_sort kind x) other

  -- Variables among the elements of an array are declared, and alike.
  abbrev pub are_alike : Leaves → Bool
  are_alike (listed vs) = true
  are_alike (numbered kind x n) = nat_le (x + n) (length sets) && variable_sorts (variable_sort kind x) kind x n

-- ---- tests of depth and nodes, and truths; the item stands at this place, and n nodes were made before

module _ (item : ℕ) where
  -- After n nodes there may be so many more, so deep.
  abbrev pub counted : ℕ → ℕ → ℕ → Form → Made Form
  counted n depth more g = cond (nat_le depth 2048) (cond (nat_le (n + more) 4194304) (Ok g) (Err (many item))) (Err (deep item))

  abbrev pub condition_node : ℕ → Cons → Made Form
  condition_node n c = counted n (depth_of c) (nodes_of c) (condition c)

  -- What values come to is a value, and one node.
  abbrev pub known_node : ℕ → Value → Made Form
  known_node n v = counted n 1 1 (known v)

  abbrev pub evaluated : ℕ → Found Value → Made Form
  evaluated n (Ok v) = known_node n v
  evaluated n (Err fault) = Err (eval fault)

  -- What the values come to where all parts are values, else a node.
  abbrev pub folded : ℕ → Option (List Value) → (List Value → Found Value) → Made Form → Made Form
  folded n (Some vs) come node = evaluated n (come vs)
  folded n None come node = node

  -- `a \/ b \/ ..`
  abbrev pub one_holds : ℕ → List Form → Made Form
  one_holds n gs = folded n (all_known gs) (λ vs. Ok (values.Bool (list_any is_true vs))) (condition_node n (C.Or (map as_condition gs)))

  -- `a & b & ..`
  abbrev pub all_hold : ℕ → List Form → Made Form
  all_hold n gs = folded n (all_known gs) (λ vs. Ok (values.Bool (list_all is_true vs))) (condition_node n (C.And (map as_condition gs)))

  -- `a => b`
  abbrev pub implied : ℕ → Form → Form → Made Form
  implied n g h = folded n (all_known (g ∷ h ∷ [])) (λ vs. Ok (values.Bool (not (is_true (value_at vs 0)) || is_true (value_at vs 1)))) (condition_node n (C.Imp (as_condition g) (as_condition h)))

  -- `a <=> b`
  abbrev pub same : ℕ → Form → Form → Made Form
  same n g h = folded n (all_known (g ∷ h ∷ [])) (λ vs. Ok (values.Bool (evaluation.same (is_true (value_at vs 0)) (is_true (value_at vs 1))))) (condition_node n (C.Iff (as_condition g) (as_condition h)))

  -- `not a`
  abbrev pub opposite : ℕ → Form → Made Form
  opposite n g = folded n (all_known (g ∷ [])) (λ vs. Ok (values.Bool (not (is_true (value_at vs 0))))) (condition_node n (C.Not (as_condition g)))

  -- A part as a truth: it is one but for what typing rules out.
  abbrev pub truth_part : ℕ → Form → Made Form
  truth_part n (known v) = Ok (known (values.Bool (is_true v)))
  truth_part n (condition c) = Ok (condition c)
  truth_part n g = condition_node n (as_condition g)

  -- A part in an arithmetic place: the truth of a condition is a node more, at the place of the condition.
  abbrev pub operand : ℕ → ℕ → Form → Made Form
  operand at n (condition c) = sized at 1 (counted n (suc (depth_of c)) (suc (nodes_of c)) (truth c))
  operand at n g = Ok g

  abbrev pub as_operand : ℕ → ℕ → Made Form → Made Form
  as_operand at n r = next r (λ g. operand at n g)

  -- A value of the data.
  abbrev pub value_node : ℕ → ℕ → Value → Made Form
  value_node at n v = sized at (unsigned_abs (rank v)) (known_node n v)

-- ---- numbers and comparisons

module _ (sets : List (ℤ × ℤ)) (arrays : List Cells) (item : ℕ) where
  abbrev pub number_node : ℕ → ℕ → Expr → Made Form
  number_node at n e = sized at (size sets arrays e) (counted item n (depth e) (nodes e) (number e))

  -- A part as a number.
  abbrev pub number_part : ℕ → ℕ → Form → Made Form
  number_part at n (known v) = Ok (known (values.Int (compare.number v)))
  number_part at n (number e) = Ok (number e)
  number_part at n g = number_node at n (as_number g)

  -- `sum(..) a`
  abbrev pub summed : ℕ → ℕ → List Form → Made Form
  summed at n gs = folded item n (all_known gs) (λ vs. evaluation.integer (arithmetic.sum at (map compare.number vs))) (number_node at n (E.Sum (map as_number gs)))

  -- `a + b + ..`, the sum of a first part and others; a part alone stands for itself.
  abbrev pub chained : ℕ → ℕ → Form → List Form → Made Form
  chained at n g [] = number_part at n g
  chained at n g (h ∷ hs) = folded item n (all_known (g ∷ h ∷ hs)) (chain_of at) (number_node at n (E.Sum (map as_number (g ∷ h ∷ hs))))

  -- `- a`
  abbrev pub negated : ℕ → ℕ → Form → Made Form
  negated at n g = folded item n (all_known (g ∷ [])) (λ vs. evaluation.integer (arithmetic.negative at (compare.number (value_at vs 0)))) (number_node at n (E.Neg (as_number g)))

  -- `abs(a)`
  abbrev pub absolute : ℕ → ℕ → Form → Made Form
  absolute at n g = folded item n (all_known (g ∷ [])) (λ vs. evaluation.integer (arithmetic.absolute at (compare.number (value_at vs 0)))) (number_node at n (E.Abs (as_number g)))

  -- `a * b`
  abbrev pub multiplied : ℕ → ℕ → Form → Form → Made Form
  multiplied at n g h =
      folded item n (all_known (g ∷ h ∷ [])) (λ vs. evaluation.integer (arithmetic.times at (compare.number (value_at vs 0)) (compare.number (value_at vs 1)))) (number_node at n (E.Mul (as_number g) (as_number h)))

  -- `a div b`
  abbrev pub divided : ℕ → ℕ → Form → Form → Made Form
  divided at n g h =
      unless_zero at h
      (folded item n (all_known (g ∷ h ∷ [])) (λ vs. evaluation.integer (arithmetic.quotient at (compare.number (value_at vs 0)) (compare.number (value_at vs 1)))) (number_node at n (E.Div (as_number g) (as_number h))))

  -- `a mod b`
  abbrev pub left_over : ℕ → ℕ → Form → Form → Made Form
  left_over at n g h =
      unless_zero at h
      (folded item n (all_known (g ∷ h ∷ [])) (λ vs. evaluation.integer (arithmetic.remainder at (compare.number (value_at vs 0)) (compare.number (value_at vs 1)))) (number_node at n (E.Rem (as_number g) (as_number h))))

  -- The product of a first part and others, nested to the left; a part alone stands for itself.
  abbrev pub product_from : ℕ → ℕ → Form → List Form → Made Form
  product_from at n g [] = number_part at n g
  product_from at n g (h ∷ hs) = next (multiplied at n g h) (λ k. product_from at n k hs)

  -- `prod(..) a`
  abbrev pub product : ℕ → ℕ → List Form → Made Form
  product at n [] = known_node item n (values.Int (pos 1))
  product at n (g ∷ gs) = product_from at n g gs

  -- `min(..) a`
  abbrev pub least : ℕ → ℕ → List Form → Made Form
  least at n [] = Err (eval (EmptyMinMax at))
  least at n (g ∷ gs) = folded item n (all_known (g ∷ gs)) (λ vs. evaluation.integer (arithmetic.least at (map compare.number vs))) (number_node at n (E.Min (map as_number (g ∷ gs))))

  -- `max(..) a`
  abbrev pub greatest_of : ℕ → ℕ → List Form → Made Form
  greatest_of at n [] = Err (eval (EmptyMinMax at))
  greatest_of at n (g ∷ gs) = folded item n (all_known (g ∷ gs)) (λ vs. evaluation.integer (arithmetic.greatest at (map compare.number vs))) (number_node at n (E.Max (map as_number (g ∷ gs))))

  abbrev pub aggregated : AggregateOp → ℕ → ℕ → List Form → Made Form
  aggregated Sum at n gs = summed at n gs
  aggregated Product at n gs = product at n gs
  aggregated Min at n gs = least at n gs
  aggregated Max at n gs = greatest_of at n gs

  abbrev pub by_sign : Sign → ℕ → ℕ → Form → Form → Made Form
  by_sign quotient at n a g = divided at n a g
  by_sign remainder at n a g = left_over at n a g
  by_sign sign at n a g = multiplied at n a g

  -- The parts of a sum so far after one more operand, which has a place of its own.
  abbrev pub stepped : Sign → ℕ → ℕ → ℕ → Parts → Form → Made Parts
  stepped plus at own n ps g = Ok (ps.0, ps.1 ++ g ∷ [])
  stepped minus at own n ps g = next (negated own (n + parts_nodes ps) g) (λ h. Ok (ps.0, ps.1 ++ h ∷ []))
  stepped sign at own n ps g = next (chained at n ps.0 ps.1) (λ a. next (by_sign sign at n a g) (λ h. Ok (h, [])))

  -- `a = b` and the like. The magnitudes of both sides together are tested, since a comparison subtracts one from the other.
  abbrev pub compared : ℕ → ℕ → Relation → Form → Form → Made Form
  compared at n r g h =
      folded item n (all_known (g ∷ h ∷ [])) (λ vs. Ok (values.Bool (compare.relates r (value_at vs 0) (value_at vs 1))))
      (sized at (size sets arrays (ranked g) + size sets arrays (ranked h)) (condition_node item n (by_kind (alike (sort_of g) (sort_of h)) (op_of r) (ranked g) (ranked h))))

  -- ---- arrays

  abbrev pub all_differ : ℕ → ℕ → List Form → Made Form
  all_differ at n gs =
      folded item n (all_known gs) (λ vs. Ok (values.Bool (compare.all_different vs)))
      (sized at (two_greatest (map (λ g. size sets arrays (ranked g)) gs)) (condition_node item n (C.AllDifferent (map ranked gs))))

  -- `alldifferent(a)`. What is no array differs, and variables that are not alike have no form; typing rules both out.
  abbrev pub different : ℕ → ℕ → Option Cells → Made Form
  different at n None = known_node item n (values.Bool true)
  different at n (Some a) = cond (are_alike sets a.leaves) (all_differ at n (leaves a.leaves)) (Err (eval (OutOfIndex at)))

  -- Each subscript can be compared with each index of its dimension.
  abbrev pub with_indices : {A : Type 0} → List (List Value) → List ℕ → List Form → Made A → Made A
  with_indices (d ∷ ds) (at ∷ ats) (g ∷ gs) r = sized at (size sets arrays (ranked g) + greatest_abs (indices_of d)) (with_indices ds ats gs r)
  with_indices ds ats gs r = r

  -- An element that has a variable, by its sort.
  abbrev pub element_node : Sort → ℕ → ℕ → Expr → Made Form
  element_node whole at n e = number_node at n e
  element_node (named d) at n e = sized at (size sets arrays e) (counted item n (depth e) (nodes e) (name d e))
  element_node other at n e = Err (eval (OutOfIndex at))

  -- The element at a place: a value, or a variable.
  abbrev pub element_at : ℕ → ℕ → Leaves → ℕ → Made Form
  element_at at n (listed vs) p = value_node item at n (value_at vs p)
  element_at at n (numbered kind x count) p = cond (nat_lt p count) (element_node (variable_sort sets kind (x + p)) at n (E.Var (x + p))) (Err (eval (OutOfIndex at)))

  abbrev pub placed : ℕ → ℕ → Leaves → Option ℕ → Made Form
  placed at n ls None = Err (eval (OutOfIndex at))
  placed at n ls (Some p) = element_at at n ls p

  -- An element by a key without variables, or by subscripts of which those without variables are indices.
  abbrev pub looked_up : ℕ → ℕ → Option (List Value) → ℕ → Cells → List ℕ → List Form → Made Form
  looked_up at n (Some key) k a ats gs = placed at n a.leaves (place_of a.dims key)
  looked_up at n None k a ats gs =
      cond (are_indices a.dims gs && subscripts_fit a.dims gs) (with_indices a.dims ats gs (element_node (element_sort sets a.leaves) at n (E.At k (map ranked gs)))) (Err (eval (OutOfIndex at)))

  -- `a[b,..]`. What is no array has no elements, which typing rules out.
  abbrev pub indexed : ℕ → ℕ → Option ℕ → Option Cells → List ℕ → List Form → Made Form
  indexed at n (Some k) (Some a) ats gs = looked_up at n (all_known gs) k a ats gs
  indexed at n k a ats gs = Err (eval (OutOfIndex at))
