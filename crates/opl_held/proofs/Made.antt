-- Where a form is made, there is no fault without variables, and a variable is left in both or in none.
use Rattle.std.proofs.Common.{◌≡◌, ◌<◌, ◌^◌, ◌+◌, ◌||◌, ◌&&◌, ℕ, zero, suc, ℤ, pos, ◌+ℤ◌, ◌-ℤ◌, ◌*ℤ◌, neg_ℤ, unsigned_abs, nat_lt, slice_get, Bool, true, false, cond, not, length, List, [], ◌∷◌, ◌++◌, map, fold, Option, None, Some, Ok, Err, refl, sym, ap, subst, ◌∙◌, arith}
use Rattle.std.proofs.lemmas.Int.{ints}
use Rattle.std.specs.List.{list_any, list_all}
use Rattle.std.specs.Option.{option_map}
use Rattle.std.specs.Ordering.{int_eq}
use Rattle.opl_tree.specs.declared.expression.AggregateOp.{AggregateOp}
use Rattle.opl_tree.specs.declared.expression.AggregateOp.TheVariants.{Sum, Product, Min, Max}
use Rattle.opl_value.specs.declared.value.Value.{Value}
use Rattle.opl_value.specs.declared.value.Value.TheVariants as values
use Rattle.opl_value.specs.Places.{place_of, value_at}
use Rattle.opl_eval.specs.declared.arithmetic.Operation.{Operation}
use Rattle.opl_eval.specs.declared.arithmetic.Operation.TheVariants as operations
use Rattle.opl_eval.specs.declared.fault.EvalFault.TheVariants.{DivByZero, OutOfIndex, TooLarge}
use Rattle.opl_eval.specs.Arithmetic as arithmetic
use Rattle.opl_eval.specs.Arithmetic.{applied, negative, run, then, times}
use Rattle.opl_eval.specs.Compare.{all_different, number, rank, relates}
use Rattle.opl_eval.specs.Evaluation as evaluation
use Rattle.opl_eval.specs.Evaluation.{Found, at_place, found, integer, is_true}
use Rattle.opl_meaning.specs.declared.variable.Kind.{Kind}
use Rattle.opl_meaning.specs.declared.variable.Kind.TheVariants.{Number, Enumeration}
use Rattle.opl_draft.specs.Drafts.{Cells, Draft, Drafts, Leaves, Sign, Steps, are_different, array_at, draft_value, leaf_values, operation}
use Rattle.opl_draft.specs.Drafts.Drafts.{no_drafts, more_drafts}
use Rattle.opl_draft.specs.Drafts.Leaves.{listed, numbered}
use Rattle.opl_draft.specs.Drafts.Sign.{plus, minus, times as of_times, quotient, remainder}
use Rattle.opl_draft.specs.Drafts.Steps.{no_steps, more_steps}
use Rattle.opl_draft.specs.Settled as settled
use Rattle.opl_draft.specs.Settled.{divides, is_index, pair_of, settle}
use Rattle.opl_expr.specs.declared.forms.Cons.{Cons}
use Rattle.opl_expr.specs.declared.forms.Cons.TheVariants as C
use Rattle.opl_expr.specs.declared.forms.Expr.{Expr}
use Rattle.opl_expr.specs.declared.forms.Expr.TheVariants as E
use Rattle.opl_expr.specs.Options.{lift1}
use Rattle.opl_expr.specs.Sound.{IsSoundTerm, greatest_abs}
use Rattle.opl_expr.proofs.Plain.{term_Const}
use Rattle.opl_form.specs.Parts.{Form, Sort, alike, all_known, are_indices, as_condition, as_number, indices_of, is_index as form_index, leaves, ranked, sort_of, subscripts_fit, tables, variables, with_value}
use Rattle.opl_form.specs.Parts.Form.{known, number as number_form, name, condition, truth}
use Rattle.opl_form.specs.Parts.Sort.{whole, named, other}
use Rattle.opl_form.specs.Measures as measures
use Rattle.opl_form.specs.Measures.{part_nodes}
use Rattle.opl_form.specs.Nodes as nodes
use Rattle.opl_form.specs.Nodes.{Fault, Made, as_operand, by_sign, chained, condition_node, counted, element_node, evaluated, folded, known_node, next, number_node, number_part, operand, parts_nodes, truth_part, unless_zero, value_node, variable_sort}
use Rattle.opl_form.specs.Made.{array_of, made, made_all, made_first, made_operands, made_same, made_steps, place, places}
use Rattle.opl_form.proofs.Nodes.{counted-made, known-values, next-made, number-node, ok-same, sized-made, sized-small}
use Rattle.opl_form.specs.Laws.{AreSoundArrays}
use Rattle.opl_form.proofs.FormLaws.{made_is_sound, made_is_worth, values_are_small}
use Rattle.opl_form.proofs.Sums.{truth_part-worth}
use Rattle.opl_form.proofs.Views.{number-Int, true-Bool, truth-worth}
use Rattle.opl_form.specs.Worth.{some_of}
use Rattle.opl_held.specs.declared.outcome.Outcome.{Outcome}
use Rattle.opl_held.specs.declared.outcome.Outcome.TheVariants.{Fixed, Live}
use Rattle.opl_held.specs.Outcomes.{Worth, both, changed, data_of, each, told, truth_of, value_in, value_of}
use Rattle.opl_held.specs.Worth as spec
use Rattle.opl_held.specs.Worth.{added, aggregated, are_live, begun, drawn, factored, fit, indexed, is_zero, product_from, stepped, worth, worth_steps, worths}
use Rattle.opl_held.specs.Laws.{ComesToConstraint, MadeIsFound, known_in}
use Rattle.opl_held.proofs.Data.{data-both, data-changed, data-each, data-told, ok}
use Rattle.opl_held.proofs.Values.{no-place, values_of, worth_means}

-- ---- outcomes and their data

-- what follows from the data of what is found
pub data-then : {X P Y Q : Type 0} (of : X → P) (to : Y → Q) (r : Found X) (f : X → Found Y) (g : P → Found Q) → ((x : X) → found to (f x) ≡ g (of x)) → found to (then r f) ≡ then (found of r) g
data-then of to (Ok x) f g h = h x
data-then of to (Err fault) f g h = refl

-- what comes of data, where there are some
abbrev pub settles : {A B : Type 0} → (A → Found B) → Option A → Found (Option B)
settles f None = Ok None
settles f (Some a) = found (λ b. Some b) (f a)

pub told-data : {A B : Type 0} (f : A → Found B) (o : Outcome A) → found data_of (told (changed f o)) ≡ settles f (data_of o)
told-data {A = A} {B = B} f o = data-told (changed f o) ∙ ap (λ r. elim r as (λ r. Found (Option B)) [ None ↦ Ok None | Some r ↦ found (λ a. Some a) r ]) (data-changed f o) ∙ by (data_of o)
  where
    by : (r : Option A) → elim (option_map f r) as (λ r. Found (Option B)) [ None ↦ Ok None | Some r ↦ found (λ a. Some a) r ] ≡ settles f r
    by None = refl
    by (Some a) = refl

one-data : {A B : Type 0} (f : A → Found B) (r : Found (Outcome A)) → found data_of (then r (λ o. told (changed f o))) ≡ then (found data_of r) (settles f)
one-data f r = data-then data_of data_of r (λ o. told (changed f o)) (settles f) (told-data f)

two-data : {A B C : Type 0} (g : A × B → C) (r : Found (Outcome A)) (s : Found (Outcome B)) →
    found data_of (then r (λ o. found (λ p. changed g (both o p)) s)) ≡ then (found data_of r) (λ a. then (found data_of s) (λ b. Ok (option_map g (pair_of a b))))
two-data g r s =
    data-then data_of data_of r (λ o. found (λ p. changed g (both o p)) s) (λ a. then (found data_of s) (λ b. Ok (option_map g (pair_of a b))))
    (λ o. data-then data_of data_of s (λ p. Ok (changed g (both o p))) (λ b. Ok (option_map g (pair_of (data_of o) b))) (λ p. ap (λ q. Ok q) (data-changed g (both o p) ∙ ap (option_map g) (data-both o p))))

several-data : {B : Type 0} (f : List Value → B) (r : Found (List Worth)) → found data_of (found (λ os. changed f (each os)) r) ≡ then (found (map data_of) r) (λ vs. Ok (option_map f (settled.all_of vs)))
several-data f r = data-then (map data_of) data_of r (λ os. Ok (changed f (each os))) (λ vs. Ok (option_map f (settled.all_of vs))) (λ os. ap (λ q. Ok q) (data-changed f (each os) ∙ ap (option_map f) (data-each os)))

-- ---- forms

pub known-data : (gs : List Form) → all_known gs ≡ settled.all_of (map known_in gs)
known-data [] = refl
known-data (g ∷ gs) = ap (with_value g) (known-data gs) ∙ by g (settled.all_of (map known_in gs))
  where
    by : (g : Form) (vs : Option (List Value)) → with_value g vs ≡ option_map (λ p. p.0 ∷ p.1) (pair_of (known_in g) vs)
    by (known v) None = refl
    by (known v) (Some vs) = refl
    by (number_form e) vs = refl
    by (name d e) vs = refl
    by (condition c) vs = refl
    by (truth c) vs = refl

condition-live : (item n : ℕ) (c : Cons) (h : Form) → condition_node item n c ≡ Ok h → None ≡ known_in h
condition-live item n c h e = ap known_in (counted-made item n (measures.depth_of c) (measures.nodes_of c) (condition c) h e)

evaluated-data : (item n : ℕ) (r : Found Value) (h : Form) → evaluated item n r ≡ Ok h → found (λ v. Some v) r ≡ Ok (known_in h)
evaluated-data item n (Ok v) h e = ap (λ g. Ok (known_in g)) (counted-made item n 1 1 (known v) h e)
evaluated-data item n (Err fault) h e = absurd (cc)

folded-data : (item n : ℕ) (gs : List Form) (come : List Value → Found Value) (node : Made Form) (h : Form) → folded item n (all_known gs) come node ≡ Ok h → (node ≡ Ok h → None ≡ known_in h) →
    settles come (settled.all_of (map known_in gs)) ≡ Ok (known_in h)
folded-data item n gs come node h e live = ap (settles come) (sym (known-data gs)) ∙ by (all_known gs) e
  where
    by : (vs : Option (List Value)) → folded item n vs come node ≡ Ok h → settles come vs ≡ Ok (known_in h)
    by (Some vs) e = evaluated-data item n (come vs) h e
    by None e = ap (λ v. Ok v) (live e)

truth-data : (item n : ℕ) (g h : Form) → truth_part item n g ≡ Ok h → option_map (λ v. values.Bool (is_true v)) (known_in g) ≡ known_in h
truth-data item n (known v) h e = ap known_in (ok-same (known (values.Bool (is_true v))) h e)
truth-data item n (condition c) h e = ap known_in (ok-same (condition c) h e)
truth-data item n (number_form x) h e = condition-live item n (as_condition (number_form x)) h e
truth-data item n (name d x) h e = condition-live item n (as_condition (name d x)) h e
truth-data item n (truth c) h e = condition-live item n (as_condition (truth c)) h e

operand-data : (item at n : ℕ) (g h : Form) → operand item at n g ≡ Ok h → known_in g ≡ known_in h
operand-data item at n (known v) h e = ap known_in (ok-same (known v) h e)
operand-data item at n (number_form x) h e = ap known_in (ok-same (number_form x) h e)
operand-data item at n (name d x) h e = ap known_in (ok-same (name d x) h e)
operand-data item at n (truth c) h e = ap known_in (ok-same (truth c) h e)
operand-data item at n (condition c) h e =
    let p = sized-made at 1 (counted item n (suc (measures.depth_of c)) (suc (measures.nodes_of c)) (truth c)) h e in
    ap known_in (counted-made item n (suc (measures.depth_of c)) (suc (measures.nodes_of c)) (truth c) h p.1)

pub operand-made : (item at n : ℕ) (q : Made Form) (g : Form) (r : Found (Option Value)) → ((h : Form) → q ≡ Ok h → r ≡ Ok (known_in h)) → as_operand item at n q ≡ Ok g → r ≡ Ok (known_in g)
operand-made item at n q g r f e =
    let p = next-made q (λ g. operand item at n g) g e in
    f p.0 p.1 ∙ ap (λ v. Ok v) (operand-data item at n p.0 g p.2)

-- one value of one part, and two of two
pub one-of : {B : Type 0} (f : Value → Found B) (g : Option Value) → settles f g ≡ settles (λ vs. f (value_at vs 0)) (settled.all_of (g ∷ []))
one-of f None = refl
one-of f (Some v) = refl

pub two-of : {B : Type 0} (f : Value × Value → Found B) (g h : Option Value) → settles f (pair_of g h) ≡ settles (λ vs. f (value_at vs 0, value_at vs 1)) (settled.all_of (g ∷ h ∷ []))
two-of f None h = refl
two-of f (Some v) None = refl
two-of f (Some v) (Some w) = refl

mapped : {A B : Type 0} (f : A → B) (o : Option A) → ok (option_map f o) ≡ settles (λ a. Ok (f a)) o
mapped f None = refl
mapped f (Some a) = refl

-- ---- equivalences

-- one truth after another
abbrev same_data : Option Value → Option Value → Option Value
same_data a b = option_map (λ p. values.Bool (evaluation.same (is_true p.0) (is_true p.1))) (pair_of a b)

abbrev rest_data : Option Value → List (Option Value) → Option Value
rest_data a [] = a
rest_data a (b ∷ bs) = rest_data (same_data a b) bs

rest-none : (bs : List (Option Value)) → rest_data None bs ≡ None
rest-none [] = refl
rest-none (b ∷ bs) = rest-none bs

rest-is : (b : Bool) (bs : List (Option Value)) → rest_data (Some (values.Bool b)) bs ≡ option_map (λ vs. values.Bool (fold (λ c w. evaluation.same c (is_true w)) b vs)) (settled.all_of bs)
rest-is b [] = refl
rest-is b (None ∷ bs) = rest-none bs
rest-is b (Some w ∷ bs) = ap (λ c. rest_data (Some (values.Bool (evaluation.same c (is_true w)))) bs) (true-Bool b) ∙ rest-is (evaluation.same b (is_true w)) bs ∙ more (settled.all_of bs)
  where
    more : (o : Option (List Value)) →
        option_map (λ vs. values.Bool (fold (λ c w. evaluation.same c (is_true w)) (evaluation.same b (is_true w)) vs)) o
        ≡ option_map (λ vs. values.Bool (fold (λ c w. evaluation.same c (is_true w)) b vs)) (option_map (λ p. p.0 ∷ p.1) (pair_of (Some w) o))
    more None = refl
    more (Some vs) = refl

first-is : (a : Option Value) (bs : List (Option Value)) → rest_data (option_map (λ v. values.Bool (is_true v)) a) bs ≡ option_map (λ vs. values.Bool (evaluation.equivalent vs)) (settled.all_of (a ∷ bs))
first-is None bs = rest-none bs
first-is (Some v) bs = rest-is (is_true v) bs ∙ more (settled.all_of bs)
  where
    more : (o : Option (List Value)) →
        option_map (λ vs. values.Bool (fold (λ c w. evaluation.same c (is_true w)) (is_true v) vs)) o ≡ option_map (λ vs. values.Bool (evaluation.equivalent vs)) (option_map (λ p. p.0 ∷ p.1) (pair_of (Some v) o))
    more None = refl
    more (Some vs) = refl

-- ---- sums

-- the numbers of operands added up: the first, and the others
abbrev pub sum_data : ℕ → Option Value → List (Option Value) → Option (Found ℤ)
sum_data at a others = option_map (λ p. run at (number p.0) (map operations.Plus (map number p.1))) (pair_of a (settled.all_of others))

pub begun-data : (at : ℕ) (o : Worth) (g : Option Value) → data_of o ≡ g → data_of (begun o) ≡ sum_data at g []
begun-data at o g e = data-changed (λ v. Ok (number v)) o ∙ ap (option_map (λ v. Ok (number v))) e ∙ by g
  where
    by : (g : Option Value) → option_map (λ v. Ok (number v)) g ≡ sum_data at g []
    by None = refl
    by (Some v) = refl

run-append : (at : ℕ) (m : ℤ) (xs ys : List Operation) → run at m (xs ++ ys) ≡ then (run at m xs) (λ k. run at k ys)
run-append at m [] ys = refl
run-append at m (o ∷ xs) ys = by (λ k. run-append at k xs ys) (applied at m o)
  where
    by : ((k : ℤ) → run at k (xs ++ ys) ≡ then (run at k xs) (λ k. run at k ys)) → (r : Found ℤ) → then r (λ k. run at k (xs ++ ys)) ≡ then (then r (λ k. run at k xs)) (λ k. run at k ys)
    by again (Ok k) = again k
    by again (Err fault) = refl

map-append : {A B : Type 0} (f : A → B) (xs ys : List A) → map f (xs ++ ys) ≡ map f xs ++ map f ys
map-append f [] ys = refl
map-append f (x ∷ xs) ys = ap (λ zs. f x ∷ zs) (map-append f xs ys)

run-last : (at : ℕ) (m : ℤ) (vs : List Value) (n : ℤ) (w : Value) → number w ≡ n → run at m (map operations.Plus (map number (vs ++ w ∷ []))) ≡ then (run at m (map operations.Plus (map number vs))) (λ k. arithmetic.plus at k n)
run-last at m vs n w e =
    ap (λ xs. run at m (map operations.Plus xs)) (map-append number vs (w ∷ []))
    ∙ ap (run at m) (map-append operations.Plus (map number vs) (number w ∷ []))
    ∙ run-append at m (map operations.Plus (map number vs)) (operations.Plus (number w) ∷ [])
    ∙ (λ i. then (run at m (map operations.Plus (map number vs))) (λ k. alone k i))
  where
    alone : (k : ℤ) → then (arithmetic.plus at k (number w)) (λ b. Ok b) ≡ arithmetic.plus at k n
    alone k = self (arithmetic.plus at k (number w)) ∙ ap (arithmetic.plus at k) e
      where
        self : (r : Found ℤ) → then r (λ b. Ok b) ≡ r
        self (Ok b) = refl
        self (Err fault) = refl

all-last : (others : List (Option Value)) (b : Option Value) → settled.all_of (others ++ b ∷ []) ≡ option_map (λ p. p.0 ++ p.1 ∷ []) (pair_of (settled.all_of others) b)
all-last [] None = refl
all-last [] (Some v) = refl
all-last (a ∷ others) b = ap (λ o. option_map (λ p. p.0 ∷ p.1) (pair_of a o)) (all-last others b) ∙ by a (settled.all_of others) b
  where
    by : (a : Option Value) (o : Option (List Value)) (b : Option Value) →
        option_map (λ p. p.0 ∷ p.1) (pair_of a (option_map (λ p. p.0 ++ p.1 ∷ []) (pair_of o b))) ≡ option_map (λ p. p.0 ++ p.1 ∷ []) (pair_of (option_map (λ p. p.0 ∷ p.1) (pair_of a o)) b)
    by None o b = refl
    by (Some v) None b = refl
    by (Some v) (Some vs) None = refl
    by (Some v) (Some vs) (Some w) = refl

-- an operand more adds what its operation does to the sum
operand-last : (at : ℕ) (sign : Sign) (a : Option Value) (others : List (Option Value)) (b c : Option Value) →
    ((v : Value) → b ≡ Some v → (w : Value) × (c ≡ Some w) × ((k : ℤ) → arithmetic.plus at k (number w) ≡ applied at k (operation sign (number v)))) → (b ≡ None → c ≡ None) →
    option_map (λ p. then p.0 (λ n. applied at n (operation sign (number p.1)))) (pair_of (sum_data at a others) b) ≡ sum_data at a (others ++ c ∷ [])
operand-last at sign a others b c some none = by a (settled.all_of others) b some none ∙ ap (λ o. option_map (λ p. run at (number p.0) (map operations.Plus (map number p.1))) (pair_of a o)) (sym (all-last others c))
  where
    by : (a : Option Value) (o : Option (List Value)) (b : Option Value) →
        ((v : Value) → b ≡ Some v → (w : Value) × (c ≡ Some w) × ((k : ℤ) → arithmetic.plus at k (number w) ≡ applied at k (operation sign (number v)))) → (b ≡ None → c ≡ None) →
        option_map (λ p. then p.0 (λ n. applied at n (operation sign (number p.1)))) (pair_of (option_map (λ p. run at (number p.0) (map operations.Plus (map number p.1))) (pair_of a o)) b)
        ≡ option_map (λ p. run at (number p.0) (map operations.Plus (map number p.1))) (pair_of a (option_map (λ p. p.0 ++ p.1 ∷ []) (pair_of o c)))
    by None o b some none = refl
    by (Some u) None b some none = refl
    by (Some u) (Some us) None some none = ap (λ c. option_map (λ p. run at (number p.0) (map operations.Plus (map number p.1))) (pair_of (Some u) (option_map (λ p. p.0 ++ p.1 ∷ []) (pair_of (Some us) c)))) (sym (none refl))
    by (Some u) (Some us) (Some v) some none =
        let w = some v refl in
        ap (λ r. Some r) ((λ i. then (run at (number u) (map operations.Plus (map number us))) (λ k. sym (w.2 k) i)) ∙ sym (run-last at (number u) us (number w.0) w.0 refl))
        ∙ ap (λ c. option_map (λ p. run at (number p.0) (map operations.Plus (map number p.1))) (pair_of (Some u) (option_map (λ p. p.0 ++ p.1 ∷ []) (pair_of (Some us) c)))) (sym w.1)

added-data : (at : ℕ) (sign : Sign) (s : spec.Sum) (o : Worth) (a : Option (Found ℤ)) (b : Option Value) → data_of s ≡ a → data_of o ≡ b → data_of (added at sign s o) ≡ option_map (λ p. then p.0 (λ n. applied at n (operation sign (number p.1)))) (pair_of a b)
added-data at sign s o a b e f =
    data-changed (λ p. then p.0 (λ n. applied at n (operation sign (number p.1)))) (both s o)
    ∙ ap (option_map (λ p. then p.0 (λ n. applied at n (operation sign (number p.1))))) (data-both s o ∙ ap (λ a. pair_of a (data_of o)) e ∙ ap (pair_of a) f)

-- the opposite of a number
sized-out : (at : ℕ) (z y : ℤ) → arithmetic.sized at z ≡ Ok y → z ≡ y
unfolding arithmetic.sized
sized-out at z y e = by (nat_lt (unsigned_abs z) (2 ^ 127)) e
  where
    by : (b : Bool) → cond b (ok z) (Err (TooLarge at)) ≡ Ok y → z ≡ y
    by true e = cc
    by false e = absurd (cc)

plus-negative : (a b : ℤ) → a +ℤ neg_ℤ b ≡ a -ℤ b
plus-negative a b = omega (arith, ints)

module _ (sets : List (ℤ × ℤ)) (arrays : List Cells) (item : ℕ) where
  number-live : (at n : ℕ) (e : Expr) (h : Form) → number_node sets arrays item at n e ≡ Ok h → None ≡ known_in h
  number-live at n e h p = ap known_in (number-node sets arrays item at n e h p).0

  element-live : (s : Sort) (at n : ℕ) (e : Expr) (h : Form) → element_node sets arrays item s at n e ≡ Ok h → None ≡ known_in h
  element-live whole at n e h p = number-live at n e h p
  element-live (named d) at n e h p =
      let q = sized-made at (nodes.size sets arrays e) (counted item n (measures.depth e) (measures.nodes e) (name d e)) h p in
      ap known_in (counted-made item n (measures.depth e) (measures.nodes e) (name d e) h q.1)
  element-live other at n e h p = absurd (cc)

  negated-data : (at n : ℕ) (g h : Form) → nodes.negated sets arrays item at n g ≡ Ok h → settles (λ v. integer (negative at (number v))) (known_in g) ≡ Ok (known_in h)
  negated-data at n g h e =
      one-of (λ v. integer (negative at (number v))) (known_in g)
      ∙ folded-data item n (g ∷ []) (λ vs. integer (negative at (number (value_at vs 0)))) (number_node sets arrays item at n (E.Neg (as_number g))) h e (number-live at n (E.Neg (as_number g)) h)

  absolute-data : (at n : ℕ) (g h : Form) → nodes.absolute sets arrays item at n g ≡ Ok h → settles (λ v. integer (arithmetic.absolute at (number v))) (known_in g) ≡ Ok (known_in h)
  absolute-data at n g h e =
      one-of (λ v. integer (arithmetic.absolute at (number v))) (known_in g)
      ∙ folded-data item n (g ∷ []) (λ vs. integer (arithmetic.absolute at (number (value_at vs 0)))) (number_node sets arrays item at n (E.Abs (as_number g))) h e (number-live at n (E.Abs (as_number g)) h)

  part-data : (at n : ℕ) (g h : Form) → number_part sets arrays item at n g ≡ Ok h → option_map (λ v. values.Int (number v)) (known_in g) ≡ known_in h
  part-data at n (known v) h e = ap known_in (ok-same (known (values.Int (number v))) h e)
  part-data at n (number_form x) h e = ap known_in (ok-same (number_form x) h e)
  part-data at n (name d x) h e = number-live at n (as_number (name d x)) h e
  part-data at n (condition c) h e = number-live at n (as_number (condition c)) h e
  part-data at n (truth c) h e = number-live at n (as_number (truth c)) h e

  -- what a sum comes to at its end
  abbrev pub ended : spec.Sum → Found (Option Value)
  ended s = found data_of (found (changed values.Int) (told s))

  pub ended-data : (s : spec.Sum) (a : Option (Found ℤ)) → data_of s ≡ a → ended s ≡ settles integer a
  ended-data s a e = data-then data_of data_of (told s) (λ o. Ok (changed values.Int o)) (λ n. Ok (option_map values.Int n)) (λ o. ap (λ q. Ok q) (data-changed values.Int o)) ∙ ap (λ r. then r (λ n. Ok (option_map values.Int n))) (data-told s) ∙ by (data_of s) ∙ ap (settles integer) e
    where
      by : (a : Option (Found ℤ)) → then (elim a as (λ r. Found (Option ℤ)) [ None ↦ Ok None | Some r ↦ found (λ n. Some n) r ]) (λ n. Ok (option_map values.Int n)) ≡ settles integer a
      by None = refl
      by (Some (Ok n)) = refl
      by (Some (Err fault)) = refl

  pub chained-data : (at n : ℕ) (g : Form) (hs : List Form) (k : Form) (s : spec.Sum) → data_of s ≡ sum_data at (known_in g) (map known_in hs) → chained sets arrays item at n g hs ≡ Ok k → ended s ≡ Ok (known_in k)
  chained-data at n g [] k s e f = ended-data s (sum_data at (known_in g) []) e ∙ by (known_in g) ∙ ap (λ v. Ok v) (part-data at n g k f)
    where
      by : (g : Option Value) → settles integer (sum_data at g []) ≡ Ok (option_map (λ v. values.Int (number v)) g)
      by None = refl
      by (Some v) = refl
  chained-data at n g (h ∷ hs) k s e f =
      ended-data s (sum_data at (known_in g) (map known_in (h ∷ hs))) e
      ∙ by (known_in g) (settled.all_of (map known_in (h ∷ hs)))
      ∙ folded-data item n (g ∷ h ∷ hs) (nodes.chain_of at) (number_node sets arrays item at n (E.Sum (map as_number (g ∷ h ∷ hs)))) k f (number-live at n (E.Sum (map as_number (g ∷ h ∷ hs))) k)
    where
      by : (g : Option Value) (vs : Option (List Value)) →
          settles integer (option_map (λ p. run at (number p.0) (map operations.Plus (map number p.1))) (pair_of g vs)) ≡ settles (nodes.chain_of at) (option_map (λ p. p.0 ∷ p.1) (pair_of g vs))
      by None vs = refl
      by (Some v) None = refl
      by (Some v) (Some vs) = refl

  -- the number behind it
  pub numbered-data : (s : spec.Sum) (k : Option Value) → ended s ≡ Ok k → found data_of (told s) ≡ Ok (option_map number k)
  numbered-data s k e = by (found data_of (told s)) (sym (data-then data_of data_of (told s) (λ o. Ok (changed values.Int o)) (λ n. Ok (option_map values.Int n)) (λ o. ap (λ q. Ok q) (data-changed values.Int o))) ∙ e)
    where
      same : (a b : Option Value) → ok a ≡ Ok b → a ≡ b
      same a b e = cc

      back : (n : Option ℤ) → n ≡ option_map number (option_map values.Int n)
      back None = refl
      back (Some n) = ap (λ m. Some m) (sym (number-Int n))

      by : (r : Found (Option ℤ)) → then r (λ n. Ok (option_map values.Int n)) ≡ Ok k → r ≡ Ok (option_map number k)
      by (Ok n) e = ap (λ m. Ok m) (back n ∙ ap (option_map number) (same (option_map values.Int n) k e))
      by (Err fault) e = absurd (cc)

  pub zero-data : (g : Form) (o : Worth) → data_of o ≡ known_in g → is_zero o ≡ nodes.is_zero g
  zero-data g (Fixed v) e = by g e
    where
      by : (g : Form) → Some v ≡ known_in g → int_eq (number v) (pos 0) ≡ nodes.is_zero g
      by (known u) e = ap (λ u. int_eq (number u) (pos 0)) (same u e)
        where
          same : (u : Value) → Some v ≡ Some u → v ≡ u
          same u e = cc
      by (number_form x) e = absurd (cc)
      by (name d x) e = absurd (cc)
      by (condition c) e = absurd (cc)
      by (truth c) e = absurd (cc)
  zero-data g (Live o) e = by g e
    where
      by : (g : Form) → None ≡ known_in g → false ≡ nodes.is_zero g
      by (known u) e = absurd (cc)
      by (number_form x) e = refl
      by (name d x) e = refl
      by (condition c) e = refl
      by (truth c) e = refl

  unless-made : (at : ℕ) (g : Form) (r : Made Form) (h : Form) → unless_zero at g r ≡ Ok h → (nodes.is_zero g ≡ false) × (r ≡ Ok h)
  unless-made at g r h e = by (nodes.is_zero g) e
    where
      by : (z : Bool) → cond z (Err (Fault.eval (DivByZero at))) r ≡ Ok h → (z ≡ false) × (r ≡ Ok h)
      by true e = absurd (cc)
      by false e = (refl, e)

  -- ---- products

  pub ok-back : {A : Type 0} (a b : A) → ok a ≡ Ok b → a ≡ b
  ok-back a b e = cc

  -- what two numbers come to begins the next sum
  product-data : (at : ℕ) (sign : Sign) (a : Outcome ℤ) (o : Worth) (g h k : Option Value) → data_of a ≡ option_map number g → data_of o ≡ h →
      settles (λ p. integer (applied at (number p.0) (operation sign (number p.1)))) (pair_of g h) ≡ Ok k →
      found data_of (found (changed (λ n. Ok n)) (told (changed (λ p. applied at p.0 (operation sign (number p.1))) (both a o)))) ≡ Ok (sum_data at k [])
  product-data at sign a o g h k e f i =
      data-then data_of data_of (told (changed (λ p. applied at p.0 (operation sign (number p.1))) (both a o))) (λ o. Ok (changed (λ n. Ok n) o)) (λ n. Ok (option_map (λ n. Ok n) n)) (λ o. ap (λ q. Ok q) (data-changed (λ n. Ok n) o))
      ∙ ap (λ r. then r (λ n. Ok (option_map (λ n. Ok n) n))) (told-data (λ p. applied at p.0 (operation sign (number p.1))) (both a o))
      ∙ ap (λ r. then (settles (λ p. applied at p.0 (operation sign (number p.1))) r) (λ n. Ok (option_map (λ n. Ok n) n))) (data-both a o ∙ ap (λ a. pair_of a (data_of o)) e ∙ ap (pair_of (option_map number g)) f)
      ∙ by g h i
    where
      back : (a b : Option Value) → ok a ≡ Ok b → a ≡ b
      back a b e = cc

      two : (r : Found ℤ) → found (λ v. Some v) (integer r) ≡ Ok k → then (found (λ n. Some n) r) (λ n. Ok (option_map (λ n. Ok n) n)) ≡ Ok (sum_data at k [])
      two (Ok m) i = ap (λ z. ok (Some (ok z))) (sym (number-Int m)) ∙ ap (λ k. Ok (sum_data at k [])) (back (Some (values.Int m)) k i)
      two (Err fault) i = absurd (cc)

      by : (g h : Option Value) → settles (λ p. integer (applied at (number p.0) (operation sign (number p.1)))) (pair_of g h) ≡ Ok k →
          then (settles (λ p. applied at p.0 (operation sign (number p.1))) (pair_of (option_map number g) h)) (λ n. Ok (option_map (λ n. Ok n) n)) ≡ Ok (sum_data at k [])
      by None h i = ap (λ k. Ok (sum_data at k [])) (back None k i)
      by (Some v) None i = ap (λ k. Ok (sum_data at k [])) (back None k i)
      by (Some v) (Some w) i = two (applied at (number v) (operation sign (number w))) i

  pub multiplied-data : (at n : ℕ) (g h k : Form) → nodes.multiplied sets arrays item at n g h ≡ Ok k → settles (λ p. integer (times at (number p.0) (number p.1))) (pair_of (known_in g) (known_in h)) ≡ Ok (known_in k)
  multiplied-data at n g h k e =
      two-of (λ p. integer (times at (number p.0) (number p.1))) (known_in g) (known_in h)
      ∙ folded-data item n (g ∷ h ∷ []) (λ vs. integer (times at (number (value_at vs 0)) (number (value_at vs 1)))) (number_node sets arrays item at n (E.Mul (as_number g) (as_number h))) k e
      (number-live at n (E.Mul (as_number g) (as_number h)) k)

  factored-times : (at n : ℕ) (a : Outcome ℤ) (o : Worth) (g h k : Form) → data_of a ≡ option_map number (known_in g) → data_of o ≡ known_in h → by_sign sets arrays item of_times at n g h ≡ Ok k →
      found data_of (factored at of_times a o) ≡ Ok (sum_data at (known_in k) [])
  factored-times at n a o g h k e f i = product-data at of_times a o (known_in g) (known_in h) (known_in k) e f (multiplied-data at n g h k i)

  factored-quotient : (at n : ℕ) (a : Outcome ℤ) (o : Worth) (g h k : Form) → data_of a ≡ option_map number (known_in g) → data_of o ≡ known_in h → by_sign sets arrays item quotient at n g h ≡ Ok k →
      found data_of (factored at quotient a o) ≡ Ok (sum_data at (known_in k) [])
  factored-quotient at n a o g h k e f i =
      let node : Made Form = number_node sets arrays item at n (E.Div (as_number g) (as_number h)) in
      let come : List Value → Found Value = λ vs. integer (arithmetic.quotient at (number (value_at vs 0)) (number (value_at vs 1))) in
      let p = unless-made at h (folded item n (all_known (g ∷ h ∷ [])) come node) k i in
      ap (λ z. found data_of (cond z (Err (DivByZero at)) (found (changed (λ n. Ok n)) (told (changed (λ p. applied at p.0 (operation quotient (number p.1))) (both a o)))))) (zero-data h o f ∙ p.0)
      ∙ product-data at quotient a o (known_in g) (known_in h) (known_in k) e f
      (two-of (λ p. integer (arithmetic.quotient at (number p.0) (number p.1))) (known_in g) (known_in h)
      ∙ folded-data item n (g ∷ h ∷ []) come node k p.1 (number-live at n (E.Div (as_number g) (as_number h)) k))

  factored-remainder : (at n : ℕ) (a : Outcome ℤ) (o : Worth) (g h k : Form) → data_of a ≡ option_map number (known_in g) → data_of o ≡ known_in h → by_sign sets arrays item remainder at n g h ≡ Ok k →
      found data_of (factored at remainder a o) ≡ Ok (sum_data at (known_in k) [])
  factored-remainder at n a o g h k e f i =
      let node : Made Form = number_node sets arrays item at n (E.Rem (as_number g) (as_number h)) in
      let come : List Value → Found Value = λ vs. integer (arithmetic.remainder at (number (value_at vs 0)) (number (value_at vs 1))) in
      let p = unless-made at h (folded item n (all_known (g ∷ h ∷ [])) come node) k i in
      ap (λ z. found data_of (cond z (Err (DivByZero at)) (found (changed (λ n. Ok n)) (told (changed (λ p. applied at p.0 (operation remainder (number p.1))) (both a o)))))) (zero-data h o f ∙ p.0)
      ∙ product-data at remainder a o (known_in g) (known_in h) (known_in k) e f
      (two-of (λ p. integer (arithmetic.remainder at (number p.0) (number p.1))) (known_in g) (known_in h)
      ∙ folded-data item n (g ∷ h ∷ []) come node k p.1 (number-live at n (E.Rem (as_number g) (as_number h)) k))

  -- what follows from what is found with these data
  pub then-known : {X P Y Q : Type 0} (of : X → P) (to : Y → Q) (r : Found X) (f : X → Found Y) (d : P) (z : Found Q) → found of r ≡ Ok d → ((x : X) → of x ≡ d → found to (f x) ≡ z) → found to (then r f) ≡ z
  then-known of to (Ok x) f d z e h = h x (ok-back (of x) d e)
  then-known of to (Err fault) f d z e h = absurd (cc)

  -- ---- steps

  -- the data of the parts of a sum
  abbrev pub parts_data : ℕ → nodes.Parts → Option (Found ℤ)
  parts_data at ps = sum_data at (known_in ps.0) (map known_in ps.1)

  longer : (at : ℕ) (ps qs : nodes.Parts) (h : Form) → ◌≡◌ {A = Made nodes.Parts} (Ok (ps.0, ps.1 ++ h ∷ [])) (Ok qs) → sum_data at (known_in ps.0) (map known_in ps.1 ++ known_in h ∷ []) ≡ parts_data at qs
  longer at ps qs h e = ap (sum_data at (known_in ps.0)) (sym (map-append known_in ps.1 (h ∷ []))) ∙ ap (parts_data at) (ok-same (ps.0, ps.1 ++ h ∷ []) qs e)

  turned-data : (at n : ℕ) (sign : Sign) (ps qs : nodes.Parts) (g : Form) (s : spec.Sum) (o : Worth) → data_of s ≡ parts_data at ps →
      ((a : Outcome ℤ) (h k : Form) → data_of a ≡ option_map number (known_in h) → by_sign sets arrays item sign at n h g ≡ Ok k → found data_of (factored at sign a o) ≡ Ok (sum_data at (known_in k) [])) →
      next (chained sets arrays item at n ps.0 ps.1) (λ a. next (by_sign sets arrays item sign at n a g) (λ h. Ok (h, []))) ≡ Ok qs → found data_of (then (told s) (λ a. factored at sign a o)) ≡ Ok (parts_data at qs)
  turned-data at n sign ps qs g s o e node f =
      let c = next-made (chained sets arrays item at n ps.0 ps.1) (λ a. next (by_sign sets arrays item sign at n a g) (λ h. Ok (h, []))) qs f in
      let d = next-made (by_sign sets arrays item sign at n c.0 g) (λ h. Ok (h, [])) qs c.2 in
      then-known data_of data_of (told s) (λ a. factored at sign a o) (option_map number (known_in c.0)) (Ok (parts_data at qs)) (numbered-data s (known_in c.0) (chained-data at n ps.0 ps.1 c.0 s e c.1))
      (λ a i. node a c.0 d.0 i d.1 ∙ ap (λ ps. Ok (parts_data at ps)) (ok-same (d.0, []) qs d.2))

  negative-operand : (at own : ℕ) (b c : Option Value) → settles (λ v. integer (negative own (number v))) b ≡ Ok c →
      (v : Value) → b ≡ Some v → (w : Value) × (c ≡ Some w) × ((k : ℤ) → arithmetic.plus at k (number w) ≡ applied at k (operation minus (number v)))
  negative-operand at own b c e v f = by (negative own (number v)) refl (sym (ap (settles (λ v. integer (negative own (number v)))) f) ∙ e)
    where
      by : (r : Found ℤ) → negative own (number v) ≡ r → found (λ v. Some v) (integer r) ≡ Ok c → (w : Value) × (c ≡ Some w) × ((k : ℤ) → arithmetic.plus at k (number w) ≡ applied at k (operation minus (number v)))
      by (Ok y) g e = (
        values.Int y,
        sym (back (Some (values.Int y)) c e),
        λ k. ap (λ z. arithmetic.sized at (k +ℤ z)) (number-Int y ∙ sym (sized-out own (neg_ℤ (number v)) y g)) ∙ ap (arithmetic.sized at) (plus-negative k (number v)),
      )
        where
          back : (a b : Option Value) → ok a ≡ Ok b → a ≡ b
          back a b e = cc
      by (Err fault) g e = absurd (cc)

  negative-none : (own : ℕ) (b c : Option Value) → settles (λ v. integer (negative own (number v))) b ≡ Ok c → b ≡ None → c ≡ None
  negative-none own b c e f = sym (ok-back None c (sym (ap (settles (λ v. integer (negative own (number v)))) f) ∙ e))

  pub stepped-data : (at own n : ℕ) (sign : Sign) (ps qs : nodes.Parts) (g : Form) (s : spec.Sum) (o : Worth) → data_of s ≡ parts_data at ps → data_of o ≡ known_in g → nodes.stepped sets arrays item sign at own n ps g ≡ Ok qs →
      found data_of (stepped at sign s o) ≡ Ok (parts_data at qs)
  stepped-data at own n plus ps qs g s o e f h =
      ap (λ q. Ok q)
      (added-data at plus s o (parts_data at ps) (known_in g) e f
      ∙ operand-last at plus (known_in ps.0) (map known_in ps.1) (known_in g) (known_in g) (λ v i. (v, i, λ k. refl)) (λ i. i)
      ∙ longer at ps qs g h)
  stepped-data at own n minus ps qs g s o e f h =
      let c = next-made (nodes.negated sets arrays item own (n + parts_nodes ps) g) (λ h. Ok (ps.0, ps.1 ++ h ∷ [])) qs h in
      let d = negated-data own (n + parts_nodes ps) g c.0 c.1 in
      ap (λ q. Ok q)
      (added-data at minus s o (parts_data at ps) (known_in g) e f
      ∙ operand-last at minus (known_in ps.0) (map known_in ps.1) (known_in g) (known_in c.0) (negative-operand at own (known_in g) (known_in c.0) d) (negative-none own (known_in g) (known_in c.0) d)
      ∙ longer at ps qs c.0 c.2)
  stepped-data at own n of_times ps qs g s o e f h = turned-data at n of_times ps qs g s o e (λ a c k i j. factored-times at n a o c g k i f j) h
  stepped-data at own n quotient ps qs g s o e f h = turned-data at n quotient ps qs g s o e (λ a c k i j. factored-quotient at n a o c g k i f j) h
  stepped-data at own n remainder ps qs g s o e f h = turned-data at n remainder ps qs g s o e (λ a c k i j. factored-remainder at n a o c g k i f j) h

  -- ---- aggregates

  -- the first part is small where it is a value
  abbrev pub FirstSmall : List Form → Type 0
  FirstSmall [] = Unit {0}
  FirstSmall (g ∷ gs) = (v : Value) → known_in g ≡ Some v → unsigned_abs (number v) < 2 ^ 127

  pub found-then : {X Y Z : Type 0} (r : Found X) (f : X → Found Y) (g : Y → Z) → found g (then r f) ≡ then r (λ x. found g (f x))
  found-then (Ok x) f g = refl
  found-then (Err fault) f g = refl

  -- one factor more
  pub factor-data : (at : ℕ) (a : Outcome ℤ) (o : Worth) (g h k : Option Value) → data_of a ≡ option_map number g → data_of o ≡ h → settles (λ p. integer (times at (number p.0) (number p.1))) (pair_of g h) ≡ Ok k →
      found data_of (told (changed (λ p. times at p.0 (number p.1)) (both a o))) ≡ Ok (option_map number k)
  factor-data at a o g h k e f i =
      told-data (λ p. times at p.0 (number p.1)) (both a o)
      ∙ ap (settles (λ p. times at p.0 (number p.1))) (data-both a o ∙ ap (λ a. pair_of a (data_of o)) e ∙ ap (pair_of (option_map number g)) f)
      ∙ by g h i
    where
      back : (a b : Option Value) → ok a ≡ Ok b → a ≡ b
      back a b e = cc

      two : (r : Found ℤ) → found (λ v. Some v) (integer r) ≡ Ok k → found (λ n. Some n) r ≡ Ok (option_map number k)
      two (Ok m) i = ap (λ z. ok (Some z)) (sym (number-Int m)) ∙ ap (λ k. Ok (option_map number k)) (back (Some (values.Int m)) k i)
      two (Err fault) i = absurd (cc)

      by : (g h : Option Value) → settles (λ p. integer (times at (number p.0) (number p.1))) (pair_of g h) ≡ Ok k → settles (λ p. times at p.0 (number p.1)) (pair_of (option_map number g) h) ≡ Ok (option_map number k)
      by None h i = ap (λ k. Ok (option_map number k)) (back None k i)
      by (Some v) None i = ap (λ k. Ok (option_map number k)) (back None k i)
      by (Some v) (Some w) i = two (times at (number v) (number w)) i

  pub head-same : (x y : Option Value) (xs ys : List (Option Value)) → x ∷ xs ≡ y ∷ ys → x ≡ y
  head-same x y xs ys e = cc

  pub tail-same : (x y : Option Value) (xs ys : List (Option Value)) → x ∷ xs ≡ y ∷ ys → xs ≡ ys
  tail-same x y xs ys e = cc

  product-found : (gs : List Form) (at n : ℕ) (g k : Form) (a : Outcome ℤ) (os : List Worth) → data_of a ≡ option_map number (known_in g) → map data_of os ≡ map known_in gs → nodes.product_from sets arrays item at n g gs ≡ Ok k →
      found data_of (found (changed values.Int) (product_from at a os)) ≡ Ok (known_in k)
  product-found [] at n g k a [] e f h = ap (λ v. Ok v) (data-changed values.Int a ∙ ap (option_map values.Int) e ∙ by (known_in g) ∙ part-data at n g k h)
    where
      by : (g : Option Value) → option_map values.Int (option_map number g) ≡ option_map (λ v. values.Int (number v)) g
      by None = refl
      by (Some v) = refl
  product-found [] at n g k a (o ∷ os) e f h = absurd (cc)
  product-found (j ∷ gs) at n g k a [] e f h = absurd (cc)
  product-found (j ∷ gs) at n g k a (o ∷ os) e f h =
      let p = next-made (nodes.multiplied sets arrays item at n g j) (λ k. nodes.product_from sets arrays item at n k gs) k h in
      ap (found data_of) (found-then (told (changed (λ p. times at p.0 (number p.1)) (both a o))) (λ b. product_from at b os) (changed values.Int))
      ∙ then-known data_of data_of (told (changed (λ p. times at p.0 (number p.1)) (both a o))) (λ b. found (changed values.Int) (product_from at b os)) (option_map number (known_in p.0)) (Ok (known_in k))
      (factor-data at a o (known_in g) (known_in j) (known_in p.0) e (head-same (data_of o) (known_in j) (map data_of os) (map known_in gs) f) (multiplied-data at n g j p.0 p.1))
      (λ b i. product-found gs at n p.0 k b os i (tail-same (data_of o) (known_in j) (map data_of os) (map known_in gs) f) p.2)

  one-times : (z : ℤ) → (pos 1) *ℤ z ≡ z
  one-times z = omega (arith, ints)

  -- 1 times the first factor
  pub first-factor : (at : ℕ) (o : Worth) (g : Option Value) → data_of o ≡ g → ((v : Value) → g ≡ Some v → unsigned_abs (number v) < 2 ^ 127) →
      found data_of (told (changed (λ p. times at p.0 (number p.1)) (both (Fixed (pos 1)) o))) ≡ Ok (option_map number g)
  first-factor at o g e small =
      told-data (λ p. times at p.0 (number p.1)) (both (Fixed (pos 1)) o) ∙ ap (settles (λ p. times at p.0 (number p.1))) (data-both (Fixed (pos 1)) o ∙ ap (pair_of (Some (pos 1))) e) ∙ by g small
    where
      by : (g : Option Value) → ((v : Value) → g ≡ Some v → unsigned_abs (number v) < 2 ^ 127) → settles (λ p. times at p.0 (number p.1)) (pair_of (Some (pos 1)) g) ≡ Ok (option_map number g)
      by None small = refl
      by (Some v) small = ap (λ z. found (λ n. Some n) (arithmetic.sized at z)) (one-times (number v)) ∙ ap (found (λ n. Some n)) (sized-small at (number v) (small v refl))

  aggregate-data : (op : AggregateOp) (at n : ℕ) (gs : List Form) (os : List Worth) (k : Form) → FirstSmall gs → map data_of os ≡ map known_in gs → nodes.aggregated sets arrays item op at n gs ≡ Ok k → found data_of (aggregated op at os) ≡ Ok (known_in k)
  aggregate-data Sum at n gs os k small e h =
      told-data (λ vs. integer (evaluation.aggregate Sum at (map number vs))) (each os)
      ∙ ap (settles (λ vs. integer (evaluation.aggregate Sum at (map number vs)))) (data-each os ∙ ap settled.all_of e)
      ∙ folded-data item n gs (λ vs. integer (arithmetic.sum at (map number vs))) (number_node sets arrays item at n (E.Sum (map as_number gs))) k h (number-live at n (E.Sum (map as_number gs)) k)
  aggregate-data Min at n [] os k small e h = absurd (cc)
  aggregate-data Min at n (g ∷ gs) os k small e h =
      told-data (λ vs. integer (evaluation.aggregate Min at (map number vs))) (each os)
      ∙ ap (settles (λ vs. integer (evaluation.aggregate Min at (map number vs)))) (data-each os ∙ ap settled.all_of e)
      ∙ folded-data item n (g ∷ gs) (λ vs. integer (arithmetic.least at (map number vs))) (number_node sets arrays item at n (E.Min (map as_number (g ∷ gs)))) k h (number-live at n (E.Min (map as_number (g ∷ gs))) k)
  aggregate-data Max at n [] os k small e h = absurd (cc)
  aggregate-data Max at n (g ∷ gs) os k small e h =
      told-data (λ vs. integer (evaluation.aggregate Max at (map number vs))) (each os)
      ∙ ap (settles (λ vs. integer (evaluation.aggregate Max at (map number vs)))) (data-each os ∙ ap settled.all_of e)
      ∙ folded-data item n (g ∷ gs) (λ vs. integer (arithmetic.greatest at (map number vs))) (number_node sets arrays item at n (E.Max (map as_number (g ∷ gs)))) k h (number-live at n (E.Max (map as_number (g ∷ gs))) k)
  aggregate-data Product at n [] [] k small e h = ap (λ g. Ok (known_in g)) (counted-made item n 1 1 (known (values.Int (pos 1))) k h)
  aggregate-data Product at n [] (o ∷ os) k small e h = absurd (cc)
  aggregate-data Product at n (g ∷ gs) [] k small e h = absurd (cc)
  aggregate-data Product at n (g ∷ gs) (o ∷ os) k small e h =
      ap (found data_of) (found-then (told (changed (λ p. times at p.0 (number p.1)) (both (Fixed (pos 1)) o))) (λ b. product_from at b os) (changed values.Int))
      ∙ then-known data_of data_of (told (changed (λ p. times at p.0 (number p.1)) (both (Fixed (pos 1)) o))) (λ b. found (changed values.Int) (product_from at b os)) (option_map number (known_in g)) (Ok (known_in k))
      (first-factor at o (known_in g) (head-same (data_of o) (known_in g) (map data_of os) (map known_in gs) e) small)
      (λ b i. product-found gs at n g k b os i (tail-same (data_of o) (known_in g) (map data_of os) (map known_in gs) e) h)

  -- ---- arrays

  different-data : (at n : ℕ) (a : Option Cells) (k : Form) (ns : List ℤ) → nodes.different sets arrays item at n a ≡ Ok k → data_of (drawn a (Fixed (values.Bool (are_different arrays ns a)))) ≡ known_in k
  different-data at n None k ns e = ap known_in (counted-made item n 1 1 (known (values.Bool true)) k e)
  different-data at n (Some a) k ns e = by a.leaves (nodes.are_alike sets a.leaves) e
    where
      differ : (l : Leaves) → Made Form
      differ l = nodes.all_differ sets arrays item at n (leaves l)

      value-back : (a b : Option Value) → ok a ≡ Ok b → a ≡ b
      value-back a b e = cc

      live : (gs : List Form) → nodes.all_differ sets arrays item at n gs ≡ Ok k → settles (λ vs. Ok (values.Bool (all_different vs))) (settled.all_of (map known_in gs)) ≡ Ok (known_in k)
      live gs e =
          folded-data item n gs (λ vs. Ok (values.Bool (all_different vs))) (nodes.sized at (nodes.two_greatest (map (λ g. nodes.size sets arrays (ranked g)) gs)) (condition_node item n (C.AllDifferent (map ranked gs)))) k e
          (λ e. condition-live item n (C.AllDifferent (map ranked gs)) k (sized-made at (nodes.two_greatest (map (λ g. nodes.size sets arrays (ranked g)) gs)) (condition_node item n (C.AllDifferent (map ranked gs))) k e).1)

      values-data : (vs : List Value) → settled.all_of (map known_in (map known vs)) ≡ Some vs
      values-data vs = sym (known-data (map known vs)) ∙ known-values vs

      first-live : (kind : Kind) (x n : ℕ) → settled.all_of (map known_in (variables kind x (suc n))) ≡ None
      first-live Number x n = refl
      first-live (Enumeration d) x n = refl

      by : (l : Leaves) (z : Bool) → cond z (nodes.all_differ sets arrays item at n (leaves l)) (Err (Fault.eval (OutOfIndex at))) ≡ Ok k →
          data_of (cond (are_live l) (Live (Some (values.Bool (all_different (leaf_values arrays ns l))))) (Fixed (values.Bool (all_different (leaf_values arrays ns l))))) ≡ known_in k
      by l false e = absurd (cc)
      by (listed vs) true e = value-back (Some (values.Bool (all_different vs))) (known_in k) (ap (settles (λ vs. Ok (values.Bool (all_different vs)))) (sym (values-data vs)) ∙ live (map known vs) e)
      by (numbered kind x zero) true e = value-back (Some (values.Bool true)) (known_in k) (live [] e)
      by (numbered kind x (suc n)) true e = value-back None (known_in k) (ap (settles (λ vs. Ok (values.Bool (all_different vs)))) (sym (first-live kind x n)) ∙ live (variables kind x (suc n)) e)

  indices-data : (dims : List (List Value)) (gs : List Form) → are_indices dims gs ≡ settled.are_indices dims (map known_in gs)
  indices-data [] gs = refl
  indices-data (dim ∷ dims) [] = refl
  indices-data (dim ∷ dims) (g ∷ gs) = (λ i. one g i && indices-data dims gs i)
    where
      one : (g : Form) → form_index dim g ≡ is_index dim (known_in g)
      one (known v) = refl
      one (number_form e) = refl
      one (name d e) = refl
      one (condition c) = refl
      one (truth c) = refl

  with-made : (dims : List (List Value)) (ats : List ℕ) (gs : List Form) (r : Made Form) (k : Form) → nodes.with_indices sets arrays item dims ats gs r ≡ Ok k → r ≡ Ok k
  with-made [] ats gs r k e = e
  with-made (dim ∷ dims) [] gs r k e = e
  with-made (dim ∷ dims) (at ∷ ats) [] r k e = e
  with-made (dim ∷ dims) (at ∷ ats) (g ∷ gs) r k e =
      with-made dims ats gs r k (sized-made at (nodes.size sets arrays (ranked g) + greatest_abs (indices_of dim)) (nodes.with_indices sets arrays item dims ats gs r) k e).1

  past-test : (z : Bool) (at : ℕ) (r : Made Form) (k : Form) → cond z r (Err (Fault.eval (OutOfIndex at))) ≡ Ok k → (z ≡ true) × (r ≡ Ok k)
  past-test true at r k e = (refl, e)
  past-test false at r k e = absurd (cc)

  both-true : (a b : Bool) → (a && b) ≡ true → a ≡ true
  both-true true b e = refl
  both-true false b e = absurd (cc)

  no-less : (p : ℕ) → nat_lt p zero ≡ true → ⊥
  no-less p e = grind arith

  -- an element, where a form of it is made
  module _ (at n : ℕ) (ns : List ℤ) where
    abbrev taken : List (List Value) → Leaves → Outcome (List Value) → Found Worth
    taken dims l key = found (λ o. cond (are_live l) (Live (value_of o)) o) (told (changed (λ key. at_place at (leaf_values arrays ns l) (place_of dims key)) key))

    kept-data : (f : List Value → Found Value) (key : Outcome (List Value)) → found data_of (found (λ o. o) (told (changed f key))) ≡ settles f (data_of key)
    kept-data f key = self (told (changed f key)) ∙ told-data f key
      where
        self : (r : Found Worth) → found data_of (found (λ o. o) r) ≡ found data_of r
        self (Ok o) = refl
        self (Err fault) = refl

    untold : (z : Bool) (v : Option Value) → found data_of (found (λ o. cond z (Live (value_of o)) o) (ok (Live v))) ≡ Ok None
    untold true v = refl
    untold false v = refl

    live-key : (dims : List (List Value)) (l : Leaves) (key : Outcome (List Value)) → data_of key ≡ None → found data_of (taken dims l key) ≡ Ok None
    live-key dims l (Fixed key) e = absurd (cc)
    live-key dims l (Live None) e = untold (are_live l) None
    live-key dims l (Live (Some key)) e = untold (are_live l) (some_of (at_place at (leaf_values arrays ns l) (place_of dims key)))

    known-key : (dims : List (List Value)) (l : Leaves) (key : Outcome (List Value)) (vs : List Value) (k : Form) → data_of key ≡ Some vs → nodes.placed sets arrays item at n l (place_of dims vs) ≡ Ok k → found data_of (taken dims l key) ≡ Ok (known_in k)
    known-key dims l (Live o) vs k e f = absurd (cc)
    known-key dims l (Fixed key) vs k e f = ap (λ vs. found data_of (taken dims l (Fixed vs))) (same key vs e) ∙ by l (place_of dims vs) f
      where
        same : (a b : List Value) → Some a ≡ Some b → a ≡ b
        same a b e = cc

        by : (l : Leaves) (p : Option ℕ) → nodes.placed sets arrays item at n l p ≡ Ok k → found data_of (found (λ o. cond (are_live l) (Live (value_of o)) o) (found (λ v. Fixed v) (at_place at (leaf_values arrays ns l) p))) ≡ Ok (known_in k)
        by l None f = absurd (cc)
        by (listed vs) (Some p) f =
            let q = sized-made at (unsigned_abs (rank (value_at vs p))) (known_node item n (value_at vs p)) k f in
            ap (λ g. Ok (known_in g)) (counted-made item n 1 1 (known (value_at vs p)) k q.1)
        by (numbered kind x zero) (Some p) f = absurd (no-less p (past-test (nat_lt p zero) at (element_node sets arrays item (variable_sort sets kind (x + p)) at n (E.Var (x + p))) k f).0)
        by (numbered kind x (suc m)) (Some p) f =
            let q = past-test (nat_lt p (suc m)) at (element_node sets arrays item (variable_sort sets kind (x + p)) at n (E.Var (x + p))) k f in
            ap (λ v. Ok v) (element-live (variable_sort sets kind (x + p)) at n (E.Var (x + p)) k q.1)

    indexed-data : (j : Option ℕ) (ats : List ℕ) (gs : List Form) (os : List Worth) (k : Form) → map data_of os ≡ map known_in gs → nodes.indexed sets arrays item at n j (array_of arrays j) ats gs ≡ Ok k →
        found data_of (indexed arrays ns at (array_at arrays ns j) os) ≡ Ok (known_in k)
    indexed-data None ats gs os k e h = absurd (cc)
    indexed-data (Some j) ats gs os k e h = by (slice_get arrays j) h
      where
        key-is : data_of (each os) ≡ all_known gs
        key-is = data-each os ∙ ap settled.all_of e ∙ sym (known-data gs)

        fits : (a : Cells) (z : Bool) → fit (Some a) os ≡ z → z ≡ true → found data_of (taken a.dims a.leaves (each os)) ≡ Ok (known_in k) →
            found data_of (cond z (taken a.dims a.leaves (each os)) (Err (OutOfIndex at))) ≡ Ok (known_in k)
        fits a true e f g = g
        fits a false e f g = absurd (cc)

        key-value : (vs : List Value) → data_of (each os) ≡ Some vs → values_of os ≡ Some vs
        key-value vs f = inner (each os) f
          where
            inner : (o : Outcome (List Value)) → data_of o ≡ Some vs → value_of o ≡ Some vs
            inner (Fixed key) f = f
            inner (Live o) f = absurd (cc)

        all-fit : (a : Cells) (vs : List Value) (z : Bool) → settled.are_indices a.dims (map data_of os) ≡ z → data_of (each os) ≡ Some vs → nodes.placed sets arrays item at n a.leaves (place_of a.dims vs) ≡ Ok k → z ≡ true
        all-fit a vs true f g h = refl
        all-fit a vs false f g h = absurd (none (place_of a.dims vs) (no-place a.dims os vs (key-value vs g) f) h)
          where
            none : (p : Option ℕ) → p ≡ None → nodes.placed sets arrays item at n a.leaves p ≡ Ok k → ⊥
            none p e h = out (sym (ap (nodes.placed sets arrays item at n a.leaves) e) ∙ h)
              where
                out : nodes.placed sets arrays item at n a.leaves None ≡ Ok k → ⊥
                out h = cc

        looked : (a : Cells) (vs : Option (List Value)) → all_known gs ≡ vs → nodes.looked_up sets arrays item at n vs j a ats gs ≡ Ok k → found data_of (indexed arrays ns at (Some a) os) ≡ Ok (known_in k)
        looked a (Some vs) f h = fits a (fit (Some a) os) refl (all-fit a vs (fit (Some a) os) refl (key-is ∙ f) h) (known-key a.dims a.leaves (each os) vs k (key-is ∙ f) h)
        looked a None f h =
            let node : Made Form = element_node sets arrays item (nodes.element_sort sets a.leaves) at n (E.At j (map ranked gs)) in
            let p = past-test (are_indices a.dims gs && subscripts_fit a.dims gs) at (nodes.with_indices sets arrays item a.dims ats gs node) k h in
            fits a (fit (Some a) os) refl (ap (settled.are_indices a.dims) e ∙ sym (indices-data a.dims gs) ∙ both-true (are_indices a.dims gs) (subscripts_fit a.dims gs) p.0)
            (live-key a.dims a.leaves (each os) (key-is ∙ f) ∙ ap (λ v. Ok v) (element-live (nodes.element_sort sets a.leaves) at n (E.At j (map ranked gs)) k (with-made a.dims ats gs node k p.1)))

        by : (a : Option Cells) → nodes.indexed sets arrays item at n (Some j) a ats gs ≡ Ok k → found data_of (indexed arrays ns at a os) ≡ Ok (known_in k)
        by None h = absurd (cc)
        by (Some a) h = looked a (all_known gs) refl h

  -- ---- whole drafts

  module _ (small : (n : ℕ) (d : Draft) (v : Value) → made sets arrays item n d ≡ Ok (known v) → unsigned_abs (number v) < 2 ^ 127) (ns : List ℤ) where
    pub first-small : (n : ℕ) (d : Draft) (g : Form) → as_operand item (place d) n (made sets arrays item n d) ≡ Ok g → (v : Value) → known_in g ≡ Some v → unsigned_abs (number v) < 2 ^ 127
    first-small n d g e v f =
        let p = next-made (made sets arrays item n d) (λ g. operand item (place d) n g) g e in
        small n d v (p.1 ∙ ap (λ g. Ok g) (by p.0 (operand-data item (place d) n p.0 g p.2 ∙ f)))
      where
        by : (g : Form) → known_in g ≡ Some v → g ≡ known v
        by (known u) e = ap known (same u v e)
          where
            same : (a b : Value) → Some a ≡ Some b → a ≡ b
            same a b e = cc
        by (number_form x) e = absurd (cc)
        by (name d x) e = absurd (cc)
        by (condition c) e = absurd (cc)
        by (truth c) e = absurd (cc)

    pub operands-small : (n : ℕ) (ds : Drafts) (gs : List Form) → made_operands sets arrays item n ds ≡ Ok gs → FirstSmall gs
    operands-small n no_drafts [] e = tt
    operands-small n no_drafts (g ∷ gs) e = absurd (cc)
    operands-small n (more_drafts d ds) [] e =
        let p = next-made (as_operand item (place d) n (made sets arrays item n d)) (λ g. next (made_operands sets arrays item (n + part_nodes g) ds) (λ gs. Ok (g ∷ gs))) [] e in
        let q = next-made (made_operands sets arrays item (n + part_nodes p.0) ds) (λ gs. Ok (p.0 ∷ gs)) [] p.2 in
        absurd (no p.0 q.0 q.2)
      where
        no : (g : Form) (gs : List Form) → ◌≡◌ {A = Made (List Form)} (Ok (g ∷ gs)) (Ok []) → ⊥
        no g gs e = cc
    operands-small n (more_drafts d ds) (h ∷ hs) e =
        let p = next-made (as_operand item (place d) n (made sets arrays item n d)) (λ g. next (made_operands sets arrays item (n + part_nodes g) ds) (λ gs. Ok (g ∷ gs))) (h ∷ hs) e in
        let q = next-made (made_operands sets arrays item (n + part_nodes p.0) ds) (λ gs. Ok (p.0 ∷ gs)) (h ∷ hs) p.2 in
        first-small n d h (p.1 ∙ ap (λ g. Ok g) (first p.0 q.0 q.2))
      where
        first : (g : Form) (gs : List Form) → ◌≡◌ {A = Made (List Form)} (Ok (g ∷ gs)) (Ok (h ∷ hs)) → g ≡ h
        first g gs e = cc

    -- two parts, and several, where all that is made of their values is a value
    two-found : (g : Value × Value → Value) (d e : Draft) (n : ℕ) (a b k : Form) (node : Made Form) → found data_of (worth arrays ns d) ≡ Ok (known_in a) → found data_of (worth arrays ns e) ≡ Ok (known_in b) →
        folded item n (all_known (a ∷ b ∷ [])) (λ vs. Ok (g (value_at vs 0, value_at vs 1))) node ≡ Ok k → (node ≡ Ok k → None ≡ known_in k) →
        found data_of (then (worth arrays ns d) (λ o. found (λ p. changed g (both o p)) (worth arrays ns e))) ≡ Ok (known_in k)
    two-found g d e n a b k node f h i live =
        two-data g (worth arrays ns d) (worth arrays ns e)
        ∙ ap (λ r. then r (λ a. then (found data_of (worth arrays ns e)) (λ b. Ok (option_map g (pair_of a b))))) f
        ∙ ap (λ r. then r (λ b. Ok (option_map g (pair_of (known_in a) b)))) h
        ∙ mapped g (pair_of (known_in a) (known_in b))
        ∙ two-of (λ p. Ok (g p)) (known_in a) (known_in b)
        ∙ folded-data item n (a ∷ b ∷ []) (λ vs. Ok (g (value_at vs 0, value_at vs 1))) node k i live

    several-found : (f : List Value → Value) (ds : Drafts) (n : ℕ) (gs : List Form) (k : Form) (node : Made Form) → found (map data_of) (worths arrays ns ds) ≡ Ok (map known_in gs) →
        folded item n (all_known gs) (λ vs. Ok (f vs)) node ≡ Ok k → (node ≡ Ok k → None ≡ known_in k) → found data_of (found (λ os. changed f (each os)) (worths arrays ns ds)) ≡ Ok (known_in k)
    several-found f ds n gs k node h i live =
        several-data f (worths arrays ns ds)
        ∙ ap (λ r. then r (λ vs. Ok (option_map f (settled.all_of vs)))) h
        ∙ mapped f (settled.all_of (map known_in gs))
        ∙ folded-data item n gs (λ vs. Ok (f vs)) node k i live

    one-found : (f : Value → Found Value) (d : Draft) (g k : Option Value) → found data_of (worth arrays ns d) ≡ Ok g → settles f g ≡ Ok k → found data_of (then (worth arrays ns d) (λ o. told (changed f o))) ≡ Ok k
    one-found f d g k e h = one-data f (worth arrays ns d) ∙ ap (λ r. then r (settles f)) e ∙ h

    more-found : (d : Draft) (ds : Drafts) (v : Option Value) (vs : List (Option Value)) → found data_of (worth arrays ns d) ≡ Ok v → found (map data_of) (worths arrays ns ds) ≡ Ok vs → found (map data_of) (worths arrays ns (more_drafts d ds)) ≡ Ok (v ∷ vs)
    more-found d ds v vs e f =
        then-known data_of (map data_of) (worth arrays ns d) (λ o. found (λ os. o ∷ os) (worths arrays ns ds)) v (Ok (v ∷ vs)) e
        (λ o i. then-known (map data_of) (map data_of) (worths arrays ns ds) (λ os. Ok (o ∷ os)) vs (Ok (v ∷ vs)) f (λ os j. λ k. Ok (i k ∷ j k)))

    mutual
      pub made-found : (d : Draft) (n : ℕ) (g : Form) → made sets arrays item n d ≡ Ok g → found data_of (worth arrays ns d) ≡ Ok (known_in g)
      made-found (Draft.known at v) n g e = let p = sized-made at (unsigned_abs (rank v)) (known_node item n v) g e in ap (λ g. Ok (known_in g)) (counted-made item n 1 1 (known v) g p.1)
      made-found (Draft.broken fault) n g e = absurd (cc)
      made-found (Draft.variable at x kind) n g e =
          let p = past-test (nat_lt x (length sets)) at (element_node sets arrays item (variable_sort sets kind x) at n (E.Var x)) g e in
          ap (λ v. Ok v) (element-live (variable_sort sets kind x) at n (E.Var x) g p.1)
      made-found (Draft.negated at d) n g e =
          let p = next-made (as_operand item (place d) n (made sets arrays item n d)) (λ g. nodes.negated sets arrays item at n g) g e in
          one-found (λ v. integer (negative at (number v))) d (known_in p.0) (known_in g) (operand-made item (place d) n (made sets arrays item n d) p.0 (found data_of (worth arrays ns d)) (λ h f. made-found d n h f) p.1) (negated-data at n p.0 g p.2)
      made-found (Draft.absolute at d) n g e =
          let p = next-made (as_operand item (place d) n (made sets arrays item n d)) (λ g. nodes.absolute sets arrays item at n g) g e in
          one-found (λ v. integer (arithmetic.absolute at (number v))) d (known_in p.0) (known_in g) (operand-made item (place d) n (made sets arrays item n d) p.0 (found data_of (worth arrays ns d)) (λ h f. made-found d n h f) p.1) (absolute-data at n p.0 g p.2)
      made-found (Draft.chain at d ss) n g e =
          let p = next-made (as_operand item (place d) n (made sets arrays item n d)) (λ g. next (made_steps sets arrays item at n (g, []) ss) (λ ps. chained sets arrays item at n ps.0 ps.1)) g e in
          let q = next-made (made_steps sets arrays item at n (p.0, []) ss) (λ ps. chained sets arrays item at n ps.0 ps.1) g p.2 in
          then-known data_of data_of (worth arrays ns d) (λ o. then (worth_steps arrays ns at (begun o) ss) (λ s. found (changed values.Int) (told s))) (known_in p.0) (Ok (known_in g))
          (operand-made item (place d) n (made sets arrays item n d) p.0 (found data_of (worth arrays ns d)) (λ h f. made-found d n h f) p.1)
          (λ o i.
          then-known data_of data_of (worth_steps arrays ns at (begun o) ss) (λ s. found (changed values.Int) (told s)) (parts_data at q.0) (Ok (known_in g)) (steps-found ss at n (p.0, []) q.0 (begun o) (begun-data at o (known_in p.0) i) q.1)
          (λ s j. chained-data at n q.0.0 q.0.1 g s j q.2))
      made-found (Draft.related at r d e) n g h =
          let p = next-made (as_operand item (place d) n (made sets arrays item n d)) (λ a. next (as_operand item (place e) (n + part_nodes a) (made sets arrays item (n + part_nodes a) e)) (λ b. nodes.compared sets arrays item at n r a b)) g h in
          let q = next-made (as_operand item (place e) (n + part_nodes p.0) (made sets arrays item (n + part_nodes p.0) e)) (λ b. nodes.compared sets arrays item at n r p.0 b) g p.2 in
          let c : Cons = nodes.by_kind (alike (sort_of p.0) (sort_of q.0)) (nodes.op_of r) (ranked p.0) (ranked q.0) in
          let m : ℕ = nodes.size sets arrays (ranked p.0) + nodes.size sets arrays (ranked q.0) in
          two-found (λ p. values.Bool (relates r p.0 p.1)) d e n p.0 q.0 g (nodes.sized at m (condition_node item n c))
          (operand-made item (place d) n (made sets arrays item n d) p.0 (found data_of (worth arrays ns d)) (λ h f. made-found d n h f) p.1)
          (operand-made item (place e) (n + part_nodes p.0) (made sets arrays item (n + part_nodes p.0) e) q.0 (found data_of (worth arrays ns e)) (λ h f. made-found e (n + part_nodes p.0) h f) q.1) q.2
          (λ f. condition-live item n c g (sized-made at m (condition_node item n c) g f).1)
      made-found (Draft.implied at d e) n g h =
          let p = next-made (made sets arrays item n d) (λ a. next (made sets arrays item (n + part_nodes a) e) (λ b. nodes.implied item n a b)) g h in
          let q = next-made (made sets arrays item (n + part_nodes p.0) e) (λ b. nodes.implied item n p.0 b) g p.2 in
          let c : Cons = C.Imp (as_condition p.0) (as_condition q.0) in
          two-found (λ p. values.Bool (not (is_true p.0) || is_true p.1)) d e n p.0 q.0 g (condition_node item n c) (made-found d n p.0 p.1) (made-found e (n + part_nodes p.0) q.0 q.1) q.2 (condition-live item n c g)
      made-found (Draft.equivalent at ds) n g e =
          let p = first-found ds n g e in
          several-data (λ vs. values.Bool (evaluation.equivalent vs)) (worths arrays ns ds)
          ∙ ap (λ r. then r (λ vs. Ok (option_map (λ vs. values.Bool (evaluation.equivalent vs)) (settled.all_of vs)))) p.1
          ∙ ap (λ v. Ok v) p.2
      made-found (Draft.one_of at ds) n g e =
          let p = next-made (made_all sets arrays item n ds) (λ gs. nodes.one_holds item n gs) g e in
          several-found (λ vs. values.Bool (list_any is_true vs)) ds n p.0 g (condition_node item n (C.Or (map as_condition p.0))) (all-found ds n p.0 p.1) p.2 (condition-live item n (C.Or (map as_condition p.0)) g)
      made-found (Draft.all_of at ds) n g e =
          let p = next-made (made_all sets arrays item n ds) (λ gs. nodes.all_hold item n gs) g e in
          several-found (λ vs. values.Bool (list_all is_true vs)) ds n p.0 g (condition_node item n (C.And (map as_condition p.0))) (all-found ds n p.0 p.1) p.2 (condition-live item n (C.And (map as_condition p.0)) g)
      made-found (Draft.opposite at d) n g e =
          let p = next-made (made sets arrays item n d) (λ g. nodes.opposite item n g) g e in
          then-known data_of data_of (worth arrays ns d) (λ o. Ok (changed (λ v. values.Bool (not (is_true v))) o)) (known_in p.0) (Ok (known_in g)) (made-found d n p.0 p.1)
          (λ o i.
          ap (λ v. Ok v) (data-changed (λ v. values.Bool (not (is_true v))) o ∙ ap (option_map (λ v. values.Bool (not (is_true v)))) i)
          ∙ mapped (λ v. values.Bool (not (is_true v))) (known_in p.0)
          ∙ one-of (λ v. Ok (values.Bool (not (is_true v)))) (known_in p.0)
          ∙ folded-data item n (p.0 ∷ []) (λ vs. Ok (values.Bool (not (is_true (value_at vs 0))))) (condition_node item n (C.Not (as_condition p.0))) g p.2 (condition-live item n (C.Not (as_condition p.0)) g))
      made-found (Draft.aggregate at op ds) n g e =
          let p = next-made (made_operands sets arrays item n ds) (λ gs. nodes.aggregated sets arrays item op at n gs) g e in
          then-known (map data_of) data_of (worths arrays ns ds) (aggregated op at) (map known_in p.0) (Ok (known_in g)) (operands-found ds n p.0 p.1) (λ os i. aggregate-data op at n p.0 os g (operands-small n ds p.0 p.1) i p.2)
      made-found (Draft.different at a) n g e = ap (λ v. Ok v) (different-data at n a g ns e)
      made-found (Draft.element at k ds) n g e =
          let p = next-made (made_all sets arrays item n ds) (λ gs. nodes.indexed sets arrays item at n k (array_of arrays k) (places ds) gs) g e in
          then-known (map data_of) data_of (worths arrays ns ds) (indexed arrays ns at (array_at arrays ns k)) (map known_in p.0) (Ok (known_in g)) (all-found ds n p.0 p.1) (λ os i. indexed-data at n ns k (places ds) p.0 os g i p.2)

      pub all-found : (ds : Drafts) (n : ℕ) (gs : List Form) → made_all sets arrays item n ds ≡ Ok gs → found (map data_of) (worths arrays ns ds) ≡ Ok (map known_in gs)
      all-found no_drafts n gs e = ap (λ gs. Ok (map known_in gs)) (ok-same [] gs e)
      all-found (more_drafts d ds) n gs e =
          let p = next-made (made sets arrays item n d) (λ g. next (made_all sets arrays item (n + part_nodes g) ds) (λ gs. Ok (g ∷ gs))) gs e in
          let q = next-made (made_all sets arrays item (n + part_nodes p.0) ds) (λ gs. Ok (p.0 ∷ gs)) gs p.2 in
          more-found d ds (known_in p.0) (map known_in q.0) (made-found d n p.0 p.1) (all-found ds (n + part_nodes p.0) q.0 q.1) ∙ ap (λ gs. Ok (map known_in gs)) (ok-same (p.0 ∷ q.0) gs q.2)

      pub operands-found : (ds : Drafts) (n : ℕ) (gs : List Form) → made_operands sets arrays item n ds ≡ Ok gs → found (map data_of) (worths arrays ns ds) ≡ Ok (map known_in gs)
      operands-found no_drafts n gs e = ap (λ gs. Ok (map known_in gs)) (ok-same [] gs e)
      operands-found (more_drafts d ds) n gs e =
          let p = next-made (as_operand item (place d) n (made sets arrays item n d)) (λ g. next (made_operands sets arrays item (n + part_nodes g) ds) (λ gs. Ok (g ∷ gs))) gs e in
          let q = next-made (made_operands sets arrays item (n + part_nodes p.0) ds) (λ gs. Ok (p.0 ∷ gs)) gs p.2 in
          more-found d ds (known_in p.0) (map known_in q.0) (operand-made item (place d) n (made sets arrays item n d) p.0 (found data_of (worth arrays ns d)) (λ h f. made-found d n h f) p.1) (operands-found ds (n + part_nodes p.0) q.0 q.1)
          ∙ ap (λ gs. Ok (map known_in gs)) (ok-same (p.0 ∷ q.0) gs q.2)

      pub steps-found : (ss : Steps) (at n : ℕ) (ps qs : nodes.Parts) (s : spec.Sum) → data_of s ≡ parts_data at ps → made_steps sets arrays item at n ps ss ≡ Ok qs → found data_of (worth_steps arrays ns at s ss) ≡ Ok (parts_data at qs)
      steps-found no_steps at n ps qs s e h = ap (λ q. Ok q) (e ∙ ap (parts_data at) (ok-same ps qs h))
      steps-found (more_steps sign d ss) at n ps qs s e h =
          let m : ℕ = n + parts_nodes ps in
          let p = next-made (as_operand item (place d) m (made sets arrays item m d)) (λ g. next (nodes.stepped sets arrays item sign at (place d) n ps g) (λ qs. made_steps sets arrays item at n qs ss)) qs h in
          let q = next-made (nodes.stepped sets arrays item sign at (place d) n ps p.0) (λ qs. made_steps sets arrays item at n qs ss) qs p.2 in
          then-known data_of data_of (worth arrays ns d) (λ o. then (stepped at sign s o) (λ t. worth_steps arrays ns at t ss)) (known_in p.0) (Ok (parts_data at qs))
          (operand-made item (place d) m (made sets arrays item m d) p.0 (found data_of (worth arrays ns d)) (λ h f. made-found d m h f) p.1)
          (λ o i.
          then-known data_of data_of (stepped at sign s o) (λ t. worth_steps arrays ns at t ss) (parts_data at q.0) (Ok (parts_data at qs)) (stepped-data at (place d) n sign ps q.0 p.0 s o e i q.1)
          (λ t j. steps-found ss at n q.0 qs t j q.2))

      first-found : (ds : Drafts) (n : ℕ) (g : Form) → made_first sets arrays item n ds ≡ Ok g →
          (vs : List (Option Value)) × (found (map data_of) (worths arrays ns ds) ≡ Ok vs) × (option_map (λ vs. values.Bool (evaluation.equivalent vs)) (settled.all_of vs) ≡ known_in g)
      first-found no_drafts n g e = ([], refl, ap known_in (counted-made item n 1 1 (known (values.Bool true)) g e))
      first-found (more_drafts d ds) n g e =
          let p = next-made (made sets arrays item n d) (λ g. next (truth_part item n g) (λ h. made_same sets arrays item n h ds)) g e in
          let q = next-made (truth_part item n p.0) (λ h. made_same sets arrays item n h ds) g p.2 in
          let r = rest-found ds n q.0 g q.2 in (
            known_in p.0 ∷ r.0,
            more-found d ds (known_in p.0) r.0 (made-found d n p.0 p.1) r.1,
            sym (first-is (known_in p.0) r.0) ∙ ap (λ v. rest_data v r.0) (truth-data item n p.0 q.0 q.1) ∙ r.2,
          )

      rest-found : (ds : Drafts) (n : ℕ) (g k : Form) → made_same sets arrays item n g ds ≡ Ok k → (vs : List (Option Value)) × (found (map data_of) (worths arrays ns ds) ≡ Ok vs) × (rest_data (known_in g) vs ≡ known_in k)
      rest-found no_drafts n g k e = ([], refl, ap known_in (ok-same g k e))
      rest-found (more_drafts d ds) n g k e =
          let p = next-made (made sets arrays item (n + part_nodes g) d) (λ h. next (nodes.same item n g h) (λ k. made_same sets arrays item n k ds)) k e in
          let q = next-made (nodes.same item n g p.0) (λ k. made_same sets arrays item n k ds) k p.2 in
          let r = rest-found ds n q.0 k q.2 in (
            known_in p.0 ∷ r.0,
            more-found d ds (known_in p.0) r.0 (made-found d (n + part_nodes g) p.0 p.1) r.1,
            ap (λ v. rest_data v r.0) (same-found n g p.0 q.0 q.1) ∙ r.2,
          )
        where
          same-found : (n : ℕ) (g h k : Form) → nodes.same item n g h ≡ Ok k → same_data (known_in g) (known_in h) ≡ known_in k
          same-found n g h k e =
              ok-back (same_data (known_in g) (known_in h)) (known_in k)
              (mapped (λ p. values.Bool (evaluation.same (is_true p.0) (is_true p.1))) (pair_of (known_in g) (known_in h))
              ∙ two-of (λ p. Ok (values.Bool (evaluation.same (is_true p.0) (is_true p.1)))) (known_in g) (known_in h)
              ∙ folded-data item n (g ∷ h ∷ []) (λ vs. Ok (values.Bool (evaluation.same (is_true (value_at vs 0)) (is_true (value_at vs 1))))) (condition_node item n (C.Iff (as_condition g) (as_condition h))) k e
              (condition-live item n (C.Iff (as_condition g) (as_condition h)) k))

-- a value of a form is small
pub known-small : (sets : List (ℤ × ℤ)) (arrays : List Cells) (item : ℕ) → AreSoundArrays sets arrays → (n : ℕ) (d : Draft) (v : Value) → made sets arrays item n d ≡ Ok (known v) → unsigned_abs (number v) < 2 ^ 127
known-small sets arrays item all n d v e = subst (IsSoundTerm sets) (term_Const (tables arrays) [] (number v)) (made_is_sound sets arrays item n d (known v) all e).as_number

pub made_is_found : MadeIsFound
made_is_found sets arrays item n d g all e ns = made-found sets arrays item (known-small sets arrays item all) ns d n g e

-- ---- conditions

truths : (r : Option Value) → option_map is_true r ≡ lift1 is_true (lift1 (λ v. values.Bool (is_true v)) r)
truths None = refl
truths (Some v) = ap (λ b. Some b) (sym (true-Bool (is_true v)))

no-fault : (r : Found Worth) (v : Option Value) → found data_of r ≡ Ok v → found truth_of r ≡ Ok (option_map is_true (value_in r))
no-fault (Ok o) v e = refl
no-fault (Err fault) v e = absurd (cc)

pub comes_to_constraint : ComesToConstraint
comes_to_constraint sets arrays n c g all e ns m =
    let p = next-made (made sets arrays c.at n c.draft) (λ g. truth_part c.at n g) g e in
    let r : Option Value = some_of (draft_value arrays ns c.draft) in
    no-fault (worth arrays ns c.draft) (known_in p.0) (made_is_found sets arrays c.at n c.draft p.0 all p.1 ns)
    ∙ ap (λ v. Ok (option_map is_true v)) (worth_means arrays ns c.draft)
    ∙ ap (λ b. Ok b) (truths r ∙ truth-worth arrays ns (lift1 (λ v. values.Bool (is_true v)) r) g
    (truth_part-worth sets arrays c.at ns (λ t v h. values_are_small sets ns t v m h) n r p.0 g (made_is_worth sets arrays c.at n c.draft p.0 all p.1 ns m) p.2))
