-- A draft is worth what it comes to.
use Rattle.std.proofs.Common.{◌≡◌, ◌||◌, ◌&&◌, ℕ, ℤ, pos, Bool, true, false, cond, not, List, [], ◌∷◌, map, Option, None, Some, Ok, Err, refl, sym, ap, ◌∙◌}
use Rattle.std.specs.Prelude.{◌-ℤ◌, ◌*ℤ◌, int_div}
use Rattle.std.specs.List.{list_any, list_all}
use Rattle.std.specs.Option.{is_some, option_map}
use Rattle.std.specs.Ordering.{int_eq}
use Rattle.opl_tree.specs.declared.expression.AggregateOp.{AggregateOp}
use Rattle.opl_tree.specs.declared.expression.AggregateOp.TheVariants.{Sum, Product, Min, Max}
use Rattle.opl_value.specs.declared.value.Value.{Value}
use Rattle.opl_value.specs.declared.value.Value.TheVariants as values
use Rattle.opl_value.specs.Places.{elements, joint, place_in, place_of}
use Rattle.opl_eval.specs.declared.fault.EvalFault.TheVariants.{DivByZero, OutOfIndex}
use Rattle.opl_eval.specs.declared.arithmetic.Operation.{Operation}
use Rattle.opl_eval.specs.declared.arithmetic.Operation.TheVariants as operations
use Rattle.opl_eval.specs.Arithmetic.{absolute, applied, negative, run, sized, then, times}
use Rattle.opl_eval.specs.Compare.{number, relates}
use Rattle.opl_eval.specs.Evaluation as evaluation
use Rattle.opl_eval.specs.Evaluation.{Found, at_place, found, integer, is_true, truth}
use Rattle.opl_draft.specs.Drafts.{Cells, Draft, Drafts, Sign, Steps, are_different, array_at, chosen, draft_value, draft_values, leaf_values, operation, step_values}
use Rattle.opl_draft.specs.Drafts.Drafts.{no_drafts, more_drafts}
use Rattle.opl_draft.specs.Drafts.Sign.{plus, minus, times as of_times, quotient, remainder}
use Rattle.opl_draft.specs.Drafts.Steps.{no_steps, more_steps}
use Rattle.opl_draft.specs.Settled.{are_indices, divides, is_index, pair_of}
use Rattle.opl_form.specs.Worth.{some_of}
use Rattle.opl_held.specs.declared.outcome.Outcome.{Outcome}
use Rattle.opl_held.specs.declared.outcome.Outcome.TheVariants.{Fixed, Live}
use Rattle.opl_held.specs.Outcomes.{Worth, both, changed, data_of, each, told, value_in, value_of}
use Rattle.opl_held.specs.Worth as spec
use Rattle.opl_held.specs.Worth.{added, aggregated, begun, drawn, factored, fit, has_variables, indexed, is_zero, product_from, stepped, worth, worth_steps, worths}
use Rattle.opl_held.specs.Laws.{WorthMeans}

-- ---- what is there

-- what follows from what is there
abbrev pub follow : {A B : Type 0} → Option A → (A → Option B) → Option B
follow None f = None
follow (Some a) f = f a

follow-map : {A B C : Type 0} (f : A → B) (g : B → Option C) (o : Option A) → follow (option_map f o) g ≡ follow o (λ a. g (f a))
follow-map f g None = refl
follow-map f g (Some a) = refl

follow-none : {A B : Type 0} (o : Option A) → follow {B = B} o (λ a. None) ≡ None
follow-none None = refl
follow-none (Some a) = refl

follow-some : {A B : Type 0} (f : A → B) (o : Option A) → option_map f o ≡ follow o (λ a. Some (f a))
follow-some f None = refl
follow-some f (Some a) = refl

follow-self : {A : Type 0} (o : Option A) → o ≡ follow o (λ a. Some a)
follow-self None = refl
follow-self (Some a) = refl

pair-none : {A B : Type 0} (o : Option A) → pair_of {B = B} o None ≡ None
pair-none None = refl
pair-none (Some a) = refl

some-then : {A B : Type 0} (r : Found A) (f : A → Found B) → some_of (then r f) ≡ follow (some_of r) (λ a. some_of (f a))
some-then (Ok a) f = refl
some-then (Err fault) f = refl

-- ---- outcomes

pub changed-value : {A B : Type 0} (f : A → B) (o : Outcome A) → value_of (changed f o) ≡ option_map f (value_of o)
changed-value f (Fixed a) = refl
changed-value f (Live o) = refl

pub both-value : {A B : Type 0} (a : Outcome A) (b : Outcome B) → value_of (both a b) ≡ pair_of (value_of a) (value_of b)
both-value (Fixed a) (Fixed b) = refl
both-value (Fixed a) (Live b) = refl
both-value (Live a) (Fixed b) = refl
both-value (Live a) (Live b) = refl

told-value : {A : Type 0} (o : Outcome (Found A)) → value_in (told o) ≡ follow (value_of o) some_of
told-value (Fixed (Ok a)) = refl
told-value (Fixed (Err fault)) = refl
told-value (Live None) = refl
told-value (Live (Some r)) = refl

-- what is told of a function of an outcome
told-changed : {A B : Type 0} (f : A → Found B) (o : Outcome A) → value_in (told (changed f o)) ≡ follow (value_of o) (λ a. some_of (f a))
told-changed f o = told-value (changed f o) ∙ ap (λ v. follow v some_of) (changed-value f o) ∙ follow-map f some_of (value_of o)

-- what is read from what is found
abbrev reads : {X A : Type 0} → (X → Option A) → Found X → Option A
reads of (Ok x) = of x
reads of (Err fault) = None

reads-then : {X Y A B : Type 0} (of : X → Option A) (to : Y → Option B) (r : Found X) (f : X → Found Y) (g : A → Option B) → ((x : X) → reads to (f x) ≡ follow (of x) g) → reads to (then r f) ≡ follow (reads of r) g
reads-then of to (Ok x) f g h = h x
reads-then of to (Err fault) f g h = refl

reads-found : {X Y A B : Type 0} (of : X → Option A) (to : Y → Option B) (r : Found X) (f : X → Y) (g : A → Option B) → ((x : X) → to (f x) ≡ follow (of x) g) → reads to (found f r) ≡ follow (reads of r) g
reads-found of to (Ok x) f g h = h x
reads-found of to (Err fault) f g h = refl

abbrev pub values_of : List Worth → Option (List Value)
values_of os = value_of (each os)

one-means : {A B : Type 0} (f : A → Found B) (r : Found (Outcome A)) (x : Found A) → value_in r ≡ some_of x → value_in (then r (λ o. told (changed f o))) ≡ some_of (then x f)
one-means f r x e = reads-then value_of value_of r (λ o. told (changed f o)) (λ a. some_of (f a)) (told-changed f) ∙ ap (λ v. follow v (λ a. some_of (f a))) e ∙ sym (some-then x f)

two-means : {A B C : Type 0} (g : A → B → C) (r : Found (Outcome A)) (s : Found (Outcome B)) (x : Found A) (y : Found B) → value_in r ≡ some_of x → value_in s ≡ some_of y →
    value_in (then r (λ o. found (λ p. changed (λ p. g p.0 p.1) (both o p)) s)) ≡ some_of (then x (λ v. then y (λ w. Ok (g v w))))
two-means {A = A} {B = B} g r s x y e f = left r s ∙ ap (λ v. option_map (λ p. g p.0 p.1) (pair_of v (value_in s))) e ∙ ap (λ w. option_map (λ p. g p.0 p.1) (pair_of (some_of x) w)) f ∙ sym (right x y)
  where
    left : (r : Found (Outcome A)) (s : Found (Outcome B)) → value_in (then r (λ o. found (λ p. changed (λ p. g p.0 p.1) (both o p)) s)) ≡ option_map (λ p. g p.0 p.1) (pair_of (value_in r) (value_in s))
    left (Ok o) (Ok p) = changed-value (λ p. g p.0 p.1) (both o p) ∙ ap (option_map (λ p. g p.0 p.1)) (both-value o p)
    left (Ok o) (Err fault) = ap (option_map (λ p. g p.0 p.1)) (sym (pair-none (value_of o)))
    left (Err fault) s = refl

    right : (x : Found A) (y : Found B) → some_of (then x (λ v. then y (λ w. Ok (g v w)))) ≡ option_map (λ p. g p.0 p.1) (pair_of (some_of x) (some_of y))
    right (Ok v) (Ok w) = refl
    right (Ok v) (Err fault) = refl
    right (Err fault) y = refl

several-mean : (f : List Value → Bool) (r : Found (List Worth)) (x : Found (List Value)) → reads values_of r ≡ some_of x → value_in (found (λ os. changed (λ vs. values.Bool (f vs)) (each os)) r) ≡ some_of (truth (found f x))
several-mean f r x e =
    reads-found values_of value_of r (λ os. changed (λ vs. values.Bool (f vs)) (each os)) (λ vs. Some (values.Bool (f vs))) (λ os. changed-value (λ vs. values.Bool (f vs)) (each os) ∙ follow-some (λ vs. values.Bool (f vs)) (values_of os))
    ∙ ap (λ v. follow v (λ vs. Some (values.Bool (f vs)))) e
    ∙ by x
  where
    by : (x : Found (List Value)) → follow (some_of x) (λ vs. Some (values.Bool (f vs))) ≡ some_of (truth (found f x))
    by (Ok vs) = refl
    by (Err fault) = refl

-- ---- chains

-- the number of a sum so far
abbrev sum_value : spec.Sum → Option ℤ
sum_value s = follow (value_of s) some_of

module _ (at : ℕ) (sign : Sign) where
  -- one step of a number, where there is an operand
  abbrev step_of : Option Value → ℤ → Option ℤ
  step_of v n = follow v (λ v. some_of (applied at n (operation sign (number v))))

  added-value : (s : spec.Sum) (o : Worth) → sum_value (added at sign s o) ≡ follow (sum_value s) (step_of (value_of o))
  added-value s o =
      ap (λ v. follow v some_of) (changed-value (λ p. then p.0 (λ n. applied at n (operation sign (number p.1)))) (both s o) ∙ ap (option_map (λ p. then p.0 (λ n. applied at n (operation sign (number p.1))))) (both-value s o))
      ∙ by (value_of s) (value_of o)
    where
      by : (m : Option (Found ℤ)) (v : Option Value) → follow (option_map (λ p. then p.0 (λ n. applied at n (operation sign (number p.1)))) (pair_of m v)) some_of ≡ follow (follow m some_of) (step_of v)
      by None v = refl
      by (Some (Ok n)) None = refl
      by (Some (Ok n)) (Some v) = refl
      by (Some (Err fault)) None = refl
      by (Some (Err fault)) (Some v) = refl

  -- what is told begins the next sum
  told-sum : (o : Outcome (Found ℤ)) → reads sum_value (found (changed (λ n. Ok n)) (told o)) ≡ follow (value_of o) some_of
  told-sum (Fixed (Ok n)) = refl
  told-sum (Fixed (Err fault)) = refl
  told-sum (Live None) = refl
  told-sum (Live (Some (Ok n))) = refl
  told-sum (Live (Some (Err fault))) = refl

  product-value : (a : Outcome ℤ) (o : Worth) → reads sum_value (found (changed (λ n. Ok n)) (told (changed (λ p. applied at p.0 (operation sign (number p.1))) (both a o)))) ≡ follow (value_of a) (step_of (value_of o))
  product-value a o =
      told-sum (changed (λ p. applied at p.0 (operation sign (number p.1))) (both a o))
      ∙ ap (λ v. follow v some_of) (changed-value (λ p. applied at p.0 (operation sign (number p.1))) (both a o) ∙ ap (option_map (λ p. applied at p.0 (operation sign (number p.1)))) (both-value a o))
      ∙ by (value_of a) (value_of o)
    where
      by : (m : Option ℤ) (v : Option Value) → follow (option_map (λ p. applied at p.0 (operation sign (number p.1))) (pair_of m v)) some_of ≡ follow m (step_of v)
      by None v = refl
      by (Some n) None = refl
      by (Some n) (Some v) = refl

no-quotient : (at : ℕ) (sign : Sign) (m b : ℤ) → (divides sign && int_eq b (pos 0)) ≡ true → some_of (applied at m (operation sign b)) ≡ None
no-quotient at plus m b h = absurd (cc)
no-quotient at minus m b h = absurd (cc)
no-quotient at of_times m b h = absurd (cc)
no-quotient at quotient m b h = ap (λ z. some_of (cond z (Err (DivByZero at)) (sized at (int_div m b)))) h
no-quotient at remainder m b h = ap (λ z. some_of (cond z (Err (DivByZero at)) (sized at (m -ℤ b *ℤ int_div m b)))) h

nothing-divided : (at : ℕ) (sign : Sign) (a : Option ℤ) (o : Worth) → (divides sign && is_zero o) ≡ true → follow a (step_of at sign (value_of o)) ≡ None
nothing-divided at sign None o h = refl
nothing-divided at sign (Some n) (Fixed v) h = no-quotient at sign n (number v) h
nothing-divided at sign (Some n) (Live o) h = absurd (no sign h)
  where
    no : (sign : Sign) → (divides sign && false) ≡ true → ⊥
    no plus h = cc
    no minus h = cc
    no of_times h = cc
    no quotient h = cc
    no remainder h = cc

factored-value : (at : ℕ) (sign : Sign) (a : Outcome ℤ) (o : Worth) → reads sum_value (factored at sign a o) ≡ follow (value_of a) (step_of at sign (value_of o))
factored-value at sign a o = by (divides sign && is_zero o) refl
  where
    by : (z : Bool) → (divides sign && is_zero o) ≡ z →
        reads sum_value (cond z (Err (DivByZero at)) (found (changed (λ n. Ok n)) (told (changed (λ p. applied at p.0 (operation sign (number p.1))) (both a o))))) ≡ follow (value_of a) (step_of at sign (value_of o))
    by true h = sym (nothing-divided at sign (value_of a) o h)
    by false h = product-value at sign a o

turned-value : (at : ℕ) (sign : Sign) (s : spec.Sum) (o : Worth) → reads sum_value (then (told s) (λ a. factored at sign a o)) ≡ follow (sum_value s) (step_of at sign (value_of o))
turned-value at sign s o = reads-then value_of sum_value (told s) (λ a. factored at sign a o) (step_of at sign (value_of o)) (λ a. factored-value at sign a o) ∙ ap (λ v. follow v (step_of at sign (value_of o))) (told-value s)

stepped-value : (at : ℕ) (sign : Sign) (s : spec.Sum) (o : Worth) → reads sum_value (stepped at sign s o) ≡ follow (sum_value s) (step_of at sign (value_of o))
stepped-value at plus s o = added-value at plus s o
stepped-value at minus s o = added-value at minus s o
stepped-value at of_times s o = turned-value at of_times s o
stepped-value at quotient s o = turned-value at quotient s o
stepped-value at remainder s o = turned-value at remainder s o

-- the numbers of a rest of a chain
abbrev rest_of : ℕ → Option (List Operation) → ℤ → Option ℤ
rest_of at os n = follow os (λ os. some_of (run at n os))

-- a step before the rest
step-rest : (at : ℕ) (sign : Sign) (m : Option ℤ) (d : Found Value) (s : Found (List Operation)) →
    follow (some_of d) (λ v. follow (follow m (step_of at sign (Some v))) (rest_of at (some_of s)))
    ≡ follow m (rest_of at (some_of (then (found (λ v. operation sign (number v)) d) (λ x. found (λ xs. x ∷ xs) s))))
step-rest at sign None d s = follow-none (some_of d)
step-rest at sign (Some n) (Err fault) s = refl
step-rest at sign (Some n) (Ok v) (Err fault) = follow-none (some_of (applied at n (operation sign (number v))))
step-rest at sign (Some n) (Ok v) (Ok os) = sym (some-then (applied at n (operation sign (number v))) (λ b. run at b os))

-- the order in which two are there does not matter
follow-swap : {A B C : Type 0} (m : Option A) (v : Option B) (g : B → A → Option C) → follow m (λ n. follow v (λ w. g w n)) ≡ follow v (λ w. follow m (g w))
follow-swap None v g = sym (follow-none v)
follow-swap (Some n) None g = refl
follow-swap (Some n) (Some w) g = refl

follow-out : {A B C D : Type 0} (v : Option B) (m : Option A) (g : B → A → Option C) (h : C → Option D) → follow (follow m (λ n. follow v (λ w. g w n))) h ≡ follow v (λ w. follow (follow m (g w)) h)
follow-out None m g h = ap (λ o. follow o h) (follow-none m)
follow-out (Some w) m g h = refl

chain-ends : (at : ℕ) (d : Found Value) (s : Found (List Operation)) → follow (some_of d) (λ v. option_map values.Int (rest_of at (some_of s) (number v))) ≡ some_of (then d (λ v. then s (λ os. integer (run at (number v) os))))
chain-ends at (Err fault) s = refl
chain-ends at (Ok v) (Err fault) = refl
chain-ends at (Ok v) (Ok os) = by (run at (number v) os)
  where
    by : (r : Found ℤ) → option_map values.Int (some_of r) ≡ some_of (integer r)
    by (Ok n) = refl
    by (Err fault) = refl

-- what a sum comes to at its end
sum-ends : (s : spec.Sum) → value_in (found (changed values.Int) (told s)) ≡ follow (sum_value s) (λ n. Some (values.Int n))
sum-ends (Fixed (Ok n)) = refl
sum-ends (Fixed (Err fault)) = refl
sum-ends (Live None) = refl
sum-ends (Live (Some (Ok n))) = refl
sum-ends (Live (Some (Err fault))) = refl

begun-value : (o : Worth) → sum_value (begun o) ≡ option_map number (value_of o)
begun-value (Fixed v) = refl
begun-value (Live None) = refl
begun-value (Live (Some v)) = refl

-- ---- aggregates

product-means : (at : ℕ) (os : List Worth) (a : Outcome ℤ) → value_in (product_from at a os) ≡ follow (value_of a) (λ n. follow (values_of os) (λ vs. some_of (run at n (map operations.Times (map number vs)))))
product-means at [] a = follow-self (value_of a)
product-means at (o ∷ os) a =
    reads-then value_of value_of (told (changed (λ p. times at p.0 (number p.1)) (both a o))) (λ b. product_from at b os) (λ n. follow (values_of os) (λ vs. some_of (run at n (map operations.Times (map number vs))))) (product-means at os)
    ∙ ap (λ v. follow v (λ n. follow (values_of os) (λ vs. some_of (run at n (map operations.Times (map number vs)))))) (told-changed (λ p. times at p.0 (number p.1)) (both a o) ∙ ap (λ v. follow v (λ p. some_of (times at p.0 (number p.1)))) (both-value a o))
    ∙ by (value_of a) (value_of o) (values_of os)
    ∙ ap (λ v. follow (value_of a) (λ n. follow v (λ vs. some_of (run at n (map operations.Times (map number vs)))))) (sym (changed-value (λ p. p.0 ∷ p.1) (both o (each os)) ∙ ap (option_map (λ p. p.0 ∷ p.1)) (both-value o (each os))))
  where
    by : (m : Option ℤ) (v : Option Value) (vs : Option (List Value)) →
        follow (follow (pair_of m v) (λ p. some_of (times at p.0 (number p.1)))) (λ n. follow vs (λ vs. some_of (run at n (map operations.Times (map number vs)))))
        ≡ follow m (λ n. follow (option_map (λ p. p.0 ∷ p.1) (pair_of v vs)) (λ vs. some_of (run at n (map operations.Times (map number vs)))))
    by None v vs = refl
    by (Some n) None vs = refl
    by (Some n) (Some v) None = follow-none (some_of (times at n (number v)))
    by (Some n) (Some v) (Some vs) = sym (some-then (times at n (number v)) (λ b. run at b (map operations.Times (map number vs))))

aggregate-means : (op : AggregateOp) (at : ℕ) (os : List Worth) → value_in (aggregated op at os) ≡ follow (values_of os) (λ vs. some_of (integer (evaluation.aggregate op at (map number vs))))
aggregate-means Sum at os = told-changed (λ vs. integer (evaluation.aggregate Sum at (map number vs))) (each os)
aggregate-means Min at os = told-changed (λ vs. integer (evaluation.aggregate Min at (map number vs))) (each os)
aggregate-means Max at os = told-changed (λ vs. integer (evaluation.aggregate Max at (map number vs))) (each os)
aggregate-means Product at os =
    reads-found value_of value_of (product_from at (Fixed (pos 1)) os) (changed values.Int) (λ n. Some (values.Int n)) (λ o. changed-value values.Int o ∙ follow-some values.Int (value_of o))
    ∙ ap (λ v. follow v (λ n. Some (values.Int n))) (product-means at os (Fixed (pos 1)))
    ∙ by (values_of os)
  where
    last : (r : Found ℤ) → follow (some_of r) (λ n. Some (values.Int n)) ≡ some_of (integer r)
    last (Ok n) = refl
    last (Err fault) = refl

    by : (vs : Option (List Value)) →
        follow (follow vs (λ vs. some_of (run at (pos 1) (map operations.Times (map number vs))))) (λ n. Some (values.Int n)) ≡ follow vs (λ vs. some_of (integer (evaluation.aggregate Product at (map number vs))))
    by None = refl
    by (Some vs) = last (run at (pos 1) (map operations.Times (map number vs)))

-- ---- arrays

drawn-value : {A : Type 0} (a : Option Cells) (o : Outcome A) → value_of (drawn a o) ≡ value_of o
drawn-value {A = A} a o = by (has_variables a)
  where
    by : (z : Bool) → value_of (cond {A = Outcome A} z (Live (value_of o)) o) ≡ value_of o
    by true = refl
    by false = refl

joint-none : (n : ℕ) (p : Option ℕ) → joint n p None ≡ None
joint-none n None = refl
joint-none n (Some p) = refl

-- a key with a part that is no index has no place
pub no-place : (dims : List (List Value)) (os : List Worth) (key : List Value) → values_of os ≡ Some key → are_indices dims (map data_of os) ≡ false → place_of dims key ≡ None
no-place [] os key h e = absurd (cc)
no-place (dim ∷ dims) [] key h e = absurd (cc)
no-place (dim ∷ dims) (o ∷ os) key h e = by (no-place dims os) o (values_of os) refl (sym (changed-value (λ p. p.0 ∷ p.1) (both o (each os)) ∙ ap (option_map (λ p. p.0 ∷ p.1)) (both-value o (each os))) ∙ h) e
  where
    none : (p : Option ℕ) → is_some p ≡ false → p ≡ None
    none None e = refl
    none (Some p) e = absurd (cc)

    last : (v : Value) (vs : List Value) → place_of dims vs ≡ None → place_of (dim ∷ dims) (v ∷ vs) ≡ None
    last v vs e = ap (joint (elements dims) (place_in v dim)) e ∙ joint-none (elements dims) (place_in v dim)

    two : (v : Value) (vs : List Value) (z : Bool) → z ≡ is_some (place_in v dim) → (are_indices dims (map data_of os) ≡ false → place_of dims vs ≡ None) → (z && are_indices dims (map data_of os)) ≡ false →
        place_of (dim ∷ dims) (v ∷ vs) ≡ None
    two v vs true f g e = last v vs (g e)
    two v vs false f g e = ap (λ p. joint (elements dims) p (place_of dims vs)) (none (place_in v dim) (sym f))

    key-is : (v : Value) (vs : List Value) → Some (v ∷ vs) ≡ Some key → place_of (dim ∷ dims) (v ∷ vs) ≡ None → place_of (dim ∷ dims) key ≡ None
    key-is v vs f g = ap (place_of (dim ∷ dims)) (sym (inner (v ∷ vs) key f)) ∙ g
      where
        inner : (xs ys : List Value) → Some xs ≡ Some ys → xs ≡ ys
        inner xs ys f = cc

    by : ((vs : List Value) → values_of os ≡ Some vs → are_indices dims (map data_of os) ≡ false → place_of dims vs ≡ None) → (o : Worth) (vs : Option (List Value)) → values_of os ≡ vs →
        option_map (λ p. p.0 ∷ p.1) (pair_of (value_of o) vs) ≡ Some key → (is_index dim (data_of o) && are_indices dims (map data_of os)) ≡ false → place_of (dim ∷ dims) key ≡ None
    by again (Fixed v) None g f e = absurd (cc)
    by again (Fixed v) (Some vs) g f e = key-is v vs f (two v vs (is_some (place_in v dim)) refl (again vs g) e)
    by again (Live None) vs g f e = absurd (cc)
    by again (Live (Some v)) None g f e = absurd (cc)
    by again (Live (Some v)) (Some vs) g f e = key-is v vs f (last v vs (again vs g e))

module _ (arrays : List Cells) (ns : List ℤ) where
  indexed-value : (at : ℕ) (a : Option Cells) (os : List Worth) → value_in (indexed arrays ns at a os) ≡ follow (values_of os) (λ key. some_of (chosen arrays ns at a key))
  indexed-value at a os = by (fit a os) refl
    where
      inside : value_in (found (drawn a) (told (changed (chosen arrays ns at a) (each os)))) ≡ follow (values_of os) (λ key. some_of (chosen arrays ns at a key))
      inside =
          reads-found value_of value_of (told (changed (chosen arrays ns at a) (each os))) (drawn a) (λ v. Some v) (λ o. drawn-value a o ∙ follow-self (value_of o))
          ∙ sym (follow-self (value_in (told (changed (chosen arrays ns at a) (each os)))))
          ∙ told-changed (chosen arrays ns at a) (each os)

      outside : (a : Option Cells) (key : Option (List Value)) → values_of os ≡ key → fit a os ≡ false → None ≡ follow key (λ key. some_of (chosen arrays ns at a key))
      outside None key f e = absurd (cc)
      outside (Some a) None f e = refl
      outside (Some a) (Some key) f e = ap (λ p. some_of (at_place at (leaf_values arrays ns a.leaves) p)) (sym (no-place a.dims os key f e))

      by : (z : Bool) → fit a os ≡ z → value_in (cond z (found (drawn a) (told (changed (chosen arrays ns at a) (each os)))) (Err (OutOfIndex at))) ≡ follow (values_of os) (λ key. some_of (chosen arrays ns at a key))
      by true e = inside
      by false e = outside a (values_of os) refl e

  -- ---- drafts

  mutual
    pub worth-means : (d : Draft) → value_in (worth arrays ns d) ≡ some_of (draft_value arrays ns d)
    worth-means (Draft.known at v) = refl
    worth-means (Draft.broken fault) = refl
    worth-means (Draft.variable at x kind) = refl
    worth-means (Draft.negated at d) = one-means (λ v. integer (negative at (number v))) (worth arrays ns d) (draft_value arrays ns d) (worth-means d)
    worth-means (Draft.chain at d ss) =
        reads-then value_of value_of (worth arrays ns d) (λ o. then (worth_steps arrays ns at (begun o) ss) (λ s. found (changed values.Int) (told s))) (λ v. option_map values.Int (rest_of at (some_of (step_values arrays ns ss)) (number v)))
        (λ o.
        reads-then sum_value value_of (worth_steps arrays ns at (begun o) ss) (λ s. found (changed values.Int) (told s)) (λ n. Some (values.Int n)) sum-ends
        ∙ sym (follow-some values.Int (reads sum_value (worth_steps arrays ns at (begun o) ss)))
        ∙ ap (option_map values.Int) (steps-mean ss at (begun o) ∙ ap (λ m. follow m (rest_of at (some_of (step_values arrays ns ss)))) (begun-value o))
        ∙ first-out at (value_of o) (some_of (step_values arrays ns ss)))
        ∙ ap (λ v. follow v (λ v. option_map values.Int (rest_of at (some_of (step_values arrays ns ss)) (number v)))) (worth-means d)
        ∙ chain-ends at (draft_value arrays ns d) (step_values arrays ns ss)
      where
        first-out : (at : ℕ) (v : Option Value) (os : Option (List Operation)) → option_map values.Int (follow (option_map number v) (rest_of at os)) ≡ follow v (λ v. option_map values.Int (rest_of at os (number v)))
        first-out at None os = refl
        first-out at (Some v) os = refl
    worth-means (Draft.related at r d e) = two-means (λ v w. values.Bool (relates r v w)) (worth arrays ns d) (worth arrays ns e) (draft_value arrays ns d) (draft_value arrays ns e) (worth-means d) (worth-means e)
    worth-means (Draft.equivalent at ds) = several-mean evaluation.equivalent (worths arrays ns ds) (draft_values arrays ns ds) (worths-mean ds)
    worth-means (Draft.implied at d e) =
        two-means (λ v w. values.Bool (not (is_true v) || is_true w)) (worth arrays ns d) (worth arrays ns e) (draft_value arrays ns d) (draft_value arrays ns e) (worth-means d) (worth-means e)
    worth-means (Draft.one_of at ds) = several-mean (list_any is_true) (worths arrays ns ds) (draft_values arrays ns ds) (worths-mean ds)
    worth-means (Draft.all_of at ds) = several-mean (list_all is_true) (worths arrays ns ds) (draft_values arrays ns ds) (worths-mean ds)
    worth-means (Draft.opposite at d) = by (worth arrays ns d) ∙ ap (option_map (λ v. values.Bool (not (is_true v)))) (worth-means d) ∙ same (draft_value arrays ns d)
      where
        by : (r : Found Worth) → value_in (found (changed (λ v. values.Bool (not (is_true v)))) r) ≡ option_map (λ v. values.Bool (not (is_true v))) (value_in r)
        by (Ok o) = changed-value (λ v. values.Bool (not (is_true v))) o
        by (Err fault) = refl

        same : (x : Found Value) → option_map (λ v. values.Bool (not (is_true v))) (some_of x) ≡ some_of (found (λ v. values.Bool (not (is_true v))) x)
        same (Ok v) = refl
        same (Err fault) = refl
    worth-means (Draft.aggregate at op ds) =
        reads-then values_of value_of (worths arrays ns ds) (aggregated op at) (λ vs. some_of (integer (evaluation.aggregate op at (map number vs)))) (aggregate-means op at)
        ∙ ap (λ v. follow v (λ vs. some_of (integer (evaluation.aggregate op at (map number vs))))) (worths-mean ds)
        ∙ sym (some-then (draft_values arrays ns ds) (λ vs. integer (evaluation.aggregate op at (map number vs))))
    worth-means (Draft.absolute at d) = one-means (λ v. integer (absolute at (number v))) (worth arrays ns d) (draft_value arrays ns d) (worth-means d)
    worth-means (Draft.different at a) = drawn-value a (Fixed (values.Bool (are_different arrays ns a)))
    worth-means (Draft.element at k ds) =
        reads-then values_of value_of (worths arrays ns ds) (indexed arrays ns at (array_at arrays ns k)) (λ key. some_of (chosen arrays ns at (array_at arrays ns k) key)) (indexed-value at (array_at arrays ns k))
        ∙ ap (λ v. follow v (λ key. some_of (chosen arrays ns at (array_at arrays ns k) key))) (worths-mean ds)
        ∙ sym (some-then (draft_values arrays ns ds) (chosen arrays ns at (array_at arrays ns k)))

    worths-mean : (ds : Drafts) → reads values_of (worths arrays ns ds) ≡ some_of (draft_values arrays ns ds)
    worths-mean no_drafts = refl
    worths-mean (more_drafts d ds) =
        by (worth arrays ns d) (worths arrays ns ds)
        ∙ ap (λ v. option_map (λ p. p.0 ∷ p.1) (pair_of v (reads values_of (worths arrays ns ds)))) (worth-means d)
        ∙ ap (λ vs. option_map (λ p. p.0 ∷ p.1) (pair_of (some_of (draft_value arrays ns d)) vs)) (worths-mean ds)
        ∙ same (draft_value arrays ns d) (draft_values arrays ns ds)
      where
        by : (r : Found Worth) (s : Found (List Worth)) → reads values_of (then r (λ o. found (λ os. o ∷ os) s)) ≡ option_map (λ p. p.0 ∷ p.1) (pair_of (value_in r) (reads values_of s))
        by (Ok o) (Ok os) = changed-value (λ p. p.0 ∷ p.1) (both o (each os)) ∙ ap (option_map (λ p. p.0 ∷ p.1)) (both-value o (each os))
        by (Ok o) (Err fault) = ap (option_map (λ p. p.0 ∷ p.1)) (sym (pair-none (value_of o)))
        by (Err fault) s = refl

        same : (x : Found Value) (xs : Found (List Value)) → option_map (λ p. p.0 ∷ p.1) (pair_of (some_of x) (some_of xs)) ≡ some_of (then x (λ x. found (λ xs. x ∷ xs) xs))
        same (Ok v) (Ok vs) = refl
        same (Ok v) (Err fault) = refl
        same (Err fault) xs = refl

    steps-mean : (ss : Steps) (at : ℕ) (s : spec.Sum) → reads sum_value (worth_steps arrays ns at s ss) ≡ follow (sum_value s) (rest_of at (some_of (step_values arrays ns ss)))
    steps-mean no_steps at s = follow-self (sum_value s)
    steps-mean (more_steps sign d ss) at s =
        reads-then value_of sum_value (worth arrays ns d) (λ o. then (stepped at sign s o) (λ t. worth_steps arrays ns at t ss))
        (λ v. follow (follow (sum_value s) (step_of at sign (Some v))) (rest_of at (some_of (step_values arrays ns ss))))
        (λ o.
        reads-then sum_value sum_value (stepped at sign s o) (λ t. worth_steps arrays ns at t ss) (rest_of at (some_of (step_values arrays ns ss))) (λ t. steps-mean ss at t)
        ∙ ap (λ m. follow m (rest_of at (some_of (step_values arrays ns ss)))) (stepped-value at sign s o)
        ∙ follow-out (value_of o) (sum_value s) (λ v n. some_of (applied at n (operation sign (number v)))) (rest_of at (some_of (step_values arrays ns ss))))
        ∙ ap (λ v. follow v (λ v. follow (follow (sum_value s) (step_of at sign (Some v))) (rest_of at (some_of (step_values arrays ns ss))))) (worth-means d)
        ∙ step-rest at sign (sum_value s) (draft_value arrays ns d) (step_values arrays ns ss)

pub worth_means : WorthMeans
worth_means = worth-means
