-- What no assignment changes.
use Rattle.std.proofs.Common.{◌≡◌, ◌||◌, ◌&&◌, ℕ, zero, suc, ℤ, pos, Bool, true, false, cond, not, List, [], ◌∷◌, map, Option, None, Some, Ok, Err, refl, sym, ap, ◌∙◌}
use Rattle.std.specs.List.{list_any, list_all}
use Rattle.std.specs.Option.{option_map}
use Rattle.std.specs.Ordering.{int_eq}
use Rattle.opl_tree.specs.declared.expression.AggregateOp.{AggregateOp}
use Rattle.opl_tree.specs.declared.expression.AggregateOp.TheVariants.{Sum, Product, Min, Max}
use Rattle.opl_value.specs.declared.value.Value.{Value}
use Rattle.opl_value.specs.declared.value.Value.TheVariants as values
use Rattle.opl_value.specs.Places.{place_of}
use Rattle.opl_eval.specs.declared.fault.EvalFault.{EvalFault}
use Rattle.opl_eval.specs.declared.fault.EvalFault.TheVariants.{DivByZero, OutOfIndex}
use Rattle.opl_eval.specs.Arithmetic.{absolute, applied, negative, then, times}
use Rattle.opl_eval.specs.Compare.{all_different, number, relates}
use Rattle.opl_eval.specs.Evaluation as evaluation
use Rattle.opl_eval.specs.Evaluation.{Found, at_place, found, integer, is_true}
use Rattle.opl_meaning.specs.declared.variable.Kind.{Kind}
use Rattle.opl_draft.specs.Drafts.{Cells, Draft, Drafts, Leaves, Sign, Steps, are_different, array_at, chosen, leaf_values, operation}
use Rattle.opl_draft.specs.Drafts.Drafts.{no_drafts, more_drafts}
use Rattle.opl_draft.specs.Drafts.Leaves.{listed, numbered}
use Rattle.opl_draft.specs.Drafts.Sign.{plus, minus, times as of_times, quotient, remainder}
use Rattle.opl_draft.specs.Drafts.Steps.{no_steps, more_steps}
use Rattle.opl_draft.specs.Settled as settled
use Rattle.opl_draft.specs.Settled.{are_indices, divides, pair_of, settle}
use Rattle.opl_held.specs.declared.outcome.Outcome.{Outcome}
use Rattle.opl_held.specs.declared.outcome.Outcome.TheVariants.{Fixed, Live}
use Rattle.opl_held.specs.Outcomes.{Worth, both, changed, data_of, each, told, value_of}
use Rattle.opl_held.specs.Worth as spec
use Rattle.opl_held.specs.Worth.{added, aggregated, are_live, begun, drawn, factored, fit, indexed, is_zero, product_from, stepped, worth, worth_steps, worths}
use Rattle.opl_held.specs.Laws.{DataStays}

-- ---- what is found

abbrev pub ok : {A : Type 0} → A → Found A
ok a = Ok a

abbrev err : (A : Type 0) → EvalFault → Found A
err A fault = Err fault

ok-same : {A : Type 0} (x y : A) → ok x ≡ ok y → x ≡ y
ok-same x y e = cc

err-same : (A B : Type 0) (f g : EvalFault) → err A f ≡ err A g → err B f ≡ err B g
err-same A B f g e = ap (err B) (inner e)
  where
    inner : err A f ≡ err A g → f ≡ g
    inner e = cc

-- what follows from the same has the same data
then-same : {X Y P Q : Type 0} (of : X → P) (to : Y → Q) (r s : Found X) (f g : X → Found Y) → found of r ≡ found of s → ((x y : X) → of x ≡ of y → found to (f x) ≡ found to (g y)) → found to (then r f) ≡ found to (then s g)
then-same of to (Ok x) (Ok y) f g e h = h x y (ok-same (of x) (of y) e)
then-same of to (Ok x) (Err fault) f g e h = absurd (cc)
then-same of to (Err fault) (Ok y) f g e h = absurd (cc)
then-same {Y = Y} {P = P} {Q = Q} of to (Err fault) (Err other) f g e h = err-same P Q fault other e

found-same : {X Y P Q : Type 0} (of : X → P) (to : Y → Q) (r s : Found X) (f g : X → Y) → found of r ≡ found of s → ((x y : X) → of x ≡ of y → to (f x) ≡ to (g y)) → found to (found f r) ≡ found to (found g s)
found-same of to r s f g e h = then-same of to r s (λ x. Ok (f x)) (λ x. Ok (g x)) e (λ x y i. ap (λ q. Ok q) (h x y i))

-- ---- outcomes

pub data-changed : {A B : Type 0} (f : A → B) (o : Outcome A) → data_of (changed f o) ≡ option_map f (data_of o)
data-changed f (Fixed a) = refl
data-changed f (Live o) = refl

pub data-both : {A B : Type 0} (a : Outcome A) (b : Outcome B) → data_of (both a b) ≡ pair_of (data_of a) (data_of b)
data-both (Fixed a) (Fixed b) = refl
data-both (Fixed a) (Live b) = refl
data-both (Live a) (Fixed b) = refl
data-both (Live a) (Live b) = refl

pub data-told : {A : Type 0} (o : Outcome (Found A)) → found data_of (told o) ≡ elim (data_of o) as (λ r. Found (Option A)) [ None ↦ Ok None | Some r ↦ found (λ a. Some a) r ]
data-told (Fixed (Ok a)) = refl
data-told (Fixed (Err fault)) = refl
data-told (Live None) = refl
data-told (Live (Some r)) = refl

pub data-each : {A : Type 0} (os : List (Outcome A)) → data_of (each os) ≡ settled.all_of (map data_of os)
data-each [] = refl
data-each (o ∷ os) = data-changed (λ p. p.0 ∷ p.1) (both o (each os)) ∙ ap (option_map (λ p. p.0 ∷ p.1)) (data-both o (each os) ∙ ap (pair_of (data_of o)) (data-each os))

changed-same : {A B : Type 0} (f : A → B) (o p : Outcome A) → data_of o ≡ data_of p → data_of (changed f o) ≡ data_of (changed f p)
changed-same f o p e = data-changed f o ∙ ap (option_map f) e ∙ sym (data-changed f p)

both-same : {A B : Type 0} (a c : Outcome A) (b d : Outcome B) → data_of a ≡ data_of c → data_of b ≡ data_of d → data_of (both a b) ≡ data_of (both c d)
both-same a c b d e f = data-both a b ∙ ap (λ x. pair_of x (data_of b)) e ∙ ap (pair_of (data_of c)) f ∙ sym (data-both c d)

told-same : {A : Type 0} (o p : Outcome (Found A)) → data_of o ≡ data_of p → found data_of (told o) ≡ found data_of (told p)
told-same {A = A} o p e = data-told o ∙ ap (λ r. elim r as (λ r. Found (Option A)) [ None ↦ Ok None | Some r ↦ found (λ a. Some a) r ]) e ∙ sym (data-told p)

each-same : {A : Type 0} (os ps : List (Outcome A)) → map data_of os ≡ map data_of ps → data_of (each os) ≡ data_of (each ps)
each-same os ps e = data-each os ∙ ap settled.all_of e ∙ sym (data-each ps)

one-same : {A B : Type 0} (f : A → Found B) (r s : Found (Outcome A)) → found data_of r ≡ found data_of s → found data_of (then r (λ o. told (changed f o))) ≡ found data_of (then s (λ o. told (changed f o)))
one-same f r s e = then-same data_of data_of r s (λ o. told (changed f o)) (λ o. told (changed f o)) e (λ o p i. told-same (changed f o) (changed f p) (changed-same f o p i))

two-same : {A B C : Type 0} (g : A × B → C) (r s : Found (Outcome A)) (t u : Found (Outcome B)) → found data_of r ≡ found data_of s → found data_of t ≡ found data_of u →
    found data_of (then r (λ o. found (λ p. changed g (both o p)) t)) ≡ found data_of (then s (λ o. found (λ p. changed g (both o p)) u))
two-same g r s t u e f =
    then-same data_of data_of r s (λ o. found (λ p. changed g (both o p)) t) (λ o. found (λ p. changed g (both o p)) u) e
    (λ o q i. found-same data_of data_of t u (λ p. changed g (both o p)) (λ p. changed g (both q p)) f (λ p v j. changed-same g (both o p) (both q v) (both-same o q p v i j)))

several-same : (f : List Value → Value) (r s : Found (List Worth)) → found (map data_of) r ≡ found (map data_of) s → found data_of (found (λ os. changed f (each os)) r) ≡ found data_of (found (λ os. changed f (each os)) s)
several-same f r s e = found-same (map data_of) data_of r s (λ os. changed f (each os)) (λ os. changed f (each os)) e (λ os ps i. changed-same f (each os) (each ps) (each-same os ps i))

-- ---- chains

zero_in : Option Value → Bool
zero_in None = false
zero_in (Some v) = int_eq (number v) (pos 0)

zero-data : (o : Worth) → is_zero o ≡ zero_in (data_of o)
unfolding zero_in
zero-data (Fixed v) = refl
zero-data (Live o) = refl

factored-same : (at : ℕ) (sign : Sign) (a b : Outcome ℤ) (o p : Worth) → data_of a ≡ data_of b → data_of o ≡ data_of p → found data_of (factored at sign a o) ≡ found data_of (factored at sign b p)
factored-same at sign a b o p e f =
    ap (λ z. found data_of (cond (divides sign && z) (Err (DivByZero at)) (made a o))) (zero-data o ∙ ap zero_in f ∙ sym (zero-data p))
    ∙ by (divides sign && is_zero p)
  where
    made : Outcome ℤ → Worth → Found spec.Sum
    made a o = found (changed (λ n. Ok n)) (told (changed (λ p. applied at p.0 (operation sign (number p.1))) (both a o)))

    by : (z : Bool) → found data_of (cond z (Err (DivByZero at)) (made a o)) ≡ found data_of (cond z (Err (DivByZero at)) (made b p))
    by true = refl
    by false =
        found-same data_of data_of (told (changed (λ p. applied at p.0 (operation sign (number p.1))) (both a o))) (told (changed (λ p. applied at p.0 (operation sign (number p.1))) (both b p))) (changed (λ n. Ok n)) (changed (λ n. Ok n))
        (told-same (changed (λ p. applied at p.0 (operation sign (number p.1))) (both a o)) (changed (λ p. applied at p.0 (operation sign (number p.1))) (both b p)) (changed-same (λ p. applied at p.0 (operation sign (number p.1))) (both a o) (both b p) (both-same a b o p e f)))
        (λ m n i. changed-same (λ n. Ok n) m n i)

turned-same : (at : ℕ) (sign : Sign) (s t : spec.Sum) (o p : Worth) → data_of s ≡ data_of t → data_of o ≡ data_of p → found data_of (then (told s) (λ a. factored at sign a o)) ≡ found data_of (then (told t) (λ a. factored at sign a p))
turned-same at sign s t o p e f = then-same data_of data_of (told s) (told t) (λ a. factored at sign a o) (λ a. factored at sign a p) (told-same s t e) (λ a b i. factored-same at sign a b o p i f)

added-same : (at : ℕ) (sign : Sign) (s t : spec.Sum) (o p : Worth) → data_of s ≡ data_of t → data_of o ≡ data_of p → data_of (added at sign s o) ≡ data_of (added at sign t p)
added-same at sign s t o p e f = changed-same (λ p. then p.0 (λ n. applied at n (operation sign (number p.1)))) (both s o) (both t p) (both-same s t o p e f)

stepped-same : (at : ℕ) (sign : Sign) (s t : spec.Sum) (o p : Worth) → data_of s ≡ data_of t → data_of o ≡ data_of p → found data_of (stepped at sign s o) ≡ found data_of (stepped at sign t p)
stepped-same at plus s t o p e f = ap (λ x. Ok x) (added-same at plus s t o p e f)
stepped-same at minus s t o p e f = ap (λ x. Ok x) (added-same at minus s t o p e f)
stepped-same at of_times s t o p e f = turned-same at of_times s t o p e f
stepped-same at quotient s t o p e f = turned-same at quotient s t o p e f
stepped-same at remainder s t o p e f = turned-same at remainder s t o p e f

-- ---- aggregates

first-same : (o p : Worth) (os ps : List Worth) → map data_of (o ∷ os) ≡ map data_of (p ∷ ps) → data_of o ≡ data_of p
first-same o p os ps e = inner (data_of o) (data_of p) (map data_of os) (map data_of ps) e
  where
    inner : (x y : Option Value) (xs ys : List (Option Value)) → x ∷ xs ≡ y ∷ ys → x ≡ y
    inner x y xs ys e = cc

others-same : (o p : Worth) (os ps : List Worth) → map data_of (o ∷ os) ≡ map data_of (p ∷ ps) → map data_of os ≡ map data_of ps
others-same o p os ps e = inner (data_of o) (data_of p) (map data_of os) (map data_of ps) e
  where
    inner : (x y : Option Value) (xs ys : List (Option Value)) → x ∷ xs ≡ y ∷ ys → xs ≡ ys
    inner x y xs ys e = cc

product-same : (at : ℕ) (os ps : List Worth) (a b : Outcome ℤ) → data_of a ≡ data_of b → map data_of os ≡ map data_of ps → found data_of (product_from at a os) ≡ found data_of (product_from at b ps)
product-same at [] [] a b e f = ap (λ x. Ok x) e
product-same at [] (p ∷ ps) a b e f = absurd (cc)
product-same at (o ∷ os) [] a b e f = absurd (cc)
product-same at (o ∷ os) (p ∷ ps) a b e f =
    then-same data_of data_of (told (changed (λ p. times at p.0 (number p.1)) (both a o))) (told (changed (λ p. times at p.0 (number p.1)) (both b p))) (λ b. product_from at b os) (λ b. product_from at b ps)
    (told-same (changed (λ p. times at p.0 (number p.1)) (both a o)) (changed (λ p. times at p.0 (number p.1)) (both b p)) (changed-same (λ p. times at p.0 (number p.1)) (both a o) (both b p) (both-same a b o p e (first-same o p os ps f))))
    (λ c d i. product-same at os ps c d i (others-same o p os ps f))

aggregate-same : (op : AggregateOp) (at : ℕ) (os ps : List Worth) → map data_of os ≡ map data_of ps → found data_of (aggregated op at os) ≡ found data_of (aggregated op at ps)
aggregate-same Product at os ps e =
    found-same data_of data_of (product_from at (Fixed (pos 1)) os) (product_from at (Fixed (pos 1)) ps) (changed values.Int) (changed values.Int) (product-same at os ps (Fixed (pos 1)) (Fixed (pos 1)) refl e) (λ m n i. changed-same values.Int m n i)
aggregate-same Sum at os ps e =
    told-same (changed (λ vs. integer (evaluation.aggregate Sum at (map number vs))) (each os)) (changed (λ vs. integer (evaluation.aggregate Sum at (map number vs))) (each ps))
    (changed-same (λ vs. integer (evaluation.aggregate Sum at (map number vs))) (each os) (each ps) (each-same os ps e))
aggregate-same Min at os ps e =
    told-same (changed (λ vs. integer (evaluation.aggregate Min at (map number vs))) (each os)) (changed (λ vs. integer (evaluation.aggregate Min at (map number vs))) (each ps))
    (changed-same (λ vs. integer (evaluation.aggregate Min at (map number vs))) (each os) (each ps) (each-same os ps e))
aggregate-same Max at os ps e =
    told-same (changed (λ vs. integer (evaluation.aggregate Max at (map number vs))) (each os)) (changed (λ vs. integer (evaluation.aggregate Max at (map number vs))) (each ps))
    (changed-same (λ vs. integer (evaluation.aggregate Max at (map number vs))) (each os) (each ps) (each-same os ps e))

-- ---- arrays

fit-same : (a : Option Cells) (os ps : List Worth) → map data_of os ≡ map data_of ps → fit a os ≡ fit a ps
fit-same None os ps e = refl
fit-same (Some a) os ps e = ap (are_indices a.dims) e

-- an element of variables: one that is no variable's is a fault
placed : ℕ → Option (Option ℕ) → Found (Option Value)
placed at None = Ok None
placed at (Some None) = Err (OutOfIndex at)
placed at (Some (Some p)) = Ok None

module _ (arrays : List Cells) (at : ℕ) where
  -- an element by a key
  abbrev taken : List ℤ → List (List Value) → Leaves → Outcome (List Value) → Found Worth
  taken ns dims l key = found (λ o. cond (are_live l) (Live (value_of o)) o) (told (changed (λ key. at_place at (leaf_values arrays ns l) (place_of dims key)) key))

  numbered-data : (ns : List ℤ) (dims : List (List Value)) (kind : Kind) (x n : ℕ) (key : Outcome (List Value)) → found data_of (taken ns dims (numbered kind x (suc n)) key) ≡ placed at (option_map (place_of dims) (data_of key))
  unfolding placed
  numbered-data ns dims kind x n (Fixed key) = by (place_of dims key)
    where
      by : (p : Option ℕ) → found data_of (found (λ o. Live (value_of o)) (found (λ v. Fixed v) (at_place at (leaf_values arrays ns (numbered kind x (suc n))) p))) ≡ placed at (Some p)
      by None = refl
      by (Some p) = refl
  numbered-data ns dims kind x n (Live None) = refl
  numbered-data ns dims kind x n (Live (Some key)) = refl

  kept-same : (f : List Value → Found Value) (key other : Outcome (List Value)) → data_of key ≡ data_of other → found data_of (found (λ o. o) (told (changed f key))) ≡ found data_of (found (λ o. o) (told (changed f other)))
  kept-same f key other e =
      found-same data_of data_of (told (changed f key)) (told (changed f other)) (λ o. o) (λ o. o) (told-same (changed f key) (changed f other) (changed-same f key other e)) (λ x y i. i)

  leaves-same : (ns ms : List ℤ) (dims : List (List Value)) (l : Leaves) (key other : Outcome (List Value)) → data_of key ≡ data_of other → found data_of (taken ns dims l key) ≡ found data_of (taken ms dims l other)
  leaves-same ns ms dims (listed vs) key other e = kept-same (λ key. at_place at vs (place_of dims key)) key other e
  leaves-same ns ms dims (numbered kind x zero) key other e = kept-same (λ key. at_place at [] (place_of dims key)) key other e
  leaves-same ns ms dims (numbered kind x (suc n)) key other e = numbered-data ns dims kind x n key ∙ ap (λ k. placed at (option_map (place_of dims) k)) e ∙ sym (numbered-data ms dims kind x n other)

  taken-same : (ns ms : List ℤ) (a : Option Cells) (key other : Outcome (List Value)) → data_of key ≡ data_of other →
      found data_of (found (drawn a) (told (changed (chosen arrays ns at a) key))) ≡ found data_of (found (drawn a) (told (changed (chosen arrays ms at a) other)))
  taken-same ns ms None key other e = kept-same (λ key. Ok (values.Int (pos 0))) key other e
  taken-same ns ms (Some a) key other e = leaves-same ns ms a.dims a.leaves key other e

  indexed-same : (ns ms : List ℤ) (a : Option Cells) (os ps : List Worth) → map data_of os ≡ map data_of ps → found data_of (indexed arrays ns at a os) ≡ found data_of (indexed arrays ms at a ps)
  indexed-same ns ms a os ps e =
      ap (λ z. found data_of (cond z (found (drawn a) (told (changed (chosen arrays ns at a) (each os)))) (Err (OutOfIndex at)))) (fit-same a os ps e) ∙ by (fit a ps) (taken-same ns ms a (each os) (each ps) (each-same os ps e))
    where
      by : (z : Bool) → found data_of (found (drawn a) (told (changed (chosen arrays ns at a) (each os)))) ≡ found data_of (found (drawn a) (told (changed (chosen arrays ms at a) (each ps)))) →
          found data_of (cond z (found (drawn a) (told (changed (chosen arrays ns at a) (each os)))) (Err (OutOfIndex at))) ≡ found data_of (cond z (found (drawn a) (told (changed (chosen arrays ms at a) (each ps)))) (Err (OutOfIndex at)))
      by true h = h
      by false h = refl

module _ (arrays : List Cells) (ns ms : List ℤ) where
  different-same : (a : Option Cells) → data_of (drawn a (Fixed (values.Bool (are_different arrays ns a)))) ≡ data_of (drawn a (Fixed (values.Bool (are_different arrays ms a))))
  different-same None = refl
  different-same (Some a) = by a.leaves
    where
      by : (l : Leaves) →
          data_of (cond (are_live l) (Live (Some (values.Bool (all_different (leaf_values arrays ns l))))) (Fixed (values.Bool (all_different (leaf_values arrays ns l)))))
          ≡ data_of (cond (are_live l) (Live (Some (values.Bool (all_different (leaf_values arrays ms l))))) (Fixed (values.Bool (all_different (leaf_values arrays ms l)))))
      by (listed vs) = refl
      by (numbered kind x zero) = refl
      by (numbered kind x (suc n)) = refl

  same-array : (k : Option ℕ) → array_at arrays ns k ≡ array_at arrays ms k
  same-array None = refl
  same-array (Some k) = refl

  -- ---- drafts

  mutual
    pub worth-same : (d : Draft) → found data_of (worth arrays ns d) ≡ found data_of (worth arrays ms d)
    worth-same (Draft.known at v) = refl
    worth-same (Draft.broken fault) = refl
    worth-same (Draft.variable at x kind) = refl
    worth-same (Draft.negated at d) = one-same (λ v. integer (negative at (number v))) (worth arrays ns d) (worth arrays ms d) (worth-same d)
    worth-same (Draft.chain at d ss) =
        then-same data_of data_of (worth arrays ns d) (worth arrays ms d) (λ o. then (worth_steps arrays ns at (begun o) ss) (λ s. found (changed values.Int) (told s)))
        (λ o. then (worth_steps arrays ms at (begun o) ss) (λ s. found (changed values.Int) (told s))) (worth-same d)
        (λ o p i.
        then-same data_of data_of (worth_steps arrays ns at (begun o) ss) (worth_steps arrays ms at (begun p) ss) (λ s. found (changed values.Int) (told s)) (λ s. found (changed values.Int) (told s))
        (steps-same ss at (begun o) (begun p) (changed-same (λ v. Ok (number v)) o p i))
        (λ s t j. found-same data_of data_of (told s) (told t) (changed values.Int) (changed values.Int) (told-same s t j) (λ m n k. changed-same values.Int m n k)))
    worth-same (Draft.related at r d e) = two-same (λ p. values.Bool (relates r p.0 p.1)) (worth arrays ns d) (worth arrays ms d) (worth arrays ns e) (worth arrays ms e) (worth-same d) (worth-same e)
    worth-same (Draft.equivalent at ds) = several-same (λ vs. values.Bool (evaluation.equivalent vs)) (worths arrays ns ds) (worths arrays ms ds) (worths-same ds)
    worth-same (Draft.implied at d e) =
        two-same (λ p. values.Bool (not (is_true p.0) || is_true p.1)) (worth arrays ns d) (worth arrays ms d) (worth arrays ns e) (worth arrays ms e) (worth-same d) (worth-same e)
    worth-same (Draft.one_of at ds) = several-same (λ vs. values.Bool (list_any is_true vs)) (worths arrays ns ds) (worths arrays ms ds) (worths-same ds)
    worth-same (Draft.all_of at ds) = several-same (λ vs. values.Bool (list_all is_true vs)) (worths arrays ns ds) (worths arrays ms ds) (worths-same ds)
    worth-same (Draft.opposite at d) =
        found-same data_of data_of (worth arrays ns d) (worth arrays ms d) (changed (λ v. values.Bool (not (is_true v)))) (changed (λ v. values.Bool (not (is_true v)))) (worth-same d)
        (λ o p i. changed-same (λ v. values.Bool (not (is_true v))) o p i)
    worth-same (Draft.aggregate at op ds) =
        then-same (map data_of) data_of (worths arrays ns ds) (worths arrays ms ds) (aggregated op at) (aggregated op at) (worths-same ds) (λ os ps i. aggregate-same op at os ps i)
    worth-same (Draft.absolute at d) = one-same (λ v. integer (absolute at (number v))) (worth arrays ns d) (worth arrays ms d) (worth-same d)
    worth-same (Draft.different at a) = ap (λ o. Ok o) (different-same a)
    worth-same (Draft.element at k ds) =
        then-same (map data_of) data_of (worths arrays ns ds) (worths arrays ms ds) (indexed arrays ns at (array_at arrays ns k)) (indexed arrays ms at (array_at arrays ms k)) (worths-same ds)
        (λ os ps i. ap (λ a. found data_of (indexed arrays ns at a os)) (same-array k) ∙ indexed-same arrays at ns ms (array_at arrays ms k) os ps i)

    worths-same : (ds : Drafts) → found (map data_of) (worths arrays ns ds) ≡ found (map data_of) (worths arrays ms ds)
    worths-same no_drafts = refl
    worths-same (more_drafts d ds) =
        then-same data_of (map data_of) (worth arrays ns d) (worth arrays ms d) (λ o. found (λ os. o ∷ os) (worths arrays ns ds)) (λ o. found (λ os. o ∷ os) (worths arrays ms ds)) (worth-same d)
        (λ o p i.
        found-same (map data_of) (map data_of) (worths arrays ns ds) (worths arrays ms ds) (λ os. o ∷ os) (λ ps. p ∷ ps) (worths-same ds) (λ os ps j. λ k. i k ∷ j k))

    steps-same : (ss : Steps) (at : ℕ) (s t : spec.Sum) → data_of s ≡ data_of t → found data_of (worth_steps arrays ns at s ss) ≡ found data_of (worth_steps arrays ms at t ss)
    steps-same no_steps at s t e = ap (λ x. Ok x) e
    steps-same (more_steps sign d ss) at s t e =
        then-same data_of data_of (worth arrays ns d) (worth arrays ms d) (λ o. then (stepped at sign s o) (λ t. worth_steps arrays ns at t ss)) (λ o. then (stepped at sign t o) (λ t. worth_steps arrays ms at t ss)) (worth-same d)
        (λ o p i.
        then-same data_of data_of (stepped at sign s o) (stepped at sign t p) (λ t. worth_steps arrays ns at t ss) (λ t. worth_steps arrays ms at t ss) (stepped-same at sign s t o p e i)
        (λ u v j. steps-same ss at u v j))

pub data_stays : DataStays
data_stays = worth-same
