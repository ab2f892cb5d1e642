-- What is made of parts one after another is what is made of them together.
use Rattle.std.proofs.Common.{◌≡◌, ◌||◌, ◌&&◌, ℕ, ℤ, pos, Bool, true, false, List, [], ◌∷◌, ◌++◌, map, fold, Option, None, Some, Ok, Err, refl, sym, ap, ◌∙◌}
use Rattle.std.specs.Int.{int_min, int_max}
use Rattle.std.specs.List.{list_any, list_all}
use Rattle.std.specs.Option.{option_map}
use Rattle.opl_tree.specs.declared.expression.AggregateOp.{AggregateOp}
use Rattle.opl_tree.specs.declared.expression.AggregateOp.TheVariants.{Sum, Product, Min, Max}
use Rattle.opl_value.specs.declared.value.Value.{Value}
use Rattle.opl_value.specs.declared.value.Value.TheVariants as values
use Rattle.opl_eval.specs.declared.arithmetic.Operation.TheVariants as operations
use Rattle.opl_eval.specs.declared.fault.EvalFault.{EvalFault}
use Rattle.opl_eval.specs.declared.fault.EvalFault.TheVariants.{EmptyMinMax}
use Rattle.opl_eval.specs.Arithmetic as arithmetic
use Rattle.opl_eval.specs.Arithmetic.{applied, run, then, times}
use Rattle.opl_eval.specs.Compare.{number}
use Rattle.opl_eval.specs.Evaluation as evaluation
use Rattle.opl_eval.specs.Evaluation.{Found, found, integer, is_true}
use Rattle.opl_draft.specs.Drafts.{Cells, Draft, drafts_of, operation}
use Rattle.opl_draft.specs.Drafts.Sign.{plus}
use Rattle.opl_draft.specs.Settled.{pair_of}
use Rattle.opl_held.specs.declared.connective.Connective.{Connective}
use Rattle.opl_held.specs.declared.connective.Connective.TheVariants.{Equivalent, Or, And}
use Rattle.opl_held.specs.declared.outcome.Outcome.{Outcome}
use Rattle.opl_held.specs.declared.outcome.Outcome.TheVariants.{Fixed, Live}
use Rattle.opl_held.specs.Gathered.{behind, gathered, greater, joined, lesser, longer, met, multiplied, nothing, start}
use Rattle.opl_held.specs.Outcomes.{Worth, both, changed, each, told}
use Rattle.opl_held.specs.Worth as spec
use Rattle.opl_held.specs.Worth.{added, aggregated, product_from, worth, worths}

-- ---- outcomes

changed-like : {A B : Type 0} (f g : A → B) (o : Outcome A) → ((a : A) → f a ≡ g a) → changed f o ≡ changed g o
changed-like f g (Fixed a) h = ap (λ b. Fixed b) (h a)
changed-like f g (Live None) h = refl
changed-like f g (Live (Some a)) h = ap (λ b. Live (Some b)) (h a)

changed-twice : {A B C : Type 0} (f : B → C) (g : A → B) (o : Outcome A) → changed f (changed g o) ≡ changed (λ a. f (g a)) o
changed-twice f g (Fixed a) = refl
changed-twice f g (Live None) = refl
changed-twice f g (Live (Some a)) = refl

both-first : {A B C : Type 0} (f : A × B → C) (a : A) (o : Outcome B) → changed f (both (Fixed a) o) ≡ changed (λ b. f (a, b)) o
both-first f a (Fixed b) = refl
both-first f a (Live None) = refl
both-first f a (Live (Some b)) = refl

-- ---- one after another

module _ {A S : Type 0} (f : S × A → S) where
  abbrev more : Outcome S → Outcome A → Outcome S
  more s o = changed f (both s o)

  abbrev all : S × List A → S
  all p = fold (λ s a. f (s, a)) p.0 p.1

  options : (s : Option S) (a : Option A) (others : Option (List A)) → option_map all (pair_of (option_map f (pair_of s a)) others) ≡ option_map all (pair_of s (option_map (λ p. p.0 ∷ p.1) (pair_of a others)))
  options None a others = refl
  options (Some s) None others = refl
  options (Some s) (Some a) None = refl
  options (Some s) (Some a) (Some others) = refl

  one-more : (s : Outcome S) (o : Outcome A) (os : Outcome (List A)) → changed all (both (more s o) os) ≡ changed all (both s (changed (λ p. p.0 ∷ p.1) (both o os)))
  one-more (Fixed s) (Fixed a) (Fixed others) = refl
  one-more (Fixed s) (Fixed a) (Live others) = ap (λ v. Live v) (options (Some s) (Some a) others)
  one-more (Fixed s) (Live a) (Fixed others) = ap (λ v. Live v) (options (Some s) a (Some others))
  one-more (Fixed s) (Live a) (Live others) = ap (λ v. Live v) (options (Some s) a others)
  one-more (Live s) (Fixed a) (Fixed others) = ap (λ v. Live v) (options s (Some a) (Some others))
  one-more (Live s) (Fixed a) (Live others) = ap (λ v. Live v) (options s (Some a) others)
  one-more (Live s) (Live a) (Fixed others) = ap (λ v. Live v) (options s a (Some others))
  one-more (Live s) (Live a) (Live others) = ap (λ v. Live v) (options s a others)

  none-more : (s : Outcome S) → s ≡ changed all (both s (Fixed []))
  none-more (Fixed s) = refl
  none-more (Live None) = refl
  none-more (Live (Some s)) = refl

  fold-both : (os : List (Outcome A)) (s : Outcome S) → fold more s os ≡ changed all (both s (each os))
  fold-both [] s = none-more s
  fold-both (o ∷ os) s = fold-both os (more s o) ∙ one-more s o (each os)

  fold-from : (os : List (Outcome A)) (s : S) → fold more (Fixed s) os ≡ changed (λ others. all (s, others)) (each os)
  fold-from os s = fold-both os (Fixed s) ∙ both-first all s (each os)

-- drafts one after another
module _ (arrays : List Cells) (ns : List ℤ) where
  behind-worths : {S : Type 0} (more : S → Worth → S) (ds : List Draft) (s : S) → behind arrays ns more s ds ≡ found (fold more s) (worths arrays ns (drafts_of ds))
  behind-worths more [] s = refl
  behind-worths {S = S} more (d ∷ ds) s = by (worth arrays ns d) (λ o. behind-worths more ds (more s o))
    where
      one : (o : Worth) (r : Found (List Worth)) → found (fold more (more s o)) r ≡ found (fold more s) (found (λ os. o ∷ os) r)
      one o (Ok os) = refl
      one o (Err fault) = refl

      by : (r : Found Worth) → ((o : Worth) → behind arrays ns more (more s o) ds ≡ found (fold more (more s o)) (worths arrays ns (drafts_of ds))) →
          then r (λ o. behind arrays ns more (more s o) ds) ≡ found (fold more s) (then r (λ o. found (λ os. o ∷ os) (worths arrays ns (drafts_of ds))))
      by (Ok o) h = h o ∙ one o (worths arrays ns (drafts_of ds))
      by (Err fault) h = refl

-- ---- truths

abbrev truth_of : Connective → List Value → Bool
truth_of Equivalent vs = evaluation.equivalent vs
truth_of Or vs = list_any is_true vs
truth_of And vs = list_all is_true vs

any-fold : (vs : List Value) (b : Bool) → fold (λ b v. b || is_true v) b vs ≡ (b || list_any is_true vs)
any-fold [] true = refl
any-fold [] false = refl
any-fold (v ∷ vs) true = any-fold vs true
any-fold (v ∷ vs) false = any-fold vs (is_true v)

all-fold : (vs : List Value) (b : Bool) → fold (λ b v. b && is_true v) b vs ≡ (b && list_all is_true vs)
all-fold [] true = refl
all-fold [] false = refl
all-fold (v ∷ vs) true = all-fold vs (is_true v)
all-fold (v ∷ vs) false = all-fold vs false

truth-fold : (c : Connective) (vs : List Value) → fold (λ b v. joined c b (is_true v)) (start c) vs ≡ truth_of c vs
truth-fold Equivalent [] = refl
truth-fold Equivalent (v ∷ vs) = refl
truth-fold Or vs = any-fold vs false
truth-fold And vs = all-fold vs true

-- truths one after another
truths-met : (c : Connective) (os : List Worth) → changed values.Bool (fold (met c) (Fixed (start c)) os) ≡ changed (λ vs. values.Bool (truth_of c vs)) (each os)
truths-met c os =
    ap (changed values.Bool) (fold-from (λ p. joined c p.0 (is_true p.1)) os (start c) ∙ changed-like (λ vs. fold (λ b v. joined c b (is_true v)) (start c) vs) (truth_of c) (each os) (truth-fold c))
    ∙ changed-twice values.Bool (truth_of c) (each os)

module _ (arrays : List Cells) (ns : List ℤ) where
  pub connected-is : (c : Connective) (ds : List Draft) →
      found (changed values.Bool) (behind arrays ns (met c) (Fixed (start c)) ds) ≡ found (λ os. changed (λ vs. values.Bool (truth_of c vs)) (each os)) (worths arrays ns (drafts_of ds))
  connected-is c ds = ap (found (changed values.Bool)) (behind-worths arrays ns (met c) ds (Fixed (start c))) ∙ by (worths arrays ns (drafts_of ds))
    where
      by : (r : Found (List Worth)) → found (changed values.Bool) (found (fold (met c) (Fixed (start c))) r) ≡ found (λ os. changed (λ vs. values.Bool (truth_of c vs)) (each os)) r
      by (Ok os) = ap (λ o. Ok o) (truths-met c os)
      by (Err fault) = refl

-- ---- aggregates

-- what a sum comes to at its end
abbrev ended : spec.Sum → Found Worth
ended s = found (changed values.Int) (told s)

ended-is : {A : Type 0} (f : A → Found ℤ) (o : Outcome A) → ended (changed f o) ≡ told (changed (λ a. integer (f a)) o)
ended-is f (Fixed a) = by (f a)
  where
    by : (r : Found ℤ) → found (changed values.Int) (found (λ n. Fixed n) r) ≡ found (λ v. Fixed v) (integer r)
    by (Ok n) = refl
    by (Err fault) = refl
ended-is f (Live None) = refl
ended-is f (Live (Some a)) = by (f a)
  where
    by : (r : Found ℤ) → ended (Live (Some r)) ≡ told (Live (Some (integer r)))
    by (Ok n) = refl
    by (Err fault) = refl

sum-fold : (at : ℕ) (vs : List Value) (r : Found ℤ) → fold (λ r v. then r (λ n. applied at n (operation plus (number v)))) r vs ≡ then r (λ n. run at n (map operations.Plus (map number vs)))
sum-fold at [] (Ok n) = refl
sum-fold at [] (Err fault) = refl
sum-fold at (v ∷ vs) (Ok n) = sum-fold at vs (applied at n (operation plus (number v)))
sum-fold at (v ∷ vs) (Err fault) = sum-fold at vs (Err fault)

least-fold : (vs : List Value) (n : ℤ) → fold (λ r v. lesser r (number v)) (Ok n) vs ≡ Ok (fold int_min n (map number vs))
least-fold [] n = refl
least-fold (v ∷ vs) n = least-fold vs (int_min n (number v))

greatest-fold : (vs : List Value) (n : ℤ) → fold (λ r v. greater r (number v)) (Ok n) vs ≡ Ok (fold int_max n (map number vs))
greatest-fold [] n = refl
greatest-fold (v ∷ vs) n = greatest-fold vs (int_max n (number v))

least-is : (at : ℕ) (vs : List Value) → fold (λ r v. lesser r (number v)) (Err (EmptyMinMax at)) vs ≡ arithmetic.least at (map number vs)
least-is at [] = refl
least-is at (v ∷ vs) = least-fold vs (number v)

greatest-is : (at : ℕ) (vs : List Value) → fold (λ r v. greater r (number v)) (Err (EmptyMinMax at)) vs ≡ arithmetic.greatest at (map number vs)
greatest-is at [] = refl
greatest-is at (v ∷ vs) = greatest-fold vs (number v)

-- all but products
by-fold : (f : Found ℤ × Value → Found ℤ) (first : Found ℤ) (whole : List Value → Found ℤ) (os : List Worth) → ((vs : List Value) → fold (λ r v. f (r, v)) first vs ≡ whole vs) →
    ended (fold (λ s o. changed f (both s o)) (Fixed first) os) ≡ told (changed (λ vs. integer (whole vs)) (each os))
by-fold f first whole os h = ap ended (fold-from f os first ∙ changed-like (λ vs. fold (λ r v. f (r, v)) first vs) whole (each os) h) ∙ ended-is whole (each os)

-- ---- products

module _ (at : ℕ) where
  -- the fault of a product without variables stays
  stays : (os : List Worth) (fault : EvalFault) → fold (multiplied at) (Fixed (Err fault)) os ≡ Fixed (Err fault)
  stays [] fault = refl
  stays (o ∷ os) fault = stays os fault

  -- what is undefined stays so
  undefined : (os : List Worth) → fold (multiplied at) (Live None) os ≡ Live None
  undefined [] = refl
  undefined (Fixed v ∷ os) = undefined os
  undefined (Live v ∷ os) = undefined os

  faulty : (os : List Worth) (fault : EvalFault) → ended (fold (multiplied at) (Live (Some (Err fault))) os) ≡ Ok (Live None)
  faulty [] fault = refl
  faulty (Fixed v ∷ os) fault = faulty os fault
  faulty (Live None ∷ os) fault = ap ended (undefined os)
  faulty (Live (Some v) ∷ os) fault = faulty os fault

  one-factor : (a : Outcome ℤ) (o : Worth) → multiplied at (changed (λ n. Ok n) a) o ≡ changed (λ p. times at p.0 (number p.1)) (both a o)
  one-factor (Fixed n) (Fixed v) = refl
  one-factor (Fixed n) (Live None) = refl
  one-factor (Fixed n) (Live (Some v)) = refl
  one-factor (Live None) (Fixed v) = refl
  one-factor (Live None) (Live v) = refl
  one-factor (Live (Some n)) (Fixed v) = refl
  one-factor (Live (Some n)) (Live None) = refl
  one-factor (Live (Some n)) (Live (Some v)) = refl

  -- a product so far, and its further factors
  goes-on : (os : List Worth) (s : spec.Sum) → ((a : Outcome ℤ) → ended (fold (multiplied at) (changed (λ n. Ok n) a) os) ≡ found (changed values.Int) (product_from at a os)) →
      ended (fold (multiplied at) s os) ≡ found (changed values.Int) (then (told s) (λ b. product_from at b os))
  goes-on os (Fixed (Ok n)) h = h (Fixed n)
  goes-on os (Fixed (Err fault)) h = ap ended (stays os fault)
  goes-on os (Live None) h = h (Live None)
  goes-on os (Live (Some (Ok n))) h = h (Live (Some n))
  goes-on os (Live (Some (Err fault))) h = faulty os fault ∙ sym (ap ended (undefined os)) ∙ h (Live None)

  product-is : (os : List Worth) (a : Outcome ℤ) → ended (fold (multiplied at) (changed (λ n. Ok n) a) os) ≡ found (changed values.Int) (product_from at a os)
  product-is [] (Fixed n) = refl
  product-is [] (Live None) = refl
  product-is [] (Live (Some n)) = refl
  product-is (o ∷ os) a = ap (λ s. ended (fold (multiplied at) s os)) (one-factor a o) ∙ goes-on os (changed (λ p. times at p.0 (number p.1)) (both a o)) (product-is os)

aggregate-is : (op : AggregateOp) (at : ℕ) (os : List Worth) → ended (fold (gathered op at) (Fixed (nothing op at)) os) ≡ aggregated op at os
aggregate-is Sum at os = by-fold (λ p. then p.0 (λ n. applied at n (operation plus (number p.1)))) (Ok (pos 0)) (λ vs. arithmetic.sum at (map number vs)) os (λ vs. sum-fold at vs (Ok (pos 0)))
aggregate-is Product at os = product-is at os (Fixed (pos 1))
aggregate-is Min at os = by-fold (λ p. lesser p.0 (number p.1)) (Err (EmptyMinMax at)) (λ vs. arithmetic.least at (map number vs)) os (least-is at)
aggregate-is Max at os = by-fold (λ p. greater p.0 (number p.1)) (Err (EmptyMinMax at)) (λ vs. arithmetic.greatest at (map number vs)) os (greatest-is at)

append-one : {A : Type 0} (xs : List A) (x : A) (ys : List A) → (xs ++ x ∷ []) ++ ys ≡ xs ++ (x ∷ ys)
append-one [] x ys = refl
append-one (z ∷ xs) x ys = ap (λ zs. z ∷ zs) (append-one xs x ys)

longer-fold : (os before : List Worth) → fold longer before os ≡ before ++ os
longer-fold [] before = nothing-behind before
  where
    nothing-behind : (xs : List Worth) → xs ≡ xs ++ []
    nothing-behind [] = refl
    nothing-behind (x ∷ xs) = ap (λ ys. x ∷ ys) (nothing-behind xs)
longer-fold (o ∷ os) before = longer-fold os (longer before o) ∙ append-one before o os

module _ (arrays : List Cells) (ns : List ℤ) where
  pub bodies-are : (op : AggregateOp) (at : ℕ) (ds : List Draft) → then (behind arrays ns (gathered op at) (Fixed (nothing op at)) ds) ended ≡ then (worths arrays ns (drafts_of ds)) (aggregated op at)
  bodies-are op at ds = ap (λ r. then r ended) (behind-worths arrays ns (gathered op at) ds (Fixed (nothing op at))) ∙ by (worths arrays ns (drafts_of ds))
    where
      by : (r : Found (List Worth)) → then (found (fold (gathered op at) (Fixed (nothing op at))) r) ended ≡ then r (aggregated op at)
      by (Ok os) = aggregate-is op at os
      by (Err fault) = refl

  pub each-is : (ds : List Draft) → behind arrays ns longer [] ds ≡ worths arrays ns (drafts_of ds)
  each-is ds = behind-worths arrays ns longer ds [] ∙ by (worths arrays ns (drafts_of ds))
    where
      by : (r : Found (List Worth)) → found (fold longer []) r ≡ r
      by (Ok os) = ap (λ o. Ok o) (longer-fold os [])
      by (Err fault) = refl
