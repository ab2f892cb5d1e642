-- Instances hold where their drafts are true, and so a model's solutions are those of the drafts.
use Rattle.std.proofs.Common.{◌≡◌, ◌&&◌, suc, ℤ, Bool, true, cond, filter, List, [], ◌∷◌, length, map, refl, sym, ap, ◌∙◌}
use Rattle.std.specs.List.{All, flat_map, list_all}
use Rattle.std.proofs.lemmas.Bool.{and_parts}
use Rattle.std.proofs.lemmas.List.{length-map}
use Rattle.std.proofs.lemmas.List.Elements.{All-append, All-cons, All-head, All-map, All-nil, All-tail, All-weaker}
use Rattle.opl_eval.specs.Evaluation.{Environment, with_parameters}
use Rattle.opl_meaning.specs.declared.variable.VariableItem.{VariableItem}
use Rattle.opl_meaning.specs.Runs.{Names}
use Rattle.opl_meaning.specs.Solutions.{declared_sets, numbers_of, product, truth}
use Rattle.opl_draft.specs.Instances.{Instance, condition_of, is_clean_instance}
use Rattle.opl_draft.specs.Instances.Instance.{posted, stopped}
use Rattle.opl_draft.specs.Laws.{AreDeclared, Fits, InstanceMeans, SolutionsUnrolled, arrays, is_met}
use Rattle.opl_draft.specs.Solutions.{holds, satisfies, solutions}
use Rattle.opl_draft.proofs.Unrolls.{unrolled_means}

pub instance_means : InstanceMeans
instance_means items names ns env (posted at t ps) declares fits h = ap truth (sym (unrolled_means items names ns (with_parameters ps env) t declares fits h))
instance_means items names ns env (stopped fault) declares fits h = refl

instances-mean : (items : List VariableItem) (names : Names) (ns : List ℤ) (env : Environment) → AreDeclared items names → Fits items ns → (is : List Instance) →
    list_all (is_clean_instance items names) is ≡ true → list_all (holds env items ns) is ≡ list_all (is_met (arrays env items) ns) (map (condition_of items names env) is)
instances-mean items names ns env declares fits [] h = refl
instances-mean items names ns env declares fits (i ∷ is) h =
    let p = and_parts (is_clean_instance items names i) (list_all (is_clean_instance items names) is) h in
    λ j. instance_means items names ns env i declares fits p.0 j && instances-mean items names ns env declares fits is p.1 j

-- ---- assignments

-- one number for each of these
abbrev HasOneEach : List (List ℤ) → List ℤ → Type 0
HasOneEach sets ns = length ns ≡ length sets

one-more : (n : ℤ) (sets : List (List ℤ)) (set : List ℤ) (found : List (List ℤ)) → All (HasOneEach sets) found → All (HasOneEach (set ∷ sets)) (map (λ ns. n ∷ ns) found)
one-more n sets set found h = All-map (HasOneEach (set ∷ sets)) (λ ns. n ∷ ns) found (All-weaker (HasOneEach sets) (λ ns. HasOneEach (set ∷ sets) (n ∷ ns)) (λ ns e. ap suc e) found h)

each-more : (ns : List ℤ) (sets : List (List ℤ)) (set : List ℤ) (found : List (List ℤ)) → All (HasOneEach sets) found → All (HasOneEach (set ∷ sets)) (flat_map (λ n. map (λ ns. n ∷ ns) found) ns)
each-more [] sets set found h = All-nil (HasOneEach (set ∷ sets))
each-more (n ∷ ns) sets set found h =
    All-append (HasOneEach (set ∷ sets)) (map (λ ns. n ∷ ns) found) (flat_map (λ n. map (λ ns. n ∷ ns) found) ns) (one-more n sets set found h) (each-more ns sets set found h)

product-fits : (sets : List (List ℤ)) → All (HasOneEach sets) (product sets)
unfolding product
product-fits [] = All-cons (HasOneEach []) [] [] refl (All-nil (HasOneEach []))
product-fits (set ∷ sets) = each-more set sets set (product sets) (product-fits sets)

-- filters by tests that agree on all elements
filter-same : {A : Type 0} (p q : A → Bool) (xs : List A) → All (λ x. p x ≡ q x) xs → filter p xs ≡ filter q xs
filter-same p q [] h = refl
filter-same {A = A} p q (x ∷ xs) h = kept (p x) (q x) (filter p xs) (filter q xs) (All-head (λ x. p x ≡ q x) x xs h) (filter-same p q xs (All-tail (λ x. p x ≡ q x) x xs h))
  where
    kept : (b c : Bool) (ys zs : List A) → b ≡ c → ys ≡ zs → cond b (x ∷ ys) ys ≡ cond c (x ∷ zs) zs
    kept b c ys zs e f = cc

pub solutions_unrolled : SolutionsUnrolled
unfolding solutions
solutions_unrolled m names declares h =
    filter-same (satisfies m) (λ ns. list_all (is_met (arrays m.environment m.variables) ns) (map (condition_of m.variables names m.environment) m.conditions)) (product (declared_sets m.variables))
    (All-weaker (HasOneEach (declared_sets m.variables)) (λ ns. satisfies m ns ≡ list_all (is_met (arrays m.environment m.variables) ns) (map (condition_of m.variables names m.environment) m.conditions))
    (λ ns e. instances-mean m.variables names ns m.environment declares (e ∙ length-map (flat_map (λ v. v.sets) m.variables) numbers_of) m.conditions h) (product (declared_sets m.variables)) (product-fits (declared_sets m.variables)))
