-- The solutions of a problem are in lexicographic order.
use Rattle.std.proofs.Common.{refl, ℕ, zero, suc, List, [], ◌∷◌, ◌++◌, map, ℤ, pos, ◌+ℤ◌, ◌<ℤ◌, inl, inr, arith}
use Rattle.std.specs.List.{All, AllPairs, flat_map}
use Rattle.std.proofs.lemmas.Int.{ints}
use Rattle.std.proofs.lemmas.List.Elements.{All-append, All-map, All-nil}
use Rattle.std.proofs.lemmas.List.Kept.{AllPairs-cons, AllPairs-filter}
use Rattle.opl_meaning.specs.declared.variable.DeclaredSet.{DeclaredSet}
use Rattle.opl_meaning.specs.Solutions.{declared_sets, numbers_of, product, size_between, whole_numbers}
use Rattle.opl_meaning.specs.Variables.{sets_of}
use Rattle.opl_draft.specs.Solutions as conditions
use Rattle.opl_draft.specs.Solutions.{Model}
use Rattle.opl_optimum.specs.Best.{Precedes}
use Rattle.opl_optimum.specs.Laws.{SolutionsInOrder}
use Rattle.opl_optimum.specs.Optima.{is_defined, solutions}

no-pairs : {A : Type 0} (R : A → A → Type 0) → AllPairs R []
no-pairs R i j d low high = absurd (omega arith)

pub first-pairs : {A : Type 0} (R : A → A → Type 0) (x : A) (xs : List A) → AllPairs R (x ∷ xs) → All (R x) xs
first-pairs R x xs p k d h = p 0 (suc k) d (omega arith) (omega arith)

pub other-pairs : {A : Type 0} (R : A → A → Type 0) (x : A) (xs : List A) → AllPairs R (x ∷ xs) → AllPairs R xs
other-pairs R x xs p i j d low high = p (suc i) (suc j) d (omega arith) (omega arith)

one-more : (a : ℤ) → a <ℤ (a +ℤ pos 1)
one-more a = omega (arith, ints)

further : (a b : ℤ) → a <ℤ b → a <ℤ (b +ℤ pos 1)
further a b h = omega (arith, ints)

-- the assignments of a list, each with one of these values before it
abbrev pub with_values : List (List ℤ) → ℤ → ℕ → List (List ℤ)
with_values list low n = flat_map (λ v. map (λ vs. v ∷ vs) list) (whole_numbers low n)

-- they stand behind each assignment with a lesser first value
behind : (list : List (List ℤ)) (low : ℤ) (n : ℕ) (v : ℤ) (values : List ℤ) → v <ℤ low → All (Precedes (v ∷ values)) (with_values list low n)
unfolding whole_numbers
behind list low zero v values h = All-nil (Precedes (v ∷ values))
behind list low (suc n) v values h =
    All-append (Precedes (v ∷ values)) (map (λ vs. low ∷ vs) list) _ (All-map (Precedes (v ∷ values)) (λ vs. low ∷ vs) list (λ k d in_list. inl h)) (behind list (low +ℤ pos 1) n v values (further v low h))

-- the assignments with the first value `low`, and then others behind each of them
in-front : (low : ℤ) (list more : List (List ℤ)) → AllPairs Precedes list → ((values : List ℤ) → All (Precedes (low ∷ values)) more) → AllPairs Precedes more →
    AllPairs Precedes (map (λ vs. low ∷ vs) list ++ more)
in-front low [] more p back q = q
in-front low (values ∷ list) more p back q =
    AllPairs-cons Precedes (low ∷ values) (map (λ vs. low ∷ vs) list ++ more)
    (All-append (Precedes (low ∷ values)) (map (λ vs. low ∷ vs) list) more (All-map (Precedes (low ∷ values)) (λ vs. low ∷ vs) list (λ k d h. inr (refl, first-pairs Precedes values list p k d h))) (back values))
    (in-front low list more (other-pairs Precedes values list p) back q)

values-in-order : (list : List (List ℤ)) (low : ℤ) (n : ℕ) → AllPairs Precedes list → AllPairs Precedes (with_values list low n)
unfolding whole_numbers
values-in-order list low zero p = no-pairs Precedes
values-in-order list low (suc n) p =
    in-front low list _ p (λ values. behind list (low +ℤ pos 1) n low values (one-more low)) (values-in-order list (low +ℤ pos 1) n p)

no-two : AllPairs Precedes ([] ∷ [])
no-two i j d low high = absurd (omega arith)

product-in-order : (sets : List DeclaredSet) → AllPairs Precedes (product (map numbers_of sets))
unfolding product
product-in-order [] = no-two
product-in-order (set ∷ sets) = values-in-order _ set.low (size_between set.low set.high) (product-in-order sets)

-- the assignments on which all conditions hold are in order, with an objective or without
pub conditions-in-order : (m : Model) → AllPairs Precedes (conditions.solutions m)
unfolding conditions.solutions
conditions-in-order m = AllPairs-filter Precedes (conditions.satisfies m) (product (declared_sets m.variables)) (product-in-order (sets_of m.variables))

pub solutions_in_order : SolutionsInOrder
unfolding solutions
solutions_in_order p = AllPairs-filter Precedes (is_defined p) (conditions.solutions p.model) (conditions-in-order p.model)
