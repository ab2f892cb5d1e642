-- Numbers among others, in the same order.
use Rattle.std.proofs.Common.{◌≡◌, ◌⊎◌, inl, inr, ℕ, suc, List, [], ◌∷◌, ◌++◌, refl, sym, subst, arith}
use Rattle.std.specs.List.{AllByRecursion, AllPairs}
use Rattle.std.proofs.lemmas.List.Elements.{All-from_recursion, recursion_from_All}
use Rattle.std.proofs.lemmas.List.Kept.{AllPairs-cons}

-- the first numbers stand among the second, in that order
abbrev pub Among : List ℕ → List ℕ → Type 0
Among [] ys = Unit {0}
Among (x ∷ xs) [] = ⊥
Among (x ∷ xs) (y ∷ ys) = ((x ≡ y) × Among xs ys) ⊎ Among (x ∷ xs) ys

pub among_more : (xs ys : List ℕ) (y : ℕ) → Among xs ys → Among xs (y ∷ ys)
among_more [] ys y h = tt
among_more (x ∷ xs) ys y h = inr h

pub among_same : (xs : List ℕ) → Among xs xs
among_same [] = tt
among_same (x ∷ xs) = inl (refl, among_same xs)

pub among_both : (xs ys us vs : List ℕ) → Among xs ys → Among us vs → Among (xs ++ us) (ys ++ vs)
among_both [] [] us vs h g = g
among_both [] (y ∷ ys) us vs h g = among_more us (ys ++ vs) y (among_both [] ys us vs tt g)
among_both (x ∷ xs) [] us vs h g = absurd h
among_both (x ∷ xs) (y ∷ ys) us vs (inl (e, h)) g = inl (e, among_both xs ys us vs h g)
among_both (x ∷ xs) (y ∷ ys) us vs (inr h) g = inr (among_both (x ∷ xs) ys us vs h g)

among_fewer : (x : ℕ) (xs ys : List ℕ) → Among (x ∷ xs) ys → Among xs ys
among_fewer x xs [] h = absurd h
among_fewer x xs (y ∷ ys) (inl (e, h)) = among_more xs ys y h
among_fewer x xs (y ∷ ys) (inr h) = among_more xs ys y (among_fewer x xs ys h)

pub among_then : (xs ys zs : List ℕ) → Among xs ys → Among ys zs → Among xs zs
among_then [] ys zs h g = tt
among_then (x ∷ xs) [] zs h g = absurd h
among_then (x ∷ xs) (y ∷ ys) [] h g = absurd g
among_then (x ∷ xs) (y ∷ ys) (z ∷ zs) (inl (e, h)) (inl (f, g)) = inl (subst (λ u. x ≡ u) f e, among_then xs ys zs h g)
among_then (x ∷ xs) (y ∷ ys) (z ∷ zs) (inr h) (inl (f, g)) = inr (among_then (x ∷ xs) ys zs h g)
among_then (x ∷ xs) (y ∷ ys) (z ∷ zs) h (inr g) = inr (among_then (x ∷ xs) (y ∷ ys) zs h g)

-- ---- what holds of the others

pub all_among : (P : ℕ → Type 0) (xs ys : List ℕ) → Among xs ys → AllByRecursion P ys → AllByRecursion P xs
all_among P [] ys h all = tt
all_among P (x ∷ xs) [] h all = absurd h
all_among P (x ∷ xs) (y ∷ ys) (inl (e, h)) all = (subst P (sym e) all.0, all_among P xs ys h all.1)
all_among P (x ∷ xs) (y ∷ ys) (inr h) all = all_among P (x ∷ xs) ys h all.1

pub pairs_first : {X : Type 0} (R : X → X → Type 0) (x : X) (xs : List X) → AllPairs R (x ∷ xs) → AllByRecursion (R x) xs
pairs_first R x xs h = recursion_from_All (R x) xs (λ k d below. h 0 (suc k) d (omega arith) (omega arith))

pub pairs_rest : {X : Type 0} (R : X → X → Type 0) (x : X) (xs : List X) → AllPairs R (x ∷ xs) → AllPairs R xs
pairs_rest R x xs h i j d before below = h (suc i) (suc j) d (omega arith) (omega arith)

pub pairs_among : (R : ℕ → ℕ → Type 0) (xs ys : List ℕ) → Among xs ys → AllPairs R ys → AllPairs R xs
pairs_among R [] ys h all = λ i j d before below. absurd (omega arith)
pairs_among R (x ∷ xs) [] h all = absurd h
pairs_among R (x ∷ xs) (y ∷ ys) (inl (e, h)) all =
    AllPairs-cons R x xs (All-from_recursion (R x) xs (all_among (R x) xs ys h (subst (λ u. AllByRecursion (R u) ys) (sym e) (pairs_first R y ys all)))) (pairs_among R xs ys h (pairs_rest R y ys all))
pairs_among R (x ∷ xs) (y ∷ ys) (inr h) all = pairs_among R (x ∷ xs) ys h (pairs_rest R y ys all)
