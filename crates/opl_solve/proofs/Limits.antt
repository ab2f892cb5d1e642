-- Solutions up to a limit, and the choices before them.
use Rattle.std.proofs.Common.{◌≡◌, refl, sym, ap, subst, ℕ, zero, suc, ◌<◌, ◌≤◌, true, false, List, [], ◌∷◌, drop, length, take, ℤ, Option, Some, None, nat_le, arith}
use Rattle.opl_expr.specs.Options.{lift1}
use Rattle.opl_trace.specs.Run.Mark.{choice, leaf, solution, cut}
use Rattle.opl_trace.specs.Run.{Mark, Out, choices}
use Rattle.opl_trace.specs.Marks.{solved}
use Rattle.opl_search.specs.Machines.{nth_solution}
use Rattle.opl_solve.specs.Answers.{is_met}
use Rattle.opl_solve.specs.Texts.{choices_made, choices_until, found, is_limited}

-- ---- lists

drop_nil : {A : Type 0} (k : ℕ) → drop {A = A} k [] ≡ []
drop_nil zero = refl
drop_nil (suc k) = refl

module _ {A : Type 0} where
  take_more : (n k : ℕ) (a : A) (xs : List A) → k < n → drop k xs ≡ a ∷ drop (suc k) xs → drop k (take n xs) ≡ a ∷ drop (suc k) (take n xs)
  take_more zero k a xs h e = absurd (omega arith)
  take_more (suc n) zero a [] h e = absurd (cc)
  take_more (suc n) zero a (x ∷ xs) h e = ap (take (suc n)) e
  take_more (suc n) (suc k) a [] h e = absurd (cc)
  take_more (suc n) (suc k) a (x ∷ xs) h e = take_more n k a xs (omega arith) e

  take_done : (n k : ℕ) (xs : List A) → n ≤ k → drop k (take n xs) ≡ []
  take_done zero k xs h = drop_nil k
  take_done (suc n) zero xs h = absurd (omega arith)
  take_done (suc n) (suc k) [] h = refl
  take_done (suc n) (suc k) (x ∷ xs) h = take_done n k xs (omega arith)

  take_none : (n k : ℕ) (xs : List A) → drop k xs ≡ [] → drop k (take n xs) ≡ []
  take_none zero k xs e = drop_nil k
  take_none (suc n) zero [] e = refl
  take_none (suc n) zero (x ∷ xs) e = absurd (cc)
  take_none (suc n) (suc k) [] e = refl
  take_none (suc n) (suc k) (x ∷ xs) e = take_none n k xs e

  pub some_longer : (k : ℕ) (a : A) (rest xs : List A) → drop k xs ≡ a ∷ rest → suc k ≤ length xs
  some_longer zero a rest [] e = absurd (cc)
  some_longer zero a rest (x ∷ xs) e = omega arith
  some_longer (suc k) a rest [] e = absurd (cc)
  some_longer (suc k) a rest (x ∷ xs) e = let h = some_longer k a rest xs e in omega arith

  none_longer : (k : ℕ) (xs : List A) → drop k xs ≡ [] → length xs ≤ k
  none_longer zero [] e = omega arith
  none_longer zero (x ∷ xs) e = absurd (cc)
  none_longer (suc k) [] e = omega arith
  none_longer (suc k) (x ∷ xs) e = let h = none_longer k xs e in omega arith

-- ---- choices

-- the choices before a solution, if there is one
abbrev IsMade : ℕ → Option (ℕ × List ℤ) → Type 0
IsMade c None = Unit {0}
IsMade c (Some p) = c ≡ p.0

one_more : (c : ℕ) (o : Option (ℕ × List ℤ)) → IsMade c o → IsMade (suc c) (lift1 (λ p. (suc p.0, p.1)) o)
one_more c None h = tt
one_more c (Some p) h = ap (λ n. suc n) h

nth_made : (ms : List Mark) (k : ℕ) → IsMade (choices_until (suc k) ms) (nth_solution ms k)
nth_made [] k = tt
nth_made (choice l ∷ ms) k = one_more (choices_until (suc k) ms) (nth_solution ms k) (nth_made ms k)
nth_made (leaf P ∷ ms) k = nth_made ms k
nth_made (solution a ∷ ms) zero = refl
nth_made (solution a ∷ ms) (suc k) = nth_made ms k
nth_made (cut ∷ ms) k = nth_made ms k

pub made-before : (ms : List Mark) (k c : ℕ) (a : List ℤ) → nth_solution ms k ≡ Some (c, a) → choices_until (suc k) ms ≡ c
made-before ms k c a e = subst (IsMade (choices_until (suc k) ms)) e (nth_made ms k)

-- fewer solutions than are asked for
pub made-all : (n : ℕ) (ms : List Mark) → length (solved ms) < n → choices_until n ms ≡ choices ms
made-all zero ms h = absurd (omega arith)
made-all (suc n) [] h = refl
made-all (suc n) (choice l ∷ ms) h = ap (λ c. suc c) (made-all (suc n) ms h)
made-all (suc n) (leaf P ∷ ms) h = made-all (suc n) ms h
made-all (suc n) (solution a ∷ ms) h = made-all n ms (omega arith)
made-all (suc n) (cut ∷ ms) h = made-all (suc n) ms h

pub take-all : {A : Type 0} (n : ℕ) (xs : List A) → length xs < n → take n xs ≡ xs
take-all zero xs h = absurd (omega arith)
take-all (suc n) [] h = refl
take-all (suc n) (x ∷ xs) h = ap (λ l. x ∷ l) (take-all n xs (omega arith))

-- ---- limits

-- no more than the limit says
abbrev pub IsWithin : Option ℕ → ℕ → Type 0
IsWithin None k = Unit {0}
IsWithin (Some n) k = k ≤ n

pub within-none : (limit : Option ℕ) → IsWithin limit 0
within-none None = tt
within-none (Some n) = omega arith

pub within-more : (limit : Option ℕ) (k : ℕ) → is_met limit k ≡ false → IsWithin limit (suc k)
within-more None k e = tt
within-more (Some n) k e = grind arith

below : (n k : ℕ) → nat_le n k ≡ false → k < n
below n k e = grind arith

not_more : (n k : ℕ) → nat_le n k ≡ true → n ≤ k
not_more n k e = grind arith

is_more : (n k : ℕ) → n ≤ k → nat_le n k ≡ true
is_more n k h = grind arith

pub is_less : (n k : ℕ) → k < n → nat_le n k ≡ false
is_less n k h = grind arith

module _ (out : Out) (k : ℕ) where
  -- before the limit the next solution is the next one that is found
  pub found-first : (limit : Option ℕ) (a : List ℤ) → is_met limit k ≡ false → drop k (solved out.marks) ≡ a ∷ drop (suc k) (solved out.marks) →
      drop k (found limit out) ≡ a ∷ drop (suc k) (found limit out)
  found-first None a met e = e
  found-first (Some n) a met e = take_more n k a (solved out.marks) (below n k met) e

  pub found-none : (limit : Option ℕ) → drop k (solved out.marks) ≡ [] → drop k (found limit out) ≡ []
  found-none None e = e
  found-none (Some n) e = take_none n k (solved out.marks) e

  -- at the limit there is none
  pub found-no-more : (limit : Option ℕ) → is_met limit k ≡ true → drop k (found limit out) ≡ []
  found-no-more None met = absurd (cc)
  found-no-more (Some n) met = take_done n k (solved out.marks) (not_more n k met)

  pub limited : (limit : Option ℕ) → is_met limit k ≡ true → k ≤ length (solved out.marks) → is_limited limit out ≡ true
  limited None met h = absurd (cc)
  limited (Some n) met h = is_more n (length (solved out.marks)) (let l = not_more n k met in omega arith)

  pub limited-made : (limit : Option ℕ) → is_met limit k ≡ true → IsWithin limit k → choices_until k out.marks ≡ choices_made limit out
  limited-made None met h = absurd (cc)
  limited-made (Some n) met h = ap (λ i. choices_until i out.marks) (let l = not_more n k met in omega arith)

  -- where no solution is left before the limit is met
  pub not-limited : (limit : Option ℕ) → is_met limit k ≡ false → drop k (solved out.marks) ≡ [] → is_limited limit out ≡ false
  not-limited None met e = refl
  not-limited (Some n) met e = is_less n (length (solved out.marks)) (let l = none_longer k (solved out.marks) e in let h = below n k met in omega arith)

  pub all-made : (limit : Option ℕ) → is_met limit k ≡ false → drop k (solved out.marks) ≡ [] → choices out.marks ≡ choices_made limit out
  all-made None met e = refl
  all-made (Some n) met e =
      sym (made-all n out.marks (let l = none_longer k (solved out.marks) e in let h = below n k met in omega arith))
