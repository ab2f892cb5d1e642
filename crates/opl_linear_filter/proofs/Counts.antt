-- Whether a form is short is told by the list of its parts.
use Rattle.std.proofs.Common.{◌≡◌, ◌≢◌, ◌∙◌, ℕ, zero, suc, ◌+◌, ◌<◌, Bool, true, false, cond, ◌&&◌, ◌||◌, refl, List, [], ◌∷◌, length, ℤ, pos, negsuc, ap, sym, arith, inl, inr}
use Rattle.std.specs.Prelude.{nat_eq}
use Rattle.std.specs.Ordering.{int_eq}
use Rattle.std.proofs.lemmas.Int.{ints}
use Rattle.std.proofs.lemmas.Bool.{cases_eq}
use Rattle.std.proofs.lemmas.Bool.Decides.{Decides-int_eq}
use Rattle.opl_domain.specs.Arithmetic.{is_nonzero}
use Rattle.opl_expr.specs.Range.{count, is_one_or_two}
use Rattle.opl_linear.specs.Linear.{factor_in, NamesOnce, AreAmong, AreFactors}
use Rattle.opl_linear.proofs.Sums.{unnamed, factor_here, factor_there}
use Rattle.opl_linear_filter.specs.Parts.{is_short}
use Rattle.opl_linear_filter.proofs.Building.{not_same}

abbrev one_if : Bool → ℕ
one_if b = cond b 1 0

-- how many parts have a factor that passes
abbrev counted : (ℤ → Bool) → List (ℕ × ℤ) → ℕ
counted p [] = 0
counted p (q ∷ ps) = one_if (p q.1) + counted p ps

pub count_same : (p : ℤ → Bool) (c d : ℕ → ℤ) (n : ℕ) → ((y : ℕ) → y < n → c y ≡ d y) → count p c n ≡ count p d n
count_same p c d zero h = refl
count_same p c d (suc n) h = rw (count_same p c d n (λ y k. h y (omega (arith, k))), h n (omega arith)) refl

count_other : (p : ℤ → Bool) (c d : ℕ → ℤ) (x n : ℕ) → x < n → ((y : ℕ) → y ≢ x → c y ≡ d y) → count p d n + one_if (p (c x)) ≡ count p c n + one_if (p (d x))
count_other p c d x zero k h = absurd (omega (arith, k))
count_other p c d x (suc n) k h = elim (cases_eq x n) [
  | inl e ↦ let s = count_same p c d n (λ y b. h y (λ i. omega (arith, b, i, e))) in rw e (omega (arith, s))
  | inr m ↦
      let s = count_other p c d x n (omega (arith, k, m)) h in
      let t : one_if (p (c n)) ≡ one_if (p (d n)) = ap (λ z. one_if (p z)) (h n (λ i. m (sym i))) in
      omega (arith, s, t)
]

count_none : (p : ℤ → Bool) (n : ℕ) → p (pos 0) ≡ false → count p (factor_in []) n ≡ 0
count_none p zero z = refl
count_none p (suc n) z = let e : one_if (p (pos 0)) ≡ 0 = ap one_if z in omega (arith, e, count_none p n z)

count_listed : (p : ℤ → Bool) (ps : List (ℕ × ℤ)) (n : ℕ) → p (pos 0) ≡ false → NamesOnce ps → AreAmong n ps → count p (factor_in ps) n ≡ counted p ps
count_listed p [] n z o a = count_none p n z
count_listed p (q ∷ ps) n z o a =
    let i = count_listed p ps n z o.1 a.1 in
    let s = count_other p (factor_in ps) (factor_in (q ∷ ps)) q.0 n a.0 (λ y m. sym (factor_there q ps y m)) in
    let u : one_if (p (factor_in ps q.0)) ≡ 0 = ap (λ k. one_if (p k)) (unnamed ps q.0 o.0) ∙ ap one_if z in
    let t : one_if (p (factor_in (q ∷ ps) q.0)) ≡ one_if (p q.1) = ap (λ k. one_if (p k)) (factor_here q ps o.0) in
    omega (arith, i, s, u, t)

some_factor : (k : ℤ) → k ≢ pos 0 → is_nonzero k ≡ true
some_factor k n = elim (is_nonzero k) as (λ b. is_nonzero k ≡ b → b ≡ true) [
  | true ↦ λ e. refl
  | false ↦ λ e. absurd (n (zero_is e))
] refl
  where
    zero_is : is_nonzero k ≡ false → k ≡ pos 0
    zero_is h = grind (arith, ints, Decides-int_eq)

all_counted : (ps : List (ℕ × ℤ)) → AreFactors ps → counted is_nonzero ps ≡ length ps
all_counted [] a = refl
all_counted (q ∷ ps) a = let e : one_if (is_nonzero q.1) ≡ 1 = ap one_if (some_factor q.1 a.0) in omega (arith, e, all_counted ps a.2)

-- of two numbers one is 1 and one is -1
not_both : (k : ℤ) → int_eq (pos 1) k ≡ true → int_eq (negsuc 0) k ≡ true → ⊥
not_both k h i = grind (arith, ints, Decides-int_eq)

one_each : (a b c d : Bool) → (a ≡ true → b ≡ true → ⊥) → (c ≡ true → d ≡ true → ⊥) →
    (nat_eq (cond a 1 0 + (cond c 1 0 + 0)) 1 && nat_eq (cond b 1 0 + (cond d 1 0 + 0)) 1) ≡ ((a && d) || (b && c))
one_each true true c d m n = absurd (m refl refl)
one_each true false true true m n = absurd (n refl refl)
one_each true false true false m n = refl
one_each true false false true m n = refl
one_each true false false false m n = refl
one_each false true true true m n = absurd (n refl refl)
one_each false true true false m n = refl
one_each false true false true m n = refl
one_each false true false false m n = refl
one_each false false true true m n = absurd (n refl refl)
one_each false false true false m n = refl
one_each false false false true m n = refl
one_each false false false false m n = refl

short_listed : (ps : List (ℕ × ℤ)) → AreFactors ps → (nat_eq (length ps) 1 || (nat_eq (length ps) 2 && (nat_eq (counted (int_eq (pos 1)) ps) 1 && nat_eq (counted (int_eq (negsuc 0)) ps) 1))) ≡ is_short ps
short_listed [] a = refl
short_listed (p ∷ []) a = refl
short_listed (p ∷ q ∷ []) a = one_each (int_eq (pos 1) p.1) (int_eq (negsuc 0) p.1) (int_eq (pos 1) q.1) (int_eq (negsuc 0) q.1) (not_both p.1) (not_both q.1)
short_listed (p ∷ q ∷ r ∷ ps) a = rw (not_same (length (p ∷ q ∷ r ∷ ps)) 1 (λ e. omega (arith, e)), not_same (length (p ∷ q ∷ r ∷ ps)) 2 (λ e. omega (arith, e))) refl

pub short_is : (c : ℕ → ℤ) (ps : List (ℕ × ℤ)) (n : ℕ) → ((x : ℕ) → factor_in ps x ≡ c x) → NamesOnce ps → AreAmong n ps → AreFactors ps → is_one_or_two c n ≡ is_short ps
short_is c ps n h o a f =
    let s = λ (p : ℤ → Bool) (z : p (pos 0) ≡ false). count_same p c (factor_in ps) n (λ y k. sym (h y)) ∙ count_listed p ps n z o a in
    rw (s is_nonzero refl ∙ all_counted ps f, s (int_eq (pos 1)) refl, s (int_eq (negsuc 0)) refl) (short_listed ps f)
