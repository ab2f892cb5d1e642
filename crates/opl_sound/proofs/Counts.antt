-- Counts and magnitudes that may be too great.
use Rattle.std.proofs.Common.{◌≡◌, ◌≢◌, ◌⊎◌, ℕ, zero, suc, ◌*◌, ◌≤◌, ◌<◌, ◌^◌, true, false, cond, refl, ap, sym, ◌∙◌, subst, arith, inl, inr}
use Rattle.std.specs.Prelude.{nat_lt, nat_eq, Option, Some, None, SomeIff}
use Rattle.std.proofs.lemmas.Bool.{ltb-true, ltb-false}
use Rattle.std.proofs.lemmas.Bool.Decides.{Decides-eqb}
use Rattle.std.proofs.Math.Nat.{zero-mul}
use Rattle.opl_sound.specs.Measures.{counted}

-- a count is there, or it is too great
pub counts : (n : ℕ) → ((n < 2 ^ 64) × (counted n ≡ Some n)) ⊎ ((2 ^ 64 ≤ n) × (counted n ≡ None))
unfolding counted
counts n = elim (nat_lt n (2 ^ 64)) as (λ b. nat_lt n (2 ^ 64) ≡ b → ((n < 2 ^ 64) × (cond b (Some n) None ≡ Some n)) ⊎ ((2 ^ 64 ≤ n) × (cond b (Some n) None ≡ None))) [
  | true ↦ λ e. inl (ltb-true n (2 ^ 64) e, refl)
  | false ↦ λ e. inr (ltb-false n (2 ^ 64) e, refl)
] refl

pub zero_times : (n k : ℕ) → n ≡ 0 → Some 0 ≡ counted (n * k)
unfolding counted
zero_times n k e = subst (λ m. Some 0 ≡ counted m) (sym (ap (λ m. m * k) e ∙ zero-mul k)) refl

grows : (n k : ℕ) → n ≢ 0 → k ≤ n * k
grows zero k h = absurd (h refl)
grows (suc n) k h = omega arith

pub none_times : (n k : ℕ) (r : Option ℕ) → n ≢ 0 → counted k ≡ None → r ≡ None → r ≡ counted (n * k)
none_times n k r h e i = elim (counts k) [
  | inl a ↦ absurd (some_none (sym a.1 ∙ e))
  | inr a ↦ elim (counts (n * k)) [
    | inl b ↦ absurd (omega (arith, a.0, b.0, grows n k h))
    | inr b ↦ i ∙ sym b.1
  ]
]
  where
    some_none : {x : ℕ} → Some x ≡ None → ⊥
    some_none e = cc

pub checked : (r : Option ℕ) (m : ℕ) → SomeIff r (m < 2 ^ 64) m → r ≡ counted m
checked None m h = elim (counts m) [ inl a ↦ absurd (h a.0) | inr a ↦ sym a.1 ]
checked (Some x) m h = elim (counts m) [ inl a ↦ ap Some h.1 ∙ sym a.1 | inr a ↦ absurd (omega (arith, a.0, h.0)) ]

pub no_dimension : Some 1 ≡ counted 1
unfolding counted
no_dimension = refl

pub same_count : (a k : ℕ) (r : Option ℕ) → a < 2 ^ 64 → r ≡ counted k → r ≡ None → false ≡ nat_eq a k
same_count a k r f h e = elim (counts k) [
  | inl b ↦ absurd (none_some (sym e ∙ h ∙ b.1))
  | inr b ↦ differ a k (omega (arith, b.0, f))
]
  where
    none_some : {x : ℕ} → None ≡ Some x → ⊥
    none_some e = cc

    differ : (a k : ℕ) → a < k → false ≡ nat_eq a k
    differ a k h = elim (nat_eq a k) as (λ b. nat_eq a k ≡ b → false ≡ b) [ true ↦ λ e. let s : a ≡ k = (Decides-eqb a k).0 e in absurd (omega (arith, s, h)) | false ↦ λ e. refl ] refl

pub same_key : (a k v : ℕ) (r : Option ℕ) → r ≡ counted k → r ≡ Some v → nat_eq a v ≡ nat_eq a k
same_key a k v r h e = elim (counts k) [
  | inl b ↦ let s : v ≡ k = same_some (sym e ∙ h ∙ b.1) in ap (nat_eq a) s
  | inr b ↦ absurd (none_some (sym b.1 ∙ sym h ∙ e))
]
  where
    none_some : {x : ℕ} → None ≡ Some x → ⊥
    none_some e = cc

    same_some : {x y : ℕ} → Some x ≡ Some y → x ≡ y
    same_some e = cc

pub some_count : (n k v : ℕ) → Some v ≡ counted k → counted (n * v) ≡ counted (n * k)
some_count n k v e = elim (counts k) [
  | inl b ↦ let s : v ≡ k = same (e ∙ b.1) in ap (λ z. counted (n * z)) s
  | inr b ↦ absurd (none (e ∙ b.1))
]
  where
    same : {x y : ℕ} → Some x ≡ Some y → x ≡ y
    same e = cc

    none : {x : ℕ} → Some x ≡ None → ⊥
    none e = cc
