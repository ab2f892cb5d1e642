-- The list of parts, as the loop that makes it adds to it.
use Rattle.std.proofs.Common.{◌≡◌, ◌≢◌, ◌∙◌, ◌⊎◌, ℕ, ◌<◌, true, false, cond, ◌||◌, refl, List, [], ◌∷◌, ◌++◌, ℤ, pos, ◌+ℤ◌, neg_ℤ, ap, sym, arith, inl, inr}
use Rattle.std.specs.Prelude.{nat_eq, unsigned_abs}
use Rattle.std.proofs.lemmas.Int.{ints}
use Rattle.std.proofs.lemmas.Bool.Decides.{Decides-eqb}
use Rattle.opl_expr.specs.Sound.{IsSmall}
use Rattle.opl_linear.specs.Linear.{factor_in, names, NamesOnce, AreAmong, AreFactors, opposite}
use Rattle.opl_linear_filter.specs.Parts.{AreFalling}

pub not_same : (x y : ℕ) → x ≢ y → nat_eq x y ≡ false
not_same x y n = elim (nat_eq x y) as (λ b. nat_eq x y ≡ b → b ≡ false) [
  | true ↦ λ e. absurd (n ((Decides-eqb x y).0 e))
  | false ↦ λ e. refl
] refl

pub same_number : (x y : ℕ) → x ≡ y → nat_eq x y ≡ true
same_number x y e = (Decides-eqb x y).1 e

pub factor_added : (ps : List (ℕ × ℤ)) (p : ℕ × ℤ) (y : ℕ) → factor_in (ps ++ p ∷ []) y ≡ factor_in ps y +ℤ cond (nat_eq y p.0) p.1 (pos 0)
factor_added [] p y = omega (arith, ints)
factor_added (q ∷ ps) p y = let i = factor_added ps p y in omega (arith, ints, i)

names_added : (ps : List (ℕ × ℤ)) (p : ℕ × ℤ) (y : ℕ) → names ps y ≡ false → y ≢ p.0 → names (ps ++ p ∷ []) y ≡ false
names_added [] p y h n = rw (not_same y p.0 n) refl
names_added (q ∷ ps) p y h n = elim (nat_eq y q.0) as (λ b. (b || names ps y) ≡ false → (b || names (ps ++ p ∷ []) y) ≡ false) [
  | true ↦ λ k. k
  | false ↦ λ k. names_added ps p y k n
] h

first_named : (q : ℕ × ℤ) (ps : List (ℕ × ℤ)) (x : ℕ) → (nat_eq x q.0 || names ps x) ≡ false → (x ≢ q.0) × (names ps x ≡ false)
first_named q ps x h = elim (nat_eq x q.0) as (λ b. nat_eq x q.0 ≡ b → (b || names ps x) ≡ false → (x ≢ q.0) × (names ps x ≡ false)) [
  | true ↦ λ e k. cc
  | false ↦ λ e k. (λ s. let t = same_number x q.0 s in cc, k)
] refl h

pub named_by : (ps : List (ℕ × ℤ)) (p : ℕ × ℤ) (x : ℕ) → names (ps ++ p ∷ []) x ≡ true → (names ps x ≡ true) ⊎ (x ≡ p.0)
named_by [] p x m = elim (nat_eq x p.0) as (λ b. nat_eq x p.0 ≡ b → (b || false) ≡ true → (false ≡ true) ⊎ (x ≡ p.0)) [
  | true ↦ λ e k. inr ((Decides-eqb x p.0).0 e)
  | false ↦ λ e k. cc
] refl m
named_by (q ∷ ps) p x m = elim (nat_eq x q.0) as (λ b. (b || names (ps ++ p ∷ []) x) ≡ true → ((b || names ps x) ≡ true) ⊎ (x ≡ p.0)) [
  | true ↦ λ k. inl refl
  | false ↦ λ k. named_by ps p x k
] m

pub first_here : (q : ℕ × ℤ) (ps : List (ℕ × ℤ)) → (nat_eq q.0 q.0 || names ps q.0) ≡ true
first_here q ps = rw (same_number q.0 q.0 refl) refl

pub named_later : (q : ℕ × ℤ) (ps : List (ℕ × ℤ)) (x : ℕ) → names ps x ≡ true → (nat_eq x q.0 || names ps x) ≡ true
named_later q ps x m = elim (nat_eq x q.0) as (λ b. (b || names ps x) ≡ true) [ true ↦ refl | false ↦ m ]

pub once_added : (ps : List (ℕ × ℤ)) (p : ℕ × ℤ) → NamesOnce ps → names ps p.0 ≡ false → NamesOnce (ps ++ p ∷ [])
once_added [] p o h = (refl, tt)
once_added (q ∷ ps) p o h =
    let s = first_named q ps p.0 h in
    (names_added ps p q.0 o.0 (λ e. s.0 (sym e)), once_added ps p o.1 s.1)

among_added : (n : ℕ) (ps : List (ℕ × ℤ)) (p : ℕ × ℤ) → AreAmong n ps → p.0 < n → AreAmong n (ps ++ p ∷ [])
among_added n [] p a h = (h, tt)
among_added n (q ∷ ps) p a h = (a.0, among_added n ps p a.1 h)

pub factors_added : (ps : List (ℕ × ℤ)) (p : ℕ × ℤ) → AreFactors ps → p.1 ≢ pos 0 → IsSmall (unsigned_abs p.1) → AreFactors (ps ++ p ∷ [])
factors_added [] p a h s = (h, s, tt)
factors_added (q ∷ ps) p a h s = (a.0, a.1, factors_added ps p a.2 h s)

-- a part whose variable is less than all others
pub falling_added : (ps : List (ℕ × ℤ)) (p : ℕ × ℤ) → AreFalling ps → ((x : ℕ) → names ps x ≡ true → p.0 < x) → AreFalling (ps ++ p ∷ [])
falling_added [] p f h = (λ x m. cc, tt)
falling_added (q ∷ ps) p f h = (
  λ x m. elim (named_by ps p x m) [ inl l ↦ f.0 x l | inr e ↦ let l = h q.0 (first_here q ps) in omega (arith, l, e) ],
  falling_added ps p f.1 (λ x m. h x (named_later q ps x m)),
)

pub opposite_added : (ps : List (ℕ × ℤ)) (x : ℕ) (k : ℤ) → opposite (ps ++ (x, k) ∷ []) ≡ opposite ps ++ (x, neg_ℤ k) ∷ []
opposite_added [] x k = refl
opposite_added (q ∷ ps) x k = ap (λ qs. (q.0, neg_ℤ q.1) ∷ qs) (opposite_added ps x k)

pub opposites_added : (ps qs us vs : List (ℕ × ℤ)) (x : ℕ) (k : ℤ) → qs ≡ opposite ps → us ≡ ps ++ (x, k) ∷ [] → vs ≡ qs ++ (x, neg_ℤ k) ∷ [] → vs ≡ opposite us
opposites_added ps qs us vs x k e f g = g ∙ ap (λ rs. rs ++ (x, neg_ℤ k) ∷ []) e ∙ sym (opposite_added ps x k) ∙ ap opposite (sym f)
