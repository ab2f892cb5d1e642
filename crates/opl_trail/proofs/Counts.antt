-- How many places are left, word by word.
use Rattle.std.proofs.Common.{◌≡◌, ◌∙◌, ℕ, zero, suc, ◌+◌, ◌-◌, ◌*◌, ◌/◌, ◌%◌, ◌^◌, ◌<◌, ◌≤◌, ◌⊎◌, true, false, cond, refl, List, ap, sym, arith, inl, inr, w64}
use Rattle.std.specs.Prelude.{nat_eq, slice_index, bit_and, min, count_ones}
use Rattle.std.specs.Int.{bit_at, bit_not}
use Rattle.std.proofs.lemmas.Bool.Decides.{nat_tests}
use Rattle.std.proofs.lemmas.Nat.Bits.{bit_at_and, bit_at_not, bit_at-lt, bit_at_lowest, bit_at-suc}
use Rattle.std.proofs.lemmas.Nat.{and_le_l}
use lib.Count.{ones, ones_step}
use Rattle.opl_trail.specs.Gone.{is_gone, count_left, is_between, IsMask}
use Rattle.opl_trail.proofs.Words.{gone_at, pow_double, between, not_between}

-- the sum of f over n numbers from g on
abbrev pub sum_from : (ℕ → ℕ) → ℕ → ℕ → ℕ
sum_from f g zero = zero
sum_from f g (suc n) = f g + sum_from f (suc g) n

pub sum_split : (f : ℕ → ℕ) (g m n : ℕ) → sum_from f g (m + n) ≡ sum_from f g m + sum_from f (g + m) n
sum_split f g zero n = let z : g + 0 ≡ g = omega arith in let y : 0 + n ≡ n = omega arith in rw (z, y) (omega arith)
sum_split f g (suc m) n =
    let z : g + suc m ≡ suc g + m = omega arith in
    let y : suc m + n ≡ suc (m + n) = omega arith in
    let r = sum_split f (suc g) m n in
    rw (z, y) (omega (arith, r))

sum_zero : (f : ℕ → ℕ) (g n : ℕ) → ((k : ℕ) → g ≤ k → k < g + n → f k ≡ 0) → sum_from f g n ≡ 0
sum_zero f g zero h = refl
sum_zero f g (suc n) h = let r = sum_zero f (suc g) n (λ k a b. h k (omega arith) (omega (arith, b))) in let z = h g (omega arith) (omega arith) in omega (arith, r, z)

pub sum_most : (f : ℕ → ℕ) (g n : ℕ) → ((k : ℕ) → f k ≤ 1) → sum_from f g n ≤ n
sum_most f g zero h = omega arith
sum_most f g (suc n) h = let r = sum_most f (suc g) n h in omega (arith, r, h g)

-- the number of a word's bits that are on is their sum
ones_sum : (f : ℕ → ℕ) (g j w : ℕ) → w < 2 ^ j → ((i : ℕ) → i < j → bit_at w i ≡ f (g + i)) → count_ones w ≡ sum_from f g j
unfolding ones
ones_sum f g zero w l h = let z : w ≡ 0 = omega (arith, l) in rw z refl
ones_sum f g (suc j) w l h =
    let half : w / 2 < 2 ^ j = let d = pow_double j in omega (arith, l, d) in
    let r = ones_sum f (suc g) j (w / 2) half (λ i k. let e : g + suc i ≡ suc g + i = omega arith in sym (bit_at-suc w i) ∙ h (suc i) (omega (arith, k)) ∙ ap f e) in
    let z : g + 0 ≡ g = omega arith in
    let first : w % 2 ≡ f g = sym (bit_at_lowest w) ∙ h 0 (omega arith) ∙ ap f z in
    let s = ones_step w in
    omega (arith, s, r, first)

-- 1 where a place from a to b is left, else 0
abbrev pub left_in : List ℕ → ℕ → ℕ → ℕ → ℕ
left_in words a b g = cond (is_gone words g) 0 (cond (is_between a b g) 1 0)

pub left_one : (words : List ℕ) (a b g : ℕ) → left_in words a b g ≤ 1
left_one words a b g = elim (is_gone words g) as (λ c. cond c 0 (cond (is_between a b g) 1 0) ≤ 1) [
  | true ↦ omega arith
  | false ↦ elim (is_between a b g) as (λ c. cond c 1 0 ≤ 1) [ true ↦ omega arith | false ↦ omega arith ]
]

bit_left : (n m : ℕ) → n < 2 → m < 2 → min (1 - n) m ≡ cond (nat_eq n 1) 0 (cond (nat_eq m 1) 1 0)
bit_left n m h k = grind (arith, nat_tests)

-- of one word under a mask
pub ones_left : (words : List ℕ) (a b k mask : ℕ) → IsMask k a b mask → slice_index words k < 2 ^ 64 → count_ones (bit_and (bit_not w64 (slice_index words k)) mask) ≡ sum_from (left_in words a b) (k * 64) 64
ones_left words a b k mask m f =
    let w : ℕ = slice_index words k in
    let small : bit_and (bit_not w64 w) mask < 2 ^ 64 = omega (arith, and_le_l (bit_not w64 w) mask) in
    ones_sum (left_in words a b) (k * 64) 64 (bit_and (bit_not w64 w) mask) small (λ i l.
    bit_at_and (bit_not w64 w) mask i
    ∙ ap (λ n. min n (bit_at mask i)) (bit_at_not w64 w i f l)
    ∙ bit_left (bit_at w i) (bit_at mask i) (bit_at-lt w i) (bit_at-lt mask i)
    ∙ ap (λ c. cond (nat_eq (bit_at w i) 1) 0 (cond c 1 0)) (m i l)
    ∙ ap (λ c. cond c 0 (cond (is_between a b (k * 64 + i)) 1 0)) (sym (gone_at words k i l)))

none_in : (words : List ℕ) (a b g : ℕ) → (g < a) ⊎ (b < g) → left_in words a b g ≡ 0
none_in words a b g h = rw (not_between a b g h) (elim (is_gone words g) as (λ c. ◌≡◌ {A = ℕ} (cond c 0 0) 0) [ true ↦ refl | false ↦ refl ])

all_in : (words : List ℕ) (a b g n : ℕ) → a ≤ g → g + n ≤ b + 1 → sum_from (left_in words a b) g n ≡ count_left words g n
all_in words a b g zero h l = refl
all_in words a b g (suc n) h l =
    let r = all_in words a b (suc g) n (omega (arith, h)) (omega (arith, l)) in
    rw (between a b g h (omega (arith, l)), r) refl

-- of all words that the places from a to b lie in
pub left_between : (words : List ℕ) (a b : ℕ) → a ≤ b → sum_from (left_in words a b) (a / 64 * 64) ((b / 64 + 1 - a / 64) * 64) ≡ count_left words a (b + 1 - a)
left_between words a b h =
    let f : ℕ → ℕ = left_in words a b in
    let g : ℕ = a / 64 * 64 in
    let p : ℕ = a - g in
    let q : ℕ = b + 1 - a in
    let r : ℕ = (b / 64 + 1) * 64 - (b + 1) in
    let n : (b / 64 + 1 - a / 64) * 64 ≡ p + (q + r) = omega (arith, h) in
    let s = sum_split f g p (q + r) in
    let t = sum_split f (g + p) q r in
    let e : g + p ≡ a = omega arith in
    let x = sum_zero f g p (λ k u v. none_in words a b k (inl (omega (arith, v)))) in
    let y : sum_from f (g + p) q ≡ count_left words a q = ap (λ k. sum_from f k q) e ∙ all_in words a b a q (omega arith) (omega (arith, h)) in
    let z = sum_zero f (g + p + q) r (λ k u v. none_in words a b k (inr (omega (arith, u, e, h)))) in
    ap (sum_from f g) n ∙ omega (arith, s, t, x, y, z)

-- the words from that of a on to word k, and one more
pub left_step : (words : List ℕ) (a b k mask n : ℕ) → a / 64 ≤ k → IsMask k a b mask → slice_index words k < 2 ^ 64 → n ≡ sum_from (left_in words a b) (a / 64 * 64) ((k - a / 64) * 64) →
    n + count_ones (bit_and (bit_not w64 (slice_index words k)) mask) ≡ sum_from (left_in words a b) (a / 64 * 64) ((k + 1 - a / 64) * 64)
left_step words a b k mask n start m f h =
    let s = sum_split (left_in words a b) (a / 64 * 64) ((k - a / 64) * 64) 64 in
    let e : (k + 1 - a / 64) * 64 ≡ (k - a / 64) * 64 + 64 = omega (arith, start) in
    let g : a / 64 * 64 + (k - a / 64) * 64 ≡ k * 64 = omega (arith, start) in
    let w = ones_left words a b k mask m f in
    let t : sum_from (left_in words a b) (a / 64 * 64 + (k - a / 64) * 64) 64 ≡ sum_from (left_in words a b) (k * 64) 64 = ap (λ j. sum_from (left_in words a b) j 64) g in
    omega (arith, h, w, t, s) ∙ ap (sum_from (left_in words a b) (a / 64 * 64)) (sym e)
