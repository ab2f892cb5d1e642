-- Scans of words.
use Rattle.std.proofs.Common.{◌≡◌, ◌∙◌, ℕ, zero, suc, ◌+◌, ◌-◌, ◌*◌, ◌/◌, ◌%◌, ◌^◌, ◌<◌, ◌≤◌, true, false, ◌||◌, ◌⊎◌, refl, List, ap, sym, subst, arith, inl, inr, w64}
use Rattle.std.specs.Prelude.{nat_eq, slice_index, bit_and, bit_or, min, max, ◌↔◌, ◌≢◌}
use Rattle.std.specs.Int.{bit_at, bit_not, trailing_zeros}
use Rattle.std.proofs.lemmas.Bool.{cases_eq, cases_lt}
use Rattle.std.proofs.lemmas.Bool.Decides.{nat_tests}
use Rattle.std.proofs.lemmas.Nat.Bits.{bit_at_and, bit_at_not, bit_at-zero, bit_at-lt, bit_at_mask_inside, bit_at_mask_below, bit_at_ones, bit_at_ones_above, bit_at_or, bit_at_above, bit_at-trailing_zeros, same_from_bits_below}
use Rattle.std.proofs.lemmas.Nat.{and_le_l, or_lt, leading_top, pow_pos, div_below, le-div}
use lib.Count.{count_leading_zeros}
use Rattle.opl_trail.specs.Gone.{is_gone, IsFirstLeft, IsLastLeft, IsMask, GoBetween, ChangesWhereLeft, HasLeft, HasOff, is_between}

-- bit i of the word is on
abbrev pub On : ℕ → ℕ → Type 0
On word i = bit_at word i ≡ 1

-- what a place of a word tells
pub gone_at : (words : List ℕ) (k i : ℕ) → i < 64 → is_gone words (k * 64 + i) ≡ nat_eq (bit_at (slice_index words k) i) 1
unfolding is_gone
gone_at words k i l =
    let d : (k * 64 + i) / 64 ≡ k = omega arith in
    let r : (k * 64 + i) % 64 ≡ i = omega arith in
    rw (d, r) refl

-- all places from `from` to word k have gone, and the word has the bits of the places there that are left, from `from` on
pub record Scans (words : List ℕ) (from last k left : ℕ) : Type 0 where
  pub within : k ≤ last / 64
  pub start : from / 64 ≤ k
  pub fits : left < 2 ^ 64
  pub gone : (g : ℕ) → from ≤ g → g < k * 64 → is_gone words g ≡ true
  pub on : (i : ℕ) → i < 64 → bit_at left i ≡ 1 → (from ≤ k * 64 + i) × (is_gone words (k * 64 + i) ≡ false)
  pub off : (i : ℕ) → i < 64 → bit_at left i ≡ 0 → from ≤ k * 64 + i → is_gone words (k * 64 + i) ≡ true

bit_cases : (w i : ℕ) → (bit_at w i ≡ 0) ⊎ (bit_at w i ≡ 1)
bit_cases w i = let h = bit_at-lt w i in elim (cases_eq (bit_at w i) 0) [ inl e ↦ inl e | inr n ↦ inr (omega (arith, h, n)) ]

-- the bits of a word's left places
pub left_on : (words : List ℕ) (k i : ℕ) → i < 64 → slice_index words k < 2 ^ 64 → bit_at (bit_not w64 (slice_index words k)) i ≡ 1 → is_gone words (k * 64 + i) ≡ false
left_on words k i l f h = let n = bit_at_not w64 (slice_index words k) i f l in let b = bit_at-lt (slice_index words k) i in gone_at words k i l ∙ grind (arith, nat_tests)

pub left_off : (words : List ℕ) (k i : ℕ) → i < 64 → slice_index words k < 2 ^ 64 → bit_at (bit_not w64 (slice_index words k)) i ≡ 0 → is_gone words (k * 64 + i) ≡ true
left_off words k i l f h = let n = bit_at_not w64 (slice_index words k) i f l in let b = bit_at-lt (slice_index words k) i in gone_at words k i l ∙ grind (arith, nat_tests)

pub split_place : (g k : ℕ) → k * 64 ≤ g → g < (k + 1) * 64 → (g - k * 64 < 64) × (g ≡ k * 64 + (g - k * 64))
split_place g k h l = (omega arith, omega arith)

-- the next word
pub scans_next : (words : List ℕ) (from last k left : ℕ) → Scans words from last k left → left ≡ 0 → from ≤ last → is_gone words last ≡ false → slice_index words (k + 1) < 2 ^ 64 → Scans words from last (k + 1) (bit_not w64 (slice_index words (k + 1)))
scans_next words from last k left s z h v f =
    let gone : (g : ℕ) → from ≤ g → g < (k + 1) * 64 → is_gone words g ≡ true = λ g a b. elim (cases_lt g (k * 64)) [
      | inl l ↦ s.gone g a l
      | inr l ↦ let p = split_place g k l b in
          subst (λ n. is_gone words n ≡ true) (sym p.1) (s.off (g - k * 64) p.0 (ap (λ w. bit_at w (g - k * 64)) z ∙ bit_at-zero (g - k * 64)) (omega (arith, a, p.1)))
    ] in
    let past : k + 1 ≤ last / 64 = elim (cases_lt last ((k + 1) * 64)) [
      | inl l ↦ absurd (let t = gone last h l in cc)
      | inr l ↦ omega arith
    ] in
    record {
      within = past;
      start = omega (arith, s.start);
      fits = omega arith;
      gone = gone;
      on = λ i l b. (omega (arith, s.start), left_on words (k + 1) i l f b);
      off = λ i l b a. left_off words (k + 1) i l f b;
    }

-- the first word
pub scans_first : (words : List ℕ) (from last : ℕ) → from ≤ last → slice_index words (from / 64) < 2 ^ 64 → Scans words from last (from / 64) (bit_and (bit_not w64 (slice_index words (from / 64))) (2 ^ 64 - 2 ^ (from % 64)))
scans_first words from last h f =
    let k : ℕ = from / 64 in
    let j : ℕ = from % 64 in
    let w : ℕ = bit_not w64 (slice_index words k) in
    let small : j < 64 = omega arith in
    let both : (i : ℕ) → bit_at (bit_and w (2 ^ 64 - 2 ^ j)) i ≡ min (bit_at w i) (bit_at (2 ^ 64 - 2 ^ j) i) = λ i. bit_at_and w (2 ^ 64 - 2 ^ j) i in
    record {
      within = omega arith;
      start = omega arith;
      fits = omega (arith, and_le_l w (2 ^ 64 - 2 ^ j));
      gone = λ g a b. absurd (omega arith);
      on = λ i l b. elim (cases_lt i j) [
        | inl u ↦ absurd (let m = bit_at_mask_below j 64 i u in let c = both i in omega (arith, m, c, b))
        | inr u ↦ let m = bit_at_mask_inside j 64 i u l in let c = both i in let t = bit_at-lt w i in (omega (arith, u), left_on words k i l f (omega (arith, m, c, b, t)))
      ];
      off = λ i l b a. elim (cases_lt i j) [
        | inl u ↦ absurd (omega (arith, u, a))
        | inr u ↦ let m = bit_at_mask_inside j 64 i u l in let c = both i in let t = bit_at-lt w i in left_off words k i l f (omega (arith, m, c, b, t))
      ];
    }

pub scans_end : (words : List ℕ) (from last k left : ℕ) → Scans words from last k left → 0 < left → IsFirstLeft words from (k * 64 + trailing_zeros w64 left)
scans_end words from last k left s p =
    let t = bit_at-trailing_zeros w64 left p s.fits in
    let i : ℕ = trailing_zeros w64 left in
    let here = s.on i t.0 t.1 in
    record {
      behind = here.0;
      is_left = here.1;
      first = λ g a l. elim (cases_lt g (k * 64)) [
        | inl b ↦ s.gone g a b
        | inr b ↦ let q = split_place g k b (omega (arith, l, t.0)) in
            subst (λ n. is_gone words n ≡ true) (sym q.1) (s.off (g - k * 64) q.0 (t.2 (g - k * 64) (omega (arith, l, b))) (omega (arith, a, q.1)))
      ];
    }

-- ---- letting places go

-- the words below k are done, and the others as they were
pub record Clears (old new : List ℕ) (first last k : ℕ) : Type 0 where
  pub done : (j i : ℕ) → j < k → i < 64 → is_gone new (j * 64 + i) ≡ (is_gone old (j * 64 + i) || is_between first last (j * 64 + i))
  pub rest : (j : ℕ) → k ≤ j → slice_index new j ≡ slice_index old j
  pub before : (j : ℕ) → j < first / 64 → slice_index new j ≡ slice_index old j
  pub changes : ChangesWhereLeft old new first last

pub between : (a b g : ℕ) → a ≤ g → g ≤ b → is_between a b g ≡ true
between a b g h l = grind (arith, nat_tests)

pub not_between : (a b g : ℕ) → (g < a) ⊎ (b < g) → is_between a b g ≡ false
not_between a b g h = elim h [ inl l ↦ grind (arith, nat_tests) | inr l ↦ grind (arith, nat_tests) ]

outside_is : (words : List ℕ) (first last g : ℕ) → (g < first) ⊎ (last < g) → is_gone words g ≡ (is_gone words g || is_between first last g)
outside_is words first last g h = elim (is_gone words g) as (λ b. b ≡ (b || is_between first last g)) [ true ↦ refl | false ↦ elim h [ inl l ↦ grind (arith, nat_tests) | inr l ↦ grind (arith, nat_tests) ] ]

pub same_gone : (old new : List ℕ) (g : ℕ) → slice_index new (g / 64) ≡ slice_index old (g / 64) → is_gone new g ≡ is_gone old g
unfolding is_gone
same_gone old new g e = ap (λ w. nat_eq (bit_at w (g % 64)) 1) e

-- a mask by its first and its last bit
pub mask_is : (k first last low high : ℕ) → low < 64 → high < 64 → ((i : ℕ) → i < 64 → (low ≤ i) ↔ (first ≤ k * 64 + i)) → ((i : ℕ) → i < 64 → (i ≤ high) ↔ (k * 64 + i ≤ last)) →
    IsMask k first last (bit_and (2 ^ 64 - 2 ^ low) (2 ^ (high + 1) - 1))
mask_is k first last low high l h f g i small =
    let both = bit_at_and (2 ^ 64 - 2 ^ low) (2 ^ (high + 1) - 1) i in
    let lower = f i small in
    let upper = g i small in
    elim (cases_lt i low) [
      | inl u ↦ let m = bit_at_mask_below low 64 i u in let n : (first ≤ k * 64 + i) → ⊥ = λ a. let b = lower.1 a in omega (arith, b, u) in grind (arith, nat_tests)
      | inr u ↦ let m = bit_at_mask_inside low 64 i u small in let n : first ≤ k * 64 + i = lower.0 u in elim (cases_lt high i) [
        | inl v ↦ let o = bit_at_ones_above (high + 1) i (omega (arith, v)) in let q : (k * 64 + i ≤ last) → ⊥ = λ a. let b = upper.1 a in omega (arith, b, v) in grind (arith, nat_tests)
        | inr v ↦ let o = bit_at_ones (high + 1) i (omega (arith, v)) in let q : k * 64 + i ≤ last = upper.0 v in grind (arith, nat_tests)
      ]
    ]

or_tests : (a b : ℕ) → a < 2 → b < 2 → nat_eq (max a b) 1 ≡ (nat_eq a 1 || nat_eq b 1)
or_tests a b h k = grind (arith, nat_tests)

-- what a word with a mask tells
pub masked : (old new : List ℕ) (first last k mask : ℕ) → IsMask k first last mask → slice_index new k ≡ bit_or (slice_index old k) mask → (i : ℕ) → i < 64 → is_gone new (k * 64 + i) ≡ (is_gone old (k * 64 + i) || is_between first last (k * 64 + i))
masked old new first last k mask m e i l =
    let o = bit_at_or (slice_index old k) mask i in
    gone_at new k i l ∙ ap (λ w. nat_eq (bit_at w i) 1) e ∙ ap (λ b. nat_eq b 1) o ∙ or_tests (bit_at (slice_index old k) i) (bit_at mask i) (bit_at-lt (slice_index old k) i) (bit_at-lt mask i)
    ∙ ap (λ b. nat_eq (bit_at (slice_index old k) i) 1 || b) (m i l) ∙ ap (λ b. b || is_between first last (k * 64 + i)) (sym (gone_at old k i l))

-- a bit of the mask that is off is a place that is left
left_of : (words : List ℕ) (first last k mask : ℕ) → IsMask k first last mask → HasOff (slice_index words k) mask → HasLeft words first last k
left_of words first last k mask m o =
    let i : ℕ = o.bit in
    let b : is_between first last (k * 64 + i) ≡ true = sym (m i o.small) ∙ ap (λ n. nat_eq n 1) o.on in
    record {
      place = k * 64 + i;
      word = omega (arith, o.small);
      from = grind (arith, nat_tests, b);
      to = grind (arith, nat_tests, b);
      is_left = gone_at words k i o.small ∙ ap (λ n. nat_eq n 1) o.off;
    }

-- a word that a mask changes has a bit of it off
off_below : (word mask j : ℕ) → j ≤ 64 → ((i : ℕ) → i < j → bit_at (bit_or word mask) i ≡ bit_at word i) ⊎ HasOff word mask
off_below word mask zero h = inl (λ i l. absurd (omega arith))
off_below word mask (suc j) h = elim (off_below word mask j (omega (arith, h))) [
  | inr o ↦ inr o
  | inl f ↦ let o = bit_at_or word mask j in elim (bit_cases word j) [
    | inr a ↦ inl (λ i l. elim (cases_eq i j) [ inl e ↦ rw e (let k = bit_at-lt mask j in omega (arith, o, a, k)) | inr n ↦ f i (omega (arith, l, n)) ])
    | inl a ↦ elim (bit_cases mask j) [
      | inl b ↦ inl (λ i l. elim (cases_eq i j) [ inl e ↦ rw e (omega (arith, o, a, b)) | inr n ↦ f i (omega (arith, l, n)) ])
      | inr b ↦ inr (record { bit = j; small = omega (arith, h); off = a; on = b })
    ]
  ]
]

pub or_changes : (word mask : ℕ) → word < 2 ^ 64 → mask < 2 ^ 64 → (bit_or word mask ≡ word) ⊎ HasOff word mask
or_changes word mask h k = elim (off_below word mask 64 (omega arith)) [
  | inl f ↦ inl (same_from_bits_below 64 (bit_or word mask) word (or_lt 64 word mask h k) h f)
  | inr o ↦ inr o
]

pub clears_first : (words : List ℕ) (first last : ℕ) → Clears words words first last (first / 64)
clears_first words first last = record {
  done = λ j i h l. outside_is words first last (j * 64 + i) (inl (omega arith));
  rest = λ j h. refl;
  before = λ j h. refl;
  changes = λ j. inl refl;
}

pub clears_next : (old mid new : List ℕ) (first last k mask : ℕ) → first / 64 ≤ k → Clears old mid first last k → IsMask k first last mask → slice_index new k ≡ bit_or (slice_index mid k) mask → (bit_or (slice_index mid k) mask ≡ slice_index mid k) ⊎ HasOff (slice_index mid k) mask → ((j : ℕ) → j ≢ k → slice_index new j ≡ slice_index mid j) → Clears old new first last (k + 1)
clears_next old mid new first last k mask start c m here change there = record {
  done = λ j i h l. elim (cases_eq j k) [
    | inl e ↦ rw e (masked old new first last k mask m (here ∙ ap (λ w. bit_or w mask) (c.rest k (omega arith))) i l)
    | inr n ↦ gone_at new j i l ∙ ap (λ w. nat_eq (bit_at w i) 1) (there j n) ∙ sym (gone_at mid j i l) ∙ c.done j i (omega (arith, n)) l
  ];
  rest = λ j h. there j (omega arith) ∙ c.rest j (omega arith);
  before = λ j h. there j (omega arith) ∙ c.before j h;
  changes = λ j. elim (cases_eq j k) [
    | inl e ↦ rw e (elim change [
      | inl s ↦ inl (here ∙ s ∙ c.rest k (omega arith))
      | inr o ↦ inr (left_of old first last k mask m (subst (λ w. HasOff w mask) (c.rest k (omega arith)) o))
    ])
    | inr n ↦ elim (c.changes j) [ inl s ↦ inl (there j n ∙ s) | inr o ↦ inr o ]
  ];
}

pub clears_end : (old new : List ℕ) (first last : ℕ) → first ≤ last → Clears old new first last (last / 64 + 1) → GoBetween old new first last
clears_end old new first last h c g =
    let e : g ≡ g / 64 * 64 + g % 64 = omega arith in
    elim (cases_lt (g / 64) (last / 64 + 1)) [
      | inl l ↦ subst (λ n. is_gone new n ≡ (is_gone old n || is_between first last n)) (sym e) (c.done (g / 64) (g % 64) l (omega arith))
      | inr l ↦ same_gone old new g (c.rest (g / 64) l) ∙ outside_is old first last g (inr (omega arith))
    ]

-- ---- the same downwards

pub pow_double : (j : ℕ) → 2 ^ suc j ≡ 2 * 2 ^ j
pow_double j = grind arith

-- the highest bit that is on
top_bit : (n j : ℕ) → 2 ^ j ≤ n → n < 2 ^ suc j → bit_at n j ≡ 1
top_bit n j h k =
    let p = pow_pos j in
    let q : n / 2 ^ j < 2 = div_below n (2 ^ j) 2 p (omega (arith, k, pow_double j)) in
    let r : 1 ≤ n / 2 ^ j = le-div 1 n (2 ^ j) p (omega (arith, h)) in
    let one : n / 2 ^ j ≡ 1 = omega (arith, q, r) in
    rw one refl

pub record ScansDown (words : List ℕ) (from to k left : ℕ) : Type 0 where
  pub within : from / 64 ≤ k
  pub start : k ≤ to / 64
  pub fits : left < 2 ^ 64
  pub gone : (g : ℕ) → (k + 1) * 64 ≤ g → g ≤ to → is_gone words g ≡ true
  pub on : (i : ℕ) → i < 64 → bit_at left i ≡ 1 → (k * 64 + i ≤ to) × (is_gone words (k * 64 + i) ≡ false)
  pub off : (i : ℕ) → i < 64 → bit_at left i ≡ 0 → k * 64 + i ≤ to → is_gone words (k * 64 + i) ≡ true

pub down_next : (words : List ℕ) (from to k left : ℕ) → ScansDown words from to k left → left ≡ 0 → from ≤ to → is_gone words from ≡ false → slice_index words (k - 1) < 2 ^ 64 → ScansDown words from to (k - 1) (bit_not w64 (slice_index words (k - 1)))
down_next words from to k left s z h v f =
    let gone : (g : ℕ) → k * 64 ≤ g → g ≤ to → is_gone words g ≡ true = λ g a b. elim (cases_lt g ((k + 1) * 64)) [
      | inl l ↦ let p = split_place g k a l in
          subst (λ n. is_gone words n ≡ true) (sym p.1) (s.off (g - k * 64) p.0 (ap (λ w. bit_at w (g - k * 64)) z ∙ bit_at-zero (g - k * 64)) (omega (arith, b, p.1)))
      | inr l ↦ s.gone g l b
    ] in
    let past : from / 64 < k = elim (cases_lt from (k * 64)) [
      | inl l ↦ omega arith
      | inr l ↦ absurd (let t = gone from l h in cc)
    ] in
    record {
      within = omega (arith, past);
      start = omega (arith, s.start);
      fits = omega arith;
      gone = λ g a b. gone g (omega (arith, a, past)) b;
      on = λ i l b. (omega (arith, s.start, past), left_on words (k - 1) i l f b);
      off = λ i l b a. left_off words (k - 1) i l f b;
    }

pub down_first : (words : List ℕ) (from to : ℕ) → from ≤ to → slice_index words (to / 64) < 2 ^ 64 → ScansDown words from to (to / 64) (bit_and (bit_not w64 (slice_index words (to / 64))) (2 ^ (to % 64 + 1) - 1))
down_first words from to h f =
    let k : ℕ = to / 64 in
    let j : ℕ = to % 64 in
    let w : ℕ = bit_not w64 (slice_index words k) in
    let both : (i : ℕ) → bit_at (bit_and w (2 ^ (j + 1) - 1)) i ≡ min (bit_at w i) (bit_at (2 ^ (j + 1) - 1) i) = λ i. bit_at_and w (2 ^ (j + 1) - 1) i in
    record {
      within = omega arith;
      start = omega arith;
      fits = omega (arith, and_le_l w (2 ^ (j + 1) - 1));
      gone = λ g a b. absurd (omega arith);
      on = λ i l b. elim (cases_lt j i) [
        | inl u ↦ absurd (let m = bit_at_ones_above (j + 1) i (omega (arith, u)) in let c = both i in omega (arith, m, c, b))
        | inr u ↦ let m = bit_at_ones (j + 1) i (omega (arith, u)) in let c = both i in let t = bit_at-lt w i in (omega (arith, u), left_on words k i l f (omega (arith, m, c, b, t)))
      ];
      off = λ i l b a. elim (cases_lt j i) [
        | inl u ↦ absurd (omega (arith, u, a))
        | inr u ↦ let m = bit_at_ones (j + 1) i (omega (arith, u)) in let c = both i in let t = bit_at-lt w i in left_off words k i l f (omega (arith, m, c, b, t))
      ];
    }

pub down_end : (words : List ℕ) (from to k left : ℕ) → ScansDown words from to k left → 0 < left → IsLastLeft words to (k * 64 + (63 - count_leading_zeros 64 left))
down_end words from to k left s p =
    let t = leading_top 64 left p s.fits in
    let j : ℕ = t.0 in
    let e : 63 - count_leading_zeros 64 left ≡ j = omega (arith, t.1) in
    let on : bit_at left j ≡ 1 = top_bit left j t.2 t.3 in
    let here = s.on j (omega (arith, t.1)) on in
    rw e (record {
      before = here.0;
      is_left = here.1;
      last = λ g a l. elim (cases_lt g ((k + 1) * 64)) [
        | inl b ↦ let q = split_place g k (omega (arith, a)) b in
            subst (λ n. is_gone words n ≡ true) (sym q.1) (s.off (g - k * 64) q.0 (bit_at_above left (suc j) (g - k * 64) t.3 (omega (arith, a, b))) (omega (arith, l, q.1)))
        | inr b ↦ s.gone g b l
      ];
    })
