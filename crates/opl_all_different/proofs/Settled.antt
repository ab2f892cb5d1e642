-- Each part that has one value is looked at in its turn: the loop over them, and its end.
use Rattle.std.proofs.Common.{◌≡◌, ◌≢◌, ◌∙◌, ℕ, zero, suc, ◌+◌, ◌<◌, Bool, true, false, cond, refl, List, [], ◌∷◌, length, ℤ, pos, get_or, set, sym, subst, arith, inl, inr, length-set, get_or-set_other}
use Rattle.std.specs.Prelude.{None}
use Rattle.std.proofs.lemmas.Bool.{cases_eq}
use Rattle.opl_domain.specs.Family.{member, Family, IsFamily, Full, Below, has, only}
use Rattle.opl_domain.proofs.Sets.{length-only}
use Rattle.opl_trace.specs.Stable.{IsStable, IsGreatestStable, HasFailed}
use Rattle.opl_trace.proofs.Passing.{false_unless}
use Rattle.opl_trace.proofs.Families.{only_below, only_full}
use Rattle.opl_filter.specs.Filtering.{IsLeftOf, IsBetween}
use Rattle.opl_filter.proofs.Removals.{left_join, left_below, left_sets, left_kept}
use Rattle.opl_all_different.specs.declared.part.Part.{Part}
use Rattle.opl_all_different.specs.Parts.{part_at, numbers_of, value_with, meets, clashes, AreSeparate, AreFitting}
use Rattle.opl_all_different.specs.Spreading.{IsSpread, Spreads, is_done, IsNextSingle}
use Rattle.opl_all_different.proofs.Meetings.{zero_or_not, numbers_below, numbers_some, numbers_other, only_below_has, misses_below, meets_from, meets_to, clash_from, clashes_fall}

-- ---- what has been done

-- removals so far, and each part that is marked has one value, which no other has
pub record Settling (D F : Family) (ps : List Part) (done : List Bool) : Type 0 where
  pub removals : IsLeftOf (clashes ps) D F
  pub same : length done ≡ length ps
  pub spread : (i : ℕ) → i < length ps → is_done done i ≡ true → IsSpread F ps i

spread_below : (F G : Family) (ps : List Part) (i : ℕ) → Below F G → IsSpread G ps i → IsSpread F ps i
spread_below F G ps i b s = record {
  value = s.value;
  single = only_below_has F G (part_at ps i) s.value b s.single;
  others = λ j h n. misses_below F G (part_at ps j) s.value b (s.others j h n);
}

pub settle_next : (D F G : Family) (ps : List Part) (done : List Bool) (i : ℕ) (b : Bool) → Settling D F ps done → Spreads F G ps i b → b ≡ true → i < length ps → Settling D G ps (set done i true)
settle_next D F G ps done i false s t e h = cc
settle_next D F G ps done i true s t e h = record {
  removals = left_join (clashes ps) D F G s.removals t.0;
  same = length-set done i true ∙ s.same;
  spread = λ j k m. elim (cases_eq j i) [
    | inl z ↦ subst (λ l. IsSpread G ps l) (sym z) t.1
    | inr n ↦ spread_below G F ps j (left_below (clashes ps) F G t.0) (s.spread j k (sym (get_or-set_other done i j true false n) ∙ m))
  ];
}

-- how many parts aren't marked
abbrev pub unmarked : List Bool → ℕ
unmarked [] = zero
unmarked (b ∷ done) = cond b 0 1 + unmarked done

pub fewer_unmarked : (done : List Bool) (i : ℕ) → i < length done → get_or done i false ≡ false → unmarked (set done i true) < unmarked done
fewer_unmarked [] i h n = absurd (omega (arith, h))
fewer_unmarked (b ∷ done) zero h n = rw n (omega arith)
fewer_unmarked (b ∷ done) (suc i) h n = omega (arith, fewer_unmarked done i (omega (arith, h)) n)

pub settle_fails : (D F G : Family) (ps : List Part) (done : List Bool) (i : ℕ) (b : Bool) → Settling D F ps done → Spreads F G ps i b → b ≡ false → HasFailed (clashes ps) D
settle_fails D F G ps done i true s t e = cc
settle_fails D F G ps done i false s t e = λ H k.
    let m = clashes_fall ps in
    let l = left_join (clashes ps) D F G s.removals t.0 in
    let b = (left_kept (clashes ps) D G m l).above H k.stable k.within in
    let c = m.falls H G k.stable.full b t.1 in
    let d = k.stable.spared in
    cc

pub failed_removals : (D F G : Family) (ps : List Part) (done : List Bool) (i : ℕ) (b : Bool) → Settling D F ps done → Spreads F G ps i b → b ≡ false → IsLeftOf (clashes ps) D G
failed_removals D F G ps done i true s t e = cc
failed_removals D F G ps done i false s t e = left_join (clashes ps) D F G s.removals t.0

-- ---- the end: no part is left

module _ (F : Family) (ps : List Part) (done : List Bool) (f : Full F) (s : AreSeparate (length F) ps) (spread : (i : ℕ) → i < length ps → is_done done i ≡ true → IsSpread F ps i) (none : IsNextSingle F ps done None) where
  -- a part with one value is marked
  is_marked : (i : ℕ) → i < length ps → ((v w : ℤ) → member v (numbers_of F (part_at ps i)) ≡ true → member w (numbers_of F (part_at ps i)) ≡ true → value_with (part_at ps i) v ≡ value_with (part_at ps i) w) → IsSpread F ps i
  is_marked i h o = elim (is_done done i) as (λ b. is_done done i ≡ b → IsSpread F ps i) [
    | true ↦ λ e. spread i h e
    | false ↦ λ e. let t = none i h e in absurd (t.differ (o t.first t.second t.first_there t.second_there))
  ] refl

  -- no value of another part is the only value of a part
  none_same : (i j : ℕ) (v : ℤ) → i < length ps → j < length ps → j ≢ i → member v (numbers_of F (part_at ps j)) ≡ true
      → ((w : ℤ) → member w (numbers_of F (part_at ps i)) ≡ true → value_with (part_at ps i) w ≡ value_with (part_at ps j) v) → ⊥
  none_same i j v h k n m o =
      let p = part_at ps i in
      let t = is_marked i h (λ x y a b. o x a ∙ sym (o y b)) in
      let w = numbers_some F p f (s.there i h) in
      t.others j k n v m (sym (o w.0 w.1) ∙ t.single w.0 w.1)

  -- no two parts meet where one variable has one value
  none_meet : (x : ℕ) (v : ℤ) → x < length F → has F x v ≡ true → (i j : ℕ) → i < length ps → j < length ps → j ≢ i → ((part_at ps i).factor ≢ pos 0 → (part_at ps i).variable ≢ x) → meets (only F x v) (part_at ps i) (part_at ps j) ≡ true → ⊥
  none_meet x v l m i j h k n o e =
      let p = part_at ps i in
      let q = part_at ps j in
      let G = only F x v in
      let b = only_below F x v m in
      let u = numbers_some G q (only_full F x v f) (λ z. omega (arith, s.there j k z, length-only F x v)) in
      none_same i j u.0 h k n (numbers_below G F q b u.0 u.1) (λ w a. meets_from G p q e w u.0 (subst (λ vs. member w vs ≡ true) (sym (numbers_other F p x v o)) a) u.1)

  swap : (G : Family) (p q : Part) → meets G p q ≡ true → meets G q p ≡ true
  swap G p q e = meets_to G q p (λ v w m n. sym (meets_from G p q e w v n m))

  each_spared : (x : ℕ) (v : ℤ) → x < length F → has F x v ≡ true → clashes ps (only F x v) ≡ false
  each_spared x v l m = false_unless (clashes ps (only F x v)) (λ e.
      let c = clash_from (only F x v) ps e in
      let i = c.first in
      let j = c.second in
      let h : i < length ps = omega (arith, c.before, c.there) in
      let n : j ≢ i = λ z. omega (arith, c.before, z) in
      elim (zero_or_not (part_at ps i).factor) [
        | inl z ↦ none_meet x v l m i j h c.there n (λ d. absurd (d z)) c.meet
        | inr d ↦ elim (cases_eq (part_at ps i).variable x) [
          | inr o ↦ none_meet x v l m i j h c.there n (λ z. o) c.meet
          | inl y ↦ none_meet x v l m j i c.there h (λ z. n (sym z)) (λ z q. s.apart i j h c.there (λ r. n (sym r)) d z (y ∙ sym q)) (swap (only F x v) (part_at ps i) (part_at ps j) c.meet)
        ]
      ])

  whole_spared : clashes ps F ≡ false
  whole_spared = false_unless (clashes ps F) (λ e.
      let c = clash_from F ps e in
      let i = c.first in
      let j = c.second in
      let u = numbers_some F (part_at ps j) f (s.there j c.there) in
      none_same i j u.0 (omega (arith, c.before, c.there)) c.there (λ z. omega (arith, c.before, z)) u.1 (λ w a. meets_from F (part_at ps i) (part_at ps j) c.meet w u.0 a u.1))

  pub settled_stable : IsStable (clashes ps) F
  settled_stable = record { full = f; spared = whole_spared; each = each_spared }

pub settle_end : (D F : Family) (ps : List Part) (done : List Bool) → IsFamily D → AreSeparate (length D) ps → Settling D F ps done → IsNextSingle F ps done None → IsGreatestStable (clashes ps) D F
settle_end D F ps done d s t n =
    let b = left_below (clashes ps) D F t.removals in
    let f = left_sets (clashes ps) D F d t.removals in
    record {
      is_stable = record { stable = settled_stable F ps done f.full (subst (λ m. AreSeparate m ps) (sym b.same) s) t.spread n; within = b };
      most = λ G k. (left_kept (clashes ps) D F (clashes_fall ps) t.removals).above G k.stable k.within;
    }

pub left_between : (D F : Family) (ps : List Part) → IsFamily D → IsLeftOf (clashes ps) D F → IsBetween (clashes ps) D F
left_between D F ps d l = record { removals = l; below = left_below (clashes ps) D F l; sets = left_sets (clashes ps) D F d l }

-- ---- sums fit later too

pub fitting_later : (D F : Family) (ps : List Part) → Below F D → AreFitting D ps → AreFitting F ps
fitting_later D F ps b a = record {
  own = λ i w h m. a.own i w h (numbers_below F D (part_at ps i) b w m);
  pairs = λ i j w h k n m. a.pairs i j w h k n (numbers_below F D (part_at ps i) b w m);
}
