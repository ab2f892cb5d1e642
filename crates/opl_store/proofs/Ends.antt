-- The set of one variable by its ends and its gaps.
use Rattle.std.proofs.Common.{◌≡◌, ◌∙◌, ℕ, ◌+◌, ◌-◌, ◌*◌, ◌/◌, ◌^◌, ◌<◌, ◌≤◌, ◌⊎◌, Bool, true, false, ◌||◌, refl, List, [], ◌∷◌, length, set, ℤ, pos, ◌+ℤ◌, ◌≤ℤ◌, ◌<ℤ◌, ap, sym, subst, arith, inl, inr}
use Rattle.std.specs.Prelude.{not, slice_index, Some, None, int_lt}
use Rattle.std.proofs.lemmas.Int.{ints}
use Rattle.std.proofs.lemmas.Bool.{cases_lt}
use Rattle.std.proofs.lemmas.List.{length-set, get_or-set_same, get_or-set_other}
use Rattle.opl_domain.specs.Family.{member, is_outside, outside, IsLeast, IsGreatest, IsNext}
use Rattle.opl_domain.proofs.Members.{from_filter, member_first, member_later}
use Rattle.std.specs.List.{filter}
use Rattle.std.proofs.lemmas.Bool.Decides.{nat_tests}
use Rattle.opl_store.specs.declared.shape.Shape.{Shape}
use Rattle.opl_trail.specs.Gone.{is_gone, IsFirstLeft, IsLastLeft, GoBetween, ChangesWhereLeft, is_between}
use Rattle.opl_store.specs.Stored.{picked, low_gone, high_gone, between_ends, set_in, IsSet, IsReady, PlaceOf, TouchesOnly, Narrows, blocks_of}
use Rattle.opl_store.proofs.Picked.{in_picked, from_picked, picked_outside, picked_tail, picked_front, picked_same}
use Rattle.opl_trail.proofs.Words.{same_gone, between, not_between}

-- offset k of a value that is left
pub record IsOffset (words : List ℕ) (x : ℕ) (s : Shape) (u : ℤ) : Type 0 where
  pub offset : ℕ
  pub low : low_gone (slice_index words x) ≤ offset
  pub high : offset + high_gone (slice_index words x) < s.size
  pub is_left : is_gone words (s.first * 64 + offset) ≡ false
  pub value : u ≡ s.least +ℤ pos offset

pub from_set : (words : List ℕ) (x : ℕ) (s : Shape) (u : ℤ) → member u (set_in words x s) ≡ true → IsOffset words x s u
unfolding set_in
from_set words x s u h =
    let lo : ℕ = low_gone (slice_index words x) in
    let hi : ℕ = high_gone (slice_index words x) in
    let r = from_picked words (s.first * 64 + lo) (s.least +ℤ pos lo) (between_ends s (slice_index words x)) u h in
    let e : s.first * 64 + lo + r.place ≡ s.first * 64 + (lo + r.place) = omega arith in
    record {
      offset = lo + r.place;
      low = omega arith;
      high = omega (arith, r.within);
      is_left = subst (λ g. is_gone words g ≡ false) e r.is_left;
      value = omega (arith, ints, r.value);
    }

pub in_set : (words : List ℕ) (x : ℕ) (s : Shape) (k : ℕ) → low_gone (slice_index words x) ≤ k → k + high_gone (slice_index words x) < s.size → is_gone words (s.first * 64 + k) ≡ false → member (s.least +ℤ pos k) (set_in words x s) ≡ true
unfolding set_in
in_set words x s k a b h =
    let lo : ℕ = low_gone (slice_index words x) in
    let e : s.first * 64 + k ≡ s.first * 64 + lo + (k - lo) = omega arith in
    let f : s.least +ℤ pos lo +ℤ pos (k - lo) ≡ s.least +ℤ pos k = omega (arith, ints) in
    subst (λ u. member u (picked words (s.first * 64 + lo) (s.least +ℤ pos lo) (between_ends s (slice_index words x))) ≡ true) f
    (in_picked words (s.first * 64 + lo) (s.least +ℤ pos lo) (between_ends s (slice_index words x)) (k - lo) (omega arith) (subst (λ g. is_gone words g ≡ false) e h))

pub least_in : (words : List ℕ) (x : ℕ) (s : Shape) → IsSet words x s → IsLeast (set_in words x s) (s.least +ℤ pos (low_gone (slice_index words x)))
least_in words x s i = record {
  among = in_set words x s (low_gone (slice_index words x)) (omega arith) i.order i.low;
  least = λ w m. let o = from_set words x s w m in omega (arith, ints, o.value, o.low);
}

pub greatest_in : (words : List ℕ) (x : ℕ) (s : Shape) → IsSet words x s → IsGreatest (set_in words x s) (s.least +ℤ pos (s.size - 1 - high_gone (slice_index words x)))
greatest_in words x s i = record {
  among = in_set words x s (s.size - 1 - high_gone (slice_index words x)) (omega (arith, i.order)) (omega (arith, i.order)) i.high;
  most = λ w m. let o = from_set words x s w m in omega (arith, ints, o.value, o.high, i.order);
}

pub one_least : (xs : List ℤ) (v w : ℤ) → IsLeast xs v → IsLeast xs w → v ≡ w
one_least xs v w a b = let p = a.least w b.among in let q = b.least v a.among in omega (arith, ints)

pub one_greatest : (xs : List ℤ) (v w : ℤ) → IsGreatest xs v → IsGreatest xs w → v ≡ w
one_greatest xs v w a b = let p = a.most w b.among in let q = b.most v a.among in omega (arith, ints)

-- a value between the ends, and its place
pub record IsInner (words : List ℕ) (x : ℕ) (s : Shape) (v : ℤ) (g : ℕ) : Type 0 where
  pub offset : ℕ
  pub place : g ≡ s.first * 64 + offset
  pub value : v ≡ s.least +ℤ pos offset
  pub low : low_gone (slice_index words x) ≤ offset
  pub high : offset + high_gone (slice_index words x) < s.size

pub inner_of : (words : List ℕ) (x : ℕ) (s : Shape) (l h v : ℤ) (g : ℕ) → IsSet words x s → IsLeast (set_in words x s) l → IsGreatest (set_in words x s) h → l ≤ℤ v → v ≤ℤ h → PlaceOf s v g → IsInner words x s v g
inner_of words x s l h v g i a b p q o =
    let e = one_least (set_in words x s) l _ a (least_in words x s i) in
    let f = one_greatest (set_in words x s) h _ b (greatest_in words x s i) in
    let k : ℕ = g - s.first * 64 in
    let gk : g ≡ s.first * 64 + k = omega (arith, o.0) in
    let vk : v ≡ s.least +ℤ pos k = omega (arith, ints, o.1, gk) in
    record {
      offset = k;
      place = gk;
      value = vk;
      low = omega (arith, ints, vk, e, p);
      high = omega (arith, ints, vk, f, q, i.order);
    }

-- whether such a value is in the set
pub inner_member : (words : List ℕ) (x : ℕ) (s : Shape) (v : ℤ) (g : ℕ) → IsInner words x s v g → not (is_gone words g) ≡ member v (set_in words x s)
inner_member words x s v g n =
    elim (is_gone words g) as (λ b. is_gone words g ≡ b → not b ≡ member v (set_in words x s)) [
      | true ↦ λ e. elim (member v (set_in words x s)) as (λ b. member v (set_in words x s) ≡ b → false ≡ b) [
        | true ↦ λ m. absurd (
            let o = from_set words x s v m in
            let k : o.offset ≡ n.offset = omega (arith, ints, o.value, n.value) in
            let d = subst (λ j. is_gone words (s.first * 64 + j) ≡ false) k o.is_left in
            let t = subst (λ j. is_gone words j ≡ true) n.place e in
            cc)
        | false ↦ λ m. refl
      ] refl
      | false ↦ λ e. sym (subst (λ u. member u (set_in words x s) ≡ true) (sym n.value) (in_set words x s n.offset n.low n.high (subst (λ j. is_gone words j ≡ false) n.place e)))
    ] refl

pub below_none : (xs : List ℤ) (l v : ℤ) → IsLeast xs l → v <ℤ l → false ≡ member v xs
below_none xs l v a h = elim (member v xs) as (λ b. member v xs ≡ b → false ≡ b) [ true ↦ λ m. absurd (let k = a.least v m in omega (arith, ints)) | false ↦ λ m. refl ] refl

pub above_none : (xs : List ℤ) (h v : ℤ) → IsGreatest xs h → h <ℤ v → false ≡ member v xs
above_none xs h v a l = elim (member v xs) as (λ b. member v xs ≡ b → false ≡ b) [ true ↦ λ m. absurd (let k = a.most v m in omega (arith, ints)) | false ↦ λ m. refl ] refl

-- ---- the next value

pub next_low : (xs : List ℤ) (l after : ℤ) → IsLeast xs l → after <ℤ l → IsNext xs after (Some l)
next_low xs l after a h = record { among = a.among; above = h; least = λ w m k. a.least w m }

pub next_high : (xs : List ℤ) (h after : ℤ) → IsGreatest xs h → h ≤ℤ after → IsNext xs after None
next_high xs h after a l w m = let k = a.most w m in omega (arith, ints)

pub next_inner : (words : List ℕ) (x : ℕ) (s : Shape) (after v : ℤ) (g r : ℕ) → IsInner words x s after g → IsFirstLeft words (g + 1) r → PlaceOf s v r → r + high_gone (slice_index words x) < s.first * 64 + s.size → IsNext (set_in words x s) after (Some v)
next_inner words x s after v g r n f o b =
    let k : ℕ = r - s.first * 64 in
    let rk : r ≡ s.first * 64 + k = omega (arith, o.0) in
    let vk : v ≡ s.least +ℤ pos k = omega (arith, ints, o.1, rk) in
    record {
      among = subst (λ u. member u (set_in words x s) ≡ true) (sym vk) (in_set words x s k (omega (arith, rk, f.behind, n.place, n.low)) (omega (arith, rk, b)) (subst (λ j. is_gone words j ≡ false) rk f.is_left));
      above = omega (arith, ints, vk, n.value, rk, f.behind, n.place);
      least = λ w m h.
          let q = from_set words x s w m in
          let beyond : n.offset < q.offset = omega (arith, ints, q.value, n.value, h) in
          elim (cases_lt q.offset k) [
            | inl l ↦ absurd (let t = f.first (s.first * 64 + q.offset) (omega (arith, n.place, beyond)) (omega (arith, rk, l)) in let u = q.is_left in cc)
            | inr l ↦ omega (arith, ints, vk, q.value, l)
          ];
    }

-- ---- values by their places

pub placed : (s : Shape) (v : ℤ) (k : ℕ) → PlaceOf s v (s.first * 64 + k) → v ≡ s.least +ℤ pos k
placed s v k o = omega (arith, ints, o.1)

pub least_placed : (words : List ℕ) (x : ℕ) (s : Shape) (v : ℤ) (k : ℕ) → IsSet words x s → k ≡ low_gone (slice_index words x) → PlaceOf s v (s.first * 64 + k) → IsLeast (set_in words x s) v
least_placed words x s v k i e o = subst (λ u. IsLeast (set_in words x s) u) (sym (placed s v k o ∙ ap (λ n. s.least +ℤ pos n) e)) (least_in words x s i)

pub greatest_placed : (words : List ℕ) (x : ℕ) (s : Shape) (v : ℤ) (k h : ℕ) → IsSet words x s → h ≡ high_gone (slice_index words x) → k ≡ s.size - 1 - h → PlaceOf s v (s.first * 64 + k) → IsGreatest (set_in words x s) v
greatest_placed words x s v k h i e j o = subst (λ u. IsGreatest (set_in words x s) u) (sym (placed s v k o ∙ ap (λ n. s.least +ℤ pos n) (j ∙ ap (λ n. s.size - 1 - n) e))) (greatest_in words x s i)

-- what the ends tell of the declared values
pub low_declared : (words : List ℕ) (x : ℕ) (s : Shape) (l v : ℤ) → IsSet words x s → IsLeast (set_in words x s) l → l ≤ℤ v → s.least ≤ℤ v
low_declared words x s l v i a h = let e = one_least (set_in words x s) l _ a (least_in words x s i) in omega (arith, ints, e, h)

pub high_declared : (words : List ℕ) (x : ℕ) (s : Shape) (g v : ℤ) → IsSet words x s → IsGreatest (set_in words x s) g → v ≤ℤ g → v <ℤ (s.least +ℤ pos s.size)
high_declared words x s g v i a h = let e = one_greatest (set_in words x s) g _ a (greatest_in words x s i) in omega (arith, ints, e, h, i.order)

-- ---- the ends move

-- the gaps stay as they are when the ends are written
gaps_stay : (words : List ℕ) (x w : ℕ) (s : Shape) (g : ℕ) → x < s.first → s.first * 64 ≤ g → is_gone (set words x w) g ≡ is_gone words g
gaps_stay words x w s g b l = same_gone words (set words x w) g (get_or-set_other words x (g / 64) w 0 (omega (arith, b, l)))

-- a new low end, behind which all values up to hi were
pub low_moves : (words : List ℕ) (x w k : ℕ) (s : Shape) (lo hi : ℤ) → IsReady words x s → low_gone w ≡ k → high_gone w ≡ high_gone (slice_index words x) → low_gone (slice_index words x) ≤ k → k + high_gone (slice_index words x) < s.size →
    ((j : ℕ) → low_gone (slice_index words x) ≤ j → j < k → (is_gone words (s.first * 64 + j) ≡ true) ⊎ (is_outside lo hi (s.least +ℤ pos j) ≡ false)) → ((j : ℕ) → k ≤ j → j + high_gone (slice_index words x) < s.size → is_outside lo hi (s.least +ℤ pos j) ≡ true) →
    set_in (set words x w) x s ≡ outside lo hi (set_in words x s)
unfolding set_in
low_moves words x w k s lo hi r a b c d gone stays =
    let l : ℕ = low_gone (slice_index words x) in
    let h : ℕ = high_gone (slice_index words x) in
    let inside : x < length words = omega (arith, r.behind, r.within, d) in
    let e : slice_index (set words x w) x ≡ w = get_or-set_same words x w 0 inside in
    let g : ℕ = s.first * 64 + l in
    let m : ℕ = k - l in
    let n : ℕ = s.size - h - k in
    let kept = picked_same words (set words x w) (s.first * 64 + k) (s.least +ℤ pos k) n (λ j p q. gaps_stay words x w s j r.behind (omega (arith, p))) in
    let tail = picked_tail words g (s.least +ℤ pos l) lo hi m n
    (λ j p. let i : g + j ≡ s.first * 64 + (l + j) = omega arith in let u : s.least +ℤ pos l +ℤ pos j ≡ s.least +ℤ pos (l + j) = omega (arith, ints) in rw (i, u) (gone (l + j) (omega arith) (omega (arith, p))))
    (λ j p q. let u : s.least +ℤ pos l +ℤ pos j ≡ s.least +ℤ pos (l + j) = omega (arith, ints) in rw u (stays (l + j) (omega (arith, p)) (omega (arith, q, d)))) in
    let i : g + m ≡ s.first * 64 + k = omega (arith, c) in
    let u : s.least +ℤ pos l +ℤ pos m ≡ s.least +ℤ pos k = omega (arith, ints, c) in
    let z : m + n ≡ s.size - h - l = omega (arith, c, d) in
    let moved = rw (i, u, z) at tail in
    rw (e, a, b) (kept ∙ moved)

-- a new high end, behind which all values from lo on were
pub high_moves : (words : List ℕ) (x w m : ℕ) (s : Shape) (lo hi : ℤ) → IsReady words x s → low_gone w ≡ low_gone (slice_index words x) → high_gone w ≡ m → high_gone (slice_index words x) ≤ m → low_gone (slice_index words x) + m < s.size →
    ((j : ℕ) → low_gone (slice_index words x) ≤ j → j + m < s.size → is_outside lo hi (s.least +ℤ pos j) ≡ true) → ((j : ℕ) → s.size ≤ j + m → j + high_gone (slice_index words x) < s.size → (is_gone words (s.first * 64 + j) ≡ true) ⊎ (is_outside lo hi (s.least +ℤ pos j) ≡ false)) →
    set_in (set words x w) x s ≡ outside lo hi (set_in words x s)
unfolding set_in
high_moves words x w m s lo hi r a b c d stays gone =
    let l : ℕ = low_gone (slice_index words x) in
    let h : ℕ = high_gone (slice_index words x) in
    let inside : x < length words = omega (arith, r.behind, r.within, d) in
    let e : slice_index (set words x w) x ≡ w = get_or-set_same words x w 0 inside in
    let g : ℕ = s.first * 64 + l in
    let n : ℕ = s.size - m - l in
    let t : ℕ = m - h in
    let kept = picked_same words (set words x w) g (s.least +ℤ pos l) n (λ j p q. gaps_stay words x w s j r.behind (omega (arith, p))) in
    let front = picked_front words g (s.least +ℤ pos l) lo hi n t
    (λ j p. let u : s.least +ℤ pos l +ℤ pos j ≡ s.least +ℤ pos (l + j) = omega (arith, ints) in rw u (stays (l + j) (omega arith) (omega (arith, p, d))))
    (λ j p q. let i : g + j ≡ s.first * 64 + (l + j) = omega arith in let u : s.least +ℤ pos l +ℤ pos j ≡ s.least +ℤ pos (l + j) = omega (arith, ints) in rw (i, u) (gone (l + j) (omega (arith, p, d)) (omega (arith, q, c, d)))) in
    let z : n + t ≡ s.size - h - l = omega (arith, c, d) in
    let moved = rw z at front in
    rw (e, a, b) (kept ∙ moved)

-- the words of a set that stay narrow nothing
pub narrows_same : (words new : List ℕ) (x : ℕ) (s : Shape) → slice_index new x ≡ slice_index words x → ((k : ℕ) → s.first ≤ k → k < s.first + blocks_of s → slice_index new k ≡ slice_index words k) → Narrows x s words new
narrows_same words new x s e f = record {
  low = rw e (omega arith);
  high = rw e (omega arith);
  gone = λ k l g. same_gone words new (s.first * 64 + k) (f ((s.first * 64 + k) / 64) (omega arith) (omega (arith, l))) ∙ g;
  blocks = λ b l. inl (f (s.first + b) (omega arith) (omega (arith, l)));
}

pub narrows_refl : (words : List ℕ) (x : ℕ) (s : Shape) → Narrows x s words words
narrows_refl words x s = narrows_same words words x s refl (λ k a b. refl)

-- what is lost later was within the ends before
pub narrows_on : (x : ℕ) (s : Shape) (old mid new : List ℕ) → Narrows x s old mid → Narrows x s mid new → Narrows x s old new
narrows_on x s old mid new m n = record {
  low = omega (arith, m.low, n.low);
  high = omega (arith, m.high, n.high);
  gone = λ k l g. n.gone k l (m.gone k l g);
  blocks = λ b l. elim (m.blocks b l) [
    | inr h ↦ inr (record { offset = h.offset; block = h.block; low = h.low; high = h.high; was = h.was; gone = n.gone h.offset (omega (arith, h.block, l)) h.gone })
    | inl e ↦ elim (n.blocks b l) [
      | inl d ↦ inl (d ∙ e)
      | inr h ↦
          let i : slice_index mid ((s.first * 64 + h.offset) / 64) ≡ slice_index old ((s.first * 64 + h.offset) / 64) = subst (λ k. slice_index mid k ≡ slice_index old k) (omega (arith, h.block)) e in
          inr (record {
            offset = h.offset;
            block = h.block;
            low = omega (arith, h.low, m.low);
            high = omega (arith, h.high, m.high);
            was = sym (same_gone old mid (s.first * 64 + h.offset) i) ∙ h.was;
            gone = h.gone;
          })
    ]
  ];
}

-- the ends move inwards
pub narrows_ends : (words : List ℕ) (x w : ℕ) (s : Shape) → IsReady words x s → low_gone (slice_index words x) ≤ low_gone w → high_gone (slice_index words x) ≤ high_gone w → Narrows x s words (set words x w)
narrows_ends words x w s r a b =
    let inside : x < length words = omega (arith, r.behind, r.within, r.set.order) in
    let e : slice_index (set words x w) x ≡ w = get_or-set_same words x w 0 inside in
    record {
      low = rw e a;
      high = rw e b;
      gone = λ k l g. gaps_stay words x w s (s.first * 64 + k) r.behind (omega arith) ∙ g;
      blocks = λ c l. inl (get_or-set_other words x (s.first + c) w 0 (omega (arith, r.behind)));
    }

pub touches : (words : List ℕ) (x w : ℕ) (s : Shape) → TouchesOnly x s words (set words x w)
touches words x w s = record {
  same = length-set words x w;
  words = λ k n h. get_or-set_other words x k w 0 n;
}

pub ready_written : (words : List ℕ) (x w : ℕ) (s : Shape) → IsReady words x s → low_gone w + high_gone w < s.size → is_gone words (s.first * 64 + low_gone w) ≡ false → is_gone words (s.first * 64 + (s.size - 1 - high_gone w)) ≡ false → IsReady (set words x w) x s
ready_written words x w s r o a b =
    let inside : x < length words = omega (arith, r.behind, r.within, o) in
    let e : slice_index (set words x w) x ≡ w = get_or-set_same words x w 0 inside in
    record {
      small = omega (arith, r.small, length-set words x w);
      behind = r.behind;
      within = omega (arith, r.within, length-set words x w);
      few = r.few;
      fits = r.fits;
      set = record {
        order = rw e o;
        low = rw e (gaps_stay words x w s (s.first * 64 + low_gone w) r.behind (omega arith) ∙ a);
        high = rw e (gaps_stay words x w s (s.first * 64 + (s.size - 1 - high_gone w)) r.behind (omega arith) ∙ b);
      };
    }

word_of_ends : (e : ℕ) → e ≡ high_gone e * 2 ^ 32 + low_gone e
unfolding low_gone high_gone
word_of_ends e = omega arith

pub more_low : (e w : ℕ) → w ≡ high_gone e * 2 ^ 32 + low_gone w → low_gone e < low_gone w → e < w
more_low e w h l = let k = word_of_ends e in omega (arith, h, k, l)

pub more_high : (e w : ℕ) → w ≡ high_gone w * 2 ^ 32 + low_gone e → high_gone e < high_gone w → e < w
more_high e w h l = let k = word_of_ends e in omega (arith, h, k, l)

is_out_high : (lo hi v : ℤ) → hi <ℤ v → is_outside lo hi v ≡ true
unfolding is_outside
is_out_high lo hi v h = elim (int_lt v lo) as (λ b. (b || int_lt hi v) ≡ true) [ true ↦ refl | false ↦ grind (arith, ints) ]

is_out_low : (lo hi v : ℤ) → v <ℤ lo → is_outside lo hi v ≡ true
unfolding is_outside
is_out_low lo hi v h = grind (arith, ints)

is_in : (lo hi v : ℤ) → lo ≤ℤ v → v ≤ℤ hi → is_outside lo hi v ≡ false
unfolding is_outside
is_in lo hi v h k = grind (arith, ints)

-- what a cut at the low end needs and leaves
pub record CutsLow (words : List ℕ) (x : ℕ) (s : Shape) (hi : ℤ) (w : ℕ) : Type 0 where
  pub ready : IsReady (set words x w) x s
  pub cuts : (lo : ℤ) → ((v : ℤ) → IsLeast (set_in words x s) v → lo ≤ℤ v) → set_in (set words x w) x s ≡ outside lo hi (set_in words x s)
  pub narrows : Narrows x s words (set words x w)
  pub more : slice_index words x < w

pub cuts_low : (words : List ℕ) (x : ℕ) (s : Shape) (hi top : ℤ) (g h r w : ℕ) → IsReady words x s → ((v : ℤ) → IsLeast (set_in words x s) v → v ≤ℤ hi) → IsGreatest (set_in words x s) top → hi <ℤ top → PlaceOf s hi g → PlaceOf s top h → IsFirstLeft words (g + 1) r →
    low_gone w ≡ r - s.first * 64 → high_gone w ≡ high_gone (slice_index words x) → w ≡ high_gone (slice_index words x) * 2 ^ 32 + low_gone w → CutsLow words x s hi w
cuts_low words x s hi top g h r w i least greatest stays pg ph f a b value =
    let lowest = least_in words x s i.set in
    let under = least (s.least +ℤ pos (low_gone (slice_index words x))) lowest in
    let n = inner_of words x s _ top hi g i.set lowest greatest under (omega (arith, ints, stays)) pg in
    let t = one_greatest (set_in words x s) top _ greatest (greatest_in words x s i.set) in
    let th : h ≡ s.first * 64 + (s.size - 1 - high_gone (slice_index words x)) = omega (arith, ints, t, ph.0, ph.1, i.set.order) in
    let gh : g < h = omega (arith, ints, pg.1, ph.1, stays) in
    let left : is_gone words h ≡ false = subst (λ q. is_gone words q ≡ false) (sym th) i.set.high in
    let rh : r ≤ h = elim (cases_lt h r) [ inl l ↦ absurd (let q = f.first h (omega (arith, gh)) l in cc) | inr l ↦ l ] in
    let k : ℕ = r - s.first * 64 in
    let rk : r ≡ s.first * 64 + k = omega (arith, f.behind, n.place) in
    let order : k + high_gone (slice_index words x) < s.size = omega (arith, rk, rh, th, i.set.order) in
    let lk : low_gone (slice_index words x) < k = omega (arith, rk, f.behind, n.place, n.low) in
    record {
      ready = ready_written words x w s i (omega (arith, a, b, order)) (subst (λ q. is_gone words q ≡ false) (omega (arith, rk, a)) f.is_left) (rw b i.set.high);
      cuts = λ lo below. let lower = below (s.least +ℤ pos (low_gone (slice_index words x))) lowest in
          low_moves words x w k s lo hi i a b (omega (arith, lk)) order
          (λ j p q. elim (cases_lt g (s.first * 64 + j)) [
            | inl l ↦ inl (f.first (s.first * 64 + j) (omega (arith, l)) (omega (arith, rk, q)))
            | inr l ↦ inr (is_in lo hi (s.least +ℤ pos j) (omega (arith, ints, lower, p)) (omega (arith, ints, n.value, n.place, l)))
          ])
          (λ j p q. is_out_high lo hi (s.least +ℤ pos j) (omega (arith, ints, n.value, n.place, rk, f.behind, p)));
      narrows = narrows_ends words x w s i (omega (arith, a, lk)) (omega (arith, b));
      more = more_low (slice_index words x) w value (omega (arith, a, lk));
    }

-- the places of the ends
pub top_place : (words : List ℕ) (x : ℕ) (s : Shape) (top : ℤ) (h : ℕ) → IsReady words x s → IsGreatest (set_in words x s) top → PlaceOf s top h → (h < 64 * length words) × (is_gone words h ≡ false)
top_place words x s top h i greatest ph =
    let t = one_greatest (set_in words x s) top _ greatest (greatest_in words x s i.set) in
    let th : h ≡ s.first * 64 + (s.size - 1 - high_gone (slice_index words x)) = omega (arith, ints, t, ph.0, ph.1, i.set.order) in
    (omega (arith, th, i.within, i.set.order), subst (λ q. is_gone words q ≡ false) (sym th) i.set.high)

pub bottom_place : (words : List ℕ) (x : ℕ) (s : Shape) (bottom : ℤ) (h : ℕ) → IsReady words x s → IsLeast (set_in words x s) bottom → PlaceOf s bottom h → (h < 64 * length words) × (is_gone words h ≡ false)
bottom_place words x s bottom h i least ph =
    let t = one_least (set_in words x s) bottom _ least (least_in words x s i.set) in
    let th : h ≡ s.first * 64 + low_gone (slice_index words x) = omega (arith, ints, t, ph.0, ph.1) in
    (omega (arith, th, i.within, i.set.order), subst (λ q. is_gone words q ≡ false) (sym th) i.set.low)

pub place_order : (s : Shape) (v w : ℤ) (g h : ℕ) → PlaceOf s v g → PlaceOf s w h → v <ℤ w → g < h
place_order s v w g h a b l = omega (arith, ints, a.1, b.1, l)

pub place_small : (s : Shape) (v : ℤ) (g n : ℕ) → PlaceOf s v g → v <ℤ (s.least +ℤ pos s.size) → s.first * 64 + s.size ≤ 64 * n → g < 64 * n
place_small s v g n a l h = omega (arith, ints, a.0, a.1, l, h)

pub first_at_most : (words : List ℕ) (from r h : ℕ) → IsFirstLeft words from r → from ≤ h → is_gone words h ≡ false → r ≤ h
first_at_most words from r h f l e = elim (cases_lt h r) [ inl k ↦ absurd (let q = f.first h l k in cc) | inr k ↦ k ]

pub last_at_least : (words : List ℕ) (to r h : ℕ) → IsLastLeft words to r → h ≤ to → is_gone words h ≡ false → h ≤ r
last_at_least words to r h f l e = elim (cases_lt r h) [ inl k ↦ absurd (let q = f.last h k l in cc) | inr k ↦ k ]

-- what a cut at the high end needs and leaves
pub record CutsHigh (words : List ℕ) (x : ℕ) (s : Shape) (lo : ℤ) (w : ℕ) : Type 0 where
  pub ready : IsReady (set words x w) x s
  pub cuts : (hi : ℤ) → ((v : ℤ) → IsGreatest (set_in words x s) v → v ≤ℤ hi) → set_in (set words x w) x s ≡ outside lo hi (set_in words x s)
  pub narrows : Narrows x s words (set words x w)
  pub more : slice_index words x < w

pub cuts_high : (words : List ℕ) (x : ℕ) (s : Shape) (lo bottom : ℤ) (g h r w : ℕ) → IsReady words x s → ((v : ℤ) → IsGreatest (set_in words x s) v → lo ≤ℤ v) → IsLeast (set_in words x s) bottom → bottom <ℤ lo → PlaceOf s lo g → PlaceOf s bottom h → IsLastLeft words (g - 1) r →
    low_gone w ≡ low_gone (slice_index words x) → high_gone w ≡ s.first * 64 + (s.size - 1) - r → w ≡ high_gone w * 2 ^ 32 + low_gone (slice_index words x) → CutsHigh words x s lo w
cuts_high words x s lo bottom g h r w i greatest least stays pg ph f a b value =
    let highest = greatest_in words x s i.set in
    let over = greatest (s.least +ℤ pos (s.size - 1 - high_gone (slice_index words x))) highest in
    let n = inner_of words x s bottom _ lo g i.set least highest (omega (arith, ints, stays)) over pg in
    let t = one_least (set_in words x s) bottom _ least (least_in words x s i.set) in
    let th : h ≡ s.first * 64 + low_gone (slice_index words x) = omega (arith, ints, t, ph.0, ph.1) in
    let gh : h < g = omega (arith, ints, pg.1, ph.1, stays) in
    let left : is_gone words h ≡ false = subst (λ q. is_gone words q ≡ false) (sym th) i.set.low in
    let rh : h ≤ r = last_at_least words (g - 1) r h f (omega (arith, gh)) left in
    let k : ℕ = r - s.first * 64 in
    let m : ℕ = s.first * 64 + (s.size - 1) - r in
    let rk : r ≡ s.first * 64 + k = omega (arith, rh, th) in
    let rg : r < g = omega (arith, f.before, gh) in
    let km : k + m + 1 ≡ s.size = omega (arith, rk, rg, n.place, n.high) in
    let order : low_gone (slice_index words x) + m < s.size = omega (arith, rk, rh, th, km) in
    let hm : high_gone (slice_index words x) < m = omega (arith, km, rk, rg, n.place, n.high) in
    record {
      ready = ready_written words x w s i (omega (arith, a, b, order)) (rw a i.set.low) (subst (λ q. is_gone words q ≡ false) (omega (arith, rk, km, b)) f.is_left);
      cuts = λ hi above. let upper = above (s.least +ℤ pos (s.size - 1 - high_gone (slice_index words x))) highest in
          high_moves words x w m s lo hi i a b (omega (arith, hm)) order
          (λ j p q. is_out_low lo hi (s.least +ℤ pos j) (omega (arith, ints, n.value, n.place, rk, rg, km, q)))
          (λ j p q. elim (cases_lt (s.first * 64 + j) g) [
            | inl l ↦ inl (f.last (s.first * 64 + j) (omega (arith, rk, km, p)) (omega (arith, l)))
            | inr l ↦ inr (is_in lo hi (s.least +ℤ pos j) (omega (arith, ints, n.value, n.place, l)) (omega (arith, ints, upper, q, i.set.order)))
          ]);
      narrows = narrows_ends words x w s i (omega (arith, a)) (omega (arith, b, hm));
      more = more_high (slice_index words x) w value (omega (arith, b, hm));
    }

pub next_room : (words : List ℕ) (x : ℕ) (s : Shape) (top : ℤ) (h r : ℕ) → IsReady words x s → IsGreatest (set_in words x s) top → PlaceOf s top h → r ≤ h → r + high_gone (slice_index words x) < s.first * 64 + s.size
next_room words x s top h r i greatest ph l =
    let t = one_greatest (set_in words x s) top _ greatest (greatest_in words x s i.set) in
    let th : h ≡ s.first * 64 + (s.size - 1 - high_gone (slice_index words x)) = omega (arith, ints, t, ph.0, ph.1, i.set.order) in
    omega (arith, th, l, i.set.order)

-- ---- a cut between the ends

or_false : (b c : Bool) → c ≡ false → (b || c) ≡ b
or_false b c e = elim b as (λ d. (d || c) ≡ d) [ true ↦ refl | false ↦ e ]

between_is : (s : Shape) (lo hi v : ℤ) (a b q : ℕ) → PlaceOf s lo a → PlaceOf s hi b → PlaceOf s v q → is_between a b q ≡ not (is_outside lo hi v)
unfolding is_outside
between_is s lo hi v a b q pa pb pq = elim (cases_lt q a) [
  | inl l ↦ let k : v <ℤ lo = omega (arith, ints, pa.1, pq.1, l) in let t : int_lt v lo ≡ true = grind (arith, ints) in rw t (not_between a b q (inl l))
  | inr l ↦ let k : lo ≤ℤ v = omega (arith, ints, pa.1, pq.1, l) in let t : int_lt v lo ≡ false = grind (arith, ints) in elim (cases_lt b q) [
    | inl m ↦ let n : hi <ℤ v = omega (arith, ints, pb.1, pq.1, m) in let u : int_lt hi v ≡ true = grind (arith, ints) in rw (t, u) (not_between a b q (inr m))
    | inr m ↦ let n : v ≤ℤ hi = omega (arith, ints, pb.1, pq.1, m) in let u : int_lt hi v ≡ false = grind (arith, ints) in rw (t, u) (grind (arith, nat_tests))
  ]
]

goes : (b c : Bool) → c ≡ true → (b || c) ≡ true
goes b c e = elim b as (λ d. (d || c) ≡ true) [ true ↦ refl | false ↦ e ]

pub record CutsMid (words new : List ℕ) (x : ℕ) (s : Shape) (lo hi : ℤ) : Type 0 where
  pub cut : set_in new x s ≡ outside lo hi (set_in words x s)
  pub ready : IsReady new x s
  pub others : TouchesOnly x s words new
  pub narrows : Narrows x s words new

pub cuts_mid : (words new : List ℕ) (x : ℕ) (s : Shape) (lo hi bottom top : ℤ) (a b : ℕ) → IsReady words x s → IsLeast (set_in words x s) bottom → IsGreatest (set_in words x s) top → bottom <ℤ lo → lo ≤ℤ hi → hi <ℤ top → PlaceOf s lo a → PlaceOf s hi b →
    GoBetween words new a b → ChangesWhereLeft words new a b → length new ≡ length words → ((k : ℕ) → (k < a / 64) ⊎ (b / 64 < k) → slice_index new k ≡ slice_index words k) → CutsMid words new x s lo hi
unfolding set_in
cuts_mid words new x s lo hi bottom top a b i least greatest p q r pa pb gone changes long others =
    let e = one_least (set_in words x s) bottom _ least (least_in words x s i.set) in
    let f = one_greatest (set_in words x s) top _ greatest (greatest_in words x s i.set) in
    let w : slice_index new x ≡ slice_index words x = others x (inl (omega (arith, i.behind, pa.0))) in
    let l : ℕ = low_gone (slice_index words x) in
    let h : ℕ = high_gone (slice_index words x) in
    let la : s.first * 64 + l < a = omega (arith, ints, e, p, pa.0, pa.1) in
    let hb : b < s.first * 64 + (s.size - 1 - h) = omega (arith, ints, f, r, pb.0, pb.1, i.set.order) in
    let stay : (g : ℕ) → (g < a) ⊎ (b < g) → is_gone new g ≡ is_gone words g = λ g z. gone g ∙ or_false (is_gone words g) (is_between a b g) (not_between a b g z) in
    record {
      cut = rw w (picked_outside words new (s.first * 64 + l) (s.least +ℤ pos l) lo hi (s.size - h - l) (λ k z.
          gone (s.first * 64 + l + k) ∙ ap (λ c. is_gone words (s.first * 64 + l + k) || c) (between_is s lo hi (s.least +ℤ pos l +ℤ pos k) a b (s.first * 64 + l + k) pa pb (omega arith, omega (arith, ints)))));
      ready = record {
        small = omega (arith, i.small, long);
        behind = i.behind;
        within = omega (arith, i.within, long);
        few = i.few;
        fits = i.fits;
        set = record {
          order = rw w i.set.order;
          low = rw w (stay (s.first * 64 + l) (inl la) ∙ i.set.low);
          high = rw w (stay (s.first * 64 + (s.size - 1 - h)) (inr hb) ∙ i.set.high);
        };
      };
      others = record {
        same = long;
        words = λ k n z. others k (elim z [ inl u ↦ inl (omega (arith, u, pa.0)) | inr u ↦ inr (omega (arith, u, hb, i.set.order)) ]);
      };
      narrows = record {
        low = rw w (omega arith);
        high = rw w (omega arith);
        gone = λ k m g. gone (s.first * 64 + k) ∙ ap (λ c. c || is_between a b (s.first * 64 + k)) g;
        blocks = λ c m. elim (changes (s.first + c)) [
          | inl e ↦ inl e
          | inr v ↦
              let o : ℕ = v.place - s.first * 64 in
              let g : v.place ≡ s.first * 64 + o = omega (arith, la, v.from) in
              inr (record {
                offset = o;
                block = omega (arith, g, v.word);
                low = omega (arith, g, la, v.from);
                high = omega (arith, g, hb, v.to);
                was = subst (λ k. is_gone words k ≡ false) g v.is_left;
                gone = gone (s.first * 64 + o) ∙ goes (is_gone words (s.first * 64 + o)) (is_between a b (s.first * 64 + o)) (subst (λ k. is_between a b k ≡ true) g (between a b v.place v.from v.to));
              })
        ];
      };
    }

below_or : (v w : ℤ) → (w <ℤ v) ⊎ (v ≤ℤ w)
below_or v w = elim (int_lt w v) as (λ b. int_lt w v ≡ b → (w <ℤ v) ⊎ (v ≤ℤ w)) [ true ↦ λ e. inl (grind (arith, ints)) | false ↦ λ e. inr (grind (arith, ints)) ] refl

-- nothing is cut
all_pass : (t : ℤ → Bool) (vs : List ℤ) → ((u : ℤ) → member u vs ≡ true → t u ≡ true) → vs ≡ filter t vs
all_pass t [] h = refl
all_pass t (v ∷ vs) h = rw (h v (member_first v vs)) (ap (λ us. v ∷ us) (all_pass t vs (λ u m. h u (member_later u v vs m))))

pub cuts_none : (xs : List ℤ) (lo hi bottom top : ℤ) → IsLeast xs bottom → IsGreatest xs top → (hi <ℤ lo) ⊎ ((hi <ℤ bottom) ⊎ (top <ℤ lo)) → xs ≡ outside lo hi xs
cuts_none xs lo hi bottom top least greatest h = all_pass (is_outside lo hi) xs (λ u m.
    let p = least.least u m in
    let q = greatest.most u m in
    elim h [
      | inl l ↦ elim (below_or lo u) [ inl k ↦ is_out_low lo hi u k | inr k ↦ is_out_high lo hi u (omega (arith, ints, l, k)) ]
      | inr o ↦ elim o [ inl l ↦ is_out_high lo hi u (omega (arith, ints, l, p)) | inr l ↦ is_out_low lo hi u (omega (arith, ints, l, q)) ]
    ])

-- one value stays, so that not all from the least to the greatest go
pub stays_high : (xs : List ℤ) (lo hi bottom top : ℤ) → IsLeast xs bottom → IsGreatest xs top → lo ≤ℤ bottom → (v : ℤ) → member v (outside lo hi xs) ≡ true → hi <ℤ top
stays_high xs lo hi bottom top least greatest l v m =
    let r = from_filter (is_outside lo hi) xs v m in
    let p = least.least v r.0 in
    let q = greatest.most v r.0 in
    elim (below_or v hi) [ inl k ↦ omega (arith, ints, q, k) | inr k ↦ absurd (let t = is_in lo hi v (omega (arith, ints, l, p)) k in let u = r.1 in cc) ]
