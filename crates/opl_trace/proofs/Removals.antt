-- Removing dead values, one after another, leads to the closure.
use Rattle.std.proofs.Common.{◌≡◌, ◌∙◌, ℕ, zero, suc, ◌<◌, ◌⊎◌, Bool, true, false, cond, ◌&&◌, ◌||◌, refl, List, [], ◌∷◌, length, ℤ, ◌≤ℤ◌, ◌<ℤ◌, inl, inr, ap, sym, subst, arith}
use Rattle.std.specs.Prelude.{int_lt, Some, None}
use Rattle.std.specs.List.{list_any}
use Rattle.std.specs.Ordering.{int_eq}
use Rattle.std.proofs.lemmas.Int.{ints}
use Rattle.std.proofs.lemmas.Bool.Decides.{Decides-int_eq}
use Rattle.opl_domain.specs.Family.{member, Family, IsRising, IsFamily, IsLeast, IsLeastAbove, is_outside, outside, set_of, has, only, cut_of, Below}
use Rattle.opl_domain.proofs.Members.{member_cases, member_first, member_later, member_filter}
use Rattle.opl_domain.proofs.Sets.{cut_here}
use Rattle.opl_trace.specs.Stable.{IsMonotone, IsStable}
use Rattle.opl_trace.specs.Closure.{families, is_stable, is_in_stable, restrict, closure}
use Rattle.opl_trace.specs.Removals.{IsDeadValue, DeadValue, DeadPair, Kept}
use Rattle.opl_trace.specs.Sweeps.{size}
use Rattle.opl_trace.proofs.Families.{has_at, only_full, only_below_only, has_restrict, length-restrict, restrict_below}
use Rattle.opl_trace.proofs.StableFamilies.{greatest_from_union}
use Rattle.opl_trace.proofs.Closures.{any_stable, union_is}
use Rattle.opl_trace.proofs.SweepLaws.{IsPart, part_is, filter_all, restrict_all, restrict_twice, restrict_smaller, restrict_same, is_less}

-- the values of x below v, which is one of its values, aren't dead
pub record Passed (dead : Family → Bool) (F : Family) (x : ℕ) (v : ℤ) : Type 0 where
  pub value : has F x v ≡ true
  pub before : (w : ℤ) → has F x w ≡ true → w <ℤ v → dead (only F x w) ≡ false

pub passed_first : (dead : Family → Bool) (F : Family) (x : ℕ) (v : ℤ) → IsLeast (set_of F x) v → Passed dead F x v
passed_first dead F x v l = record { value = l.among; before = λ w m h. absurd (omega (arith, ints, l.least w m)) }

pub lt_or_eq : (v w : ℤ) → (w <ℤ v) ⊎ ((w ≡ v) ⊎ (v <ℤ w))
lt_or_eq v w =
    elim (int_lt w v) as (λ b. int_lt w v ≡ b → (w <ℤ v) ⊎ ((w ≡ v) ⊎ (v <ℤ w))) [
      | true ↦ λ e. inl (grind (arith, ints))
      | false ↦ λ e. elim (int_eq w v) as (λ b. int_eq w v ≡ b → (w <ℤ v) ⊎ ((w ≡ v) ⊎ (v <ℤ w))) [
        | true ↦ λ d. inr (inl ((Decides-int_eq w v).0 d))
        | false ↦ λ d. inr (inr (grind (arith, ints, Decides-int_eq)))
      ] refl
    ] refl

pub passed_next : (dead : Family → Bool) (F : Family) (x : ℕ) (v u : ℤ) → Passed dead F x v → dead (only F x v) ≡ false → IsLeastAbove (set_of F x) v u → Passed dead F x u
passed_next dead F x v u p d l = record {
  value = l.among;
  before = λ w m h. elim (lt_or_eq v w) [
    | inl k ↦ p.before w m k
    | inr o ↦ elim o [ inl e ↦ subst (λ y. dead (only F x y) ≡ false) (sym e) d | inr k ↦ absurd (omega (arith, ints, l.least w m k)) ]
  ];
}

pub passed_all : (dead : Family → Bool) (F : Family) (x : ℕ) (v : ℤ) → Passed dead F x v → dead (only F x v) ≡ false → ((w : ℤ) → has F x w ≡ true → w ≤ℤ v) → DeadValue dead F x None
passed_all dead F x v p d l w m = elim (lt_or_eq v w) [
  | inl k ↦ p.before w m k
  | inr o ↦ elim o [ inl e ↦ subst (λ y. dead (only F x y) ≡ false) (sym e) d | inr k ↦ absurd (omega (arith, ints, l w m)) ]
]

pub kept_self : (dead : Family → Bool) (D : Family) → Kept dead D D
kept_self dead D = record { keeps = λ x v. true; is_kept = sym (restrict_all D); above = λ G s b. b }

-- ---- the closure

-- where no family is stable, the closure has failed
pub none_closed : (dead : Family → Bool) (D : Family) → IsMonotone dead → ((G : Family) → IsStable dead G → Below G D → ⊥) → None ≡ closure dead D
unfolding closure
none_closed dead D m h =
    elim (list_any (is_stable dead) (families D)) as (λ b. list_any (is_stable dead) (families D) ≡ b → None ≡ cond b (Some (restrict (is_in_stable dead D) D)) None) [
      | true ↦ λ e. let u = union_is dead D m e in absurd (h u.family u.is_stable.stable u.is_stable.within)
      | false ↦ λ e. refl
    ] refl

-- a stable family that has been kept is the closure
pub kept_closed : (dead : Family → Bool) (D F : Family) → IsMonotone dead → Kept dead D F → IsStable dead F → Some F ≡ closure dead D
unfolding closure
kept_closed dead D F m k s =
    let below : Below F D = subst (λ G. Below G D) (sym k.is_kept) (restrict_below k.keeps D) in
    let e = any_stable dead D F m (record { stable = s; within = below }) in
    let u = greatest_from_union dead D (restrict (is_in_stable dead D) D) m (union_is dead D m e) in
    let p : IsPart dead D F = record { stable = s; keeps = k.keeps; is_kept = k.is_kept } in
    rw e (ap (λ C. Some C) (part_is dead D F m p (k.above (restrict (is_in_stable dead D) D) u.is_stable.stable u.is_stable.within)))

pub stable_kept : (dead : Family → Bool) (F : Family) → dead F ≡ false → IsFamily F → DeadPair dead F None → IsStable dead F
stable_kept dead F d f h = record { full = f.full; spared = d; each = h }

pub dead_fails : (dead : Family → Bool) (D F : Family) → IsMonotone dead → Kept dead D F → dead F ≡ true → None ≡ closure dead D
dead_fails dead D F m k d = none_closed dead D m (λ G s b. let e = m.falls G F s.full (k.above G s b) d in let i = s.spared in cc)

-- ---- the dead value of a variable

-- a value of a stable family isn't dead in a family above it
not_dead : (dead : Family → Bool) (F G : Family) (x : ℕ) (v : ℤ) → IsMonotone dead → IsStable dead G → Below G F → has G x v ≡ true → dead (only F x v) ≡ true → ⊥
not_dead dead F G x v m s b h d =
    let e = m.falls (only G x v) (only F x v) (only_full G x v s.full) (only_below_only G F x v b) d in
    let i = s.each x v (has_at G x v h) h in
    cc

pub one_member : (vs : List ℤ) (v w : ℤ) → length vs ≡ 1 → member v vs ≡ true → member w vs ≡ true → w ≡ v
one_member [] v w e h k = cc
one_member (u ∷ []) v w e h k = elim (member_cases v u [] h) [
  | inl i ↦ elim (member_cases w u [] k) [ inl j ↦ j ∙ sym i | inr n ↦ cc ]
  | inr n ↦ cc
]
one_member (u ∷ u' ∷ vs) v w e h k = absurd (omega arith)

pub single_fails : (dead : Family → Bool) (D F : Family) (x : ℕ) (v : ℤ) → IsMonotone dead → Kept dead D F → IsDeadValue dead F x v → length (set_of F x) ≡ 1 → None ≡ closure dead D
single_fails dead D F x v m k d e = none_closed dead D m (λ G s b.
    let i = k.above G s b in
    let r = s.full x (omega (arith, i.same, d.variable)) in
    let j = one_member (set_of F x) v r.0 e d.value (i.sub x r.0 r.1) in
    not_dead dead F G x v m s i (subst (λ w. has G x w ≡ true) j r.1) d.is_dead)

-- ---- the cut

-- two places are the same
abbrev pub is_place : ℕ → ℕ → Bool
is_place zero zero = true
is_place zero (suc x) = false
is_place (suc y) zero = false
is_place (suc y) (suc x) = is_place y x

pub place_is : (y x : ℕ) → is_place y x ≡ true → y ≡ x
place_is zero zero h = refl
place_is zero (suc x) h = cc
place_is (suc y) zero h = cc
place_is (suc y) (suc x) h = ap suc (place_is y x h)

place_self : (x : ℕ) → is_place x x ≡ true
place_self zero = refl
place_self (suc x) = place_self x

-- a value stays in the cut
abbrev stays : ℕ → ℤ → ℤ → ℕ → ℤ → Bool
stays x lo hi y w = cond (is_place y x) (is_outside lo hi w) true

cut_restrict : (F : Family) (x : ℕ) (lo hi : ℤ) → cut_of F x lo hi ≡ restrict (stays x lo hi) F
unfolding cut_of set_of
cut_restrict [] x lo hi = refl
cut_restrict (vs ∷ F) zero lo hi = ap (λ G. outside lo hi vs ∷ G) (sym (restrict_all F))
cut_restrict (vs ∷ F) (suc x) lo hi = rw (filter_all vs) (ap (λ G. vs ∷ G) (cut_restrict F x lo hi))

or_right_false : (a b : Bool) → b ≡ true → (a || b) ≡ false → ⊥
or_right_false true b e h = cc
or_right_false false b e h = cc

outside_same : (v w : ℤ) → is_outside v v w ≡ false → w ≡ v
unfolding is_outside
outside_same v w h = elim (lt_or_eq v w) [
  | inl k ↦ let e : int_lt w v ≡ true = grind (arith, ints) in cc
  | inr o ↦ elim o [ inl e ↦ e | inr k ↦ let e : int_lt v w ≡ true = grind (arith, ints) in absurd (or_right_false (int_lt w v) (int_lt v w) e h) ]
]

outside_other : (v w : ℤ) → (w ≡ v → ⊥) → is_outside v v w ≡ true
outside_other v w h = elim (is_outside v v w) as (λ b. is_outside v v w ≡ b → b ≡ true) [ true ↦ λ e. refl | false ↦ λ e. absurd (h (outside_same v w e)) ] refl

outside_self : (v : ℤ) → is_outside v v v ≡ false
unfolding is_outside
outside_self v = let e : int_lt v v ≡ false = grind (arith, ints) in rw e refl

kept_above : (dead : Family → Bool) (F G : Family) (x : ℕ) (v : ℤ) → IsMonotone dead → IsDeadValue dead F x v → IsStable dead G → Below G F → Below G (cut_of F x v v)
kept_above dead F G x v m d s b = subst (λ H. Below G H) (sym (cut_restrict F x v v)) (record {
  sub = λ y w h. has_restrict (stays x v v) F y w (b.sub y w h)
      (elim (is_place y x) as (λ c. is_place y x ≡ c → cond c (is_outside v v w) true ≡ true) [
        | true ↦ λ e. outside_other v w (λ i.
            not_dead dead F G x v m s b (subst (λ z. has G z v ≡ true) (place_is y x e) (subst (λ u. has G y u ≡ true) i h)) d.is_dead)
        | false ↦ λ e. refl
      ] refl);
  same = let e = length-restrict (stays x v v) F in let i = b.same in cc;
})

pub kept_cut : (dead : Family → Bool) (D F : Family) (x : ℕ) (v : ℤ) → IsMonotone dead → Kept dead D F → IsDeadValue dead F x v → Kept dead D (cut_of F x v v)
kept_cut dead D F x v m k d = record {
  keeps = λ y w. k.keeps y w && stays x v v y w;
  is_kept = cut_restrict F x v v ∙ (ap (restrict (stays x v v)) k.is_kept ∙ restrict_twice k.keeps (stays x v v) D);
  above = λ G s b. kept_above dead F G x v m d s (k.above G s b);
}

pub cut_smaller : (F : Family) (x : ℕ) (v : ℤ) → has F x v ≡ true → size (cut_of F x v v) < size F
cut_smaller F x v h =
    rw (cut_restrict F x v v) (elim (is_less (size (restrict (stays x v v) F)) (size F) (restrict_smaller (stays x v v) F)) [
      | inl l ↦ l
      | inr e ↦ let k = restrict_same (stays x v v) F x v e h in let j = rw (place_self x, outside_self v) at k in cc
    ])

-- another value of a set with more than one
other_member : (vs : List ℤ) (v : ℤ) → IsRising vs → member v vs ≡ true → (length vs ≡ 1 → ⊥) → (w : ℤ) × (member w vs ≡ true) × (w ≡ v → ⊥)
other_member [] v r h n = cc
other_member (u ∷ []) v r h n = absurd (n (omega arith))
other_member (u ∷ w ∷ vs) v r h n = elim (int_eq v u) as (λ b. int_eq v u ≡ b → (y : ℤ) × (member y (u ∷ w ∷ vs) ≡ true) × (y ≡ v → ⊥)) [
  | true ↦ λ e. (w, member_later w u (w ∷ vs) (member_first w vs), λ i. let j = (Decides-int_eq v u).0 e in absurd (omega (arith, ints, r.0 w (member_first w vs), i, j)))
  | false ↦ λ e. (u, member_first u (w ∷ vs), λ i. let j = (Decides-int_eq v u).1 (sym i) in cc)
] refl

pub other_stays : (F : Family) (x : ℕ) (v : ℤ) → IsFamily F → x < length F → has F x v ≡ true → (length (set_of F x) ≡ 1 → ⊥) → (w : ℤ) × (has (cut_of F x v v) x w ≡ true)
other_stays F x v f l h n =
    let r = other_member (set_of F x) v (f.rising x) h n in
    (r.0, subst (λ vs. member r.0 vs ≡ true) (sym (cut_here F x v v l)) (member_filter (is_outside v v) (set_of F x) r.0 r.1 (outside_other v r.0 r.2)))

pub kept_below : (dead : Family → Bool) (D F : Family) → Kept dead D F → Below F D
kept_below dead D F k = subst (λ G. Below G D) (sym k.is_kept) (restrict_below k.keeps D)
