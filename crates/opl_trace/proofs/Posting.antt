-- What posting a constraint does to the closure.
use Rattle.std.proofs.Common.{◌≡◌, ◌∙◌, ℕ, zero, suc, ◌<◌, ◌≤◌, Bool, true, false, cond, refl, List, [], ◌∷◌, ◌++◌, length, ℤ, pos, ◌+ℤ◌, ◌*ℤ◌, neg_ℤ, inl, inr, ap, sym, subst, arith}
use Rattle.std.specs.Prelude.{nat_eq, int_lt, int_le, Option, Some, None}
use Rattle.std.specs.List.{list_any}
use Rattle.std.specs.Ordering.{int_eq}
use Rattle.std.proofs.lemmas.Int.{ints}
use Rattle.std.proofs.lemmas.Bool.{cases_eq, eq-eqb, ne_eqb}
use Rattle.std.proofs.lemmas.Bool.Decides.{Decides-int_eq}
use Rattle.opl_domain.specs.Span.{Span, IsWithin, point, is_point, hull_of, smaller, larger}
use Rattle.opl_domain.specs.Arithmetic.{span_add, span_neg}
use Rattle.opl_domain.specs.Family.{Family, set_of, hull, only}
use Rattle.opl_domain.proofs.Sets.{only_here, length-only}
use Rattle.opl_domain.proofs.Members.{between_is}
use Rattle.opl_expr.specs.Forms.{Fact}
use Rattle.opl_expr.specs.Range.{span_scale, weighted, with_variables, is_one_or_two, has_zero, misses_zero, never_zero, compare, is_refuted}
use Rattle.opl_expr.proofs.Inside.{scale_holds}
use Rattle.opl_expr.proofs.Comparisons.{from_any, in_hull}
use Rattle.opl_trace.specs.Stable.{IsStable, IsStableWithin}
use Rattle.opl_trace.specs.ClosureLaws.{ClosesTo}
use Rattle.opl_trace.specs.Answers.{is_value}
use Rattle.opl_trace.specs.Objective.{Objective, bound}
use Rattle.opl_trace.specs.Run.{is_dead, closed}
use Rattle.opl_trace.specs.SearchLaws.{IsWider, PostingNarrows, PostedIsSingle}
use Rattle.opl_trace.proofs.Passing.{false_unless, any_left, any_right, from_any_append, or_left, or_right}
use Rattle.opl_trace.proofs.Families.{has_at}
use Rattle.opl_trace.proofs.StableFamilies.{greatest_from_union}
use Rattle.opl_trace.proofs.Constraints.{dead_monotone, moment_is_closure, point_tells}
use Rattle.opl_trace.proofs.Removals.{lt_or_eq}

-- ---- more constraints

dead_more : (goal : Option Objective) (P Q : List Fact) (b : Option ℤ) (F : Family) → is_dead goal (P ++ Q) b F ≡ false → is_dead goal P b F ≡ false
unfolding is_dead
dead_more goal P Q b F h = false_unless (list_any (is_refuted F) (P ++ bound goal b)) (λ e.
    let k : list_any (is_refuted F) ((P ++ Q) ++ bound goal b) ≡ true = elim (from_any_append (is_refuted F) P (bound goal b) e) [
      | inl i ↦ any_left (is_refuted F) (P ++ Q) (bound goal b) (any_left (is_refuted F) P Q i)
      | inr i ↦ any_right (is_refuted F) (P ++ Q) (bound goal b) i
    ] in
    cc)

pub stable_more : (goal : Option Objective) (P Q : List Fact) (b : Option ℤ) (F : Family) → IsStable (is_dead goal (P ++ Q) b) F → IsStable (is_dead goal P b) F
stable_more goal P Q b F s = record {
  full = s.full;
  spared = dead_more goal P Q b F s.spared;
  each = λ x v h m. dead_more goal P Q b (only F x v) (s.each x v h m);
}

-- the closure is stable
pub closed_stable : (goal : Option Objective) (D : Family) (P : List Fact) (b : Option ℤ) (C : Family) → closed goal D P b ≡ Some C → IsStableWithin (is_dead goal P b) D C
closed_stable goal D P b C e =
    (greatest_from_union (is_dead goal P b) D C (dead_monotone goal P b) (subst (λ o. ClosesTo (is_dead goal P b) D o) e (moment_is_closure goal D P b))).is_stable

pub wider : (goal : Option Objective) (D : Family) (P : List Fact) (b : Option ℤ) (F : Family) (o : Option Family) → ClosesTo (is_dead goal P b) D o → IsStableWithin (is_dead goal P b) D F → IsWider o F
wider goal D P b F None c s = absurd (c F s)
wider goal D P b F (Some C) c s = record { family = C; is = refl; above = (greatest_from_union (is_dead goal P b) D C (dead_monotone goal P b) c).most F s }

pub posting_narrows : PostingNarrows
posting_narrows goal D P Q b C e =
    let s = closed_stable goal D (P ++ Q) b C e in
    wider goal D P b C (closed goal D P b) (moment_is_closure goal D P b) (record { stable = stable_more goal P Q b C s.stable; within = s.within })

-- ---- `x = v` where x has the value w alone

abbrev one_at : ℕ → ℕ → ℤ
one_at x y = cond (nat_eq y x) (pos 1) (pos 0) +ℤ neg_ℤ (pos 0)

abbrev less : ℤ → Span
less v = span_add (point (pos 0)) (span_neg (point v))

pick_same : (b : Bool) (a : ℤ) → cond b a a ≡ a
pick_same true a = refl
pick_same false a = refl

same_point : (a b : ℤ) → a ≡ b → point a ≡ point b
same_point a b e = rw e refl

scale_zero : (a : Span) → span_scale (pos 0) a ≡ point (pos 0)
unfolding span_scale smaller larger
scale_zero a =
    let e : pos 0 *ℤ a.low ≡ pos 0 = omega (arith, ints) in
    let f : pos 0 *ℤ a.high ≡ pos 0 = omega (arith, ints) in
    rw (e, f) refl

scale_one : (w : ℤ) → span_scale (pos 1) (point w) ≡ point w
unfolding span_scale smaller larger
scale_one w =
    let e : pos 1 *ℤ w ≡ w = omega (arith, ints) in
    rw (e, pick_same (int_le w w) w) refl

add_points : (a b : ℤ) → span_add (point a) (point b) ≡ point (a +ℤ b)
unfolding span_add
add_points a b = refl

one_elsewhere : (x y : ℕ) → (y ≡ x → ⊥) → one_at x y ≡ pos 0
one_elsewhere x y h = rw (ne_eqb y x h) refl

one_here : (x y : ℕ) → y ≡ x → one_at x y ≡ pos 1
one_here x y h = rw (eq-eqb y x h) refl

hull_single : (F : Family) (x : ℕ) (w : ℤ) → set_of F x ≡ w ∷ [] → hull F x ≡ point w
unfolding hull hull_of
hull_single F x w e = rw e refl

weighted_before : (F : Family) (x n : ℕ) → n ≤ x → weighted F (one_at x) n ≡ point (pos 0)
weighted_before F x zero h = refl
weighted_before F x (suc n) h =
    rw (one_elsewhere x n (λ e. absurd (omega arith)), weighted_before F x n (omega arith), scale_zero (hull F n)) (add_points (pos 0) (pos 0))

weighted_after : (F : Family) (x : ℕ) (w : ℤ) (n : ℕ) → set_of F x ≡ w ∷ [] → x < n → weighted F (one_at x) n ≡ point w
weighted_after F x w zero e h = absurd (omega arith)
weighted_after F x w (suc n) e h = elim (cases_eq n x) [
  | inl i ↦
      let s : set_of F n ≡ w ∷ [] = subst (λ y. set_of F y ≡ w ∷ []) (sym i) e in
      rw (one_here x n i, weighted_before F x n (omega arith), hull_single F n w s, scale_one w) (add_points (pos 0) w ∙ same_point (pos 0 +ℤ w) w (omega (arith, ints)))
  | inr d ↦
      rw (one_elsewhere x n d, weighted_after F x w n e (omega arith), scale_zero (hull F n)) (add_points w (pos 0) ∙ same_point (w +ℤ pos 0) w (omega (arith, ints)))
]

less_is : (v : ℤ) → less v ≡ point (pos 0 +ℤ neg_ℤ v)
unfolding span_add span_neg
less_is v = refl

-- the interval of x less v
difference : (F : Family) (x : ℕ) (v w : ℤ) (n : ℕ) → set_of F x ≡ w ∷ [] → x < n → with_variables F (one_at x) n (less v) ≡ point ((pos 0 +ℤ neg_ℤ v) +ℤ w)
unfolding with_variables
difference F x v w n e h = rw (weighted_after F x w n e h, less_is v) (add_points (pos 0 +ℤ neg_ℤ v) w)

-- ---- values that make zero

add_within : (x y z : ℤ) (a b : Span) → IsWithin x a → IsWithin y b → z ≡ x +ℤ y → IsWithin z (span_add a b)
unfolding span_add
add_within x y z a b i j e = record { least = omega (arith, ints, i.least, j.least, e); most = omega (arith, ints, i.most, j.most, e) }

less_more : (k t : ℤ) → neg_ℤ k ≡ neg_ℤ (k +ℤ t) +ℤ t
less_more k t = omega (arith, ints)

zero_within : (F : Family) (c : ℕ → ℤ) (k : ℤ) (n : ℕ) → has_zero F c k n ≡ true → IsWithin (neg_ℤ k) (weighted F c n)
zero_within F c k zero h = let e = (Decides-int_eq k (pos 0)).0 h in record { least = omega (arith, ints, e); most = omega (arith, ints, e) }
zero_within F c k (suc n) h =
    let r = from_any (λ v. has_zero F c (k +ℤ (c n *ℤ v)) n) (set_of F n) h in
    add_within (neg_ℤ (k +ℤ (c n *ℤ r.0))) (c n *ℤ r.0) (neg_ℤ k) (weighted F c n) (span_scale (c n) (hull F n))
    (zero_within F c (k +ℤ (c n *ℤ r.0)) n r.2) (scale_holds (c n) (hull F n) r.0 (in_hull F n r.0 r.1)) (less_more k (c n *ℤ r.0))

no_zero : (F : Family) (x : ℕ) (v w : ℤ) (n : ℕ) → set_of F x ≡ w ∷ [] → x < n → (w ≡ v → ⊥) → has_zero F (one_at x) (less v).low n ≡ false
no_zero F x v w n e h d = false_unless (has_zero F (one_at x) (less v).low n) (λ i.
    let z = subst (λ a. IsWithin (neg_ℤ (less v).low) a) (weighted_after F x w n e h) (zero_within F (one_at x) (less v).low n i) in
    let l : (less v).low ≡ pos 0 +ℤ neg_ℤ v = ap (λ a. a.low) (less_is v) in
    d (between_is w v (omega (arith, ints, z.least, z.most, l)) (omega (arith, ints, z.least, z.most, l))))

misses_point : (z : ℤ) → (z ≡ pos 0 → ⊥) → misses_zero (point z) ≡ true
misses_point z h = elim (lt_or_eq (pos 0) z) [
  | inl l ↦ let e : int_lt z (pos 0) ≡ true = grind (arith, ints) in or_right (int_lt (pos 0) z) (int_lt z (pos 0)) e
  | inr o ↦ elim o [ inl e ↦ absurd (h e) | inr l ↦ let e : int_lt (pos 0) z ≡ true = grind (arith, ints) in or_left (int_lt (pos 0) z) (int_lt z (pos 0)) e ]
]

never_equal : (F : Family) (x : ℕ) (v w : ℤ) (n : ℕ) → set_of F x ≡ w ∷ [] → x < n → (w ≡ v → ⊥) → never_zero F (one_at x) n true (less v) ≡ true
unfolding never_zero
never_equal F x v w n e h d =
    elim (is_one_or_two (one_at x) n) as (λ b. cond b (cond (has_zero F (one_at x) (less v).low n) false true) (misses_zero (with_variables F (one_at x) n (less v))) ≡ true) [
      | true ↦ rw (no_zero F x v w n e h d) refl
      | false ↦ rw (difference F x v w n e h) (misses_point ((pos 0 +ℤ neg_ℤ v) +ℤ w) (λ i. d (between_is w v (omega (arith, ints, i)) (omega (arith, ints, i)))))
    ]

not_point : (z : ℤ) → (z ≡ pos 0 → ⊥) → is_point (pos 0) (point z) ≡ false
not_point z h = false_unless (is_point (pos 0) (point z)) (λ e. h (point_tells (pos 0) (point z) e).low_is)

other_refuted : (F : Family) (x : ℕ) (v w : ℤ) → set_of F x ≡ w ∷ [] → x < length F → (w ≡ v → ⊥) → is_refuted F (is_value x v) ≡ true
unfolding compare
other_refuted F x v w e h d =
    rw (
      difference F x v w (length F) e h,
      not_point ((pos 0 +ℤ neg_ℤ v) +ℤ w) (λ i. d (between_is w v (omega (arith, ints, i)) (omega (arith, ints, i)))),
      never_equal F x v w (length F) e h d,
    ) refl

-- a family whose test spares a list refutes no constraint of it
member_spared : (goal : Option Objective) (P : List Fact) (c : Fact) (b : Option ℤ) (F : Family) → is_refuted F c ≡ true → is_dead goal (P ++ c ∷ []) b F ≡ true
unfolding is_dead
member_spared goal P c b F h = any_left (is_refuted F) (P ++ c ∷ []) (bound goal b) (any_right (is_refuted F) P (c ∷ []) (or_left (is_refuted F c) false h))

same_unless : (w v : ℤ) → ((w ≡ v → ⊥) → ⊥) → w ≡ v
same_unless w v h = elim (int_eq w v) as (λ b. int_eq w v ≡ b → w ≡ v) [
  | true ↦ λ e. (Decides-int_eq w v).0 e
  | false ↦ λ e. absurd (h (λ i. let k = (Decides-int_eq w v).1 i in cc))
] refl

pub posted_is_single : PostedIsSingle
posted_is_single goal D P b x v w C e m =
    let s = (closed_stable goal D (P ++ is_value x v ∷ []) b C e).stable in
    let l = has_at C x w m in
    same_unless w v (λ d.
    let k = member_spared goal P (is_value x v) b (only C x w) (other_refuted (only C x w) x v w (only_here C x w l) (omega (arith, length-only C x w)) d) in
    let i = s.each x w l m in
    cc)
