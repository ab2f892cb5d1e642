-- A comparison over a narrower family has a narrower range.
use Rattle.std.proofs.Common.{◌≡◌, ◌⊎◌, ℕ, zero, suc, ◌≤◌, ◌<◌, Bool, true, false, cond, ◌&&◌, ◌||◌, refl, List, [], ◌∷◌, length, ℤ, pos, ◌+ℤ◌, ◌*ℤ◌, ◌≤ℤ◌, ◌<ℤ◌, ap, sym, ◌∙◌, subst, arith, inl, inr}
use Rattle.std.specs.List.{list_any}
use Rattle.std.specs.Prelude.{int_le, int_lt}
use Rattle.std.specs.Ordering.{int_eq}
use Rattle.std.proofs.lemmas.Int.{ints}
use Rattle.std.proofs.lemmas.Bool.Decides.{Decides-int_eq}
use Rattle.opl_domain.specs.Span.{Span, IsWithin, is_point, least_of, greatest_of, hull_of}
use Rattle.opl_domain.specs.Arithmetic.{span_add}
use Rattle.opl_domain.specs.Family.{Family, member, set_of, has, hull, Sub, Below, Full}
use Rattle.opl_domain.proofs.Numbers.{smaller_left, larger_left}
use Rattle.opl_domain.proofs.Members.{member_cases, member_first, member_later, least_member, least_is, greatest_member, greatest_is}
use Rattle.opl_domain.proofs.Sets.{set_of-past}
use Rattle.opl_expr.specs.Forms.{Relation}
use Rattle.opl_expr.specs.Forms.Relation.{equal, at_most, below}
use Rattle.opl_expr.specs.Range.{same_truth, span_scale, weighted, with_variables, is_one_or_two, has_zero, misses_zero, never_zero, compare}
use Rattle.opl_expr.proofs.Inside.{In, same_in, add_in, scale_in, Keeps, verdict_in, is_point_in, not_two_points, scale_holds}

-- ---- hulls of sets, and their weighted sums

hull_of_part : (xs ys : List ℤ) (v : ℤ) → member v xs ≡ true → ((u : ℤ) → member u xs ≡ true → member u ys ≡ true) → In (hull_of xs) (hull_of ys)
unfolding hull_of
hull_of_part [] ys v m part = cc
hull_of_part (x ∷ xs) [] v m part = let k = part v m in cc
hull_of_part (x ∷ xs) (y ∷ ys) v m part =
    let l = part (least_of x xs) (least_member x xs) in
    let h = part (greatest_of x xs) (greatest_member x xs) in
    record {
      low = record { least = least_is y ys (least_of x xs) l; most = greatest_is y ys (least_of x xs) l };
      high = record { least = least_is y ys (greatest_of x xs) h; most = greatest_is y ys (greatest_of x xs) h };
    }

is_within_list : (x n : ℕ) → (x < n) ⊎ (n ≤ x)
is_within_list x n = grind arith

empty_in : In (hull_of []) (hull_of [])
unfolding hull_of
empty_in = same_in (pos 0)

pub hull_in : (F G : Family) → Full F → Below F G → (x : ℕ) → In (hull F x) (hull G x)
unfolding hull
hull_in F G f b x = elim (is_within_list x (length F)) [
  | inl h ↦ let w = f x h in hull_of_part (set_of F x) (set_of G x) w.0 w.1 (λ u m. b.sub x u m)
  | inr h ↦ subst (λ vs. In (hull_of vs) (hull_of (set_of G x))) (sym (set_of-past F x h))
      (subst (λ vs. In (hull_of []) (hull_of vs)) (sym (set_of-past G x (omega (arith, b.same)))) empty_in)
]

pub weighted_in : (F G : Family) → Full F → Below F G → (c : ℕ → ℤ) (n : ℕ) → In (weighted F c n) (weighted G c n)
weighted_in F G f b c zero = same_in (pos 0)
weighted_in F G f b c (suc n) = add_in (weighted F c n) (weighted G c n) (span_scale (c n) (hull F n)) (span_scale (c n) (hull G n)) (weighted_in F G f b c n) (scale_in (c n) (hull F n) (hull G n) (hull_in F G f b n))

pub variables_in : (F G : Family) → Full F → Below F G → (c : ℕ → ℤ) (n : ℕ) (r r' : Span) → In r r' → In (with_variables F c n r) (with_variables G c n r')
unfolding with_variables
variables_in F G f b c n r r' p = add_in r r' (weighted F c n) (weighted G c n) p (weighted_in F G f b c n)

-- ---- the ends of weighted sums are in order

list_ordered : (xs : List ℤ) → (hull_of xs).low ≤ℤ (hull_of xs).high
unfolding hull_of
list_ordered [] = omega (arith, ints)
list_ordered (v ∷ xs) = greatest_is v xs (least_of v xs) (least_member v xs)

hull_ordered : (F : Family) (x : ℕ) → (hull F x).low ≤ℤ (hull F x).high
unfolding hull
hull_ordered F x = list_ordered (set_of F x)

scale_ordered : (k : ℤ) (a : Span) → (span_scale k a).low ≤ℤ (span_scale k a).high
unfolding span_scale
scale_ordered k a = omega (arith, ints, smaller_left (k *ℤ a.low) (k *ℤ a.high), larger_left (k *ℤ a.low) (k *ℤ a.high))

add_low : (a b : Span) → (span_add a b).low ≡ a.low +ℤ b.low
unfolding span_add
add_low a b = refl

add_high : (a b : Span) → (span_add a b).high ≡ a.high +ℤ b.high
unfolding span_add
add_high a b = refl

pub weighted_ordered : (F : Family) (c : ℕ → ℤ) (n : ℕ) → (weighted F c n).low ≤ℤ (weighted F c n).high
weighted_ordered F c zero = omega (arith, ints)
weighted_ordered F c (suc n) =
    omega (arith, ints, weighted_ordered F c n, scale_ordered (c n) (hull F n), add_low (weighted F c n) (span_scale (c n) (hull F n)), add_high (weighted F c n) (span_scale (c n) (hull F n)))

-- ---- values that make a form zero

pub any_found : (p : ℤ → Bool) (xs : List ℤ) (v : ℤ) → member v xs ≡ true → p v ≡ true → list_any p xs ≡ true
any_found p [] v m e = cc
any_found p (x ∷ xs) v m e = elim (member_cases v x xs m) [
  | inl s ↦ rw (sym (ap p s) ∙ e) refl
  | inr k ↦ elim (p x) as (λ b. (b || list_any p xs) ≡ true) [ true ↦ refl | false ↦ any_found p xs v k e ]
]

pub from_any : (p : ℤ → Bool) (xs : List ℤ) → list_any p xs ≡ true → (v : ℤ) × (member v xs ≡ true) × (p v ≡ true)
from_any p [] e = cc
from_any p (x ∷ xs) e = elim (p x) as (λ b. p x ≡ b → (b || list_any p xs) ≡ true → (v : ℤ) × (member v (x ∷ xs) ≡ true) × (p v ≡ true)) [
  | true ↦ λ f k. (x, member_first x xs, f)
  | false ↦ λ f k. let r = from_any p xs k in (r.0, member_later r.0 x xs r.1, r.2)
] refl e

zero_part : (F G : Family) → Sub F G → (c : ℕ → ℤ) (k : ℤ) (n : ℕ) → has_zero F c k n ≡ true → has_zero G c k n ≡ true
zero_part F G s c k zero e = e
zero_part F G s c k (suc n) e =
    let r = from_any (λ v. has_zero F c (k +ℤ (c n *ℤ v)) n) (set_of F n) e in
    any_found (λ v. has_zero G c (k +ℤ (c n *ℤ v)) n) (set_of G n) r.0 (s n r.0 r.1) (zero_part F G s c (k +ℤ (c n *ℤ r.0)) n r.2)

list_hull : (xs : List ℤ) (v : ℤ) → member v xs ≡ true → IsWithin v (hull_of xs)
unfolding hull_of
list_hull [] v m = cc
list_hull (x ∷ xs) v m = record { least = least_is x xs v m; most = greatest_is x xs v m }

-- a number of a set lies in its hull
pub in_hull : (F : Family) (x : ℕ) (v : ℤ) → has F x v ≡ true → IsWithin v (hull F x)
unfolding hull
in_hull F x v m = list_hull (set_of F x) v m

-- if k plus the interval of a form is [0,0], any values make k plus the form zero
zero_found : (F : Family) → Full F → (c : ℕ → ℤ) (k : ℤ) (n : ℕ) → n ≤ length F → k +ℤ (weighted F c n).low ≡ pos 0 → k +ℤ (weighted F c n).high ≡ pos 0 → has_zero F c k n ≡ true
zero_found F f c k zero h l u = let z : k ≡ pos 0 = omega (arith, ints, l) in (Decides-int_eq k (pos 0)).1 z
zero_found F f c k (suc n) h l u =
    let w = f n (omega arith) in
    let t = scale_holds (c n) (hull F n) w.0 (in_hull F n w.0 w.1) in
    let o = weighted_ordered F c n in
    let p = scale_ordered (c n) (hull F n) in
    let lo = add_low (weighted F c n) (span_scale (c n) (hull F n)) in
    let hi = add_high (weighted F c n) (span_scale (c n) (hull F n)) in
    any_found (λ v. has_zero F c (k +ℤ (c n *ℤ v)) n) (set_of F n) w.0 w.1
    (zero_found F f c (k +ℤ (c n *ℤ w.0)) n (omega arith) (omega (arith, ints, l, u, t.least, t.most, o, p, lo, hi)) (omega (arith, ints, l, u, t.least, t.most, o, p, lo, hi)))

-- ---- the parts of a verdict

pub keeps_of : (s n s' n' : Bool) → (s' ≡ true → s ≡ true) → (n' ≡ true → n ≡ true) → (s ≡ true → n ≡ false) → Keeps s n s' n'
keeps_of s n s' n' p q r = record { sure = p; never = q; apart = λ e. r (p e); apart' = λ e. not_true n' (λ f. let a = q f in let b = r e in cc) }
  where
    not_true : (b : Bool) → (b ≡ true → ⊥) → b ≡ false
    not_true true h = absurd (h refl)
    not_true false h = refl

zero_ends : (a : Span) → is_point (pos 0) a ≡ true → (a.low ≡ pos 0) × (a.high ≡ pos 0)
zero_ends a e = elim (int_eq a.low (pos 0)) as (λ b. int_eq a.low (pos 0) ≡ b → cond b (int_eq a.high (pos 0)) false ≡ true → (a.low ≡ pos 0) × (a.high ≡ pos 0)) [
  | true ↦ λ f g. ((Decides-int_eq a.low (pos 0)).0 f, (Decides-int_eq a.high (pos 0)).0 g)
  | false ↦ λ f g. cc
] refl e

-- what a linear form without other parts has as its rest: one number
pub record IsFixed (p : Bool) (r r' : Span) : Type 0 where
  pub same : p ≡ true → r ≡ r'
  pub single : p ≡ true → r.low ≡ r.high

missed_part : (a a' : Span) → In a a' → misses_zero a' ≡ true → misses_zero a ≡ true
missed_part a a' p e = let l = p.low.least in let h = p.high.most in let m = p.low.most in let k = p.high.least in grind (arith, ints)

zero_not_missed : (a : Span) → is_point (pos 0) a ≡ true → misses_zero a ≡ false
zero_not_missed a e = let z = zero_ends a e in rw (z.0, z.1) refl

flipped : (b : Bool) → cond b false true ≡ true → b ≡ false
flipped true e = cc
flipped false e = refl

to_flipped : (b : Bool) → b ≡ false → cond b false true ≡ true
to_flipped b e = rw e refl

never_part : (F G : Family) → Full F → Below F G → (c : ℕ → ℤ) (n : ℕ) (p : Bool) (r r' : Span) → In r r' → IsFixed p r r' → never_zero G c n p r' ≡ true → never_zero F c n p r ≡ true
unfolding never_zero
never_part F G f b c n false r r' i x e = missed_part (with_variables F c n r) (with_variables G c n r') (variables_in F G f b c n r r' i) e
never_part F G f b c n true r r' i x e = elim (is_one_or_two c n) as (λ t. cond t (cond (has_zero G c r'.low n) false true) (misses_zero (with_variables G c n r')) ≡ true → cond t (cond (has_zero F c r.low n) false true) (misses_zero (with_variables F c n r)) ≡ true) [
  | true ↦ λ k. to_flipped (has_zero F c r.low n) (none (has_zero F c r.low n) refl k)
  | false ↦ λ k. missed_part (with_variables F c n r) (with_variables G c n r') (variables_in F G f b c n r r' i) k
] e
  where
    none : (t : Bool) → has_zero F c r.low n ≡ t → cond (has_zero G c r'.low n) false true ≡ true → t ≡ false
    none true e k =
        let z = zero_part F G b.sub c r.low n e in
        let z' = subst (λ s. has_zero G c s.low n ≡ true) (x.same refl) z in
        let w = flipped (has_zero G c r'.low n) k in cc
    none false e k = refl

sure_ends : (F : Family) (c : ℕ → ℤ) (n : ℕ) (r : Span) → is_point (pos 0) (with_variables F c n r) ≡ true → (r.low +ℤ (weighted F c n).low ≡ pos 0) × (r.high +ℤ (weighted F c n).high ≡ pos 0)
unfolding with_variables span_add
sure_ends F c n r e = zero_ends (span_add r (weighted F c n)) e

sure_not_never : (F : Family) → Full F → (c : ℕ → ℤ) (p : Bool) (r : Span) → (p ≡ true → r.low ≡ r.high) → is_point (pos 0) (with_variables F c (length F) r) ≡ true → never_zero F c (length F) p r ≡ false
unfolding never_zero
sure_not_never F f c false r x e = zero_not_missed (with_variables F c (length F) r) e
sure_not_never F f c true r x e = elim (is_one_or_two c (length F)) as (λ t. cond t (cond (has_zero F c r.low (length F)) false true) (misses_zero (with_variables F c (length F) r)) ≡ false) [
  | true ↦ rw found refl
  | false ↦ zero_not_missed (with_variables F c (length F) r) e
]
  where
    found : has_zero F c r.low (length F) ≡ true
    found =
        let ends = sure_ends F c (length F) r e in
        zero_found F f c r.low (length F) (omega arith) ends.0 (ap (λ v. v +ℤ (weighted F c (length F)).high) (x refl) ∙ ends.1)

-- ---- comparisons

lt_test : (v w : ℤ) → int_lt v w ≡ true → v <ℤ w
lt_test v w e = grind (arith, ints)

at_most_keeps : (d d' : Span) → In d d' → Keeps (int_le d.high (pos 0)) (int_lt (pos 0) d.low) (int_le d'.high (pos 0)) (int_lt (pos 0) d'.low)
at_most_keeps d d' i =
    let a = i.low.least in let b = i.low.most in let c = i.high.least in let e = i.high.most in
    record { sure = λ k. grind (arith, ints); never = λ k. grind (arith, ints); apart = λ k. grind (arith, ints); apart' = λ k. grind (arith, ints) }

below_keeps : (d d' : Span) → In d d' → Keeps (int_lt d.high (pos 0)) (int_le (pos 0) d.low) (int_lt d'.high (pos 0)) (int_le (pos 0) d'.low)
below_keeps d d' i =
    let a = i.low.least in let b = i.low.most in let c = i.high.least in let e = i.high.most in
    record { sure = λ k. grind (arith, ints); never = λ k. grind (arith, ints); apart = λ k. grind (arith, ints); apart' = λ k. grind (arith, ints) }

pub compare_in : (rel : Relation) (F G : Family) → Full F → Below F G → (c : ℕ → ℤ) (p : Bool) (r r' : Span) → In r r' → IsFixed p r r' → In (compare rel F c (length F) p r) (compare rel G c (length F) p r')
unfolding compare
compare_in equal F G f b c p r r' i x =
    let d = variables_in F G f b c (length F) r r' i in
    verdict_in _ _ _ _ (keeps_of (is_point (pos 0) (with_variables F c (length F) r)) (never_zero F c (length F) p r) (is_point (pos 0) (with_variables G c (length F) r')) (never_zero G c (length F) p r')
    (is_point_in (pos 0) (with_variables F c (length F) r) (with_variables G c (length F) r') d) (never_part F G f b c (length F) p r r' i x) (sure_not_never F f c p r x.single))
compare_in at_most F G f b c p r r' i x =
    verdict_in _ _ _ _ (at_most_keeps (with_variables F c (length F) r) (with_variables G c (length F) r') (variables_in F G f b c (length F) r r' i))
compare_in below F G f b c p r r' i x =
    verdict_in _ _ _ _ (below_keeps (with_variables F c (length F) r) (with_variables G c (length F) r') (variables_in F G f b c (length F) r r' i))

-- ---- equal truths

both : (x y : Bool) → (x && y) ≡ true → (x ≡ true) × (y ≡ true)
both true true e = (refl, refl)
both true false e = cc
both false y e = cc

either : (x y : Bool) → (x || y) ≡ true → (x ≡ true) ⊎ (y ≡ true)
either true y e = inl refl
either false y e = inr e

and_true : (x y : Bool) → x ≡ true → y ≡ true → (x && y) ≡ true
and_true x y e f = rw (e, f) refl

or_left : (x y : Bool) → x ≡ true → (x || y) ≡ true
or_left x y e = rw e refl

or_right : (x y : Bool) → y ≡ true → (x || y) ≡ true
or_right true y e = refl
or_right false y e = e

pairs_kept : (a b c d a' b' c' d' : Bool) → (a' ≡ true → a ≡ true) → (b' ≡ true → b ≡ true) → (c' ≡ true → c ≡ true) → (d' ≡ true → d ≡ true) → ((a' && b') || (c' && d')) ≡ true → ((a && b) || (c && d)) ≡ true
pairs_kept a b c d a' b' c' d' p q r s e = elim (either (a' && b') (c' && d') e) [
  | inl k ↦ let w = both a' b' k in or_left (a && b) (c && d) (and_true a b (p w.0) (q w.1))
  | inr k ↦ let w = both c' d' k in or_right (a && b) (c && d) (and_true c d (r w.0) (s w.1))
]

pub same_truth_in : (a a' b b' : Span) → In a a' → In b b' → In (same_truth a b) (same_truth a' b')
unfolding same_truth
same_truth_in a a' b b' p q =
    let one = pos 1 in let nil = pos 0 in
    verdict_in _ _ _ _ (keeps_of
    ((is_point one a && is_point one b) || (is_point nil a && is_point nil b)) ((is_point one a && is_point nil b) || (is_point nil a && is_point one b))
    ((is_point one a' && is_point one b') || (is_point nil a' && is_point nil b')) ((is_point one a' && is_point nil b') || (is_point nil a' && is_point one b'))
    (pairs_kept (is_point one a) (is_point one b) (is_point nil a) (is_point nil b) (is_point one a') (is_point one b') (is_point nil a') (is_point nil b')
    (is_point_in one a a' p) (is_point_in one b b' q) (is_point_in nil a a' p) (is_point_in nil b b' q))
    (pairs_kept (is_point one a) (is_point nil b) (is_point nil a) (is_point one b) (is_point one a') (is_point nil b') (is_point nil a') (is_point one b')
    (is_point_in one a a' p) (is_point_in nil b b' q) (is_point_in nil a a' p) (is_point_in one b b' q))
    (apart (is_point one a) (is_point nil a) (is_point one b) (is_point nil b) (not_two_points a) (not_two_points b)))
  where
    apart : (a1 a0 b1 b0 : Bool) → (a0 ≡ true → a1 ≡ false) → (b0 ≡ true → b1 ≡ false) → ((a1 && b1) || (a0 && b0)) ≡ true → ((a1 && b0) || (a0 && b1)) ≡ false
    apart true true b1 b0 p q e = let k = p refl in cc
    apart true false true true p q e = let k = q refl in cc
    apart true false true false p q e = refl
    apart true false false b0 p q e = cc
    apart false true true true p q e = let k = q refl in cc
    apart false true true false p q e = cc
    apart false true false b0 p q e = refl
    apart false false b1 b0 p q e = cc
