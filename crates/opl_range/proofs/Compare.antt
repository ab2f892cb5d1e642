-- The ranges of comparisons, as the code makes them.
use Rattle.std.proofs.Common.{◌≡◌, ℕ, zero, suc, ◌+◌, ◌≤◌, Bool, true, false, cond, ◌&&◌, refl, length, ℤ, pos, ◌+ℤ◌, ◌*ℤ◌, neg_ℤ, ◌≤ℤ◌, ap, sym, ◌∙◌, subst, arith}
use Rattle.std.specs.Prelude.{unsigned_abs, not, Option, Some, None, int_le, int_lt}
use Rattle.std.specs.Ordering.{int_eq}
use Rattle.std.proofs.lemmas.Int.{ints}
use Rattle.std.proofs.lemmas.Bool.Decides.{Decides-int_eq}
use Rattle.opl_domain.specs.Span.{Span, magnitude, point, is_point}
use Rattle.opl_domain.specs.Arithmetic.{span_add, span_neg}
use Rattle.opl_domain.specs.Family.{Family, Full, set_of, hull, Below}
use Rattle.opl_domain.proofs.Numbers.{smaller_left, larger_left}
use Rattle.opl_expr.specs.declared.model.Core.{Core}
use Rattle.opl_expr.specs.declared.forms.Expr.{Expr}
use Rattle.opl_expr.specs.declared.forms.Expr.TheVariants as E
use Rattle.opl_expr.specs.Forms.{Term, Fact}
use Rattle.opl_expr.specs.Forms.Relation.{equal, at_most, below}
use Rattle.opl_expr.specs.Options.{lift, lift1}
use Rattle.opl_expr.specs.Range.{verdict, span_scale, weighted, with_variables, is_one_or_two, has_zero, misses_zero, never_zero, compare, coef, pure, rest, ends, may_be, is_possible, flip, fact_range, is_refuted}
use Rattle.opl_expr.specs.Solutions.{declared}
use Rattle.opl_expr.specs.Sound.{IsSmall, term_magnitude, IsSoundTerm}
use Rattle.opl_expr.proofs.Bounds.{lift1_parts, sound_small}
use Rattle.opl_expr.proofs.Comparisons.{weighted_ordered, any_found, in_hull}
use Rattle.opl_expr.proofs.Inside.{scale_holds}
use Rattle.opl_expr.proofs.Plain.{term_Const}
use Rattle.opl_range.specs.Magnitudes.{IsTruth}
use Rattle.opl_range.specs.Between.{term_of, between, is_pure_between, rest_between, CanCompare}
use Rattle.opl_range.proofs.Bounds.{neg_bound}
use Rattle.opl_range.proofs.Weights.{hulls_small, rest_bound, fact_truth}

-- ---- a form whose interval is [0,0] has a zero

scale_ordered : (k : ℤ) (a : Span) → (span_scale k a).low ≤ℤ (span_scale k a).high
unfolding span_scale
scale_ordered k a = omega (arith, ints, smaller_left (k *ℤ a.low) (k *ℤ a.high), larger_left (k *ℤ a.low) (k *ℤ a.high))

add_low : (a b : Span) → (span_add a b).low ≡ a.low +ℤ b.low
unfolding span_add
add_low a b = refl

add_high : (a b : Span) → (span_add a b).high ≡ a.high +ℤ b.high
unfolding span_add
add_high a b = refl

zero_found : (F : Family) → Full F → (c : ℕ → ℤ) (k : ℤ) (n : ℕ) → n ≤ length F → k +ℤ (weighted F c n).low ≡ pos 0 → k +ℤ (weighted F c n).high ≡ pos 0 → has_zero F c k n ≡ true
zero_found F f c k zero h l u = let z : k ≡ pos 0 = omega (arith, ints, l) in (Decides-int_eq k (pos 0)).1 z
zero_found F f c k (suc n) h l u =
    let w = f n (omega arith) in
    let t = scale_holds (c n) (hull F n) w.0 (in_hull F n w.0 w.1) in
    let o = weighted_ordered F c n in
    let p = scale_ordered (c n) (hull F n) in
    let lo = add_low (weighted F c n) (span_scale (c n) (hull F n)) in
    let hi = add_high (weighted F c n) (span_scale (c n) (hull F n)) in
    any_found (λ v. has_zero F c (k +ℤ (c n *ℤ v)) n) (set_of F n) w.0 w.1
    (zero_found F f c (k +ℤ (c n *ℤ w.0)) n (omega arith) (omega (arith, ints, l, u, t.least, t.most, o, p, lo, hi)) (omega (arith, ints, l, u, t.least, t.most, o, p, lo, hi)))

zero_ends : (a : Span) → is_point (pos 0) a ≡ true → (a.low ≡ pos 0) × (a.high ≡ pos 0)
zero_ends a e = elim (int_eq a.low (pos 0)) as (λ b. int_eq a.low (pos 0) ≡ b → cond b (int_eq a.high (pos 0)) false ≡ true → (a.low ≡ pos 0) × (a.high ≡ pos 0)) [
  | true ↦ λ f g. ((Decides-int_eq a.low (pos 0)).0 f, (Decides-int_eq a.high (pos 0)).0 g)
  | false ↦ λ f g. cc
] refl e

zero_hit : (a : Span) → a.low ≡ pos 0 → a.high ≡ pos 0 → misses_zero a ≡ false
zero_hit a e f = rw (e, f) refl

pub zero_apart : (F : Family) → Full F → (c : ℕ → ℤ) (p : Bool) (r d : Span) → r.low ≤ℤ r.high → d ≡ with_variables F c (length F) r → is_point (pos 0) d ≡ true → never_zero F c (length F) p r ≡ false
unfolding never_zero with_variables
zero_apart F f c p r d o i e =
    let z = zero_ends (span_add r (weighted F c (length F))) (subst (λ a. is_point (pos 0) a ≡ true) i e) in
    let w = weighted_ordered F c (length F) in
    let lo = add_low r (weighted F c (length F)) in
    let hi = add_high r (weighted F c (length F)) in
    let h = zero_found F f c r.low (length F) (omega arith) (omega (arith, ints, z.0, z.1, o, w, lo, hi)) (omega (arith, ints, z.0, z.1, o, w, lo, hi)) in
    elim (p && is_one_or_two c (length F)) as (λ b. cond b (cond (has_zero F c r.low (length F)) false true) (misses_zero (span_add r (weighted F c (length F)))) ≡ false) [
      | true ↦ rw h refl
      | false ↦ zero_hit (span_add r (weighted F c (length F))) z.0 z.1
    ]

-- ---- comparisons

pub equal_is : (F : Family) (core : Core) (a b : Expr) (r d v : Span) (s n : Bool) → Some r ≡ rest_between F core a b → d ≡ with_variables F (between core a b) (length F) r → s ≡ is_point (pos 0) d
    → n ≡ never_zero F (between core a b) (length F) (is_pure_between core a b) r → v ≡ verdict s n → Some v ≡ fact_range F (Fact.cmp equal (term_of core a) (term_of core b))
unfolding between compare
equal_is F core a b r d v s n e i j k l =
    ap Some (l ∙ ap (λ z. verdict z n) (j ∙ ap (is_point (pos 0)) i) ∙ ap (verdict (is_point (pos 0) (with_variables F (between core a b) (length F) r))) k)
    ∙ ap (lift1 (compare equal F (between core a b) (length F) (is_pure_between core a b))) e

surely_refuted : (s n : Bool) → (s ≡ true → n ≡ false) → s ≡ cond (is_possible (lift1 flip (Some (verdict s n)))) false true
unfolding flip
surely_refuted true true h = let f = h refl in cc
surely_refuted true false h = refl
surely_refuted false true h = refl
surely_refuted false false h = refl

pub equal_refuted : (F : Family) → Full F → (core : Core) (a b : Expr) (r d : Span) (s : Bool) → r.low ≤ℤ r.high → Some r ≡ rest_between F core a b → d ≡ with_variables F (between core a b) (length F) r → s ≡ is_point (pos 0) d
    → s ≡ is_refuted F (Fact.not (Fact.cmp equal (term_of core a) (term_of core b)))
equal_refuted F f core a b r d s o e i j =
    let n = never_zero F (between core a b) (length F) (is_pure_between core a b) r in
    surely_refuted s n (λ t. zero_apart F f (between core a b) (is_pure_between core a b) r d o i (sym j ∙ t))
    ∙ ap (λ v. cond (is_possible (lift1 flip v)) false true) (equal_is F core a b r d (verdict s n) s n e i j refl refl)

pub missing_refuted : (F : Family) (core : Core) (a b : Expr) → None ≡ rest_between F core a b → true ≡ is_refuted F (Fact.not (Fact.cmp equal (term_of core a) (term_of core b)))
unfolding between
missing_refuted F core a b e = ap (λ o. cond (is_possible (lift1 flip (lift1 (compare equal F (between core a b) (length F) (is_pure_between core a b)) o))) false true) e

unless : (b : Bool) → not b ≡ cond b false true
unless true = refl
unless false = refl

pub refuted_by : (F : Family) (c : Fact) (o : Option Span) (p : Bool) → o ≡ fact_range F c → p ≡ is_possible o → not p ≡ is_refuted F c
refuted_by F c o p e f = ap not (f ∙ ap is_possible e) ∙ unless (is_possible (fact_range F c))

pub at_most_is : (F : Family) (core : Core) (a b : Expr) (r d v : Span) → Some r ≡ rest_between F core a b → d ≡ with_variables F (between core a b) (length F) r → v ≡ verdict (int_le d.high (pos 0)) (int_lt (pos 0) d.low)
    → Some v ≡ fact_range F (Fact.cmp at_most (term_of core a) (term_of core b))
unfolding between compare
at_most_is F core a b r d v e i l =
    ap Some (l ∙ ap (λ z. verdict (int_le z.high (pos 0)) (int_lt (pos 0) z.low)) i) ∙ ap (lift1 (compare at_most F (between core a b) (length F) (is_pure_between core a b))) e

pub below_is : (F : Family) (core : Core) (a b : Expr) (r d v : Span) → Some r ≡ rest_between F core a b → d ≡ with_variables F (between core a b) (length F) r → v ≡ verdict (int_lt d.high (pos 0)) (int_le (pos 0) d.low)
    → Some v ≡ fact_range F (Fact.cmp below (term_of core a) (term_of core b))
unfolding between compare
below_is F core a b r d v e i l =
    ap Some (l ∙ ap (λ z. verdict (int_lt z.high (pos 0)) (int_le (pos 0) z.low)) i) ∙ ap (lift1 (compare below F (between core a b) (length F) (is_pure_between core a b))) e

pub rest_small : (core : Core) (F : Family) (t : Term) (r : Option Span) (u : Span) → Below F (declared core) → r ≡ rest F t → r ≡ Some u → magnitude u ≤ term_magnitude core.sets t
rest_small core F t r u w e i = omega (arith, rest_bound core.sets F (hulls_small core F w) t u (sym e ∙ i))

pub negative_fits : (core : Core) (F : Family) (a b : Expr) (r : Option Span) → Below F (declared core) → CanCompare core a b → r ≡ rest F (term_of core b) → (u : Span) → r ≡ Some u → IsSmall (magnitude u)
negative_fits core F a b r w s e u i = omega (arith, s.0, rest_small core F (term_of core b) r u w e i)

pub difference_fits : (core : Core) (F : Family) (a b : Expr) (r q p : Option Span) → Below F (declared core) → CanCompare core a b → r ≡ rest F (term_of core a) → q ≡ rest F (term_of core b) → p ≡ lift1 span_neg q
    → (u v : Span) → r ≡ Some u → p ≡ Some v → IsSmall (magnitude u + magnitude v)
difference_fits core F a b r q p w s e f g u v i j =
    let t = lift1_parts span_neg q v (sym g ∙ j) in
    let n = subst (λ z. magnitude z ≤ magnitude t.0) (sym t.2) (neg_bound t.0) in
    omega (arith, s.0, rest_small core F (term_of core a) r u w e i, rest_small core F (term_of core b) q t.0 w f t.1, n)

pub opposite_is : (F : Family) (c : Fact) (r : Option Span) → r ≡ fact_range F c → (u : Span) → r ≡ Some u → IsTruth u
opposite_is F c r e u i = fact_truth F c u (sym e ∙ i)

-- ---- an expression beside a number

pub with_number : (core : Core) (a b : Expr) (i : ℤ) → IsSoundTerm core.sets (term_of core a) → IsSmall (term_magnitude core.sets (term_of core a) + unsigned_abs i) → b ≡ E.Const i → CanCompare core a b
with_number core a b i s m e =
    let t = ap (term_of core) e ∙ term_Const core.tables core.resources i in
    subst (λ z. IsSmall (term_magnitude core.sets (term_of core a) + term_magnitude core.sets z) × IsSoundTerm core.sets (term_of core a) × IsSoundTerm core.sets z) (sym t)
    (m, s, omega (arith, m))

pub with_zero : (core : Core) (a b : Expr) → IsSoundTerm core.sets (term_of core a) → b ≡ E.Const (pos 0) → CanCompare core a b
with_zero core a b s e = with_number core a b (pos 0) s (omega (arith, sound_small core.sets (term_of core a) s)) e

nothing_less : (r : Span) → span_add r (span_neg (point (pos 0))) ≡ r
unfolding span_add span_neg
nothing_less r = same r (omega (arith, ints)) (omega (arith, ints))
  where
    same : (r : Span) {l h : ℤ} → l ≡ r.low → h ≡ r.high → record { low = l; high = h } ≡ r
    same r p q = rw (p, q) refl

pub rest_of_number : (F : Family) (core : Core) (b : Expr) (i : ℤ) → b ≡ E.Const i → Some (point i) ≡ rest F (term_of core b)
rest_of_number F core b i e = sym (ap (λ z. rest F (term_of core z)) e ∙ ap (rest F) (term_Const core.tables core.resources i))

pub rest_less_zero : (F : Family) (core : Core) (a b : Expr) (r : Span) → Some r ≡ rest F (term_of core a) → b ≡ E.Const (pos 0) → Some r ≡ rest_between F core a b
rest_less_zero F core a b r e f =
    ap Some (sym (nothing_less r)) ∙ ap (λ o. lift span_add o (Some (span_neg (point (pos 0))))) e ∙ ap (λ o. lift span_add (rest F (term_of core a)) (lift1 span_neg o)) (rest_of_number F core b (pos 0) f)

weighted_same : (F : Family) (c d : ℕ → ℤ) (n : ℕ) → ((x : ℕ) → c x ≡ d x) → weighted F c n ≡ weighted F d n
weighted_same F c d zero h = refl
weighted_same F c d (suc n) h = rw (weighted_same F c d n h, h n) refl

between_zero : (core : Core) (a b : Expr) (x : ℕ) → b ≡ E.Const (pos 0) → between core a b x ≡ coef (term_of core a) x
unfolding between
between_zero core a b x e =
    ap (λ z. coef (term_of core a) x +ℤ neg_ℤ (coef z x)) (ap (term_of core) e ∙ term_Const core.tables core.resources (pos 0)) ∙ less_nothing (coef (term_of core a) x)
  where
    less_nothing : (k : ℤ) → k +ℤ neg_ℤ (pos 0) ≡ k
    less_nothing k = omega (arith, ints)

pub ends_are : (F : Family) (core : Core) (a b : Expr) (r d : Span) → b ≡ E.Const (pos 0) → d ≡ with_variables F (between core a b) (length F) r → Some d ≡ ends F (term_of core a) (Some r)
unfolding with_variables
ends_are F core a b r d e i = ap Some (i ∙ ap (span_add r) (weighted_same F (between core a b) (coef (term_of core a)) (length F) (λ x. between_zero core a b x e)))

pub may_be_is : (F : Family) (core : Core) (a b : Expr) (i : ℤ) (r : Option Span) (q : Bool) → b ≡ E.Const i → r ≡ fact_range F (Fact.cmp equal (term_of core a) (term_of core b)) → q ≡ is_possible r
    → q ≡ may_be F (record { coef = coef (term_of core a); pure = pure (term_of core a); rest = rest F (term_of core a) }) i
may_be_is F core a b i r q e f g =
    g ∙ ap is_possible (f ∙ ap (λ t. fact_range F (Fact.cmp equal (term_of core a) t)) (ap (term_of core) e ∙ term_Const core.tables core.resources i))
