-- No range leaves the magnitude of its expression.
use Rattle.std.proofs.Common.{◌≡◌, ◌≢◌, ◌⊎◌, ℕ, zero, suc, ◌+◌, ◌*◌, ◌≤◌, max, Bool, true, false, cond, refl, List, [], ◌∷◌, ◌++◌, map, length, ℤ, pos, ◌+ℤ◌, ◌*ℤ◌, neg_ℤ, ◌≤ℤ◌, ap, sym, ◌∙◌, subst, arith, inl, inr}
use Rattle.std.specs.Prelude.{int_le, unsigned_abs, slice_index_or, Option, Some, None, nat_eq}
use Rattle.std.proofs.Math.Nat.{mul-le-mul_left, mul-le-mul_right, mul-add, add-mul, mul_assoc}
use Rattle.std.proofs.lemmas.Int.{ints, unsigned_abs-mul}
use Rattle.std.proofs.lemmas.Bool.Decides.{Decides-eqb}
use Rattle.opl_domain.specs.Span.{Span, magnitude, point, smaller, larger, values}
use Rattle.opl_domain.specs.Arithmetic.{span_add, span_neg, span_mul, span_div, span_rem, span_abs, span_min, span_max, span_hull}
use Rattle.opl_domain.specs.Family.{Family, member, set_of, has, hull, Below}
use Rattle.opl_domain.proofs.Members.{from_values}
use Rattle.opl_expr.specs.declared.model.Core.{Core}
use Rattle.opl_expr.specs.declared.tables.Cell.{Cell}
use Rattle.opl_expr.specs.declared.tables.Cell.TheVariants as cell
use Rattle.opl_expr.specs.Forms.{Relation, Term, Terms, Fact, Facts}
use Rattle.opl_expr.specs.Forms.Relation.{equal}
use Rattle.opl_expr.specs.Options.{lift1, bind1, lift_all, lift_some, combined, joined}
use Rattle.opl_expr.specs.Range.{verdict, flip, same_truth, span_scale, weighted, with_variables, range_of_linear, Linear, compare, compare_of, minus, taken, chosen, masks, cell_range, pairwise, defined_range, differ_range, coef, coefs, pure, may_be, rest, linears, fact_range, fact_ranges, range}
use Rattle.opl_expr.specs.Solutions.{declared}
use Rattle.opl_expr.specs.Sound.{set_magnitude, var_magnitude, cell_magnitude, cells_magnitude, term_magnitude, sum_magnitude, greatest_magnitude}
use Rattle.opl_expr.proofs.Bounds.{lift1_parts, lift_parts, bind_parts, sets_of}
use Rattle.opl_range.specs.Magnitudes.{weight, IsTruth, RangesAreSmall}
use Rattle.opl_range.proofs.Bounds.{add_bound, neg_bound, min_bound, max_bound, hull_bound, scale_bound, list_bound, mul_bound, div_bound, abs_bound, rem_bound}

-- ---- the sets of a family below the declared one

within_set : (p : ℤ × ℤ) (sets : List (ℤ × ℤ)) (v : ℤ) → member v (values (record { low = p.0; high = p.1 })) ≡ true → unsigned_abs v ≤ set_magnitude sets p
within_set p sets v m =
    let w = from_values (record { low = p.0; high = p.1 }) v m in
    elim (int_le p.0 p.1) as (λ b. int_le p.0 p.1 ≡ b → unsigned_abs v ≤ cond b (max 1 (max (unsigned_abs p.0) (unsigned_abs p.1))) 1) [
      | true ↦ λ e. omega (arith, ints, w.least, w.most)
      | false ↦ λ e. let l = w.least in let h = w.most in absurd (not_ordered p.0 p.1 e (omega (arith, ints)))
    ] refl
  where
    not_ordered : (l h : ℤ) → int_le l h ≡ false → l ≤ℤ h → ⊥
    not_ordered l h e o = grind (arith, ints)

in_declared : (sets whole : List (ℤ × ℤ)) (x : ℕ) (v : ℤ) → member v (slice_index_or (sets_of sets) x []) ≡ true → unsigned_abs v ≤ set_magnitude whole (slice_index_or sets x (pos 0, pos 0))
in_declared [] whole x v m = cc
in_declared (p ∷ sets) whole zero v m = within_set p whole v m
in_declared (p ∷ sets) whole (suc x) v m = in_declared sets whole x v m

pub has_declared : (core : Core) (x : ℕ) (v : ℤ) → has (declared core) x v ≡ true → unsigned_abs v ≤ var_magnitude core.sets x
unfolding declared set_of
has_declared core x v m = in_declared core.sets core.sets x v m

abbrev pub HullsSmall : List (ℤ × ℤ) → Family → Type 0
HullsSmall sets F = (x : ℕ) → magnitude (hull F x) ≤ var_magnitude sets x

pub hulls_small : (core : Core) (F : Family) → Below F (declared core) → HullsSmall core.sets F
unfolding hull
hulls_small core F b x = list_bound (set_of F x) (var_magnitude core.sets x) (λ v m. has_declared core x v (b.sub x v m))

-- ---- weights of coefficients

pub weight_zero : (sets : List (ℤ × ℤ)) (n : ℕ) → weight sets (λ x. pos 0) n ≡ 0
weight_zero sets zero = refl
weight_zero sets (suc n) = omega (arith, weight_zero sets n)

weight_plus : (sets : List (ℤ × ℤ)) (c d : ℕ → ℤ) (n : ℕ) → weight sets (λ x. c x +ℤ d x) n ≤ weight sets c n + weight sets d n
weight_plus sets c d zero = omega arith
weight_plus sets c d (suc n) =
    let s : unsigned_abs (c n +ℤ d n) ≤ unsigned_abs (c n) + unsigned_abs (d n) = omega (arith, ints) in
    omega (arith, weight_plus sets c d n, mul-le-mul_right (var_magnitude sets n) s, add-mul (unsigned_abs (c n)) (unsigned_abs (d n)) (var_magnitude sets n))

pub weight_neg : (sets : List (ℤ × ℤ)) (c : ℕ → ℤ) (n : ℕ) → weight sets (λ x. neg_ℤ (c x)) n ≡ weight sets c n
weight_neg sets c zero = refl
weight_neg sets c (suc n) =
    let s : unsigned_abs (neg_ℤ (c n)) ≡ unsigned_abs (c n) = omega (arith, ints) in
    rw (weight_neg sets c n, s) refl

pub weight_minus : (sets : List (ℤ × ℤ)) (c d : ℕ → ℤ) (n : ℕ) → weight sets (λ x. c x +ℤ neg_ℤ (d x)) n ≤ weight sets c n + weight sets d n
weight_minus sets c d n = omega (arith, weight_plus sets c (λ x. neg_ℤ (d x)) n, weight_neg sets d n)

weight_scale : (sets : List (ℤ × ℤ)) (k : ℤ) (c : ℕ → ℤ) (n : ℕ) → weight sets (λ x. k *ℤ c x) n ≤ unsigned_abs k * weight sets c n
weight_scale sets k c zero = omega arith
weight_scale sets k c (suc n) =
    let m = var_magnitude sets n in
    let s : unsigned_abs (k *ℤ c n) ≡ unsigned_abs k * unsigned_abs (c n) = unsigned_abs-mul k (c n) in
    let t = ap (λ z. z * m) s ∙ mul_assoc (unsigned_abs k) (unsigned_abs (c n)) m in
    let u = mul-add (unsigned_abs k) (weight sets c n) (unsigned_abs (c n) * m) in
    omega (arith, weight_scale sets k c n, t, u)

-- the coefficients of one variable alone
pub one_of : (x y : ℕ) → ((nat_eq x y ≡ true) × (x ≡ y)) ⊎ ((nat_eq x y ≡ false) × (x ≢ y))
one_of x y = elim (nat_eq x y) as (λ b. nat_eq x y ≡ b → ((b ≡ true) × (x ≡ y)) ⊎ ((b ≡ false) × (x ≢ y))) [
  | true ↦ λ e. inl (refl, (Decides-eqb x y).0 e)
  | false ↦ λ e. inr (refl, λ s. let t = (Decides-eqb x y).1 s in cc)
] refl

abbrev pub single : ℕ → ℕ → ℤ
single y x = cond (nat_eq x y) (pos 1) (pos 0)

weight_none : (sets : List (ℤ × ℤ)) (y n : ℕ) → n ≤ y → weight sets (single y) n ≡ 0
weight_none sets y zero h = refl
weight_none sets y (suc n) h = elim (one_of n y) [
  | inl t ↦ absurd (omega (arith, h, t.1))
  | inr t ↦ rw t.0 (omega (arith, weight_none sets y n (omega (arith, h))))
]

weight_one : (sets : List (ℤ × ℤ)) (y n : ℕ) → weight sets (single y) n ≤ var_magnitude sets y
weight_one sets y zero = omega arith
weight_one sets y (suc n) = elim (one_of n y) [
  | inl t ↦ rw t.0 (omega (arith, weight_none sets y n (omega (arith, t.1)), ap (var_magnitude sets) t.1))
  | inr t ↦ rw t.0 (omega (arith, weight_one sets y n))
]

mutual
  pub coef_weight : (sets : List (ℤ × ℤ)) (t : Term) (n : ℕ) → weight sets (coef t) n ≤ term_magnitude sets t
  coef_weight sets (Term.const k) n = omega (arith, weight_zero sets n)
  coef_weight sets (Term.var x) n = weight_one sets x n
  coef_weight sets (Term.sum ts) n = coefs_weight sets ts n
  coef_weight sets (Term.neg t) n = omega (arith, weight_neg sets (coef t) n, coef_weight sets t n)
  coef_weight sets (Term.scale k t) n = omega (arith, weight_scale sets k (coef t) n, mul-le-mul_left (unsigned_abs k) (coef_weight sets t n))
  coef_weight sets (Term.mul s t) n = omega (arith, weight_zero sets n)
  coef_weight sets (Term.div s t) n = omega (arith, weight_zero sets n)
  coef_weight sets (Term.rem s t) n = omega (arith, weight_zero sets n)
  coef_weight sets (Term.abs t) n = omega (arith, weight_zero sets n)
  coef_weight sets (Term.least ts) n = omega (arith, weight_zero sets n)
  coef_weight sets (Term.greatest ts) n = omega (arith, weight_zero sets n)
  coef_weight sets (Term.at table ts) n = omega (arith, weight_zero sets n)
  coef_weight sets (Term.truth c) n = omega (arith, weight_zero sets n)
  coef_weight sets (Term.asked ask x) n = omega (arith, weight_zero sets n)

  pub coefs_weight : (sets : List (ℤ × ℤ)) (ts : Terms) (n : ℕ) → weight sets (coefs ts) n ≤ sum_magnitude sets ts
  coefs_weight sets Terms.no_terms n = omega (arith, weight_zero sets n)
  coefs_weight sets (Terms.more_terms t ts) n = omega (arith, weight_plus sets (coef t) (coefs ts) n, coef_weight sets t n, coefs_weight sets ts n)

-- ---- weighted sums of hulls

pub weighted_bound : (sets : List (ℤ × ℤ)) (F : Family) → HullsSmall sets F → (c : ℕ → ℤ) (n : ℕ) → magnitude (weighted F c n) ≤ weight sets c n
weighted_bound sets F h c zero = omega arith
weighted_bound sets F h c (suc n) =
    omega (
      arith,
      add_bound (weighted F c n) (span_scale (c n) (hull F n)),
      weighted_bound sets F h c n,
      scale_bound (c n) (hull F n),
      mul-le-mul_left (unsigned_abs (c n)) (h n),
    )

pub variables_bound : (sets : List (ℤ × ℤ)) (F : Family) → HullsSmall sets F → (c : ℕ → ℤ) (n : ℕ) (r : Span) → magnitude (with_variables F c n r) ≤ weight sets c n + magnitude r
unfolding with_variables
variables_bound sets F h c n r = omega (arith, add_bound r (weighted F c n), weighted_bound sets F h c n)

-- ---- truths

verdict_truth : (s n : Bool) → IsTruth (verdict s n)
verdict_truth true true = record { low_least = omega (arith, ints); low_most = omega (arith, ints); high_least = omega (arith, ints); high_most = omega (arith, ints) }
verdict_truth true false = record { low_least = omega (arith, ints); low_most = omega (arith, ints); high_least = omega (arith, ints); high_most = omega (arith, ints) }
verdict_truth false true = record { low_least = omega (arith, ints); low_most = omega (arith, ints); high_least = omega (arith, ints); high_most = omega (arith, ints) }
verdict_truth false false = record { low_least = omega (arith, ints); low_most = omega (arith, ints); high_least = omega (arith, ints); high_most = omega (arith, ints) }

compare_truth : (rel : Relation) (F : Family) (c : ℕ → ℤ) (n : ℕ) (p : Bool) (r : Span) → IsTruth (compare rel F c n p r)
unfolding compare
compare_truth Relation.equal F c n p r = verdict_truth _ _
compare_truth Relation.at_most F c n p r = verdict_truth _ _
compare_truth Relation.below F c n p r = verdict_truth _ _

same_truth_truth : (a b : Span) → IsTruth (same_truth a b)
unfolding same_truth
same_truth_truth a b = verdict_truth _ _

bit_truth : (b : Bool) → IsTruth (point (cond b (pos 1) (pos 0)))
bit_truth true = record { low_least = omega (arith, ints); low_most = omega (arith, ints); high_least = omega (arith, ints); high_most = omega (arith, ints) }
bit_truth false = record { low_least = omega (arith, ints); low_most = omega (arith, ints); high_least = omega (arith, ints); high_most = omega (arith, ints) }

flip_truth : (a : Span) → IsTruth a → IsTruth (flip a)
unfolding flip
flip_truth a t = record {
  low_least = omega (arith, ints, t.high_least, t.high_most);
  low_most = omega (arith, ints, t.high_least, t.high_most);
  high_least = omega (arith, ints, t.low_least, t.low_most);
  high_most = omega (arith, ints, t.low_least, t.low_most);
}

min_truth : (a b : Span) → IsTruth a → IsTruth b → IsTruth (span_min a b)
unfolding span_min smaller
min_truth a b s t = record {
  low_least = grind (arith, ints, s.low_least, t.low_least);
  low_most = grind (arith, ints, s.low_most, t.low_most);
  high_least = grind (arith, ints, s.high_least, t.high_least);
  high_most = grind (arith, ints, s.high_most, t.high_most);
}

max_truth : (a b : Span) → IsTruth a → IsTruth b → IsTruth (span_max a b)
unfolding span_max larger
max_truth a b s t = record {
  low_least = grind (arith, ints, s.low_least, t.low_least);
  low_most = grind (arith, ints, s.low_most, t.low_most);
  high_least = grind (arith, ints, s.high_least, t.high_least);
  high_most = grind (arith, ints, s.high_most, t.high_most);
}

some_same : {A : Type 0} (P : A → Type 0) (a b : A) → Some a ≡ Some b → P a → P b
some_same P a b e p = let s : a ≡ b = cc in subst P s p

difference_truth : (F : Family) (d e : Linear) (r : Span) → differ_range F d e ≡ Some r → IsTruth r
difference_truth F d e r i =
    let p = lift1_parts flip (compare_of equal F (minus d e)) r i in
    let q = lift1_parts (compare equal F (minus d e).coef (length F) (minus d e).pure) (minus d e).rest p.0 p.1 in
    subst IsTruth (sym p.2) (flip_truth p.0 (subst IsTruth (sym q.2) (compare_truth equal F (minus d e).coef (length F) (minus d e).pure q.0)))

defined_truth : (e : Linear) (r : Span) → defined_range e ≡ Some r → IsTruth r
defined_truth e r i = let p = lift1_parts (λ u. point (pos 1)) e.rest r i in subst IsTruth (sym p.2) (bit_truth true)

-- the least of one with each of these and of others
others_truth : (F : Family) (d : Linear) (rs : List (Option Span)) → ((s : Span) → lift_all span_min (point (pos 1)) rs ≡ Some s → IsTruth s) → (es : List Linear) (s : Span) → lift_all span_min (point (pos 1)) (map (differ_range F d) es ++ rs) ≡ Some s → IsTruth s
others_truth F d rs h [] s i = h s i
others_truth F d rs h (e ∷ es) s i =
    let p = lift_parts span_min (differ_range F d e) (lift_all span_min (point (pos 1)) (map (differ_range F d) es ++ rs)) s i in
    subst IsTruth (sym p.4) (min_truth p.0 p.1 (difference_truth F d e p.0 p.2) (others_truth F d rs h es p.1 p.3))

pairs_truth : (F : Family) (es : List Linear) (r : Span) → lift_all span_min (point (pos 1)) (pairwise defined_range (differ_range F) es) ≡ Some r → IsTruth r
pairs_truth F [] r e = some_same IsTruth (point (pos 1)) r e (bit_truth true)
pairs_truth F (d ∷ ds) r e =
    let p = lift_parts span_min (defined_range d) (lift_all span_min (point (pos 1)) (map (differ_range F d) ds ++ pairwise defined_range (differ_range F) ds)) r e in
    subst IsTruth (sym p.4) (min_truth p.0 p.1 (defined_truth d p.0 p.2) (others_truth F d (pairwise defined_range (differ_range F) ds) (λ s i. pairs_truth F ds s i) ds p.1 p.3))

mutual
  pub fact_truth : (F : Family) (c : Fact) (r : Span) → fact_range F c ≡ Some r → IsTruth r
  fact_truth F (Fact.fixed b) r e = some_same IsTruth (point (cond b (pos 1) (pos 0))) r e (bit_truth b)
  fact_truth F (Fact.cmp rel s t) r e =
      let d = minus (record { coef = coef s; pure = pure s; rest = rest F s }) (record { coef = coef t; pure = pure t; rest = rest F t }) in
      let p = lift1_parts (compare rel F d.coef (length F) d.pure) d.rest r e in
      subst IsTruth (sym p.2) (compare_truth rel F d.coef (length F) d.pure p.0)
  fact_truth F (Fact.and cs) r e = all_truth F span_min min_truth (pos 1) (bit_truth true) cs r e
  fact_truth F (Fact.or cs) r e = all_truth F span_max max_truth (pos 0) (bit_truth false) cs r e
  fact_truth F (Fact.iff c d) r e = let p = lift_parts same_truth (fact_range F c) (fact_range F d) r e in subst IsTruth (sym p.4) (same_truth_truth p.0 p.1)
  fact_truth F (Fact.not c) r e = let p = lift1_parts flip (fact_range F c) r e in subst IsTruth (sym p.2) (flip_truth p.0 (fact_truth F c p.0 p.1))
  fact_truth F (Fact.different ts) r e = pairs_truth F (linears F ts) r e
  fact_truth F (Fact.bound x) r e = cc

  all_truth : (F : Family) (f : Span → Span → Span) → ((a b : Span) → IsTruth a → IsTruth b → IsTruth (f a b)) → (k : ℤ) → IsTruth (point k) → (cs : Facts) (r : Span) → lift_all f (point k) (fact_ranges F cs) ≡ Some r → IsTruth r
  all_truth F f h k t Facts.no_facts r e = some_same IsTruth (point k) r e t
  all_truth F f h k t (Facts.more_facts c cs) r e =
      let p = lift_parts f (fact_range F c) (lift_all f (point k) (fact_ranges F cs)) r e in
      subst IsTruth (sym p.4) (h p.0 p.1 (fact_truth F c p.0 p.2) (all_truth F f h k t cs p.1 p.3))

pub truth_bound : (r : Span) → IsTruth r → magnitude r ≤ 1
truth_bound r t = omega (arith, ints, t.low_least, t.low_most, t.high_least, t.high_most)

-- ---- cells

cell_bound : (sets : List (ℤ × ℤ)) (F : Family) → HullsSmall sets F → (c : Cell) → magnitude (cell_range F c) ≤ cell_magnitude sets c
cell_bound sets F h (cell.Const k) = omega arith
cell_bound sets F h (cell.Var x) = h x

joined_bound : (a : Span) (o : Option Span) (r : Span) (m n : ℕ) → Some (combined span_hull a o) ≡ Some r → magnitude a ≤ m → ((b : Span) → o ≡ Some b → magnitude b ≤ n) → magnitude r ≤ max m n
joined_bound a None r m n e p q = some_same (λ z. magnitude z ≤ max m n) a r e (omega (arith, p))
joined_bound a (Some b) r m n e p q = some_same (λ z. magnitude z ≤ max m n) (span_hull a b) r e (omega (arith, hull_bound a b, p, q b refl))

pub cells_bound : (sets : List (ℤ × ℤ)) (F : Family) → HullsSmall sets F → (bs : List Bool) (cells : List Cell) (r : Span) → joined span_hull (map (cell_range F) (chosen bs cells)) ≡ Some r → magnitude r ≤ cells_magnitude sets cells
cells_bound sets F h [] cells r e = cc
cells_bound sets F h (b ∷ bs) [] r e = cc
cells_bound sets F h (true ∷ bs) (c ∷ cells) r e =
    joined_bound (cell_range F c) (joined span_hull (map (cell_range F) (chosen bs cells))) r (cell_magnitude sets c) (cells_magnitude sets cells) e (cell_bound sets F h c) (λ b i. cells_bound sets F h bs cells b i)
cells_bound sets F h (false ∷ bs) (c ∷ cells) r e = omega (arith, cells_bound sets F h bs cells r e)

-- ---- ranges

module _ (sets : List (ℤ × ℤ)) (F : Family) (h : HullsSmall sets F) where
  ends_bound : (t : Term) (m : ℕ) (u : Span) → ((r : Span) → rest F t ≡ Some r → weight sets (coef t) (length F) + magnitude r ≤ m) → range F t ≡ Some u → magnitude u ≤ m
  ends_bound t m u k e =
      let p = lift1_parts (with_variables F (coef t) (length F)) (rest F t) u e in
      let b = variables_bound sets F h (coef t) (length F) p.0 in
      subst (λ z. magnitude z ≤ m) (sym p.2) (omega (arith, b, k p.0 p.1))

  mutual
    pub rest_bound : (t : Term) (r : Span) → rest F t ≡ Some r → weight sets (coef t) (length F) + magnitude r ≤ term_magnitude sets t
    rest_bound (Term.const k) r e = omega (arith, weight_zero sets (length F), some_same (λ z. magnitude z ≤ unsigned_abs k) (point k) r e (omega arith))
    rest_bound (Term.var x) r e = omega (arith, weight_one sets x (length F), some_same (λ z. magnitude z ≤ 0) (point (pos 0)) r e (omega arith))
    rest_bound (Term.sum ts) r e = sum_bound ts r e
    rest_bound (Term.neg t) r e =
        let p = lift1_parts span_neg (rest F t) r e in
        let q = subst (λ z. magnitude z ≤ magnitude p.0) (sym p.2) (neg_bound p.0) in
        omega (arith, q, weight_neg sets (coef t) (length F), rest_bound t p.0 p.1)
    rest_bound (Term.scale k t) r e =
        let p = lift1_parts (span_scale k) (rest F t) r e in
        let q = subst (λ z. magnitude z ≤ unsigned_abs k * magnitude p.0) (sym p.2) (scale_bound k p.0) in
        let w = weight sets (coef t) (length F) in
        omega (arith, q, weight_scale sets k (coef t) (length F), mul-add (unsigned_abs k) w (magnitude p.0), mul-le-mul_left (unsigned_abs k) (rest_bound t p.0 p.1))
    rest_bound (Term.mul s t) r e =
        let p = lift_parts span_mul (range F s) (range F t) r e in
        let b = mul_bound p.0 p.1 (term_magnitude sets s) (term_magnitude sets t) (ends_bound s _ p.0 (rest_bound s) p.2) (ends_bound t _ p.1 (rest_bound t) p.3) in
        let q = subst (λ z. magnitude z ≤ term_magnitude sets s * term_magnitude sets t) (sym p.4) b in
        omega (arith, weight_zero sets (length F), q)
    rest_bound (Term.div s t) r e =
        let p = bind_parts span_div (range F s) (range F t) r e in
        omega (arith, weight_zero sets (length F), div_bound p.0 p.1 r p.4, ends_bound s _ p.0 (rest_bound s) p.2)
    rest_bound (Term.rem s t) r e =
        let p = bind_parts span_rem (range F s) (range F t) r e in
        omega (arith, weight_zero sets (length F), rem_bound p.0 p.1 r p.4, ends_bound s _ p.0 (rest_bound s) p.2)
    rest_bound (Term.abs t) r e =
        let p = bind1_parts span_abs (range F t) r e in
        omega (arith, weight_zero sets (length F), abs_bound p.0 r p.2, ends_bound t _ p.0 (rest_bound t) p.1)
      where
        bind1_parts : {A B : Type 0} (f : A → Option B) (o : Option A) (u : B) → bind1 f o ≡ Some u → (v : A) × (o ≡ Some v) × (f v ≡ Some u)
        bind1_parts f None u e = cc
        bind1_parts f (Some v) u e = (v, refl, e)
    rest_bound (Term.least ts) r e = omega (arith, weight_zero sets (length F), extreme_bound span_min min_bound ts r e)
    rest_bound (Term.greatest ts) r e = omega (arith, weight_zero sets (length F), extreme_bound span_max max_bound ts r e)
    rest_bound (Term.at None ts) r e = cc
    rest_bound (Term.at (Some t) ts) r e = omega (arith, weight_zero sets (length F), cells_bound sets F h (taken (masks (may_be F) t.dims (linears F ts))) t.cells r e)
    rest_bound (Term.truth c) r e = omega (arith, weight_zero sets (length F), truth_bound r (fact_truth F c r e))
    rest_bound (Term.asked ask x) r e = cc

    pub sum_bound : (ts : Terms) (r : Span) → rest F (Term.sum ts) ≡ Some r → weight sets (coefs ts) (length F) + magnitude r ≤ sum_magnitude sets ts
    sum_bound Terms.no_terms r e = omega (arith, weight_zero sets (length F), some_same (λ z. magnitude z ≤ 0) (point (pos 0)) r e (omega arith))
    sum_bound (Terms.more_terms t ts) r e =
        let p = lift_parts span_add (rest F t) (rest F (Term.sum ts)) r e in
        let q = subst (λ z. magnitude z ≤ magnitude p.0 + magnitude p.1) (sym p.4) (add_bound p.0 p.1) in
        omega (arith, q, weight_plus sets (coef t) (coefs ts) (length F), rest_bound t p.0 p.2, sum_bound ts p.1 p.3)

    extreme_bound : (f : Span → Span → Span) → ((a b : Span) → magnitude (f a b) ≤ max (magnitude a) (magnitude b)) → (ts : Terms) (r : Span)
        → lift_some f (map (range_of_linear F) (linears F ts)) ≡ Some r → magnitude r ≤ greatest_magnitude sets ts
    extreme_bound f k Terms.no_terms r e = cc
    extreme_bound f k (Terms.more_terms t Terms.no_terms) r e = omega (arith, ends_bound t _ r (rest_bound t) e)
    extreme_bound f k (Terms.more_terms t (Terms.more_terms s ts)) r e =
        let p = lift_parts f (range F t) (lift_some f (map (range_of_linear F) (linears F (Terms.more_terms s ts)))) r e in
        let q = subst (λ z. magnitude z ≤ max (magnitude p.0) (magnitude p.1)) (sym p.4) (k p.0 p.1) in
        omega (arith, q, ends_bound t _ p.0 (rest_bound t) p.2, extreme_bound f k (Terms.more_terms s ts) p.1 p.3)

  pub range_bound : (t : Term) (r : Span) → range F t ≡ Some r → magnitude r ≤ term_magnitude sets t
  range_bound t r e = ends_bound t (term_magnitude sets t) r (rest_bound t) e

pub ranges_are_small : RangesAreSmall
ranges_are_small = record {
  coefs = λ core t n. coef_weight core.sets t n;
  rests = λ core F t r b e. rest_bound core.sets F (hulls_small core F b) t r e;
  ranges = λ core F t r b e. range_bound core.sets F (hulls_small core F b) t r e;
  facts = fact_truth;
}
