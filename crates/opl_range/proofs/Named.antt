-- The variables that an expression names are all that count in its linear form.
use Rattle.std.proofs.Common.{◌≡◌, ◌≢◌, ◌⊎◌, ℕ, zero, suc, ◌+◌, ◌-◌, ◌*◌, ◌≤◌, ◌<◌, refl, List, map, length, get_or, drop, ℤ, pos, negsuc, ◌+ℤ◌, ◌*ℤ◌, neg_ℤ, ap, sym, ◌∙◌, subst, arith, inl, inr}
use Rattle.std.specs.Prelude.{Option, Some, None, unsigned_abs}
use Rattle.std.proofs.Math.Nat.{mul-le-mul_left}
use Rattle.std.proofs.lemmas.Int.{ints}
use Rattle.opl_domain.specs.Span.{Span, magnitude, point, smaller, larger}
use Rattle.opl_domain.specs.Arithmetic.{span_add}
use Rattle.opl_domain.specs.Family.{Family, hull, Below}
use Rattle.opl_expr.specs.declared.model.Core.{Core}
use Rattle.opl_expr.specs.declared.forms.Expr.{Expr}
use Rattle.opl_expr.specs.declared.forms.Expr.TheVariants as E
use Rattle.opl_expr.specs.declared.tables.Table.{Table}
use Rattle.opl_expr.specs.declared.tables.Resource.{Resource}
use Rattle.opl_expr.specs.Forms.{Term, terms_of, product, term, constant_value}
use Rattle.opl_expr.specs.Range.{span_scale, weighted, coef, coefs}
use Rattle.opl_expr.specs.Solutions.{declared}
use Rattle.opl_expr.specs.Sound.{var_magnitude}
use Rattle.opl_expr.proofs.Plain.{term_Neg, term_Mul}
use Rattle.opl_range.specs.Magnitudes.{weight}
use Rattle.opl_range.specs.Between.{term_of, between, CanCompare, EndsAt, Ends, later, IsLastVariable}
use Rattle.opl_range.proofs.Bounds.{add_bound, scale_bound}
use Rattle.opl_range.proofs.Weights.{hulls_small, one_of}
use Rattle.opl_range.proofs.Parts.{part_before, product_left, product_right, product_whole}
use Rattle.opl_range.proofs.Roots.{zero_times, last_or_before}
use Rattle.opl_range.proofs.Minus.{between_weight}

-- ---- where a form ends

-- a form ends where another does whose coefficients are 0 wherever its are
ends_same : (c d : ℕ → ℤ) (n : ℕ) (o : Option ℕ) → ((y : ℕ) → c y ≡ pos 0 → d y ≡ pos 0) → Ends c n o → Ends d n o
ends_same c d n None h e = λ y l. h y (e y l)
ends_same c d n (Some x) h e = record { below = e.below; behind = λ y p q. h y (e.behind y p q) }

-- a form of two ends with the later of them
ends_later : (c d e : ℕ → ℤ) (n : ℕ) (o p : Option ℕ) → ((y : ℕ) → c y ≡ pos 0 → d y ≡ pos 0 → e y ≡ pos 0) → Ends c n o → Ends d n p → Ends e n (later o p)
ends_later c d e n None None h i j = λ y l. h y (i y l) (j y l)
ends_later c d e n None (Some x) h i j = record { below = j.below; behind = λ y p q. h y (i y q) (j.behind y p q) }
ends_later c d e n (Some x) None h i j = record { below = i.below; behind = λ y p q. h y (i.behind y p q) (j y q) }
ends_later c d e n (Some x) (Some z) h i j = record {
  below = omega (arith, i.below, j.below);
  behind = λ y p q. h y (i.behind y (omega (arith, p)) q) (j.behind y (omega (arith, p)) q);
}

neg_zero : (v : ℤ) → v ≡ pos 0 → neg_ℤ v ≡ pos 0
neg_zero v e = omega (arith, ints, e)

times_zero : (k : ℤ) → k *ℤ pos 0 ≡ pos 0
times_zero (pos k) = omega (arith, ints)
times_zero (negsuc k) = omega (arith, ints)

sum_zero : (v w : ℤ) → v ≡ pos 0 → w ≡ pos 0 → v +ℤ w ≡ pos 0
sum_zero v w e f = omega (arith, ints, e, f)

-- ---- the arms of the search for the last variable

none_named : (t s : Term) (n : ℕ) → t ≡ s → ((y : ℕ) → coef s y ≡ pos 0) → Ends (coef t) n None
none_named t s n e z = λ y l. ap (λ u. coef u y) e ∙ z y

other_variable : (x y : ℕ) → x ≢ y → coef (Term.var x) y ≡ pos 0
other_variable x y n = elim (one_of y x) [ inl w ↦ absurd (n (sym w.1)) | inr w ↦ rw w.0 refl ]

pub var_named : (t : Term) (n x : ℕ) → t ≡ Term.var x → x < n → Ends (coef t) n (Some x)
var_named t n x e h = record { below = h; behind = λ y p q. ap (λ u. coef u y) e ∙ other_variable x y (λ s. omega (arith, p, s)) }

pub var_beyond : (t : Term) (n x : ℕ) → t ≡ Term.var x → n ≤ x → Ends (coef t) n None
var_beyond t n x e h = λ y l. ap (λ u. coef u y) e ∙ other_variable x y (λ s. omega (arith, l, h, s))

named_as : (t s : Term) (n : ℕ) (o : Option ℕ) → t ≡ s → Ends (coef s) n o → Ends (coef t) n o
named_as t s n o e h = subst (λ u. Ends (coef u) n o) (sym e) h

scale_named : (k : ℤ) (t : Term) (n : ℕ) (o : Option ℕ) → Ends (coef t) n o → Ends (coef (Term.scale k t)) n o
scale_named k t n o h = ends_same (coef t) (coef (Term.scale k t)) n o (λ y e. ap (λ v. k *ℤ v) e ∙ times_zero k) h

module _ (tables : List Table) (resources : List Resource) where
  pub sum_named : (e : Expr) (ts ps : List Expr) (n : ℕ) (o : Option ℕ) → term tables resources e ≡ Term.sum (terms_of (map (term tables resources) ts)) → ps ≡ ts → Ends (coefs (terms_of (map (term tables resources) ps))) n o → Ends (coef (term tables resources e)) n o
  sum_named e ts ps n o i j h =
      named_as _ _ n o (i ∙ ap (λ z. Term.sum (terms_of (map (term tables resources) z))) (sym j)) h

  pub neg_named : (e a b : Expr) (n : ℕ) (o : Option ℕ) → e ≡ E.Neg a → b ≡ a → Ends (coef (term tables resources b)) n o → Ends (coef (term tables resources e)) n o
  neg_named e a b n o i j h =
      named_as _ _ n o (ap (term tables resources) i ∙ term_Neg tables resources a ∙ ap (λ z. Term.neg (term tables resources z)) (sym j))
      (ends_same (coef (term tables resources b)) (coef (Term.neg (term tables resources b))) n o (λ y z. neg_zero _ z) h)

  factors_are : (e a b p q : Expr) → e ≡ E.Mul a b → p ≡ a → q ≡ b → term tables resources e ≡ product (term tables resources p) (term tables resources q)
  factors_are e a b p q i j l =
      ap (term tables resources) i ∙ term_Mul tables resources a b ∙ ap (λ z. product (term tables resources z) (term tables resources b)) (sym j) ∙ ap (λ z. product (term tables resources p) (term tables resources z)) (sym l)

  pub left_named : (e a b p q : Expr) (k : ℤ) (n : ℕ) (o : Option ℕ) → e ≡ E.Mul a b → p ≡ a → q ≡ b → Some k ≡ constant_value (term tables resources p) → Ends (coef (term tables resources q)) n o → Ends (coef (term tables resources e)) n o
  left_named e a b p q k n o i j l c h =
      named_as _ _ n o (factors_are e a b p q i j l ∙ product_left (term tables resources p) (term tables resources q) k c) (scale_named k (term tables resources q) n o h)

  pub right_named : (e a b p p' q : Expr) (k : ℤ) (n : ℕ) (o : Option ℕ) → e ≡ E.Mul a b → p ≡ a → p' ≡ a → q ≡ b → None ≡ constant_value (term tables resources p) → Some k ≡ constant_value (term tables resources q)
      → Ends (coef (term tables resources p')) n o → Ends (coef (term tables resources e)) n o
  right_named e a b p p' q k n o i j j' l c d h =
      named_as _ _ n o (factors_are e a b p q i j l ∙ product_right (term tables resources p) (term tables resources q) k c d ∙ ap (λ z. Term.scale k (term tables resources z)) (j ∙ sym j')) (scale_named k (term tables resources p') n o h)

  pub factors_named : (e a b p q : Expr) (n : ℕ) → e ≡ E.Mul a b → p ≡ a → q ≡ b → None ≡ constant_value (term tables resources p) → None ≡ constant_value (term tables resources q) → Ends (coef (term tables resources e)) n None
  factors_named e a b p q n i j l c d = none_named _ _ n (factors_are e a b p q i j l ∙ product_whole (term tables resources p) (term tables resources q) c d) (λ y. refl)

pub more_named : (f : Expr → Term) (xs : List Expr) (L : ℕ) (e : Expr) (n : ℕ) (o p r : Option ℕ) → 0 < L → L ≤ length xs → e ≡ get_or xs (L - 1) e → Ends (coef (f e)) n o → Ends (coefs (terms_of (map f (drop L xs)))) n p → r ≡ later o p
    → Ends (coefs (terms_of (map f (drop (L - 1) xs)))) n r
more_named f xs L e n o p r h l i j k q =
    subst (λ z. Ends (coefs (terms_of (map f (drop (L - 1) xs)))) n z) (sym q)
    (subst (λ ys. Ends (coefs (terms_of (map f ys))) n (later o p)) (sym (part_before xs L e h l i))
    (ends_later (coef (f e)) (coefs (terms_of (map f (drop L xs)))) _ n o p (λ y s t. sum_zero _ _ s t) j k))

pub between_named : (core : Core) (a b : Expr) (n : ℕ) (o p r : Option ℕ) → Ends (coef (term_of core a)) n o → Ends (coef (term_of core b)) n p → r ≡ later o p → Ends (between core a b) n r
unfolding between
between_named core a b n o p r h i e =
    subst (λ z. Ends (between core a b) n z) (sym e) (ends_later (coef (term_of core a)) (coef (term_of core b)) (between core a b) n o p (λ y s t. sum_zero _ _ s (neg_zero _ t)) h i)

-- ---- sums over the variables that are named

scale_nothing : (a : Span) → span_scale (pos 0) a ≡ point (pos 0)
unfolding span_scale smaller larger
scale_nothing a = rw (zero_times a.low, zero_times a.high) refl

same_ends : (a : Span) {l h : ℤ} → l ≡ a.low → h ≡ a.high → record { low = l; high = h } ≡ a
same_ends a p q = rw (p, q) refl

add_nothing : (a : Span) → span_add a (point (pos 0)) ≡ a
unfolding span_add
add_nothing a = same_ends a (omega (arith, ints)) (omega (arith, ints))

nothing_added : (a : Span) → span_add (point (pos 0)) a ≡ a
unfolding span_add
nothing_added a = same_ends a (omega (arith, ints)) (omega (arith, ints))

regrouped : (a b c : Span) → span_add a (span_add c b) ≡ span_add (span_add a b) c
unfolding span_add
regrouped a b c = same_ends (span_add (span_add a b) c) (omega (arith, ints)) (omega (arith, ints))

unmoved_sum : (F : Family) (c : ℕ → ℤ) (n : ℕ) → c n ≡ pos 0 → weighted F c (suc n) ≡ weighted F c n
unmoved_sum F c n e = ap (λ k. span_add (weighted F c n) (span_scale k (hull F n))) e ∙ ap (span_add (weighted F c n)) (scale_nothing (hull F n)) ∙ add_nothing (weighted F c n)

skip_sums : (F : Family) (c : ℕ → ℤ) (n x : ℕ) → x < n → ((y : ℕ) → x < y → y < n → c y ≡ pos 0) → weighted F c n ≡ weighted F c (suc x)
skip_sums F c zero x h b = absurd (omega (arith, h))
skip_sums F c (suc n) x h b = elim (last_or_before x n h) [
  | inl e ↦ ap (λ m. weighted F c (suc m)) (sym e)
  | inr q ↦ unmoved_sum F c n (b n q (omega arith)) ∙ skip_sums F c n x q (λ y i j. b y i (omega (arith, j)))
]

no_sums : (F : Family) (c : ℕ → ℤ) (n : ℕ) → ((y : ℕ) → y < n → c y ≡ pos 0) → weighted F c n ≡ point (pos 0)
no_sums F c zero b = refl
no_sums F c (suc n) b = unmoved_sum F c n (b n (omega arith)) ∙ no_sums F c n (λ y r. b y (omega (arith, r)))

weight_below : (sets : List (ℤ × ℤ)) (c : ℕ → ℤ) (n x : ℕ) → x < n → weight sets c (suc x) ≤ weight sets c n
weight_below sets c zero x h = absurd (omega (arith, h))
weight_below sets c (suc n) x h = elim (last_or_before x n h) [
  | inl e ↦ subst (λ m. weight sets c (suc m) ≤ weight sets c (suc n)) (sym e) (omega arith)
  | inr q ↦ omega (arith, weight_below sets c n x q)
]

-- the variables from `end` on are summed up
pub record IsSummed (sets : List (ℤ × ℤ)) (F : Family) (c : ℕ → ℤ) (n end : ℕ) (sum : Span) : Type 0 where
  pub below : end ≤ n
  pub small : magnitude sum + weight sets c end ≤ weight sets c n
  pub whole : span_add (weighted F c end) sum ≡ weighted F c n

pub summed_start : (sets : List (ℤ × ℤ)) (F : Family) (c : ℕ → ℤ) (n end : ℕ) (sum : Span) → end ≡ n → sum ≡ point (pos 0) → IsSummed sets F c n end sum
summed_start sets F c n end sum e i = subst (λ m. IsSummed sets F c n m sum) (sym e) (subst (IsSummed sets F c n n) (sym i) (record { below = omega arith; small = omega arith; whole = add_nothing (weighted F c n) }))

pub summed_end : (sets : List (ℤ × ℤ)) (F : Family) (c : ℕ → ℤ) (n end : ℕ) (sum : Span) → IsSummed sets F c n end sum → Ends c end None → sum ≡ weighted F c n
summed_end sets F c n end sum s e = sym (nothing_added sum) ∙ ap (λ z. span_add z sum) (sym (no_sums F c end e)) ∙ s.whole

module _ (core : Core) (F : Family) (a b : Expr) (n end x : ℕ) (k : ℤ) (h sum v : Span) where
  term_small : Below F (declared core) → k ≡ between core a b x → h ≡ hull F x → v ≡ span_scale k h → magnitude v ≤ unsigned_abs (between core a b x) * var_magnitude core.sets x
  term_small w i j f =
      let q = subst (λ z. magnitude z ≤ unsigned_abs k * magnitude h) (sym f) (scale_bound k h) in
      let t : unsigned_abs k * magnitude h ≤ unsigned_abs (between core a b x) * var_magnitude core.sets x = rw (i, j) (mul-le-mul_left (unsigned_abs (between core a b x)) (hulls_small core F w x)) in
      omega (arith, q, t)

  pub sum_fits : Below F (declared core) → CanCompare core a b → IsSummed core.sets F (between core a b) n end sum → x < end → k ≡ between core a b x → h ≡ hull F x → v ≡ span_scale k h
      → magnitude sum + magnitude v < 170141183460469231731687303715884105728
  sum_fits w s m l i j f = omega (arith, s.0, term_small w i j f, m.small, weight_below core.sets (between core a b) end x l, between_weight core a b n)

  pub summed_next : (r : Span) → Below F (declared core) → IsSummed core.sets F (between core a b) n end sum → EndsAt (between core a b) end x → k ≡ between core a b x → h ≡ hull F x → v ≡ span_scale k h → r ≡ span_add sum v
      → IsSummed core.sets F (between core a b) n x r
  summed_next r w m e i j f g = record {
    below = omega (arith, e.below, m.below);
    small = subst (λ z. magnitude z + weight core.sets (between core a b) x ≤ weight core.sets (between core a b) n) (sym g)
        (omega (arith, add_bound sum v, term_small w i j f, m.small, weight_below core.sets (between core a b) end x e.below));
    whole = ap (span_add (weighted F (between core a b) x)) g ∙ regrouped (weighted F (between core a b) x) v sum
        ∙ ap (λ z. span_add (span_add (weighted F (between core a b) x) z) sum) (f ∙ ap (λ z. span_scale z h) i ∙ ap (span_scale (between core a b x)) j)
        ∙ ap (λ z. span_add z sum) (sym (skip_sums F (between core a b) end x e.below e.behind)) ∙ m.whole;
  }

-- ---- the last variable whose coefficient isn't 0

below_or_from : (y m : ℕ) → (y < m) ⊎ (m ≤ y)
below_or_from y m = grind arith

-- the variables from m on are passed, and none of them counts
pub record IsPassed (c : ℕ → ℤ) (n m : ℕ) : Type 0 where
  pub below : m ≤ n
  pub behind : (y : ℕ) → m ≤ y → y < n → c y ≡ pos 0

pub passed_start : (c : ℕ → ℤ) (n : ℕ) → IsPassed c n n
passed_start c n = record { below = omega arith; behind = λ y p q. absurd (omega (arith, p, q)) }

pub passed_none : (c : ℕ → ℤ) (n m : ℕ) → IsPassed c n m → Ends c m None → (y : ℕ) → y < n → c y ≡ pos 0
passed_none c n m p e y l = elim (below_or_from y m) [ inl h ↦ e y h | inr h ↦ p.behind y h l ]

passed_behind : (c : ℕ → ℤ) (n m x : ℕ) → IsPassed c n m → EndsAt c m x → (y : ℕ) → x < y → y < n → c y ≡ pos 0
passed_behind c n m x p e y h l = elim (below_or_from y m) [ inl q ↦ e.behind y h q | inr q ↦ p.behind y q l ]

pub passed_found : (c : ℕ → ℤ) (n m x : ℕ) → IsPassed c n m → EndsAt c m x → c x ≢ pos 0 → IsLastVariable c n x
passed_found c n m x p e z = record { below = omega (arith, p.below, e.below); nonzero = z; behind = passed_behind c n m x p e }

pub passed_next : (c : ℕ → ℤ) (n m x : ℕ) → IsPassed c n m → EndsAt c m x → c x ≡ pos 0 → IsPassed c n x
passed_next c n m x p e z = record {
  below = omega (arith, p.below, e.below);
  behind = λ y h l. elim (last_or_before x y (omega (arith, h))) [ inl s ↦ subst (λ u. c u ≡ pos 0) s z | inr s ↦ passed_behind c n m x p e y s l ];
}
