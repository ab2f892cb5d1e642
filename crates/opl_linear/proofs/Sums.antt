-- The sum over all variables is the sum over those that a list names, and what one set adds to it.
use Rattle.std.proofs.Common.{◌≡◌, ◌≢◌, ◌∙◌, ℕ, zero, suc, ◌<◌, true, false, cond, ◌||◌, refl, List, [], ◌∷◌, length, ℤ, pos, ◌+ℤ◌, ◌*ℤ◌, neg_ℤ, ap, sym, arith, inl, inr}
use Rattle.std.specs.Prelude.{nat_eq, int_lt}
use Rattle.std.proofs.lemmas.Int.{ints}
use Rattle.std.proofs.lemmas.Bool.{cases_eq}
use Rattle.std.proofs.lemmas.Bool.Decides.{Decides-eqb}
use Rattle.opl_domain.specs.Span.{Span, smaller, point, hull_of}
use Rattle.opl_domain.specs.Arithmetic.{span_add}
use Rattle.opl_domain.specs.Family.{Family, hull, only}
use Rattle.opl_domain.proofs.Sets.{length-only, only_here, only_there}
use Rattle.opl_expr.specs.Range.{span_scale, weighted}
use Rattle.opl_linear.specs.Linear.{factor_in, names, NamesOnce, AreAmong, least_product, least_sum, least_weighted, is_above}

add_low : (a b : Span) → (span_add a b).low ≡ a.low +ℤ b.low
unfolding span_add
add_low a b = refl

pub least_more : (F : Family) (c : ℕ → ℤ) (n : ℕ) → least_weighted F c (suc n) ≡ least_weighted F c n +ℤ least_product (c n) (hull F n)
unfolding least_weighted least_product
least_more F c n = add_low (weighted F c n) (span_scale (c n) (hull F n))

least_none : (F : Family) (c : ℕ → ℤ) → least_weighted F c zero ≡ pos 0
unfolding least_weighted
least_none F c = refl

pub nothing_product : (a : Span) → least_product (pos 0) a ≡ pos 0
unfolding least_product span_scale smaller
nothing_product a = grind (arith, ints)

-- what agrees on each of the first n variables has the same sum
pub least_same : (F G : Family) (c d : ℕ → ℤ) (n : ℕ) → ((y : ℕ) → y < n → least_product (c y) (hull F y) ≡ least_product (d y) (hull G y)) → least_weighted F c n ≡ least_weighted G d n
least_same F G c d zero h = least_none F c ∙ sym (least_none G d)
least_same F G c d (suc n) h =
    omega (arith, ints, least_more F c n, least_more G d n, h n (omega arith), least_same F G c d n (λ y k. h y (omega (arith, k))))

-- what agrees on all variables but x differs by what x adds
pub least_other : (F G : Family) (c d : ℕ → ℤ) (x n : ℕ) → x < n → ((y : ℕ) → y ≢ x → least_product (c y) (hull F y) ≡ least_product (d y) (hull G y))
    → least_weighted G d n +ℤ least_product (c x) (hull F x) ≡ least_weighted F c n +ℤ least_product (d x) (hull G x)
least_other F G c d x zero k h = absurd (omega (arith, k))
least_other F G c d x (suc n) k h = elim (cases_eq x n) [
  | inl e ↦
      let s = least_same F G c d n (λ y b. h y (λ i. omega (arith, b, i, e))) in
      rw e (omega (arith, ints, s, least_more F c n, least_more G d n))
  | inr m ↦
      let s = least_other F G c d x n (omega (arith, k, m)) h in
      omega (arith, ints, s, least_more F c n, least_more G d n, h n (λ i. m (sym i)))
]

-- ---- the list

pub unnamed : (ps : List (ℕ × ℤ)) (x : ℕ) → names ps x ≡ false → factor_in ps x ≡ pos 0
unnamed [] x h = refl
unnamed (p ∷ ps) x h = elim (nat_eq x p.0) as (λ b. (b || names ps x) ≡ false → cond b p.1 (pos 0) +ℤ factor_in ps x ≡ pos 0) [
  | true ↦ λ e. cc
  | false ↦ λ e. let i = unnamed ps x e in omega (arith, ints, i)
] h

pub factor_here : (p : ℕ × ℤ) (ps : List (ℕ × ℤ)) → names ps p.0 ≡ false → factor_in (p ∷ ps) p.0 ≡ p.1
factor_here p ps h = rw ((Decides-eqb p.0 p.0).1 refl, unnamed ps p.0 h) (omega (arith, ints))

pub factor_there : (p : ℕ × ℤ) (ps : List (ℕ × ℤ)) (y : ℕ) → y ≢ p.0 → factor_in (p ∷ ps) y ≡ factor_in ps y
factor_there p ps y n = elim (nat_eq y p.0) as (λ b. nat_eq y p.0 ≡ b → cond b p.1 (pos 0) +ℤ factor_in ps y ≡ factor_in ps y) [
  | true ↦ λ e. absurd (n ((Decides-eqb y p.0).0 e))
  | false ↦ λ e. omega (arith, ints)
] refl

pub least_listed : (F : Family) (ps : List (ℕ × ℤ)) (n : ℕ) → NamesOnce ps → AreAmong n ps → least_sum F ps ≡ least_weighted F (factor_in ps) n
least_listed F [] zero o a = sym (least_none F (factor_in []))
least_listed F [] (suc n) o a = omega (arith, ints, least_more F (factor_in []) n, nothing_product (hull F n), least_listed F [] n o a)
least_listed F (p ∷ ps) n o a =
    let i = least_listed F ps n o.1 a.1 in
    let s = least_other F F (factor_in ps) (factor_in (p ∷ ps)) p.0 n a.0 (λ y m. ap (λ k. least_product k (hull F y)) (sym (factor_there p ps y m))) in
    let u = ap (λ k. least_product k (hull F p.0)) (unnamed ps p.0 o.0) ∙ nothing_product (hull F p.0) in
    let t = ap (λ k. least_product k (hull F p.0)) (factor_here p ps o.0) in
    omega (arith, ints, i, s, u, t)

-- ---- one value

one_value : (v : ℤ) → hull_of (v ∷ []) ≡ point v
unfolding hull_of
one_value v = refl

point_product : (k v : ℤ) → least_product k (point v) ≡ k *ℤ v
unfolding least_product span_scale smaller
point_product k v = grind (arith, ints)

pub product_only : (F : Family) (x : ℕ) (v k : ℤ) → x < length F → least_product k (hull (only F x v) x) ≡ k *ℤ v
unfolding hull
product_only F x v k h = ap (λ vs. least_product k (hull_of vs)) (only_here F x v h) ∙ ap (least_product k) (one_value v) ∙ point_product k v

hull_there : (F : Family) (x y : ℕ) (v : ℤ) → y ≢ x → hull (only F x v) y ≡ hull F y
unfolding hull
hull_there F x y v n = ap hull_of (only_there F x y v n)

pub least_only : (F : Family) (c : ℕ → ℤ) (x : ℕ) (v : ℤ) → x < length F → least_weighted (only F x v) c (length F) +ℤ least_product (c x) (hull F x) ≡ least_weighted F c (length F) +ℤ (c x *ℤ v)
least_only F c x v h =
    omega (arith, ints, least_other F (only F x v) c c x (length F) h (λ y n. ap (least_product (c y)) (sym (hull_there F x y v n))), product_only F x v (c x) h)

-- the family with x fixed to v leaves the form above 0
pub is_above_only : (F : Family) (c : ℕ → ℤ) (k : ℤ) (x : ℕ) (v : ℤ) → x < length F → is_above c k (only F x v) ≡ int_lt (pos 0) (k +ℤ least_weighted F c (length F) +ℤ neg_ℤ (least_product (c x) (hull F x)) +ℤ (c x *ℤ v))
unfolding is_above
is_above_only F c k x v h =
    let e = ap (least_weighted (only F x v) c) (length-only F x v) in
    let s = least_only F c x v h in
    let t : k +ℤ least_weighted (only F x v) c (length (only F x v)) ≡ k +ℤ least_weighted F c (length F) +ℤ neg_ℤ (least_product (c x) (hull F x)) +ℤ (c x *ℤ v) = omega (arith, ints, e, s) in
    ap (int_lt (pos 0)) t
