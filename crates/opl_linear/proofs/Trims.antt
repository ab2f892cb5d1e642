-- Tails of sets.
use Rattle.std.proofs.Common.{◌≡◌, ◌∙◌, ◌⊎◌, ℕ, zero, suc, ◌/◌, ◌*◌, ◌+◌, ◌<◌, ◌≤◌, true, false, refl, List, [], ◌∷◌, length, ℤ, pos, negsuc, ◌+ℤ◌, ◌*ℤ◌, neg_ℤ, ◌≤ℤ◌, ◌<ℤ◌, ap, sym, subst, arith, inl, inr}
use Rattle.std.specs.Prelude.{int_le, int_div, unsigned_abs}
use Rattle.std.proofs.lemmas.Int.{ints}
use Rattle.std.proofs.Math.Nat.{div-mul-le_self, lt-div-mul-add, mul-le-mul_left}
use Rattle.std.proofs.Math.IntN.{*ℤ_comm}
use Rattle.opl_domain.specs.Span.{Span, magnitude, smaller, hull_of, least_of, greatest_of}
use Rattle.opl_domain.specs.Family.{member, Family, IsLeast, IsGreatest, is_outside, set_of, hull, has, cut_of}
use Rattle.opl_domain.proofs.Members.{member_filter, from_filter, least_member, least_is, greatest_member, greatest_is, between_is}
use Rattle.opl_domain.proofs.Sets.{cut_here}
use Rattle.opl_expr.specs.Range.{span_scale}
use Rattle.opl_expr.specs.Sound.{IsSmall}
use Rattle.opl_expr.proofs.Comparisons.{in_hull}
use Rattle.opl_expr.proofs.Ring.{plus_times, neg_times}
use Rattle.opl_linear.specs.Linear.{least_product}
use Rattle.opl_linear.specs.Trimming.{IsReach, AreNear, HasLostRun}

-- ---- products

pub times_plus : (k u v : ℤ) → k *ℤ (u +ℤ v) ≡ (k *ℤ u) +ℤ (k *ℤ v)
times_plus k u v = *ℤ_comm k (u +ℤ v) ∙ plus_times u v k ∙ ap (λ w. w +ℤ (v *ℤ k)) (*ℤ_comm u k) ∙ ap (λ w. (k *ℤ u) +ℤ w) (*ℤ_comm v k)

product_of_both : (k u : ℤ) → pos 0 ≤ℤ k → pos 0 ≤ℤ u → pos 0 ≤ℤ (k *ℤ u)
product_of_both (pos m) (pos n) h i = omega (arith, ints)
product_of_both (pos m) (negsuc n) h i = absurd (omega (arith, ints, i))
product_of_both (negsuc m) u h i = absurd (omega (arith, ints, h))

pub times_between : (k u v : ℤ) → k *ℤ v ≡ (k *ℤ u) +ℤ (k *ℤ (v +ℤ neg_ℤ u))
times_between k u v = let e : v ≡ u +ℤ (v +ℤ neg_ℤ u) = omega (arith, ints) in ap (λ w. k *ℤ w) e ∙ times_plus k u (v +ℤ neg_ℤ u)

pub times_up : (k u v : ℤ) → pos 0 ≤ℤ k → u ≤ℤ v → (k *ℤ u) ≤ℤ (k *ℤ v)
times_up k u v h i = omega (arith, ints, times_between k u v, product_of_both k (v +ℤ neg_ℤ u) h (omega (arith, ints, i)))

-- a falling product, by the opposite of its factor
times_opposite : (k u v : ℤ) → k *ℤ v ≡ (k *ℤ u) +ℤ (neg_ℤ k *ℤ (u +ℤ neg_ℤ v))
times_opposite k u v =
    let e = times_between k u v in
    let f = times_between (neg_ℤ k) v u in
    omega (arith, ints, e, f, neg_times k u, neg_times k v)

-- ---- quotients

natural_reach : (n m : ℕ) → n < suc m * (n / suc m + 1)
natural_reach n m = grind (arith, lt-div-mul-add)

quotient_near : (a s : ℤ) → pos 0 <ℤ a → pos 0 ≤ℤ s → (a *ℤ int_div s a) ≤ℤ s
quotient_near (pos zero) s h i = absurd (omega (arith, ints, h))
quotient_near (pos (suc m)) (pos n) h i = omega (arith, ints, div-mul-le_self n (suc m))
quotient_near (pos (suc m)) (negsuc n) h i = absurd (omega (arith, ints, i))
quotient_near (negsuc m) s h i = absurd (omega (arith, ints, h))

quotient_far : (a s : ℤ) → pos 0 <ℤ a → pos 0 ≤ℤ s → s <ℤ (a *ℤ (int_div s a +ℤ pos 1))
quotient_far (pos zero) s h i = absurd (omega (arith, ints, h))
quotient_far (pos (suc m)) (pos n) h i = omega (arith, ints, natural_reach n m)
quotient_far (pos (suc m)) (negsuc n) h i = absurd (omega (arith, ints, i))
quotient_far (negsuc m) s h i = absurd (omega (arith, ints, h))

quotient_least : (a s : ℤ) → pos 0 <ℤ a → pos 0 ≤ℤ s → pos 0 ≤ℤ int_div s a
quotient_least (pos m) (pos n) h i = omega (arith, ints)
quotient_least (pos m) (negsuc n) h i = absurd (omega (arith, ints, i))
quotient_least (negsuc m) s h i = absurd (omega (arith, ints, h))

pub reaches_all : (a s lo hi q w : ℤ) → pos 0 <ℤ a → pos 0 ≤ℤ s → q ≡ int_div s a → w ≡ hi +ℤ neg_ℤ lo → w ≤ℤ q → (a *ℤ (hi +ℤ neg_ℤ lo)) ≤ℤ s
reaches_all a s lo hi q w h i e f g =
    let t = times_up a (hi +ℤ neg_ℤ lo) (int_div s a) (omega (arith, ints, h)) (omega (arith, ints, e, f, g)) in
    omega (arith, ints, t, quotient_near a s h i)

pub reaches_part : (a s lo hi q w : ℤ) → pos 0 <ℤ a → pos 0 ≤ℤ s → q ≡ int_div s a → w ≡ hi +ℤ neg_ℤ lo → q <ℤ w → IsReach a s lo hi q
reaches_part a s lo hi q w h i e f g = record {
  least = omega (arith, ints, e, quotient_least a s h i);
  most = omega (arith, ints, f, g);
  near = rw e (quotient_near a s h i);
  far = rw e (quotient_far a s h i);
}

-- ---- hulls

pub least_hull : (xs : List ℤ) (l : ℤ) → IsLeast xs l → (hull_of xs).low ≡ l
unfolding hull_of
least_hull [] l p = let m = p.among in cc
least_hull (v ∷ xs) l p = between_is (least_of v xs) l (least_is v xs l p.among) (p.least (least_of v xs) (least_member v xs))

pub greatest_hull : (xs : List ℤ) (h : ℤ) → IsGreatest xs h → (hull_of xs).high ≡ h
unfolding hull_of
greatest_hull [] h p = let m = p.among in cc
greatest_hull (v ∷ xs) h p = between_is (greatest_of v xs) h (p.most (greatest_of v xs) (greatest_member v xs)) (greatest_is v xs h p.among)

list_ordered : (xs : List ℤ) → (hull_of xs).low ≤ℤ (hull_of xs).high
unfolding hull_of
list_ordered [] = omega (arith, ints)
list_ordered (v ∷ xs) = greatest_is v xs (least_of v xs) (least_member v xs)

pub least_up : (a : ℤ) (xs : List ℤ) (l : ℤ) → pos 0 ≤ℤ a → IsLeast xs l → least_product a (hull_of xs) ≡ a *ℤ l
unfolding least_product span_scale smaller
least_up a xs l h p =
    let t = times_up a (hull_of xs).low (hull_of xs).high h (list_ordered xs) in
    let e : int_le (a *ℤ (hull_of xs).low) (a *ℤ (hull_of xs).high) ≡ true = grind (arith, ints) in
    rw e (ap (λ v. a *ℤ v) (least_hull xs l p))

times_down : (k u v : ℤ) → k ≤ℤ pos 0 → u ≤ℤ v → (k *ℤ v) ≤ℤ (k *ℤ u)
times_down k u v h i = omega (arith, ints, times_opposite k u v, times_up (neg_ℤ k) u v (omega (arith, ints, h)) i, neg_times k u, neg_times k v)

smaller_right_is : (x y : ℤ) → y ≤ℤ x → smaller x y ≡ y
unfolding smaller
smaller_right_is x y h = grind (arith, ints)

pub least_down : (a : ℤ) (xs : List ℤ) (u : ℤ) → a ≤ℤ pos 0 → IsGreatest xs u → least_product a (hull_of xs) ≡ a *ℤ u
unfolding least_product span_scale
least_down a xs u h p =
    smaller_right_is (a *ℤ (hull_of xs).low) (a *ℤ (hull_of xs).high) (times_down a (hull_of xs).low (hull_of xs).high h (list_ordered xs)) ∙ ap (λ v. a *ℤ v) (greatest_hull xs u p)

-- ---- runs

pub inside_ends : (lo hi v : ℤ) → is_outside lo hi v ≡ false → (lo ≤ℤ v) × (v ≤ℤ hi)
unfolding is_outside
inside_ends lo hi v h = (grind (arith, ints), grind (arith, ints))

pub outside_ends : (lo hi v : ℤ) → is_outside lo hi v ≡ true → (v <ℤ lo) ⊎ (hi <ℤ v)
unfolding is_outside
outside_ends lo hi v h = grind (arith, ints)

pub below_outside : (lo hi v : ℤ) → v <ℤ lo → is_outside lo hi v ≡ true
unfolding is_outside
below_outside lo hi v h = grind (arith, ints)

pub above_outside : (lo hi v : ℤ) → hi <ℤ v → is_outside lo hi v ≡ true
unfolding is_outside
above_outside lo hi v h = grind (arith, ints)

pub between_inside : (lo hi v : ℤ) → lo ≤ℤ v → v ≤ℤ hi → is_outside lo hi v ≡ false
unfolding is_outside
between_inside lo hi v h i = grind (arith, ints)

-- ---- what one cut leaves

pub from_run : (F : Family) (x : ℕ) (lo hi v : ℤ) → x < length F → has (cut_of F x lo hi) x v ≡ true → (has F x v ≡ true) × (is_outside lo hi v ≡ true)
from_run F x lo hi v k h = from_filter (is_outside lo hi) (set_of F x) v (subst (λ vs. member v vs ≡ true) (cut_here F x lo hi k) h)

pub in_run : (F : Family) (x : ℕ) (lo hi v : ℤ) → x < length F → has F x v ≡ true → is_outside lo hi v ≡ true → has (cut_of F x lo hi) x v ≡ true
in_run F x lo hi v k h o = subst (λ vs. member v vs ≡ true) (sym (cut_here F x lo hi k)) (member_filter (is_outside lo hi) (set_of F x) v h o)

product_at_least : (F : Family) (x : ℕ) (a l : ℤ) → pos 0 ≤ℤ a → IsLeast (set_of F x) l → least_product a (hull F x) ≡ a *ℤ l
unfolding hull
product_at_least F x a l h p = least_up a (set_of F x) l h p

product_at_greatest : (F : Family) (x : ℕ) (a u : ℤ) → a ≤ℤ pos 0 → IsGreatest (set_of F x) u → least_product a (hull F x) ≡ a *ℤ u
unfolding hull
product_at_greatest F x a u h p = least_down a (set_of F x) u h p

-- how much greater the product is at v than at the end
gap_up : (a s lo q v : ℤ) → pos 0 ≤ℤ a → (a *ℤ q) ≤ℤ s → v ≤ℤ (lo +ℤ q) → (a *ℤ v) ≤ℤ ((a *ℤ lo) +ℤ s)
gap_up a s lo q v h n i = omega (arith, ints, times_up a v (lo +ℤ q) h i, times_plus a lo q, n)

beyond_up : (a s lo q v : ℤ) → pos 0 ≤ℤ a → s <ℤ (a *ℤ (q +ℤ pos 1)) → (lo +ℤ (q +ℤ pos 1)) ≤ℤ v → ((a *ℤ lo) +ℤ s) <ℤ (a *ℤ v)
beyond_up a s lo q v h f i = omega (arith, ints, times_up a (lo +ℤ (q +ℤ pos 1)) v h i, times_plus a lo (q +ℤ pos 1), f)

gap_down : (a s hi q v : ℤ) → pos 0 ≤ℤ neg_ℤ a → (neg_ℤ a *ℤ q) ≤ℤ s → (hi +ℤ neg_ℤ q) ≤ℤ v → (a *ℤ v) ≤ℤ ((a *ℤ hi) +ℤ s)
gap_down a s hi q v h n i = omega (arith, ints, times_opposite a hi v, times_up (neg_ℤ a) (hi +ℤ neg_ℤ v) q h (omega (arith, ints, i)), n)

beyond_down : (a s hi q v : ℤ) → pos 0 ≤ℤ neg_ℤ a → s <ℤ (neg_ℤ a *ℤ (q +ℤ pos 1)) → v ≤ℤ (hi +ℤ neg_ℤ (q +ℤ pos 1)) → ((a *ℤ hi) +ℤ s) <ℤ (a *ℤ v)
beyond_down a s hi q v h f i = omega (arith, ints, times_opposite a hi v, times_up (neg_ℤ a) (q +ℤ pos 1) (hi +ℤ neg_ℤ v) h (omega (arith, ints, i)), f)

pub near_up : (F : Family) (x : ℕ) (a s lo hi : ℤ) → pos 0 <ℤ a → IsLeast (set_of F x) lo → IsGreatest (set_of F x) hi → (a *ℤ (hi +ℤ neg_ℤ lo)) ≤ℤ s → AreNear F x a s
near_up F x a s lo hi h p q n v m =
    let e = product_at_least F x a lo (omega (arith, ints, h)) p in
    omega (arith, ints, e, gap_up a s lo (hi +ℤ neg_ℤ lo) v (omega (arith, ints, h)) n (omega (arith, ints, q.most v m)))

pub near_down : (F : Family) (x : ℕ) (a s lo hi : ℤ) → a <ℤ pos 0 → IsLeast (set_of F x) lo → IsGreatest (set_of F x) hi → (neg_ℤ a *ℤ (hi +ℤ neg_ℤ lo)) ≤ℤ s → AreNear F x a s
near_down F x a s lo hi h p q n v m =
    let e = product_at_greatest F x a hi (omega (arith, ints, h)) q in
    omega (arith, ints, e, gap_down a s hi (hi +ℤ neg_ℤ lo) v (omega (arith, ints, h)) n (omega (arith, ints, p.least v m)))

-- the least value stays, and those after q steps go
pub lost_up : (F G : Family) (x : ℕ) (a s lo hi q m : ℤ) → x < length F → pos 0 <ℤ a → IsLeast (set_of F x) lo → IsGreatest (set_of F x) hi → IsReach a s lo hi q → m ≡ lo +ℤ q +ℤ pos 1 → G ≡ cut_of F x m hi → HasLostRun F G x a s
lost_up F G x a s lo hi q m k h p u r e g =
    let b : pos 0 ≤ℤ a = omega (arith, ints, h) in
    let C = cut_of F x m hi in
    let d = product_at_least F x a lo b p in
    let o = below_outside m hi lo (omega (arith, ints, e, r.least)) in
    let l = in_run F x m hi lo k p.among o in
    let least : IsLeast (set_of C x) lo = record { among = l; least = λ w i. p.least w (from_run F x m hi w k i).0 } in
    let c = product_at_least C x a lo b least in
    record {
      lo = m;
      hi = hi;
      cut = g;
      far = λ v i n. omega (arith, ints, d, beyond_up a s lo q v b r.far (omega (arith, ints, e, (inside_ends m hi v n).0)));
      stays = (lo, subst (λ H. has H x lo ≡ true) (sym g) l);
      gone = hi;
      had = u.among;
      within = between_inside m hi hi (omega (arith, ints, e, r.most)) (omega (arith, ints));
      low = rw g (c ∙ sym d);
      near = rw g (λ v i. let f = from_run F x m hi v k i in elim (outside_ends m hi v f.1) [
        | inl j ↦ omega (arith, ints, c, gap_up a s lo q v b r.near (omega (arith, ints, e, j)))
        | inr j ↦ absurd (omega (arith, ints, u.most v f.0, j))
      ]);
    }

pub lost_down : (F G : Family) (x : ℕ) (a s lo hi q m : ℤ) → x < length F → a <ℤ pos 0 → IsLeast (set_of F x) lo → IsGreatest (set_of F x) hi → IsReach (neg_ℤ a) s lo hi q → m ≡ hi +ℤ neg_ℤ q +ℤ negsuc 0 → G ≡ cut_of F x lo m → HasLostRun F G x a s
lost_down F G x a s lo hi q m k h p u r e g =
    let b : pos 0 ≤ℤ neg_ℤ a = omega (arith, ints, h) in
    let n : a ≤ℤ pos 0 = omega (arith, ints, h) in
    let C = cut_of F x lo m in
    let d = product_at_greatest F x a hi n u in
    let o = above_outside lo m hi (omega (arith, ints, e, r.least)) in
    let l = in_run F x lo m hi k u.among o in
    let greatest : IsGreatest (set_of C x) hi = record { among = l; most = λ w i. u.most w (from_run F x lo m w k i).0 } in
    let c = product_at_greatest C x a hi n greatest in
    record {
      lo = lo;
      hi = m;
      cut = g;
      far = λ v i j. omega (arith, ints, d, beyond_down a s hi q v b r.far (omega (arith, ints, e, (inside_ends lo m v j).1)));
      stays = (hi, subst (λ H. has H x hi ≡ true) (sym g) l);
      gone = lo;
      had = p.among;
      within = between_inside lo m lo (omega (arith, ints)) (omega (arith, ints, e, r.most));
      low = rw g (c ∙ sym d);
      near = rw g (λ v i. let f = from_run F x lo m v k i in elim (outside_ends lo m v f.1) [
        | inl j ↦ absurd (omega (arith, ints, p.least v f.0, j))
        | inr j ↦ omega (arith, ints, c, gap_down a s hi q v b r.near (omega (arith, ints, e, j)))
      ]);
    }

-- ---- as the code sees it

pub least_fits : (F : Family) (x : ℕ) (a v : ℤ) → has F x v ≡ true → IsSmall (unsigned_abs a * magnitude (hull F x)) → IsSmall (unsigned_abs a * unsigned_abs v)
least_fits F x a v m s =
    let w = in_hull F x v m in
    let b : unsigned_abs v ≤ magnitude (hull F x) = within_magnitude (hull F x) v w.least w.most in
    omega (arith, s, mul-le-mul_left (unsigned_abs a) b)
  where
    within_magnitude : (r : Span) (v : ℤ) → r.low ≤ℤ v → v ≤ℤ r.high → unsigned_abs v ≤ magnitude r
    within_magnitude r v l h = omega (arith, ints, l, h)

pub made_up : (F : Family) (x : ℕ) (a l r : ℤ) → pos 0 ≤ℤ a → IsLeast (set_of F x) l → r ≡ a *ℤ l → r ≡ least_product a (hull F x)
made_up F x a l r h p e = e ∙ sym (product_at_least F x a l h p)

pub made_down : (F : Family) (x : ℕ) (a u r : ℤ) → a <ℤ pos 0 → IsGreatest (set_of F x) u → r ≡ a *ℤ u → r ≡ least_product a (hull F x)
made_down F x a u r h p e = e ∙ sym (product_at_greatest F x a u (omega (arith, ints, h)) p)

pub stays_up : (F : Family) (x : ℕ) (a s lo hi q m : ℤ) → x < length F → pos 0 <ℤ a → IsLeast (set_of F x) lo → IsGreatest (set_of F x) hi → IsReach a s lo hi q → m ≡ lo +ℤ q +ℤ pos 1 → (w : ℤ) × (has (cut_of F x m hi) x w ≡ true)
stays_up F x a s lo hi q m k h p u r e = (lost_up F (cut_of F x m hi) x a s lo hi q m k h p u r e refl).stays

pub near_down_by : (F : Family) (x : ℕ) (a b s lo hi : ℤ) → a <ℤ pos 0 → b ≡ neg_ℤ a → IsLeast (set_of F x) lo → IsGreatest (set_of F x) hi → (b *ℤ (hi +ℤ neg_ℤ lo)) ≤ℤ s → AreNear F x a s
near_down_by F x a b s lo hi h o p q n = near_down F x a s lo hi h p q (subst (λ z. (z *ℤ (hi +ℤ neg_ℤ lo)) ≤ℤ s) o n)

pub lost_down_by : (F G : Family) (x : ℕ) (a b s lo hi q m : ℤ) → x < length F → a <ℤ pos 0 → b ≡ neg_ℤ a → IsLeast (set_of F x) lo → IsGreatest (set_of F x) hi → IsReach b s lo hi q → m ≡ hi +ℤ neg_ℤ q +ℤ negsuc 0 → G ≡ cut_of F x lo m → HasLostRun F G x a s
lost_down_by F G x a b s lo hi q m k h o p u r e g = lost_down F G x a s lo hi q m k h p u (subst (λ z. IsReach z s lo hi q) o r) e g

pub stays_down_by : (F : Family) (x : ℕ) (a b s lo hi q m : ℤ) → x < length F → a <ℤ pos 0 → b ≡ neg_ℤ a → IsLeast (set_of F x) lo → IsGreatest (set_of F x) hi → IsReach b s lo hi q → m ≡ hi +ℤ neg_ℤ q +ℤ negsuc 0 → (w : ℤ) × (has (cut_of F x lo m) x w ≡ true)
stays_down_by F x a b s lo hi q m k h o p u r e = (lost_down_by F (cut_of F x lo m) x a b s lo hi q m k h o p u r e refl).stays
