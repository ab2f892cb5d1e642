-- Values of one or two variables that make a linear form zero.
use Rattle.std.proofs.Common.{◌≡◌, ◌≢◌, ◌↔◌, ◌⊎◌, ℕ, zero, suc, ◌+◌, ◌*◌, ◌≤◌, ◌<◌, Bool, true, false, cond, ◌&&◌, ◌||◌, refl, List, [], ◌∷◌, length, ℤ, pos, negsuc, ◌+ℤ◌, ◌*ℤ◌, neg_ℤ, ◌≤ℤ◌, ◌<ℤ◌, ap, sym, ◌∙◌, subst, arith, inl, inr}
use Rattle.std.specs.Prelude.{Option, Some, None, nat_eq, unsigned_abs, int_div, int_rem, int_le, not}
use Rattle.std.specs.List.{list_any}
use Rattle.std.specs.Ordering.{int_eq}
use Rattle.std.proofs.lemmas.Int.{ints, quot-rem, rem_below, unsigned_abs-mul}
use Rattle.std.proofs.Math.IntN.{*ℤ_comm}
use Rattle.std.proofs.lemmas.Bool.Decides.{Decides-int_eq, Decides-eqb}
use Rattle.opl_domain.specs.Arithmetic.{is_nonzero}
use Rattle.opl_domain.specs.Family.{Family, member, set_of, has, Full, IsLeast, IsGreatest, IsNext}
use Rattle.opl_domain.proofs.Members.{member_first, member_later}
use Rattle.opl_domain.proofs.IntervalLaws.{to_nonzero}
use Rattle.opl_domain.specs.Span.{Span}
use Rattle.opl_expr.specs.Range.{count, is_one_or_two, has_zero, misses_zero, never_zero, with_variables}
use Rattle.opl_expr.proofs.Comparisons.{any_found}
use Rattle.opl_expr.proofs.Ring.{plus_times}
use Rattle.std.specs.Prelude.{FitsSigned}
use mir.Syntax.{w128}
use Rattle.opl_expr.specs.Sound.{IsSmall}
use Rattle.opl_range.proofs.Bounds.{abs_div}
use Rattle.opl_range.specs.Between.{IsLastFactor, IsLastVariable, IsRoot, has_root, meets, are_opposite_units, zero_by_two, zero_by_values}

-- ---- tests of lists

any_none : (p : ℤ → Bool) (xs : List ℤ) → ((v : ℤ) → member v xs ≡ true → p v ≡ false) → list_any p xs ≡ false
any_none p [] h = refl
any_none p (x ∷ xs) h = rw (h x (member_first x xs), any_none p xs (λ v m. h v (member_later v x xs m))) refl

any_same : (p : ℤ → Bool) (b : Bool) (xs : List ℤ) (w : ℤ) → member w xs ≡ true → ((v : ℤ) → p v ≡ b) → list_any p xs ≡ b
any_same p true [] w m h = cc
any_same p true (x ∷ xs) w m h = rw (h x) refl
any_same p false xs w m h = any_none p xs (λ v n. h v)

any_ap : (p q : ℤ → Bool) (xs : List ℤ) → ((v : ℤ) → p v ≡ q v) → list_any p xs ≡ list_any q xs
any_ap p q [] h = refl
any_ap p q (x ∷ xs) h = rw (h x, any_ap p q xs h) refl

any_member : (p : ℤ → Bool) (v : ℤ) (xs : List ℤ) → ((w : ℤ) → p w ≡ int_eq v w) → list_any p xs ≡ member v xs
any_member p v [] h = refl
any_member p v (x ∷ xs) h = rw (h x, any_member p v xs h) (or_is (int_eq v x) (member v xs))
  where
    or_is : (b c : Bool) → (b || c) ≡ cond b true c
    or_is true c = refl
    or_is false c = refl

-- ---- variables with coefficient 0

pub zero_times : (v : ℤ) → pos 0 *ℤ v ≡ pos 0
zero_times (pos n) = omega (arith, ints)
zero_times (negsuc n) = omega (arith, ints)

unmoved : (k c v : ℤ) → c ≡ pos 0 → k +ℤ (c *ℤ v) ≡ k
unmoved k c v e = let z = ap (λ d. d *ℤ v) e ∙ zero_times v in omega (arith, ints, z)

skip_one : (F : Family) (c : ℕ → ℤ) (k : ℤ) (n : ℕ) (w : ℤ) → has F n w ≡ true → c n ≡ pos 0 → has_zero F c k (suc n) ≡ has_zero F c k n
skip_one F c k n w m e = any_same (λ v. has_zero F c (k +ℤ (c n *ℤ v)) n) (has_zero F c k n) (set_of F n) w m (λ v. ap (λ z. has_zero F c z n) (unmoved k (c n) v e))

pub last_or_before : (x n : ℕ) → x < suc n → (x ≡ n) ⊎ (x < n)
last_or_before x n h = grind arith

skip_zeros : (F : Family) → Full F → (c : ℕ → ℤ) (k : ℤ) (n x : ℕ) → n ≤ length F → x < n → ((y : ℕ) → x < y → y < n → c y ≡ pos 0) → has_zero F c k n ≡ has_zero F c k (suc x)
skip_zeros F f c k zero x l h b = absurd (omega (arith, h))
skip_zeros F f c k (suc n) x l h b = elim (last_or_before x n h) [
  | inl e ↦ ap (λ m. has_zero F c k (suc m)) (sym e)
  | inr p ↦ let w = f n (omega (arith, l)) in
      skip_one F c k n w.0 w.1 (b n p (omega arith)) ∙ skip_zeros F f c k n x (omega (arith, l)) p (λ y q r. b y q (omega (arith, r)))
]

only_zeros : (F : Family) → Full F → (c : ℕ → ℤ) (k : ℤ) (n : ℕ) → n ≤ length F → ((y : ℕ) → y < n → c y ≡ pos 0) → has_zero F c k n ≡ int_eq k (pos 0)
only_zeros F f c k zero l b = refl
only_zeros F f c k (suc n) l b =
    let w = f n (omega (arith, l)) in
    skip_one F c k n w.0 w.1 (b n (omega arith)) ∙ only_zeros F f c k n (omega (arith, l)) (λ y r. b y (omega (arith, r)))

zero_of_one : (F : Family) → Full F → (c : ℕ → ℤ) (k : ℤ) (n x : ℕ) → n ≤ length F → IsLastVariable c n x → IsLastFactor c x None → has_zero F c k n ≡ has_root F c x k
unfolding has_root
zero_of_one F f c k n x l v b =
    let h = v.below in
    skip_zeros F f c k n x l v.below v.behind
    ∙ any_ap (λ w. has_zero F c (k +ℤ (c x *ℤ w)) x) (λ w. int_eq (k +ℤ (c x *ℤ w)) (pos 0)) (set_of F x) (λ w. only_zeros F f c (k +ℤ (c x *ℤ w)) x (omega (arith, l, h)) b)

zero_of_two : (F : Family) → Full F → (c : ℕ → ℤ) (k : ℤ) (n x y : ℕ) → n ≤ length F → IsLastVariable c n x → IsLastVariable c x y → IsLastFactor c y None → has_zero F c k n ≡ list_any (λ v. has_root F c y (k +ℤ (c x *ℤ v))) (set_of F x)
zero_of_two F f c k n x y l v u b =
    let h = v.below in
    skip_zeros F f c k n x l v.below v.behind
    ∙ any_ap (λ w. has_zero F c (k +ℤ (c x *ℤ w)) x) (λ w. has_root F c y (k +ℤ (c x *ℤ w))) (set_of F x) (λ w. zero_of_one F f c (k +ℤ (c x *ℤ w)) x y (omega (arith, l, h)) u b)

-- ---- counts of variables

skip_counts : (p : ℤ → Bool) → p (pos 0) ≡ false → (c : ℕ → ℤ) (n x : ℕ) → x < n → ((y : ℕ) → x < y → y < n → c y ≡ pos 0) → count p c n ≡ cond (p (c x)) 1 0 + count p c x
skip_counts p z c zero x h b = absurd (omega (arith, h))
skip_counts p z c (suc n) x h b = elim (last_or_before x n h) [
  | inl e ↦ ap (λ m. cond (p (c m)) 1 0 + count p c m) (sym e)
  | inr q ↦
      let e : p (c n) ≡ false = ap p (b n q (omega arith)) ∙ z in
      let r = skip_counts p z c n x q (λ y i j. b y i (omega (arith, j))) in
      rw e (omega (arith, r))
]

no_counts : (p : ℤ → Bool) → p (pos 0) ≡ false → (c : ℕ → ℤ) (n : ℕ) → ((y : ℕ) → y < n → c y ≡ pos 0) → count p c n ≡ 0
no_counts p z c zero b = refl
no_counts p z c (suc n) b =
    let e : p (c n) ≡ false = ap p (b n (omega arith)) ∙ z in
    rw e (omega (arith, no_counts p z c n (λ y r. b y (omega (arith, r)))))

nonzeros : (c : ℕ → ℤ) (n x : ℕ) → IsLastVariable c n x → count is_nonzero c n ≡ suc (count is_nonzero c x)
nonzeros c n x v = skip_counts is_nonzero refl c n x v.below v.behind ∙ rw (to_nonzero (c x) v.nonzero) (omega arith)

pub none_of : (c : ℕ → ℤ) (n : ℕ) → IsLastFactor c n None → is_one_or_two c n ≡ false
none_of c n b = rw (no_counts is_nonzero refl c n b) refl

one_of : (c : ℕ → ℤ) (n x : ℕ) → IsLastVariable c n x → IsLastFactor c x None → is_one_or_two c n ≡ true
one_of c n x v b = rw (nonzeros c n x v ∙ ap suc (no_counts is_nonzero refl c x b)) refl

not_so_few : (m : ℕ) (b : Bool) → (nat_eq (suc (suc (suc m))) 1 || (nat_eq (suc (suc (suc m))) 2 && b)) ≡ false
not_so_few m b = rw (differs (suc (suc (suc m))) 1 (λ e. omega (arith, e)), differs (suc (suc (suc m))) 2 (λ e. omega (arith, e))) refl
  where
    differs : (x y : ℕ) → x ≢ y → nat_eq x y ≡ false
    differs x y n = elim (nat_eq x y) as (λ b. nat_eq x y ≡ b → b ≡ false) [ true ↦ λ e. absurd (n ((Decides-eqb x y).0 e)) | false ↦ λ e. refl ] refl

three_of : (c : ℕ → ℤ) (n x y z : ℕ) → IsLastVariable c n x → IsLastVariable c x y → IsLastVariable c y z → is_one_or_two c n ≡ false
three_of c n x y z v u t =
    let e = nonzeros c n x v ∙ ap suc (nonzeros c x y u ∙ ap suc (nonzeros c y z t)) in
    rw e (not_so_few (count is_nonzero c z) (nat_eq (count (int_eq (pos 1)) c n) 1 && nat_eq (count (int_eq (negsuc 0)) c n) 1))

apart : (v : ℤ) → int_eq (pos 1) v ≡ true → int_eq (negsuc 0) v ≡ false
apart v e = let s : pos 1 ≡ v = (Decides-int_eq (pos 1) v).0 e in subst (λ w. int_eq (negsuc 0) w ≡ false) s refl

one_each : (p q r s : Bool) → (p ≡ true → q ≡ false) → (r ≡ true → s ≡ false)
    → (nat_eq (cond p 1 0 + (cond r 1 0 + 0)) 1 && nat_eq (cond q 1 0 + (cond s 1 0 + 0)) 1) ≡ ((p && s) || (q && r))
one_each true true r s h k = let f = h refl in cc
one_each true false true true h k = let f = k refl in cc
one_each true false true false h k = refl
one_each true false false true h k = refl
one_each true false false false h k = refl
one_each false true true true h k = let f = k refl in cc
one_each false true true false h k = refl
one_each false true false true h k = refl
one_each false true false false h k = refl
one_each false false true true h k = let f = k refl in cc
one_each false false true false h k = refl
one_each false false false true h k = refl
one_each false false false false h k = refl

two_of : (c : ℕ → ℤ) (n x y : ℕ) → IsLastVariable c n x → IsLastVariable c x y → IsLastFactor c y None
    → is_one_or_two c n ≡ are_opposite_units (c x) (c y)
two_of c n x y v u b =
    let e = nonzeros c n x v ∙ ap suc (nonzeros c x y u ∙ ap suc (no_counts is_nonzero refl c y b)) in
    let each : (p : ℤ → Bool) → p (pos 0) ≡ false → count p c n ≡ cond (p (c x)) 1 0 + (cond (p (c y)) 1 0 + 0) =
    λ p z. skip_counts p z c n x v.below v.behind ∙ ap (λ m. cond (p (c x)) 1 0 + m) (skip_counts p z c x y u.below u.behind ∙ ap (λ m. cond (p (c y)) 1 0 + m) (no_counts p z c y b)) in
    rw (e, each (int_eq (pos 1)) refl, each (int_eq (negsuc 0)) refl)
    (one_each (int_eq (pos 1) (c x)) (int_eq (negsuc 0) (c x)) (int_eq (pos 1) (c y)) (int_eq (negsuc 0) (c y)) (apart (c x)) (apart (c y)))

-- ---- zero by values

pub by_none : (F : Family) (c : ℕ → ℤ) (n : ℕ) (k : ℤ) → IsLastFactor c n None → None ≡ zero_by_values F c n k
by_none F c n k b = rw (none_of c n b) refl

-- a root depends on the variable's own coefficient alone
root_alike : (F : Family) (c : ℕ → ℤ) (x : ℕ) (k d : ℤ) → d ≡ c x → has_root F (λ y. d) x k ≡ has_root F c x k
unfolding has_root
root_alike F c x k d p = ap (λ e. list_any (λ v. int_eq (k +ℤ (e *ℤ v)) (pos 0)) (set_of F x)) p

pub by_one : (F : Family) → Full F → (c : ℕ → ℤ) (n x : ℕ) (k d : ℤ) (r : Bool) → n ≤ length F → IsLastVariable c n x → IsLastFactor c x None → d ≡ c x → r ≡ has_root F (λ y. d) x k → Some r ≡ zero_by_values F c n k
by_one F f c n x k d r l v b p e = rw (one_of c n x v b) (ap Some (e ∙ root_alike F c x k d p ∙ sym (zero_of_one F f c k n x l v b)))

pub by_three : (F : Family) (c : ℕ → ℤ) (n x y z : ℕ) (k : ℤ) → IsLastVariable c n x → IsLastVariable c x y → IsLastVariable c y z → None ≡ zero_by_values F c n k
by_three F c n x y z k v u t = rw (three_of c n x y z v u t) refl

two_alike : (F : Family) (c : ℕ → ℤ) (x y : ℕ) (k : ℤ) → zero_by_two F x (c x) y (c y) k ≡ cond (are_opposite_units (c x) (c y)) (Some (list_any (λ v. has_root F c y (k +ℤ (c x *ℤ v))) (set_of F x))) None
unfolding has_root
two_alike F c x y k = refl

pub by_two : (F : Family) → Full F → (c : ℕ → ℤ) (n x y : ℕ) (k i j : ℤ) (r : Option Bool) → n ≤ length F → IsLastVariable c n x → IsLastVariable c x y → IsLastFactor c y None
    → i ≡ c x → j ≡ c y → r ≡ zero_by_two F x i y j k → r ≡ zero_by_values F c n k
by_two F f c n x y k i j r l v t b p q h =
    h ∙ ap (λ u. zero_by_two F x u y j k) p ∙ ap (λ u. zero_by_two F x (c x) y u k) q ∙ two_alike F c x y k
    ∙ ap (λ u. cond u (Some (list_any (λ v. has_root F c y (k +ℤ (c x *ℤ v))) (set_of F x))) None) (sym (two_of c n x y v t b))
    ∙ ap (λ u. cond (is_one_or_two c n) (Some u) None) (sym (zero_of_two F f c k n x y l v t b))

-- ---- the root of one variable

pub positive_abs : (c : ℤ) → c ≢ pos 0 → 0 < unsigned_abs c
positive_abs (pos zero) n = absurd (n refl)
positive_abs (pos (suc k)) n = omega arith
positive_abs (negsuc k) n = omega arith

no_part : (m n : ℕ) → m * n < n → m ≡ 0
no_part zero n h = refl
no_part (suc m) n h = absurd (omega (arith, h))

zero_factor : (w c : ℤ) → c ≢ pos 0 → unsigned_abs (w *ℤ c) < unsigned_abs c → w ≡ pos 0
zero_factor w c n h = zero_abs w (no_part (unsigned_abs w) (unsigned_abs c) (subst (λ m. m < unsigned_abs c) (unsigned_abs-mul w c) h))
  where
    zero_abs : (w : ℤ) → unsigned_abs w ≡ 0 → w ≡ pos 0
    zero_abs (pos m) e = ap pos e
    zero_abs (negsuc m) e = absurd (omega (arith, e))

-- k plus c times v is v plus the quotient, times c, and the remainder
regroup : (k c v : ℤ) → k +ℤ (c *ℤ v) ≡ ((int_div k c +ℤ v) *ℤ c) +ℤ int_rem k c
regroup k c v = omega (arith, ints, quot-rem k c, plus_times (int_div k c) v c, *ℤ_comm v c)

negate_is : (q v : ℤ) → q +ℤ v ≡ pos 0 → v ≡ neg_ℤ q
negate_is q v e = omega (arith, ints, e)

pub root_none : (k c : ℤ) → c ≢ pos 0 → int_rem k c ≢ pos 0 → IsRoot k c None
root_none k c n r v e =
    let b = rem_below k c (positive_abs c n) in
    let g : (int_div k c +ℤ v) *ℤ c ≡ neg_ℤ (int_rem k c) = let f = sym (regroup k c v) ∙ e in omega (arith, ints, f) in
    let a : unsigned_abs ((int_div k c +ℤ v) *ℤ c) < unsigned_abs c = let h : unsigned_abs (neg_ℤ (int_rem k c)) ≡ unsigned_abs (int_rem k c) = omega (arith, ints) in omega (arith, ap unsigned_abs g, h, b) in
    let w = zero_factor (int_div k c +ℤ v) c n a in
    r (let z = ap (λ u. u *ℤ c) w ∙ zero_times c in omega (arith, ints, g, z))

pub root_some : (k c r : ℤ) → c ≢ pos 0 → int_rem k c ≡ pos 0 → r ≡ neg_ℤ (int_div k c) → IsRoot k c (Some r)
root_some k c r n m e v = (
  λ f.
      let g : (int_div k c +ℤ v) *ℤ c ≡ pos 0 = let h = sym (regroup k c v) ∙ f in omega (arith, ints, h, m) in
      let w = zero_factor (int_div k c +ℤ v) c n (subst (λ u. unsigned_abs u < unsigned_abs c) (sym g) (positive_abs c n)) in
      negate_is (int_div k c) v w ∙ sym e,
  λ f.
      let w : int_div k c +ℤ v ≡ pos 0 = let s = f ∙ e in omega (arith, ints, s) in
      let z = ap (λ u. u *ℤ c) w ∙ zero_times c in
      regroup k c v ∙ omega (arith, ints, z, m),
)

both_ways : (b c : Bool) → (b ≡ true → c ≡ true) → (c ≡ true → b ≡ true) → b ≡ c
both_ways true c h k = sym (h refl)
both_ways false true h k = let f = k refl in cc
both_ways false false h k = refl

pub root_value : (F : Family) (c : ℕ → ℤ) (x : ℕ) (k d v : ℤ) (r : Bool) → d ≡ c x → IsRoot k d (Some v) → r ≡ has F x v → r ≡ has_root F c x k
unfolding has_root
root_value F c x k d v r p t e =
    e ∙ sym (any_member (λ w. int_eq (k +ℤ (c x *ℤ w)) (pos 0)) v (set_of F x) (λ w.
    both_ways (int_eq (k +ℤ (c x *ℤ w)) (pos 0)) (int_eq v w)
    (λ f. (Decides-int_eq v w).1 (sym ((t w).0 (ap (λ u. k +ℤ (u *ℤ w)) p ∙ (Decides-int_eq (k +ℤ (c x *ℤ w)) (pos 0)).0 f))))
    (λ f. (Decides-int_eq (k +ℤ (c x *ℤ w)) (pos 0)).1 (ap (λ u. k +ℤ (u *ℤ w)) (sym p) ∙ (t w).1 (sym ((Decides-int_eq v w).0 f))))))

not_equal : (v w : ℤ) → v ≢ w → int_eq v w ≡ false
not_equal v w n = elim (int_eq v w) as (λ b. int_eq v w ≡ b → b ≡ false) [ true ↦ λ e. absurd (n ((Decides-int_eq v w).0 e)) | false ↦ λ e. refl ] refl

pub root_missing : (F : Family) (c : ℕ → ℤ) (x : ℕ) (k d : ℤ) → d ≡ c x → IsRoot k d None → false ≡ has_root F c x k
unfolding has_root
root_missing F c x k d p t = sym (any_none (λ w. int_eq (k +ℤ (c x *ℤ w)) (pos 0)) (set_of F x) (λ w m. not_equal (k +ℤ (c x *ℤ w)) (pos 0) (λ f. t w (ap (λ u. k +ℤ (u *ℤ w)) p ∙ f))))

pub no_value_below : (F : Family) (x : ℕ) (l v : ℤ) → IsLeast (set_of F x) l → v <ℤ l → false ≡ has F x v
no_value_below F x l v p h = elim (has F x v) as (λ b. has F x v ≡ b → false ≡ b) [ true ↦ λ e. absurd (omega (arith, ints, p.least v e, h)) | false ↦ λ e. refl ] refl

pub no_value_above : (F : Family) (x : ℕ) (l v : ℤ) → IsGreatest (set_of F x) l → l <ℤ v → false ≡ has F x v
no_value_above F x l v p h = elim (has F x v) as (λ b. has F x v ≡ b → false ≡ b) [ true ↦ λ e. absurd (omega (arith, ints, p.most v e, h)) | false ↦ λ e. refl ] refl

-- ---- the values of the first of two variables, one after another

-- v is a value of x, and no lesser one, shifted, is a value of y
pub record Passed (F : Family) (x y : ℕ) (shift v : ℤ) : Type 0 where
  pub value : has F x v ≡ true
  pub lesser : (w : ℤ) → has F x w ≡ true → w <ℤ v → has F y (w +ℤ shift) ≡ false

pub first_value : (F : Family) (x y : ℕ) (s v : ℤ) → IsLeast (set_of F x) v → Passed F x y s v
first_value F x y s v p = record { value = p.among; lesser = λ w m h. absurd (omega (arith, ints, p.least w m, h)) }

-- a value is lesser than v, or it is v
up_to : (w v : ℤ) → w ≤ℤ v → (w <ℤ v) ⊎ (w ≡ v)
up_to w v h = grind (arith, ints)

passes : (F : Family) (x y : ℕ) (s v j : ℤ) (r : Bool) → Passed F x y s v → j ≡ v +ℤ s → r ≡ has F y j → r ≡ false → (w : ℤ) → has F x w ≡ true → w ≤ℤ v → has F y (w +ℤ s) ≡ false
passes F x y s v j r p i e f w m h = elim (up_to w v h) [
  | inl q ↦ p.lesser w m q
  | inr q ↦ ap (λ u. has F y (u +ℤ s)) q ∙ ap (has F y) (sym i) ∙ sym e ∙ f
]

pub next_value : (F : Family) (x y : ℕ) (s v j u : ℤ) (r : Bool) → Passed F x y s v → j ≡ v +ℤ s → r ≡ has F y j → r ≡ false → IsNext (set_of F x) v (Some u) → Passed F x y s u
next_value F x y s v j u r p i e f n = record {
  value = n.among;
  lesser = λ w m h. passes F x y s v j r p i e f w m (not_above w u v h (n.least w m));
}
  where
    not_above : (w u v : ℤ) → w <ℤ u → (v <ℤ w → u ≤ℤ w) → w ≤ℤ v
    not_above w u v h t = elim (int_le w v) as (λ b. int_le w v ≡ b → w ≤ℤ v) [
      | true ↦ λ e. grind (arith, ints)
      | false ↦ λ e. let q : v <ℤ w = grind (arith, ints) in absurd (omega (arith, ints, t q, h))
    ] refl

pub last_value : (F : Family) (x y : ℕ) (s v j : ℤ) (r : Bool) → Passed F x y s v → j ≡ v +ℤ s → r ≡ has F y j → r ≡ false → IsNext (set_of F x) v None → false ≡ meets F x y s
unfolding meets
last_value F x y s v j r p i e f n = sym (any_none (λ w. has F y (w +ℤ s)) (set_of F x) (λ w m. passes F x y s v j r p i e f w m (n w m)))

pub found_value : (F : Family) (x y : ℕ) (s v j : ℤ) (r : Bool) → Passed F x y s v → j ≡ v +ℤ s → r ≡ has F y j → r ≡ true → true ≡ meets F x y s
unfolding meets
found_value F x y s v j r p i e f = sym (any_found (λ w. has F y (w +ℤ s)) (set_of F x) v p.value (ap (has F y) (sym i) ∙ sym e ∙ f))

-- ---- two variables with coefficients 1 and -1

-- a root of the second variable is the value of the first, shifted
root_at : (F : Family) (y : ℕ) (k j u : ℤ) → ((w : ℤ) → ((k +ℤ (j *ℤ w)) ≡ pos 0) ↔ (u ≡ w)) → has_root F (λ z. j) y k ≡ has F y u
unfolding has_root
root_at F y k j u h =
    any_member (λ w. int_eq (k +ℤ (j *ℤ w)) (pos 0)) u (set_of F y) (λ w.
    both_ways (int_eq (k +ℤ (j *ℤ w)) (pos 0)) (int_eq u w)
    (λ f. (Decides-int_eq u w).1 ((h w).0 ((Decides-int_eq (k +ℤ (j *ℤ w)) (pos 0)).0 f)))
    (λ f. (Decides-int_eq (k +ℤ (j *ℤ w)) (pos 0)).1 ((h w).1 ((Decides-int_eq u w).0 f))))

once : (v : ℤ) → pos 1 *ℤ v ≡ v
once (pos n) = omega (arith, ints)
once (negsuc n) = omega (arith, ints)

less_once : (v : ℤ) → negsuc 0 *ℤ v ≡ neg_ℤ v
less_once (pos n) = omega (arith, ints)
less_once (negsuc n) = omega (arith, ints)

rises : (k v w : ℤ) → ((k +ℤ (pos 1 *ℤ v) +ℤ (negsuc 0 *ℤ w)) ≡ pos 0) ↔ (v +ℤ k ≡ w)
rises k v w = (λ e. omega (arith, ints, e, once v, less_once w), λ e. omega (arith, ints, e, once v, less_once w))

falls : (k v w : ℤ) → ((k +ℤ (negsuc 0 *ℤ v) +ℤ (pos 1 *ℤ w)) ≡ pos 0) ↔ (v +ℤ neg_ℤ k ≡ w)
falls k v w = (λ e. omega (arith, ints, e, less_once v, once w), λ e. omega (arith, ints, e, less_once v, once w))

unit_up : (i j : ℤ) → are_opposite_units i j ≡ true → i ≡ pos 1 → j ≡ negsuc 0
unit_up i j e p = sym ((Decides-int_eq (negsuc 0) j).0 (cond_up (int_eq (negsuc 0) j) (int_eq (pos 1) j) (subst (λ v. are_opposite_units v j ≡ true) p e)))
  where
    cond_up : (b c : Bool) → ((true && b) || (false && c)) ≡ true → b ≡ true
    cond_up true c e = refl
    cond_up false c e = e

unit_down : (i j : ℤ) → are_opposite_units i j ≡ true → i ≢ pos 1 → (i ≡ negsuc 0) × (j ≡ pos 1)
unit_down i j e n = let d = cond_down (int_eq (pos 1) i) (int_eq (negsuc 0) j) (int_eq (negsuc 0) i) (int_eq (pos 1) j) (λ f. n (sym ((Decides-int_eq (pos 1) i).0 f))) e in
    (sym ((Decides-int_eq (negsuc 0) i).0 d.0), sym ((Decides-int_eq (pos 1) j).0 d.1))
  where
    cond_down : (p q r s : Bool) → p ≢ true → ((p && q) || (r && s)) ≡ true → (r ≡ true) × (s ≡ true)
    cond_down true q r s n e = absurd (n refl)
    cond_down false q true true n e = (refl, refl)
    cond_down false q true false n e = cc
    cond_down false q false s n e = cc

two_known : (F : Family) (x y : ℕ) (k i j : ℤ) (r : Bool) → are_opposite_units i j ≡ true → r ≡ list_any (λ v. has_root F (λ z. j) y (k +ℤ (i *ℤ v))) (set_of F x) → Some r ≡ zero_by_two F x i y j k
two_known F x y k i j r e h = rw e (ap Some h)

pub two_rise : (F : Family) (x y : ℕ) (k i j : ℤ) (r : Bool) → are_opposite_units i j ≡ true → i ≡ pos 1 → r ≡ meets F x y k → Some r ≡ zero_by_two F x i y j k
unfolding meets
two_rise F x y k i j r e p h =
    let q = unit_up i j e p in
    two_known F x y k i j r e (h ∙ sym (any_ap (λ v. has_root F (λ z. j) y (k +ℤ (i *ℤ v))) (λ v. has F y (v +ℤ k)) (set_of F x)
    (λ v. ap (λ u. has_root F (λ z. u) y (k +ℤ (i *ℤ v))) q ∙ ap (λ u. has_root F (λ z. negsuc 0) y (k +ℤ (u *ℤ v))) p ∙ root_at F y (k +ℤ (pos 1 *ℤ v)) (negsuc 0) (v +ℤ k) (rises k v))))

pub two_fall : (F : Family) (x y : ℕ) (k i j s : ℤ) (r : Bool) → are_opposite_units i j ≡ true → i ≢ pos 1 → s ≡ neg_ℤ k → r ≡ meets F x y s → Some r ≡ zero_by_two F x i y j k
unfolding meets
two_fall F x y k i j s r e n t h =
    let q = unit_down i j e n in
    two_known F x y k i j r e (h ∙ ap (λ u. list_any (λ v. has F y (v +ℤ u)) (set_of F x)) t
    ∙ sym (any_ap (λ v. has_root F (λ z. j) y (k +ℤ (i *ℤ v))) (λ v. has F y (v +ℤ neg_ℤ k)) (set_of F x)
    (λ v. ap (λ u. has_root F (λ z. u) y (k +ℤ (i *ℤ v))) q.1 ∙ ap (λ u. has_root F (λ z. pos 1) y (k +ℤ (u *ℤ v))) q.0 ∙ root_at F y (k +ℤ (negsuc 0 *ℤ v)) (pos 1) (v +ℤ neg_ℤ k) (falls k v))))

pub quotient_fits : (x y : ℤ) → IsSmall (unsigned_abs x) → FitsSigned w128 (int_div x y)
quotient_fits x y s = small_fits (int_div x y) (omega (arith, s, abs_div x y))
  where
    small_fits : (v : ℤ) → unsigned_abs v < 170141183460469231731687303715884105728 → FitsSigned w128 v
    small_fits v h = omega (arith, ints)

-- ---- what is never zero

pub never_open : (F : Family) (c : ℕ → ℤ) (n : ℕ) (p : Bool) (r d : Span) (k : ℤ) (m : Bool) → k ≡ r.low → None ≡ cond p (zero_by_values F c n k) None → d ≡ with_variables F c n r → m ≡ misses_zero d → m ≡ never_zero F c n p r
unfolding never_zero
never_open F c n false r d k m i e f g = g ∙ ap misses_zero f
never_open F c n true r d k m i e f g = elim (is_one_or_two c n) as (λ b. None ≡ cond b (Some (has_zero F c k n)) None → m ≡ cond b (cond (has_zero F c r.low n) false true) (misses_zero (with_variables F c n r))) [
  | true ↦ λ h. cc
  | false ↦ λ h. g ∙ ap misses_zero f
] e

pub never_known : (F : Family) (c : ℕ → ℤ) (n : ℕ) (p : Bool) (r : Span) (k : ℤ) (f : Bool) → k ≡ r.low → Some f ≡ cond p (zero_by_values F c n k) None → not f ≡ never_zero F c n p r
unfolding never_zero
never_known F c n false r k f i e = cc
never_known F c n true r k f i e = elim (is_one_or_two c n) as (λ b. Some f ≡ cond b (Some (has_zero F c k n)) None → not f ≡ cond b (cond (has_zero F c r.low n) false true) (misses_zero (with_variables F c n r))) [
  | true ↦ λ h. let s : f ≡ has_zero F c k n = cc in ap not (s ∙ ap (λ z. has_zero F c z n) i) ∙ opposite (has_zero F c r.low n)
  | false ↦ λ h. cc
] e
  where
    opposite : (b : Bool) → not b ≡ cond b false true
    opposite true = refl
    opposite false = refl
