-- What is added to a map of factors, expression by expression.
use Rattle.std.proofs.Common.{◌≡◌, ◌∙◌, ℕ, zero, suc, ◌+◌, ◌*◌, ◌^◌, ◌≤◌, ◌<◌, Bool, true, false, cond, refl, List, [], ◌∷◌, map, length, get_or, drop, ℤ, pos, negsuc, ◌+ℤ◌, ◌*ℤ◌, neg_ℤ, ap, sym, subst, arith, inl, inr}
use Rattle.std.specs.Prelude.{Option, Some, None, unsigned_abs, nat_eq, IsSome, unwrap_or}
use Rattle.std.specs.Ordering.{nat_cmp}
use Rattle.std.specs.BTreeMap.{BTreeMap, Updates, get, is_at}
use Rattle.std.specs.Map.{lookup}
use Rattle.std.proofs.Math.Nat.{mul-le-mul_left, mul-le-mul_right, mul_assoc}
use Rattle.std.proofs.Math.IntN.{+ℤ_assoc, *ℤ_comm}
use Rattle.std.proofs.lemmas.Int.{ints, unsigned_abs-mul}
use Rattle.std.proofs.lemmas.Bool.{cases_lt}
use Rattle.std.proofs.lemmas.Bool.Decides.{Decides-eqb, nat_tests}
use Rattle.std.proofs.lemmas.List.{at_drop_more, at_drop_all}
use Rattle.opl_expr.specs.declared.forms.Expr.{Expr}
use Rattle.opl_expr.specs.declared.forms.Expr.TheVariants as E
use Rattle.opl_expr.specs.declared.model.Core.{Core}
use Rattle.opl_expr.specs.declared.tables.Table.{Table}
use Rattle.opl_expr.specs.declared.tables.Resource.{Resource}
use Rattle.opl_expr.specs.Forms.{Term, terms_of, term, constant_value}
use Rattle.opl_expr.specs.Range.{coef, coefs}
use Rattle.opl_expr.specs.Sound.{IsSmall, IsSoundTerm, term_magnitude, sum_magnitude}
use Rattle.opl_expr.proofs.Ring.{plus_times, times_times}
use Rattle.opl_expr.proofs.Plain.{term_Sum, term_Neg, term_Mul}
use Rattle.opl_range.specs.Between.{term_of, between, CanCompare}
use Rattle.opl_range.proofs.Parts.{coef_small, product_left, product_right, product_whole}
use Rattle.opl_linear_filter.specs.Factors.{factor_at, AreBelow, CanAdd, Adds, IsMultiple}

times_none : (k : ℤ) → k *ℤ pos 0 ≡ pos 0
times_none k = grind (arith, ints)

plus_none : (k : ℤ) → k ≡ k +ℤ pos 0
plus_none k = omega (arith, ints)

times_both : (k u v w : ℤ) → (w +ℤ (k *ℤ u)) +ℤ (k *ℤ v) ≡ w +ℤ (k *ℤ (u +ℤ v))
times_both k u v w = +ℤ_assoc w (k *ℤ u) (k *ℤ v) ∙ ap (λ z. w +ℤ z) ((λ i. *ℤ_comm k u i +ℤ *ℤ_comm k v i) ∙ sym (plus_times u v k) ∙ *ℤ_comm (u +ℤ v) k)

negative : (v : ℤ) → negsuc 0 *ℤ v ≡ neg_ℤ v
negative v = grind (arith, ints)

none_small : (v : ℤ) → unsigned_abs v ≤ 0 → v ≡ pos 0
none_small v h = omega (arith, ints, h)

-- ---- one factor

pub at_number : (x y : ℕ) → is_at (nat_cmp x) y ≡ nat_eq y x
at_number x y = grind (arith, nat_tests)

one_time : (w k : ℤ) → w +ℤ k ≡ w +ℤ (k *ℤ pos 1)
one_time w k = grind (arith, ints)

-- what is found behind a change at one variable
found : (f g : Option ℤ) (before factor : ℤ) (b : Bool) → (b ≡ true → before ≡ unwrap_or f (pos 0)) → g ≡ cond b (Some (before +ℤ factor)) f → unwrap_or g (pos 0) ≡ unwrap_or f (pos 0) +ℤ (factor *ℤ cond b (pos 1) (pos 0))
found f g before factor true h e = ap (λ o. unwrap_or o (pos 0)) e ∙ ap (λ v. v +ℤ factor) (h refl) ∙ one_time (unwrap_or f (pos 0)) factor
found f g before factor false h e = ap (λ o. unwrap_or o (pos 0)) e ∙ plus_none (unwrap_or f (pos 0)) ∙ sym (ap (λ v. unwrap_or f (pos 0) +ℤ v) (times_none factor))

pub factor_put : (old new : BTreeMap ℕ ℤ) (x : ℕ) (before factor v : ℤ) → Updates nat_cmp old new x (Some v) → before ≡ factor_at old x → v ≡ before +ℤ factor → Adds old factor (coef (Term.var x)) new
factor_put old new x before factor v u h e y =
    found (get nat_cmp old y) (get nat_cmp new y) before factor (nat_eq y x)
    (λ s. h ∙ ap (factor_at old) (sym ((Decides-eqb y x).0 s)))
    (u.0 y ∙ ap (λ b. cond b (Some v) (get nat_cmp old y)) (at_number x y) ∙ ap (λ w. cond (nat_eq y x) (Some w) (get nat_cmp old y)) e)

-- ---- multiples

-- what is 0 where so many times it is small
none_by : (p q g : ℕ) → IsSmall (p * (q * g)) → 2 ^ 127 ≤ p * q → g ≡ 0
none_by p q zero s h = refl
none_by p q (suc g) s h =
    let o : 1 ≤ suc g = omega arith in
    let a = mul-le-mul_left (p * q) o in
    let b = mul_assoc p q (suc g) in
    absurd (omega (arith, s, h, a, b))

same_multiple : (times k r v : ℤ) (g : ℕ) → IsMultiple times k r → unsigned_abs v ≤ g → IsSmall (unsigned_abs times * (unsigned_abs k * g)) → r *ℤ v ≡ times *ℤ (k *ℤ v)
same_multiple times k r v g m l s = elim (cases_lt (unsigned_abs times * unsigned_abs k) (2 ^ 127)) [
  | inl h ↦ ap (λ z. z *ℤ v) (m.same h) ∙ times_times times k v
  | inr h ↦
      let n = none_by (unsigned_abs times) (unsigned_abs k) g s h in
      let z = none_small v (omega (arith, l, n)) in
      ap (λ u. r *ℤ u) z ∙ times_none r ∙ sym (ap (λ u. times *ℤ (k *ℤ u)) z ∙ ap (λ u. times *ℤ u) (times_none k) ∙ times_none times)
]

module _ (sets : List (ℤ × ℤ)) (m : BTreeMap ℕ ℤ) (times : ℤ) where
  can_multiple : (k r : ℤ) (g : ℕ) → IsMultiple times k r → CanAdd m times (unsigned_abs k * g) → CanAdd m r g
  can_multiple k r g i f x =
      let a = mul-le-mul_right g i.near in
      let b = mul_assoc (unsigned_abs times) (unsigned_abs k) g in
      omega (arith, f x, a, b)

  multiple_adds : (t : Term) (k r : ℤ) (new : BTreeMap ℕ ℤ) → IsMultiple times k r → CanAdd m times (unsigned_abs k * term_magnitude sets t) → Adds m r (coef t) new → Adds m times (λ x. k *ℤ coef t x) new
  multiple_adds t k r new i f a x =
      let s = f x in
      a x ∙ ap (λ v. factor_at m x +ℤ v) (same_multiple times k r (coef t x) (term_magnitude sets t) i (coef_small sets t x) (omega (arith, s)))

  -- an expression is so many times another one
  pub scaled_can : (s t : Term) (k r : ℤ) → s ≡ Term.scale k t → IsMultiple times k r → CanAdd m times (term_magnitude sets s) → CanAdd m r (term_magnitude sets t)
  scaled_can s t k r e i f = can_multiple k r (term_magnitude sets t) i (subst (λ u. CanAdd m times (term_magnitude sets u)) e f)

  pub scaled_adds : (s t : Term) (k r : ℤ) (new : BTreeMap ℕ ℤ) → s ≡ Term.scale k t → IsMultiple times k r → CanAdd m times (term_magnitude sets s) → Adds m r (coef t) new → Adds m times (coef s) new
  scaled_adds s t k r new e i f a =
      subst (λ u. Adds m times (coef u) new) (sym e)
      (multiple_adds t k r new i (subst (λ u. CanAdd m times (term_magnitude sets u)) e f) a)

  -- an expression is another one with the other sign
  pub negated_can : (s t : Term) (r : ℤ) → s ≡ Term.neg t → IsMultiple times (negsuc 0) r → CanAdd m times (term_magnitude sets s) → CanAdd m r (term_magnitude sets t)
  negated_can s t r e i f =
      let g = subst (λ u. CanAdd m times (term_magnitude sets u)) e f in
      can_multiple (negsuc 0) r (term_magnitude sets t) i (λ x. let h = g x in omega (arith, h))

  pub negated_adds : (s t : Term) (r : ℤ) (new : BTreeMap ℕ ℤ) → s ≡ Term.neg t → IsMultiple times (negsuc 0) r → CanAdd m times (term_magnitude sets s) → Adds m r (coef t) new → Adds m times (coef s) new
  negated_adds s t r new e i f a =
      let g = subst (λ u. CanAdd m times (term_magnitude sets u)) e f in
      let b = multiple_adds t (negsuc 0) r new i (λ x. let h = g x in omega (arith, h)) a in
      subst (λ u. Adds m times (coef u) new) (sym e) (λ x. b x ∙ ap (λ v. factor_at m x +ℤ (times *ℤ v)) (negative (coef t x)))

  pub adds_nothing : (c : ℕ → ℤ) → ((x : ℕ) → c x ≡ pos 0) → Adds m times c m
  adds_nothing c h x = plus_none (factor_at m x) ∙ sym (ap (λ v. factor_at m x +ℤ v) (ap (λ v. times *ℤ v) (h x) ∙ times_none times))

-- ---- the forms of expressions

module _ (tables : List Table) (resources : List Resource) where
  pub neg_is : (e a p : Expr) → e ≡ E.Neg a → p ≡ a → term tables resources e ≡ Term.neg (term tables resources p)
  neg_is e a p i j = ap (term tables resources) i ∙ term_Neg tables resources a ∙ ap (λ z. Term.neg (term tables resources z)) (sym j)

  pub sum_is : (e : Expr) (es ps : List Expr) → e ≡ E.Sum es → ps ≡ es → term tables resources e ≡ Term.sum (terms_of (map (term tables resources) ps))
  sum_is e es ps i j = ap (term tables resources) i ∙ term_Sum tables resources es ∙ ap (λ zs. Term.sum (terms_of (map (term tables resources) zs))) (sym j)

  pub left_is : (e a b p q : Expr) (k : ℤ) → e ≡ E.Mul a b → p ≡ a → q ≡ b → Some k ≡ constant_value (term tables resources p) → term tables resources e ≡ Term.scale k (term tables resources q)
  left_is e a b p q k i j l f =
      ap (term tables resources) i ∙ term_Mul tables resources a b
      ∙ product_left (term tables resources a) (term tables resources b) k (f ∙ ap (λ z. constant_value (term tables resources z)) j)
      ∙ ap (λ z. Term.scale k (term tables resources z)) (sym l)

  pub right_is : (e a b p p' q : Expr) (k : ℤ) → e ≡ E.Mul a b → p ≡ a → p' ≡ a → q ≡ b → None ≡ constant_value (term tables resources p) → Some k ≡ constant_value (term tables resources q) → term tables resources e ≡ Term.scale k (term tables resources p')
  right_is e a b p p' q k i j j' l f g =
      ap (term tables resources) i ∙ term_Mul tables resources a b
      ∙ product_right (term tables resources a) (term tables resources b) k (f ∙ ap (λ z. constant_value (term tables resources z)) j) (g ∙ ap (λ z. constant_value (term tables resources z)) l)
      ∙ ap (λ z. Term.scale k (term tables resources z)) (sym j')

pub both_factors : (tables : List Table) (resources : List Resource) (e a b p q : Expr) → e ≡ E.Mul a b → p ≡ a → q ≡ b → None ≡ constant_value (term tables resources p) → None ≡ constant_value (term tables resources q) → (x : ℕ) → coef (term tables resources e) x ≡ pos 0
both_factors tables resources e a b p q i j l f g x =
    ap (λ t. coef t x) (ap (term tables resources) i ∙ term_Mul tables resources a b
    ∙ product_whole (term tables resources a) (term tables resources b) (f ∙ ap (λ z. constant_value (term tables resources z)) j) (g ∙ ap (λ z. constant_value (term tables resources z)) l))

-- a variable alone
pub var_can : (sets : List (ℤ × ℤ)) (m : BTreeMap ℕ ℤ) (times : ℤ) (t : Term) (x : ℕ) → t ≡ Term.var x → CanAdd m times (term_magnitude sets t) → CanAdd m times 1
var_can sets m times t x e f y =
    let s = subst (λ u. IsSmall (unsigned_abs (factor_at m y) + unsigned_abs times * term_magnitude sets u)) e (f y) in
    let l = mul-le-mul_left (unsigned_abs times) (coef_small sets (Term.var x) x) in
    let o = ap (λ b. unsigned_abs (cond b (pos 1) (pos 0))) ((Decides-eqb x x).1 refl) in
    omega (arith, s, l, o, ap (λ k. unsigned_abs times * k) o)

pub var_there : (sets : List (ℤ × ℤ)) (t : Term) (x : ℕ) → t ≡ Term.var x → IsSoundTerm sets t → x < length sets
var_there sets t x e s = (subst (IsSoundTerm sets) e s).1

pub scaled_sound : (sets : List (ℤ × ℤ)) (s t : Term) (k : ℤ) → s ≡ Term.scale k t → IsSoundTerm sets s → IsSoundTerm sets t
scaled_sound sets s t k e h = (subst (IsSoundTerm sets) e h).2

pub negated_sound : (sets : List (ℤ × ℤ)) (s t : Term) → s ≡ Term.neg t → IsSoundTerm sets s → IsSoundTerm sets t
negated_sound sets s t e h = (subst (IsSoundTerm sets) e h).1

-- ---- one expression after another

-- those before the rest were added, and the rest can be
pub record AddsUpTo (sets : List (ℤ × ℤ)) (f : Expr → Term) (times : ℤ) (old now : BTreeMap ℕ ℤ) (all rest : List Expr) : Type 0 where
  pub below : AreBelow (length sets) now
  pub factors : (x : ℕ) → factor_at now x +ℤ (times *ℤ coefs (terms_of (map f rest)) x) ≡ factor_at old x +ℤ (times *ℤ coefs (terms_of (map f all)) x)
  pub fits : CanAdd now times (sum_magnitude sets (terms_of (map f rest)))

module _ (sets : List (ℤ × ℤ)) (f : Expr → Term) (times : ℤ) (old now : BTreeMap ℕ ℤ) (all : List Expr) where
  still_small : (new : BTreeMap ℕ ℤ) (e : Expr) (g x : ℕ) → Adds now times (coef (f e)) new → IsSmall (unsigned_abs (factor_at now x) + unsigned_abs times * (term_magnitude sets (f e) + g)) → IsSmall (unsigned_abs (factor_at new x) + unsigned_abs times * g)
  still_small new e g x a s =
      let b = ap unsigned_abs (a x) in
      let c : unsigned_abs (factor_at now x +ℤ (times *ℤ coef (f e) x)) ≤ unsigned_abs (factor_at now x) + unsigned_abs (times *ℤ coef (f e) x) = omega (arith, ints) in
      let d = unsigned_abs-mul times (coef (f e) x) in
      let l = mul-le-mul_left (unsigned_abs times) (coef_small sets (f e) x) in
      omega (arith, s, b, c, d, l)

  pub adds_next : (new : BTreeMap ℕ ℤ) (i : ℕ) (e : Expr) → i < length all → e ≡ get_or all i e → AddsUpTo sets f times old now all (drop i all) → AreBelow (length sets) new → Adds now times (coef (f e)) new → AddsUpTo sets f times old new all (drop (i + 1) all)
  adds_next new i e h g u b a =
      let s : drop i all ≡ e ∷ drop (i + 1) all = at_drop_more (λ l. l) all i e h ∙ ap (λ z. z ∷ drop (i + 1) all) (sym g) in
      record {
        below = b;
        factors = λ x.
            ap (λ v. v +ℤ (times *ℤ coefs (terms_of (map f (drop (i + 1) all))) x)) (a x)
            ∙ times_both times (coef (f e) x) (coefs (terms_of (map f (drop (i + 1) all))) x) (factor_at now x)
            ∙ ap (λ l. factor_at now x +ℤ (times *ℤ coefs (terms_of (map f l)) x)) (sym s)
            ∙ u.factors x;
        fits = λ x. still_small new e (sum_magnitude sets (terms_of (map f (drop (i + 1) all)))) x a (subst (λ l. IsSmall (unsigned_abs (factor_at now x) + unsigned_abs times * sum_magnitude sets (terms_of (map f l)))) s (u.fits x));
      }

  -- the first of the rest can be added
  pub can_next : (i : ℕ) (e : Expr) → i < length all → e ≡ get_or all i e → AddsUpTo sets f times old now all (drop i all) → CanAdd now times (term_magnitude sets (f e))
  can_next i e h g u x =
      let s : drop i all ≡ e ∷ drop (i + 1) all = at_drop_more (λ l. l) all i e h ∙ ap (λ z. z ∷ drop (i + 1) all) (sym g) in
      let t = subst (λ l. IsSmall (unsigned_abs (factor_at now x) + unsigned_abs times * sum_magnitude sets (terms_of (map f l)))) s (u.fits x) in
      omega (arith, t)

  pub adds_all : (i : ℕ) → length all ≤ i → AddsUpTo sets f times old now all (drop i all) → Adds old times (coefs (terms_of (map f all))) now
  adds_all i h u x =
      plus_none (factor_at now x) ∙ sym (ap (λ v. factor_at now x +ℤ v) (times_none times))
      ∙ ap (λ l. factor_at now x +ℤ (times *ℤ coefs (terms_of (map f l)) x)) (sym (at_drop_all (λ l. l) all i h))
      ∙ u.factors x

-- ---- two expressions

nothing_at : (m : BTreeMap ℕ ℤ) (x : ℕ) → m.entries ≡ [] → get nat_cmp m x ≡ None
nothing_at m x e = ap (lookup (is_at (nat_cmp x))) e

no_factor : (m : BTreeMap ℕ ℤ) (x : ℕ) → m.entries ≡ [] → factor_at m x ≡ pos 0
no_factor m x e = ap (λ o. unwrap_or o (pos 0)) (nothing_at m x e)

pub none_below : (n : ℕ) (m : BTreeMap ℕ ℤ) → m.entries ≡ [] → AreBelow n m
none_below n m e x s = let t = subst IsSome (nothing_at m x e) s in absurd (cc)

once : (v : ℤ) → pos 0 +ℤ (pos 1 *ℤ v) ≡ v
once v = grind (arith, ints)

module _ (core : Core) (a b : Expr) (none first both : BTreeMap ℕ ℤ) (s : CanCompare core a b) where
  pub first_can : none.entries ≡ [] → CanAdd none (pos 1) (term_magnitude core.sets (term_of core a))
  first_can e x = let z = ap unsigned_abs (no_factor none x e) in let m = s.0 in omega (arith, z, m)

  first_is : none.entries ≡ [] → Adds none (pos 1) (coef (term_of core a)) first → (x : ℕ) → factor_at first x ≡ coef (term_of core a) x
  first_is e f x = f x ∙ ap (λ v. v +ℤ (pos 1 *ℤ coef (term_of core a) x)) (no_factor none x e) ∙ once (coef (term_of core a) x)

  pub second_can : none.entries ≡ [] → Adds none (pos 1) (coef (term_of core a)) first → CanAdd first (negsuc 0) (term_magnitude core.sets (term_of core b))
  second_can e f x =
      let z = ap unsigned_abs (first_is e f x) in
      let c = coef_small core.sets (term_of core a) x in
      let m = s.0 in
      omega (arith, z, c, m)

  pub both_are : none.entries ≡ [] → Adds none (pos 1) (coef (term_of core a)) first → Adds first (negsuc 0) (coef (term_of core b)) both → (x : ℕ) → factor_at both x ≡ between core a b x
  unfolding between
  both_are e f g x = g x ∙ (λ i. first_is e f x i +ℤ negative (coef (term_of core b) x) i)

  pub both_small : none.entries ≡ [] → Adds none (pos 1) (coef (term_of core a)) first → Adds first (negsuc 0) (coef (term_of core b)) both → (x : ℕ) → IsSmall (unsigned_abs (factor_at both x))
  unfolding between
  both_small e f g x =
      let z = ap unsigned_abs (both_are e f g x) in
      let c = coef_small core.sets (term_of core a) x in
      let d = coef_small core.sets (term_of core b) x in
      let u : unsigned_abs (coef (term_of core a) x +ℤ neg_ℤ (coef (term_of core b) x)) ≤ unsigned_abs (coef (term_of core a) x) + unsigned_abs (coef (term_of core b) x) = omega (arith, ints) in
      let m = s.0 in
      omega (arith, z, c, d, u, m)
