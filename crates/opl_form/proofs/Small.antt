-- No value of an expression is greater than its magnitude.
use Rattle.std.proofs.Common.{◌≡◌, ℕ, suc, ◌+◌, ◌*◌, ◌≤◌, max, ℤ, pos, negsuc, ◌+ℤ◌, ◌*ℤ◌, neg_ℤ, Bool, true, false, cond, int_div, int_rem, unsigned_abs, List, [], ◌∷◌, map, Option, None, Some, refl, subst, arith}
use Rattle.std.specs.Ordering.{int_eq}
use Rattle.std.proofs.lemmas.Int.{ints, unsigned_abs-mul}
use Rattle.std.proofs.Math.Nat.{mul-le-mul, div-le_self, mod-le}
use Rattle.opl_domain.specs.Span.{smaller, larger}
use Rattle.opl_expr.specs.declared.tables.Cell.{Cell}
use Rattle.opl_expr.specs.declared.tables.Cell.TheVariants as cell
use Rattle.opl_expr.specs.declared.tables.Table.{Table}
use Rattle.opl_expr.specs.Forms.{Term, Terms}
use Rattle.opl_expr.specs.Holds.{bit, value, all_values, holds, value_at, quotient, remainder, cell_value, is_index}
use Rattle.opl_expr.specs.Options.{lift1, lift, bind, lift_all, lift_some, lift_more, joined, combined}
use Rattle.opl_expr.specs.Range.{look_up, chosen, taken, masks}
use Rattle.opl_expr.specs.Sound.{var_magnitude, cell_magnitude, cells_magnitude, term_magnitude, sum_magnitude, greatest_magnitude}

some-same : {A : Type 0} (x y : A) → ◌≡◌ {A = Option A} (Some x) (Some y) → x ≡ y
some-same x y h = cc

-- what two results give, where they give something
two-there : {A B C : Type 0} (f : A → B → C) (o : Option A) (p : Option B) (c : C) → lift f o p ≡ Some c → (a : A) × (b : B) × (o ≡ Some a) × (p ≡ Some b) × (f a b ≡ c)
two-there f None p c h = absurd (cc)
two-there f (Some a) None c h = absurd (cc)
two-there f (Some a) (Some b) c h = (a, b, refl, refl, some-same (f a b) c h)

one-there : {A B : Type 0} (f : A → B) (o : Option A) (b : B) → lift1 f o ≡ Some b → (a : A) × (o ≡ Some a) × (f a ≡ b)
one-there f None b h = absurd (cc)
one-there f (Some a) b h = (a, refl, some-same (f a) b h)

bound-there : {A B C : Type 0} (f : A → B → Option C) (o : Option A) (p : Option B) (c : C) → bind f o p ≡ Some c → (a : A) × (b : B) × (o ≡ Some a) × (p ≡ Some b) × (f a b ≡ Some c)
bound-there f None p c h = absurd (cc)
bound-there f (Some a) None c h = absurd (cc)
bound-there f (Some a) (Some b) c h = (a, b, refl, refl, h)

plus-small : (a b : ℤ) (m n : ℕ) → unsigned_abs a ≤ m → unsigned_abs b ≤ n → unsigned_abs (a +ℤ b) ≤ m + n
plus-small a b m n h k = let p : unsigned_abs (a +ℤ b) ≤ unsigned_abs a + unsigned_abs b = omega (arith, ints) in omega (arith, p, h, k)

neg-small : (a : ℤ) (m : ℕ) → unsigned_abs a ≤ m → unsigned_abs (neg_ℤ a) ≤ m
neg-small a m h = let p : unsigned_abs (neg_ℤ a) ≡ unsigned_abs a = omega (arith, ints) in omega (arith, p, h)

times-small : (a b : ℤ) (m n : ℕ) → unsigned_abs a ≤ m → unsigned_abs b ≤ n → unsigned_abs (a *ℤ b) ≤ m * n
times-small a b m n h k = omega (arith, unsigned_abs-mul a b, mul-le-mul h k)

below-max : (k m : ℕ) → k ≤ m → k ≤ max 1 m
below-max k m h = omega (arith, h)

bit-small : (b : Bool) → unsigned_abs (bit b) ≤ 1
bit-small true = omega arith
bit-small false = omega arith

smaller-small : (a b : ℤ) (m n : ℕ) → unsigned_abs a ≤ m → unsigned_abs b ≤ n → unsigned_abs (smaller a b) ≤ max m n
unfolding smaller
smaller-small a b m n h k = grind (arith, h, k)

larger-small : (a b : ℤ) (m n : ℕ) → unsigned_abs a ≤ m → unsigned_abs b ≤ n → unsigned_abs (larger a b) ≤ max m n
unfolding larger
larger-small a b m n h k = grind (arith, h, k)

abs_div : (v w : ℤ) → unsigned_abs (int_div v w) ≤ unsigned_abs v
abs_div (pos a) (pos b) = omega (arith, div-le_self a b)
abs_div (pos a) (negsuc b) = omega (arith, ints, div-le_self a (suc b))
abs_div (negsuc a) (pos b) = omega (arith, ints, div-le_self (suc a) b)
abs_div (negsuc a) (negsuc b) = omega (arith, div-le_self (suc a) (suc b))

abs_rem : (v w : ℤ) → unsigned_abs (int_rem v w) ≤ unsigned_abs v
abs_rem (pos a) w = omega (arith, mod-le a (unsigned_abs w))
abs_rem (negsuc a) w = omega (arith, ints, mod-le (suc a) (unsigned_abs w))

-- the number behind a test for zero
past-zero : (b : Bool) (x c : ℤ) (m : ℕ) → ◌≡◌ {A = Option ℤ} (cond b None (Some x)) (Some c) → unsigned_abs x ≤ m → unsigned_abs c ≤ m
past-zero true x c m e h = absurd (cc)
past-zero false x c m e h = subst (λ c. unsigned_abs c ≤ m) (some-same x c e) h

quotient-small : (a b c : ℤ) → quotient a b ≡ Some c → unsigned_abs c ≤ unsigned_abs a
quotient-small a b c e = past-zero (int_eq b (pos 0)) (int_div a b) c (unsigned_abs a) e (abs_div a b)

remainder-small : (a b c : ℤ) → remainder a b ≡ Some c → unsigned_abs c ≤ unsigned_abs a
remainder-small a b c e = past-zero (int_eq b (pos 0)) (int_rem a b) c (unsigned_abs a) e (abs_rem a b)

module _ (sets : List (ℤ × ℤ)) (ns : List ℤ) (within : (x : ℕ) → unsigned_abs (value_at ns x) ≤ var_magnitude sets x) where
  up : (k m : ℕ) → k ≤ m → k ≤ max m 0
  up k m h = omega (arith, h)

  le-trans : (a b c : ℕ) → a ≤ b → b ≤ c → a ≤ c
  le-trans a b c h k = omega (arith, h, k)

  cell-small : (c : Cell) → unsigned_abs (cell_value ns c) ≤ cell_magnitude sets c
  cell-small (cell.Const k) = omega arith
  cell-small (cell.Var x) = within x

  -- the first of the cells that are chosen is one of the cells
  chosen-small : (bs : List Bool) (cells : List Cell) (v : ℤ) → joined (λ v w. v) (map (cell_value ns) (chosen bs cells)) ≡ Some v → unsigned_abs v ≤ cells_magnitude sets cells
  chosen-small [] cells v h = absurd (cc)
  chosen-small (b ∷ bs) [] v h = absurd (cc)
  chosen-small (true ∷ bs) (c ∷ cells) v h = subst (λ v. unsigned_abs v ≤ max (cell_magnitude sets c) (cells_magnitude sets cells)) (first-of (cell_value ns c) (joined (λ v w. v) (map (cell_value ns) (chosen bs cells))) v h) (up (unsigned_abs (cell_value ns c)) (cell_magnitude sets c) (cells_magnitude sets cells) (cell-small c))
    where
      first-of : (a : ℤ) (o : Option ℤ) (v : ℤ) → Some (combined (λ v w. v) a o) ≡ Some v → a ≡ v
      first-of a None v h = some-same a v h
      first-of a (Some b) v h = some-same a v h

      up : (k m n : ℕ) → k ≤ m → k ≤ max m n
      up k m n h = omega (arith, h)
  chosen-small (false ∷ bs) (c ∷ cells) v h = up (unsigned_abs v) (cell_magnitude sets c) (cells_magnitude sets cells) (chosen-small bs cells v h)
    where
      up : (k m n : ℕ) → k ≤ n → k ≤ max m n
      up k m n h = omega (arith, h)

  table-small : (table : Option Table) (os : List (Option ℤ)) (v : ℤ) → look_up is_index (cell_value ns) (λ v w. v) table os ≡ Some v → unsigned_abs v ≤ Rattle.opl_expr.specs.Sound.table_magnitude sets table
  table-small None os v h = absurd (cc)
  table-small (Some t) os v h = chosen-small (taken (masks is_index t.dims os)) t.cells v h

  mutual
    pub value-small : (t : Term) (v : ℤ) → value ns t ≡ Some v → unsigned_abs v ≤ term_magnitude sets t
    value-small (Term.const k) v h = subst (λ v. unsigned_abs v ≤ unsigned_abs k) (some-same k v h) (omega arith)
    value-small (Term.var x) v h = subst (λ v. unsigned_abs v ≤ var_magnitude sets x) (some-same (value_at ns x) v h) (within x)
    value-small (Term.sum ts) v h = total-small ts v h
    value-small (Term.neg t) v h = let p = one-there neg_ℤ (value ns t) v h in subst (λ v. unsigned_abs v ≤ term_magnitude sets t) p.2 (neg-small p.0 (term_magnitude sets t) (value-small t p.0 p.1))
    value-small (Term.scale k t) v h = let p = one-there (λ v. k *ℤ v) (value ns t) v h in subst (λ v. unsigned_abs v ≤ unsigned_abs k * term_magnitude sets t) p.2 (times-small k p.0 (unsigned_abs k) (term_magnitude sets t) (omega arith) (value-small t p.0 p.1))
    value-small (Term.mul s t) v h = let p = two-there ◌*ℤ◌ (value ns s) (value ns t) v h in subst (λ v. unsigned_abs v ≤ max 1 (term_magnitude sets s * term_magnitude sets t)) p.4 (below-max (unsigned_abs (p.0 *ℤ p.1)) (term_magnitude sets s * term_magnitude sets t) (times-small p.0 p.1 (term_magnitude sets s) (term_magnitude sets t) (value-small s p.0 p.2) (value-small t p.1 p.3)))
    value-small (Term.div s t) v h = let p = bound-there quotient (value ns s) (value ns t) v h in below-max (unsigned_abs v) (term_magnitude sets s) (le-trans (unsigned_abs v) (unsigned_abs p.0) (term_magnitude sets s) (quotient-small p.0 p.1 v p.4) (value-small s p.0 p.2))
    value-small (Term.rem s t) v h = let p = bound-there remainder (value ns s) (value ns t) v h in below-max (unsigned_abs v) (term_magnitude sets s) (le-trans (unsigned_abs v) (unsigned_abs p.0) (term_magnitude sets s) (remainder-small p.0 p.1 v p.4) (value-small s p.0 p.2))
    value-small (Term.abs t) v h = let p = one-there (λ v. pos (unsigned_abs v)) (value ns t) v h in subst (λ v. unsigned_abs v ≤ max 1 (term_magnitude sets t)) p.2 (below-max (unsigned_abs p.0) (term_magnitude sets t) (value-small t p.0 p.1))
    value-small (Term.least ts) v h = below-max (unsigned_abs v) (greatest_magnitude sets ts) (some-small smaller smaller-small ts v h)
    value-small (Term.greatest ts) v h = below-max (unsigned_abs v) (greatest_magnitude sets ts) (some-small larger larger-small ts v h)
    value-small (Term.at table ts) v h = below-max (unsigned_abs v) (Rattle.opl_expr.specs.Sound.table_magnitude sets table) (table-small table (all_values ns ts) v h)
    value-small (Term.truth c) v h = let p = one-there bit (holds ns c) v h in subst (λ v. unsigned_abs v ≤ 1) p.2 (bit-small p.0)
    value-small (Term.asked ask x) v h = absurd (cc)

    total-small : (ts : Terms) (v : ℤ) → lift_all ◌+ℤ◌ (pos 0) (all_values ns ts) ≡ Some v → unsigned_abs v ≤ sum_magnitude sets ts
    total-small Terms.no_terms v h = subst (λ v. unsigned_abs v ≤ 0) (some-same (pos 0) v h) (omega arith)
    total-small (Terms.more_terms t ts) v h =
        let p = two-there ◌+ℤ◌ (value ns t) (lift_all ◌+ℤ◌ (pos 0) (all_values ns ts)) v h in
        subst (λ v. unsigned_abs v ≤ term_magnitude sets t + sum_magnitude sets ts) p.4 (plus-small p.0 p.1 (term_magnitude sets t) (sum_magnitude sets ts) (value-small t p.0 p.2) (total-small ts p.1 p.3))

    some-small : (f : ℤ → ℤ → ℤ) → ((a b : ℤ) (m n : ℕ) → unsigned_abs a ≤ m → unsigned_abs b ≤ n → unsigned_abs (f a b) ≤ max m n) → (ts : Terms) (v : ℤ) → lift_some f (all_values ns ts) ≡ Some v → unsigned_abs v ≤ greatest_magnitude sets ts
    some-small f small Terms.no_terms v h = absurd (cc)
    some-small f small (Terms.more_terms t ts) v h = more-small f small ts (value ns t) (term_magnitude sets t) v (λ w e. value-small t w e) h

    more-small : (f : ℤ → ℤ → ℤ) → ((a b : ℤ) (m n : ℕ) → unsigned_abs a ≤ m → unsigned_abs b ≤ n → unsigned_abs (f a b) ≤ max m n) → (ts : Terms) (o : Option ℤ) (m : ℕ) (v : ℤ) →
        ((w : ℤ) → o ≡ Some w → unsigned_abs w ≤ m) → lift_more f o (all_values ns ts) ≡ Some v → unsigned_abs v ≤ max m (greatest_magnitude sets ts)
    more-small f small Terms.no_terms o m v k h = up (unsigned_abs v) m (k v h)
    more-small f small (Terms.more_terms t ts) o m v k h =
        let p = two-there f o (lift_more f (value ns t) (all_values ns ts)) v h in
        subst (λ v. unsigned_abs v ≤ max m (max (term_magnitude sets t) (greatest_magnitude sets ts))) p.4
        (small p.0 p.1 m (max (term_magnitude sets t) (greatest_magnitude sets ts)) (k p.0 p.2) (more-small f small ts (value ns t) (term_magnitude sets t) p.1 (λ w e. value-small t w e) p.3))
