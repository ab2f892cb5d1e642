-- No value of a sound expression is greater in absolute value than its magnitude.
use Rattle.std.proofs.Common.{◌≡◌, ℕ, zero, suc, ◌+◌, ◌*◌, ◌≤◌, ◌<◌, max, Bool, true, false, cond, ◌&&◌, refl, List, [], ◌∷◌, map, length, ℤ, pos, negsuc, ◌+ℤ◌, ◌*ℤ◌, neg_ℤ, ◌≤ℤ◌, ap, sym, ◌∙◌, arith, inl, inr}
use Rattle.std.specs.Prelude.{int_le, int_div, int_rem, unsigned_abs, slice_index_or, Option, Some, None}
use Rattle.std.specs.Ordering.{int_eq}
use Rattle.std.specs.List.{list_all}
use Rattle.std.proofs.lemmas.Bool.{ltb-true}
use Rattle.std.proofs.Math.Nat.{mul-le-mul, div-le_self, mod-le}
use Rattle.std.proofs.lemmas.Int.{ints, unsigned_abs-mul}
use Rattle.opl_domain.specs.Span.{smaller, larger, values}
use Rattle.opl_domain.specs.Family.{Family, member}
use Rattle.opl_domain.proofs.Numbers.{smaller_tells, larger_tells}
use Rattle.opl_domain.proofs.Members.{from_values}
use Rattle.opl_expr.specs.declared.model.Core.{Core}
use Rattle.opl_expr.specs.declared.tables.Cell.{Cell}
use Rattle.opl_expr.specs.declared.tables.Cell.TheVariants as cell
use Rattle.opl_expr.specs.Forms.{Term, Terms}
use Rattle.opl_expr.specs.Options.{lift1, lift, bind, lift_all, lift_some, combined, joined}
use Rattle.opl_expr.specs.Range.{chosen, taken, masks}
use Rattle.opl_expr.specs.Holds.{bit, value_at, quotient, remainder, is_index, cell_value, value, all_values, holds}
use Rattle.opl_expr.specs.Solutions.{declared, is_among}
use Rattle.opl_expr.specs.Sound.{IsSmall, set_magnitude, var_magnitude, cell_magnitude, cells_magnitude, term_magnitude, sum_magnitude, greatest_magnitude, IsSoundTerm, AreSoundTerms, is_there}

-- ---- results that are there

pub lift1_parts : {A B : Type 0} (f : A → B) (o : Option A) (u : B) → lift1 f o ≡ Some u → (v : A) × (o ≡ Some v) × (u ≡ f v)
lift1_parts f None u e = cc
lift1_parts f (Some v) u e = (v, refl, cc)

pub lift_parts : {A B C : Type 0} (f : A → B → C) (o : Option A) (p : Option B) (u : C) → lift f o p ≡ Some u → (v : A) × (w : B) × (o ≡ Some v) × (p ≡ Some w) × (u ≡ f v w)
lift_parts f None p u e = cc
lift_parts f (Some v) None u e = cc
lift_parts f (Some v) (Some w) u e = (v, w, refl, refl, cc)

pub bind_parts : {A B C : Type 0} (f : A → B → Option C) (o : Option A) (p : Option B) (u : C) → bind f o p ≡ Some u → (v : A) × (w : B) × (o ≡ Some v) × (p ≡ Some w) × (f v w ≡ Some u)
bind_parts f None p u e = cc
bind_parts f (Some v) None u e = cc
bind_parts f (Some v) (Some w) u e = (v, w, refl, refl, e)

-- ---- absolute values

abs_div : (v w : ℤ) → unsigned_abs (int_div v w) ≤ unsigned_abs v
abs_div (pos a) (pos b) = omega (arith, div-le_self a b)
abs_div (pos a) (negsuc b) = omega (arith, ints, div-le_self a (suc b))
abs_div (negsuc a) (pos b) = omega (arith, ints, div-le_self (suc a) b)
abs_div (negsuc a) (negsuc b) = omega (arith, div-le_self (suc a) (suc b))

abs_rem : (v w : ℤ) → unsigned_abs (int_rem v w) ≤ unsigned_abs v
abs_rem (pos a) w = omega (arith, mod-le a (unsigned_abs w))
abs_rem (negsuc a) w = omega (arith, ints, mod-le (suc a) (unsigned_abs w))

pub abs_times : (v w : ℤ) (m n : ℕ) → unsigned_abs v ≤ m → unsigned_abs w ≤ n → unsigned_abs (v *ℤ w) ≤ m * n
abs_times v w m n p q = omega (arith, unsigned_abs-mul v w, mul-le-mul p q)

quotient_is : (v w u : ℤ) → quotient v w ≡ Some u → u ≡ int_div v w
quotient_is v w u e = elim (int_eq w (pos 0)) as (λ b. cond b None (Some (int_div v w)) ≡ Some u → u ≡ int_div v w) [ true ↦ λ f. cc | false ↦ λ f. cc ] e

remainder_is : (v w u : ℤ) → remainder v w ≡ Some u → u ≡ int_rem v w
remainder_is v w u e = elim (int_eq w (pos 0)) as (λ b. cond b None (Some (int_rem v w)) ≡ Some u → u ≡ int_rem v w) [ true ↦ λ f. cc | false ↦ λ f. cc ] e

abs_smaller : (v w : ℤ) → unsigned_abs (smaller v w) ≤ max (unsigned_abs v) (unsigned_abs w)
abs_smaller v w = elim (smaller_tells v w) [ inl t ↦ omega (arith, ap unsigned_abs t.0) | inr t ↦ omega (arith, ap unsigned_abs t.0) ]

abs_larger : (v w : ℤ) → unsigned_abs (larger v w) ≤ max (unsigned_abs v) (unsigned_abs w)
abs_larger v w = elim (larger_tells v w) [ inl t ↦ omega (arith, ap unsigned_abs t.0) | inr t ↦ omega (arith, ap unsigned_abs t.0) ]

-- ---- assignments of the declared sets

abbrev pub sets_of : List (ℤ × ℤ) → Family
sets_of sets = map (λ p. values (record { low = p.0; high = p.1 })) sets

within_set : (p : ℤ × ℤ) (v : ℤ) (sets : List (ℤ × ℤ)) → member v (values (record { low = p.0; high = p.1 })) ≡ true → unsigned_abs v ≤ set_magnitude sets p
within_set p v sets m =
    let w = from_values (record { low = p.0; high = p.1 }) v m in
    elim (int_le p.0 p.1) as (λ b. int_le p.0 p.1 ≡ b → unsigned_abs v ≤ cond b (max 1 (max (unsigned_abs p.0) (unsigned_abs p.1))) 1) [
      | true ↦ λ e. omega (arith, ints, w.least, w.most)
      | false ↦ λ e. let l = w.least in let h = w.most in absurd (not_ordered p.0 p.1 e (omega (arith, ints)))
    ] refl
  where
    not_ordered : (l h : ℤ) → int_le l h ≡ false → l ≤ℤ h → ⊥
    not_ordered l h e o = grind (arith, ints)

pub both_true : (x y : Bool) → (x && y) ≡ true → (x ≡ true) × (y ≡ true)
both_true true true e = (refl, refl)
both_true true false e = cc
both_true false y e = cc

among_bound : (a : List ℤ) (sets whole : List (ℤ × ℤ)) (x : ℕ) → is_among a (sets_of sets) ≡ true → x < length sets → unsigned_abs (value_at a x) ≤ set_magnitude whole (slice_index_or sets x (pos 0, pos 0))
among_bound [] [] whole x m h = absurd (omega arith)
among_bound [] (p ∷ sets) whole x m h = cc
among_bound (v ∷ a) [] whole x m h = cc
among_bound (v ∷ a) (p ∷ sets) whole zero m h = let b = both_true (member v (values (record { low = p.0; high = p.1 }))) (is_among a (sets_of sets)) m in within_set p v whole b.0
among_bound (v ∷ a) (p ∷ sets) whole (suc x) m h = let b = both_true (member v (values (record { low = p.0; high = p.1 }))) (is_among a (sets_of sets)) m in among_bound a sets whole x b.1 (omega arith)

among_length : (a : List ℤ) (sets : List (ℤ × ℤ)) → is_among a (sets_of sets) ≡ true → length a ≡ length sets
among_length [] [] m = refl
among_length [] (p ∷ sets) m = cc
among_length (v ∷ a) [] m = cc
among_length (v ∷ a) (p ∷ sets) m = let b = both_true (member v (values (record { low = p.0; high = p.1 }))) (is_among a (sets_of sets)) m in ap suc (among_length a sets b.1)

-- each value of the assignment is within the magnitude of its variable, and there is one for each
pub record IsBounded (sets : List (ℤ × ℤ)) (a : List ℤ) : Type 0 where
  pub count : length a ≡ length sets
  pub bound : (x : ℕ) → x < length sets → unsigned_abs (value_at a x) ≤ var_magnitude sets x

pub bounded : (core : Core) (a : List ℤ) → is_among a (declared core) ≡ true → IsBounded core.sets a
unfolding declared
bounded core a m = record { count = among_length a core.sets m; bound = λ x h. among_bound a core.sets core.sets x m h }

-- ---- magnitudes bound values

-- the cells that name variables name some that are there
abbrev pub CellsThere : List (ℤ × ℤ) → List Cell → Type 0
CellsThere sets [] = Unit {0}
CellsThere sets (c ∷ cells) = (is_there (length sets) c ≡ true) × CellsThere sets cells

pub cells_there : (sets : List (ℤ × ℤ)) (cells : List Cell) → list_all (is_there (length sets)) cells ≡ true → CellsThere sets cells
cells_there sets [] e = tt
cells_there sets (c ∷ cells) e = let b = both_true (is_there (length sets) c) (list_all (is_there (length sets)) cells) e in (b.0, cells_there sets cells b.1)

cell_small : (sets : List (ℤ × ℤ)) (a : List ℤ) → IsBounded sets a → (c : Cell) → is_there (length sets) c ≡ true → unsigned_abs (cell_value a c) ≤ cell_magnitude sets c
cell_small sets a b (cell.Const k) e = omega arith
cell_small sets a b (cell.Var x) e = b.bound x (ltb-true x (length sets) e)

first_of : (v : ℤ) (o : Option ℤ) (u : ℤ) → Some (combined (λ x y. x) v o) ≡ Some u → u ≡ v
first_of v None u e = cc
first_of v (Some w) u e = cc

bit_small : (t : Bool) → unsigned_abs (bit t) ≤ 1
bit_small true = omega arith
bit_small false = omega arith

cells_small : (sets : List (ℤ × ℤ)) (a : List ℤ) → IsBounded sets a → (bs : List Bool) (cells : List Cell) (u : ℤ) → CellsThere sets cells → joined (λ v w. v) (map (cell_value a) (chosen bs cells)) ≡ Some u → unsigned_abs u ≤ cells_magnitude sets cells
cells_small sets a b [] cells u k e = cc
cells_small sets a b (t ∷ bs) [] u k e = cc
cells_small sets a b (true ∷ bs) (c ∷ cells) u k e =
    let s : u ≡ cell_value a c = first_of (cell_value a c) (joined (λ v w. v) (map (cell_value a) (chosen bs cells))) u e in
    omega (arith, ap unsigned_abs s, cell_small sets a b c k.0)
cells_small sets a b (false ∷ bs) (c ∷ cells) u k e = omega (arith, cells_small sets a b bs cells u k.1 e)

module _ (sets : List (ℤ × ℤ)) (a : List ℤ) (b : IsBounded sets a) where
  mutual
    pub value_small : (t : Term) → IsSoundTerm sets t → (u : ℤ) → value a t ≡ Some u → unsigned_abs u ≤ term_magnitude sets t
    value_small (Term.const k) s u e = let q : k ≡ u = cc in omega (arith, ap unsigned_abs q)
    value_small (Term.var x) s u e = let q : value_at a x ≡ u = cc in omega (arith, ap unsigned_abs q, b.bound x s.1)
    value_small (Term.sum ts) s u e = sum_small ts s.1 u e
    value_small (Term.neg t) s u e = let p = lift1_parts neg_ℤ (value a t) u e in omega (arith, ints, p.2, value_small t s.1 p.0 p.1)
    value_small (Term.scale k t) s u e =
        let p = lift1_parts (λ v. k *ℤ v) (value a t) u e in omega (arith, ap unsigned_abs p.2, abs_times k p.0 (unsigned_abs k) (term_magnitude sets t) (omega arith) (value_small t s.2 p.0 p.1))
    value_small (Term.mul r t) s u e =
        let p = lift_parts ◌*ℤ◌ (value a r) (value a t) u e in
        omega (arith, ap unsigned_abs p.4, abs_times p.0 p.1 (term_magnitude sets r) (term_magnitude sets t) (value_small r s.1 p.0 p.2) (value_small t s.2 p.1 p.3))
    value_small (Term.div r t) s u e =
        let p = bind_parts quotient (value a r) (value a t) u e in omega (arith, ap unsigned_abs (quotient_is p.0 p.1 u p.4), abs_div p.0 p.1, value_small r s.0 p.0 p.2)
    value_small (Term.rem r t) s u e =
        let p = bind_parts remainder (value a r) (value a t) u e in omega (arith, ap unsigned_abs (remainder_is p.0 p.1 u p.4), abs_rem p.0 p.1, value_small r s.0 p.0 p.2)
    value_small (Term.abs t) s u e = let p = lift1_parts (λ v. pos (unsigned_abs v)) (value a t) u e in omega (arith, ap unsigned_abs p.2, value_small t s p.0 p.1)
    value_small (Term.least ts) s u e = omega (arith, extreme_small smaller abs_smaller ts s.1 u e)
    value_small (Term.greatest ts) s u e = omega (arith, extreme_small larger abs_larger ts s.1 u e)
    value_small (Term.at None ts) s u e = cc
    value_small (Term.at (Some t) ts) s u e = omega (arith, cells_small sets a b (taken (masks is_index t.dims (all_values a ts))) t.cells u (cells_there sets t.cells s.1.2) e)
    value_small (Term.truth c) s u e = let p = lift1_parts bit (holds a c) u e in omega (arith, ap unsigned_abs p.2, bit_small p.0)
    value_small (Term.asked ask x) s u e = cc

    pub sum_small : (ts : Terms) → AreSoundTerms sets ts → (u : ℤ) → lift_all ◌+ℤ◌ (pos 0) (all_values a ts) ≡ Some u → unsigned_abs u ≤ sum_magnitude sets ts
    sum_small Terms.no_terms s u e = let q : pos 0 ≡ u = cc in omega (arith, ap unsigned_abs q)
    sum_small (Terms.more_terms t ts) s u e =
        let p = lift_parts ◌+ℤ◌ (value a t) (lift_all ◌+ℤ◌ (pos 0) (all_values a ts)) u e in
        omega (arith, ints, p.4, value_small t s.0 p.0 p.2, sum_small ts s.1 p.1 p.3)

    pub extreme_small : (f : ℤ → ℤ → ℤ) → ((v w : ℤ) → unsigned_abs (f v w) ≤ max (unsigned_abs v) (unsigned_abs w)) → (ts : Terms) → AreSoundTerms sets ts → (u : ℤ) → lift_some f (all_values a ts) ≡ Some u → unsigned_abs u ≤ greatest_magnitude sets ts
    extreme_small f h Terms.no_terms s u e = cc
    extreme_small f h (Terms.more_terms t Terms.no_terms) s u e = omega (arith, value_small t s.0 u e)
    extreme_small f h (Terms.more_terms t (Terms.more_terms r ts)) s u e =
        let p = lift_parts f (value a t) (lift_some f (all_values a (Terms.more_terms r ts))) u e in
        omega (arith, ap unsigned_abs p.4, h p.0 p.1, value_small t s.0 p.0 p.2, extreme_small f h (Terms.more_terms r ts) s.1 p.1 p.3)

-- the magnitude of a sound expression is small
mutual
  pub sound_small : (sets : List (ℤ × ℤ)) (t : Term) → IsSoundTerm sets t → IsSmall (term_magnitude sets t)
  sound_small sets (Term.const k) s = s
  sound_small sets (Term.var x) s = s.0
  sound_small sets (Term.sum ts) s = s.0
  sound_small sets (Term.neg t) s = s.0
  sound_small sets (Term.scale k t) s = s.0
  sound_small sets (Term.mul r t) s = omega (arith, s.0)
  sound_small sets (Term.div r t) s = omega (arith, sound_small sets r s.0)
  sound_small sets (Term.rem r t) s = omega (arith, sound_small sets r s.0)
  sound_small sets (Term.abs t) s = omega (arith, sound_small sets t s)
  sound_small sets (Term.least ts) s = omega (arith, all_small sets ts s.1)
  sound_small sets (Term.greatest ts) s = omega (arith, all_small sets ts s.1)
  sound_small sets (Term.at table ts) s = omega (arith, s.0)
  sound_small sets (Term.truth c) s = omega arith
  sound_small sets (Term.asked ask x) s = absurd s

  pub all_small : (sets : List (ℤ × ℤ)) (ts : Terms) → AreSoundTerms sets ts → IsSmall (greatest_magnitude sets ts)
  all_small sets Terms.no_terms s = omega arith
  all_small sets (Terms.more_terms t ts) s = omega (arith, sound_small sets t s.0, all_small sets ts s.1)

-- ---- the numbers that the code computes with are small

pub small_of : (core : Core) (a : List ℤ) → is_among a (declared core) ≡ true → (t : Term) → IsSoundTerm core.sets t → (r : Option ℤ) → r ≡ value a t → (u : ℤ) → r ≡ Some u → IsSmall (unsigned_abs u)
small_of core a m t s r i u e = omega (arith, value_small core.sets a (bounded core a m) t s u (sym i ∙ e), sound_small core.sets t s)

pub product_small_of : (core : Core) (a : List ℤ) → is_among a (declared core) ≡ true → (s t : Term) → IsSoundTerm core.sets s → IsSoundTerm core.sets t → IsSmall (term_magnitude core.sets s * term_magnitude core.sets t)
    → (r q : Option ℤ) → r ≡ value a s → q ≡ value a t → (u v : ℤ) → r ≡ Some u → q ≡ Some v → IsSmall (unsigned_abs u * unsigned_abs v)
product_small_of core a m s t h k small r q i j u v e f =
    omega (arith, small, mul-le-mul (value_small core.sets a (bounded core a m) s h u (sym i ∙ e)) (value_small core.sets a (bounded core a m) t k v (sym j ∙ f)))

pub sum_small_of : (core : Core) (a : List ℤ) → is_among a (declared core) ≡ true → (t : Term) (ts : Terms) → IsSoundTerm core.sets t → AreSoundTerms core.sets ts → IsSmall (term_magnitude core.sets t + sum_magnitude core.sets ts)
    → (r q : Option ℤ) → r ≡ value a t → q ≡ value a (Term.sum ts) → (u v : ℤ) → r ≡ Some u → q ≡ Some v → IsSmall (unsigned_abs u + unsigned_abs v)
sum_small_of core a m t ts h k small r q i j u v e f =
    omega (arith, small, value_small core.sets a (bounded core a m) t h u (sym i ∙ e), sum_small core.sets a (bounded core a m) ts k v (sym j ∙ f))
