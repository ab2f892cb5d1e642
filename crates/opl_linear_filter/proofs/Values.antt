-- Whether a short form can be 0, by the values of its one or two variables.
use Rattle.std.proofs.Common.{◌≡◌, ◌≢◌, ◌∙◌, ℕ, zero, suc, ◌+◌, ◌*◌, ◌<◌, ◌≤◌, Bool, true, false, cond, ◌||◌, refl, List, [], ◌∷◌, length, ℤ, pos, ◌+ℤ◌, neg_ℤ, ◌<ℤ◌, ◌≤ℤ◌, ap, sym, subst, arith}
use Rattle.std.specs.Prelude.{nat_eq, unsigned_abs, Option, Some, None, int_le, slice_index_or, FitsSigned, not}
use mir.Syntax.{w128}
use Rattle.std.specs.List.{list_any}
use Rattle.std.proofs.Math.Nat.{mul-le-mul_right}
use Rattle.std.proofs.lemmas.Int.{ints}
use Rattle.std.proofs.lemmas.Bool.Decides.{Decides-eqb}
use Rattle.opl_domain.specs.Family.{Family, member, set_of, has, Full, Below, IsLeast, IsGreatest}
use Rattle.opl_domain.proofs.Members.{member_first, member_later}
use Rattle.opl_expr.specs.declared.model.Core.{Core}
use Rattle.opl_expr.specs.Range.{is_one_or_two, has_zero}
use Rattle.opl_expr.specs.Solutions.{declared}
use Rattle.opl_expr.specs.Sound.{IsSmall, var_magnitude}
use Rattle.opl_filter.specs.Filtering.{refutes}
use Rattle.opl_filter.specs.Mentions.{lists}
use Rattle.opl_filter.specs.Rounds.{AreThere, LooksOnlyAt}
use Rattle.opl_filter.proofs.Mentioned.{refutes_looks}
use Rattle.opl_range.specs.Between.{IsLastVariable, IsLastFactor, has_root, meets, zero_by_two}
use Rattle.opl_range.proofs.Roots.{by_one, by_two, two_rise, two_fall, found_value}
use Rattle.opl_range.proofs.Weights.{has_declared}
use Rattle.opl_trace.proofs.Families.{below_join}
use Rattle.opl_linear.specs.Linear.{factor_in, names, NamesOnce, AreAmong, AreFactors}
use Rattle.opl_linear.proofs.Sums.{unnamed, factor_here, factor_there}
use Rattle.opl_linear_filter.specs.Parts.{AreFalling}
use Rattle.opl_linear_filter.specs.ShortForms.{equation, IsShort, CanTest}
use Rattle.opl_linear_filter.proofs.Building.{not_same, same_number}
use Rattle.opl_linear_filter.proofs.Weights.{below_length}
use Rattle.opl_linear_filter.proofs.Equations.{equation_is, equation_mentions}

-- ---- the parts of a short form

small_fits : (k : ℤ) → IsSmall (unsigned_abs k) → FitsSigned w128 k
small_fits k s = omega (arith, ints, s)

abbrev pub part : List (ℕ × ℤ) → ℕ → ℕ × ℤ
part ps i = slice_index_or ps i (0, pos 0)

pub first_there : (core : Core) (ps : List (ℕ × ℤ)) (k : ℤ) → IsShort core ps k → (part ps 0).0 < length core.sets
first_there core [] k s = let h = s.short in cc
first_there core (p ∷ ps) k s = s.among.0

pub first_factor_fits : (core : Core) (ps : List (ℕ × ℤ)) (k : ℤ) → IsShort core ps k → FitsSigned w128 (part ps 0).1
first_factor_fits core [] k s = let h = s.short in cc
first_factor_fits core (p ∷ ps) k s = small_fits p.1 s.factors.1

pub one_part : (core : Core) (ps : List (ℕ × ℤ)) (k : ℤ) → IsShort core ps k → length ps ≡ 1 → ps ≡ part ps 0 ∷ []
one_part core [] k s l = absurd (omega (arith, l))
one_part core (q ∷ []) k s l = refl
one_part core (q ∷ r ∷ ps) k s l = absurd (omega (arith, l))

pub second_there : (core : Core) (ps : List (ℕ × ℤ)) (k : ℤ) → IsShort core ps k → length ps ≢ 1 → (part ps 1).0 < length core.sets
second_there core [] k s l = let h = s.short in cc
second_there core (q ∷ []) k s l = absurd (l refl)
second_there core (q ∷ r ∷ ps) k s l = s.among.1.0

pub two_parts : (core : Core) (ps : List (ℕ × ℤ)) (k : ℤ) → IsShort core ps k → length ps ≢ 1 → ps ≡ part ps 0 ∷ part ps 1 ∷ []
two_parts core [] k s l = let h = s.short in cc
two_parts core (a ∷ []) k s l = absurd (l refl)
two_parts core (a ∷ b ∷ []) k s l = refl
two_parts core (a ∷ b ∷ c ∷ ps) k s l = let h = s.short in cc

-- the same form, by its parts
pub of_one : (core : Core) (ps : List (ℕ × ℤ)) (k : ℤ) → IsShort core ps k → length ps ≡ 1 → IsShort core (part ps 0 ∷ []) k
of_one core ps k s l = subst (λ qs. IsShort core qs k) (one_part core ps k s l) s

pub of_two : (core : Core) (ps : List (ℕ × ℤ)) (k : ℤ) → IsShort core ps k → length ps ≢ 1 → IsShort core (part ps 0 ∷ part ps 1 ∷ []) k
of_two core ps k s l = subst (λ qs. IsShort core qs k) (two_parts core ps k s l) s

first_named : (p : ℕ × ℤ) (ps : List (ℕ × ℤ)) → names (p ∷ ps) p.0 ≡ true
first_named p ps = rw (same_number p.0 p.0 refl) refl

lesser : (p q : ℕ × ℤ) → AreFalling (p ∷ q ∷ []) → q.0 < p.0
lesser p q f = f.0 q.0 (first_named q [])

none_named : (x : ℕ) → names [] x ≡ false
none_named x = refl

not_named : (p : ℕ × ℤ) (ps : List (ℕ × ℤ)) (x : ℕ) → x ≢ p.0 → names ps x ≡ false → names (p ∷ ps) x ≡ false
not_named p ps x n h = rw (not_same x p.0 n) h

zero_at : (ps : List (ℕ × ℤ)) (x : ℕ) → names ps x ≡ false → factor_in ps x ≡ pos 0
zero_at ps x h = unnamed ps x h

-- ---- one variable

known : (b r z : Bool) → ◌≡◌ {A = Option Bool} (Some r) (cond b (Some z) None) → r ≡ z
known true r z h = cc
known false r z h = cc

one_last : (n : ℕ) (p : ℕ × ℤ) → AreAmong n (p ∷ []) → AreFactors (p ∷ []) → IsLastVariable (factor_in (p ∷ [])) n p.0
one_last n p a f = record {
  below = a.0;
  nonzero = λ e. f.0 (sym (factor_here p [] refl) ∙ e);
  behind = λ y h l. zero_at (p ∷ []) y (not_named p [] y (λ e. omega (arith, h, e)) refl);
}

one_none : (p : ℕ × ℤ) → IsLastFactor (factor_in (p ∷ [])) p.0 None
one_none p y h = zero_at (p ∷ []) y (not_named p [] y (λ e. omega (arith, h, e)) refl)

pub one_zero : (core : Core) (p : ℕ × ℤ) (k : ℤ) (F : Family) (r : Bool) → IsShort core (p ∷ []) k → Full F → length F ≡ length core.sets → r ≡ has_root F (λ y. p.1) p.0 k → r ≡ has_zero F (factor_in (p ∷ [])) k (length F)
one_zero core p k F r s f l e =
    let c = factor_in (p ∷ []) in
    let a = subst (λ n. AreAmong n (p ∷ [])) (sym l) s.among in
    known (is_one_or_two c (length F)) r (has_zero F c k (length F))
    (by_one F f c (length F) p.0 k p.1 r (omega arith) (one_last (length F) p a s.factors) (one_none p) (sym (factor_here p [] refl)) e)

-- ---- two variables

two_last : (n : ℕ) (p q : ℕ × ℤ) → AreFalling (p ∷ q ∷ []) → AreAmong n (p ∷ q ∷ []) → AreFactors (p ∷ q ∷ []) → IsLastVariable (factor_in (p ∷ q ∷ [])) n p.0
two_last n p q d a f =
    let l = lesser p q d in
    record {
      below = a.0;
      nonzero = λ e. f.0 (sym (factor_here p (q ∷ []) (not_named q [] p.0 (λ i. omega (arith, l, i)) refl)) ∙ e);
      behind = λ y h m. zero_at (p ∷ q ∷ []) y (not_named p (q ∷ []) y (λ e. omega (arith, h, e)) (not_named q [] y (λ e. omega (arith, h, l, e)) refl));
    }

first_factor : (p q : ℕ × ℤ) → AreFalling (p ∷ q ∷ []) → p.1 ≡ factor_in (p ∷ q ∷ []) p.0
first_factor p q d = let l = lesser p q d in sym (factor_here p (q ∷ []) (not_named q [] p.0 (λ i. omega (arith, l, i)) refl))

second_factor : (p q : ℕ × ℤ) → AreFalling (p ∷ q ∷ []) → q.1 ≡ factor_in (p ∷ q ∷ []) q.0
second_factor p q d = let l = lesser p q d in sym (factor_there p (q ∷ []) q.0 (λ e. omega (arith, l, e)) ∙ factor_here q [] refl)

two_next : (p q : ℕ × ℤ) → AreFalling (p ∷ q ∷ []) → AreFactors (p ∷ q ∷ []) → IsLastVariable (factor_in (p ∷ q ∷ [])) p.0 q.0
two_next p q d f =
    let l = lesser p q d in
    record {
      below = l;
      nonzero = λ e. f.2.0 (second_factor p q d ∙ e);
      behind = λ y h m. zero_at (p ∷ q ∷ []) y (not_named p (q ∷ []) y (λ e. omega (arith, m, e)) (not_named q [] y (λ e. omega (arith, h, e)) refl));
    }

two_none : (p q : ℕ × ℤ) → AreFalling (p ∷ q ∷ []) → IsLastFactor (factor_in (p ∷ q ∷ [])) q.0 None
two_none p q d y h = let l = lesser p q d in zero_at (p ∷ q ∷ []) y (not_named p (q ∷ []) y (λ e. omega (arith, h, l, e)) (not_named q [] y (λ e. omega (arith, h, e)) refl))

two_zero : (core : Core) (p q : ℕ × ℤ) (k : ℤ) (F : Family) (m : Bool) → IsShort core (p ∷ q ∷ []) k → Full F → length F ≡ length core.sets → Some m ≡ zero_by_two F p.0 p.1 q.0 q.1 k → m ≡ has_zero F (factor_in (p ∷ q ∷ [])) k (length F)
two_zero core p q k F m s f l e =
    let c = factor_in (p ∷ q ∷ []) in
    let a = subst (λ n. AreAmong n (p ∷ q ∷ [])) (sym l) s.among in
    known (is_one_or_two c (length F)) m (has_zero F c k (length F))
    (by_two F f c (length F) p.0 q.0 k p.1 q.1 (Some m) (omega arith) (two_last (length F) p q s.falling a s.factors) (two_next p q s.falling s.factors) (two_none p q s.falling)
    (first_factor p q s.falling) (second_factor p q s.falling) e)

pub rise_zero : (core : Core) (p q : ℕ × ℤ) (k : ℤ) (F : Family) (m : Bool) → IsShort core (p ∷ q ∷ []) k → Full F → length F ≡ length core.sets → p.1 ≡ pos 1 → m ≡ meets F p.0 q.0 k → m ≡ has_zero F (factor_in (p ∷ q ∷ [])) k (length F)
rise_zero core p q k F m s f l u e = two_zero core p q k F m s f l (two_rise F p.0 q.0 k p.1 q.1 m s.short u e)

pub fall_zero : (core : Core) (p q : ℕ × ℤ) (k j : ℤ) (F : Family) (m : Bool) → IsShort core (p ∷ q ∷ []) k → Full F → length F ≡ length core.sets → p.1 ≢ pos 1 → j ≡ neg_ℤ k → m ≡ meets F p.0 q.0 j → m ≡ has_zero F (factor_in (p ∷ q ∷ [])) k (length F)
fall_zero core p q k j F m s f l u i e = two_zero core p q k F m s f l (two_fall F p.0 q.0 k p.1 q.1 j m s.short u i e)

-- ---- where the second variable has one value

any_none : (p : ℤ → Bool) (xs : List ℤ) → ((v : ℤ) → member v xs ≡ true → p v ≡ false) → list_any p xs ≡ false
any_none p [] h = refl
any_none p (x ∷ xs) h = rw (h x (member_first x xs), any_none p xs (λ v m. h v (member_later v x xs m))) refl

is_false : (b : Bool) → (b ≡ true → ⊥) → b ≡ false
is_false true h = absurd (h refl)
is_false false h = refl

none_meets : (F : Family) (x y : ℕ) (s : ℤ) → ((v : ℤ) → has F x v ≡ true → has F y (v +ℤ s) ≡ false) → false ≡ meets F x y s
unfolding meets
none_meets F x y s h = sym (any_none (λ v. has F y (v +ℤ s)) (set_of F x) h)

one_value : (vs : List ℤ) (w g u : ℤ) → IsLeast vs w → IsGreatest vs g → (w <ℤ g → ⊥) → member u vs ≡ true → u ≡ w
one_value vs w g u l m n h = let a = l.least u h in let b = m.most u h in equal_of a b
  where
    equal_of : w ≤ℤ u → u ≤ℤ g → u ≡ w
    equal_of a b = elim (int_le g w) as (λ t. int_le g w ≡ t → u ≡ w) [
      | true ↦ λ e. let c : g ≤ℤ w = grind (arith, ints) in omega (arith, ints, a, b, c)
      | false ↦ λ e. let c : w <ℤ g = grind (arith, ints) in absurd (n c)
    ] refl

pub meets_one : (F : Family) (x y : ℕ) (s w g j : ℤ) (r : Bool) → IsLeast (set_of F y) w → IsGreatest (set_of F y) g → (w <ℤ g → ⊥) → j +ℤ s ≡ w → r ≡ has F x j → r ≡ meets F x y s
meets_one F x y s w g j true l m n e h =
    found_value F x y s j w true (record {
      value = sym h;
      lesser = λ u i b. is_false (has F y (u +ℤ s)) (λ t. let k = one_value (set_of F y) w g (u +ℤ s) l m n t in omega (arith, ints, b, k, e));
    }) (sym e) (sym l.among) refl
meets_one F x y s w g j false l m n e h =
    none_meets F x y s (λ v i. is_false (has F y (v +ℤ s)) (λ t.
    let k = one_value (set_of F y) w g (v +ℤ s) l m n t in
    let q : v ≡ j = omega (arith, ints, k, e) in
    let c = ap (λ z. has F x z) q in
    cc))

-- ---- what the calls ask

pub within : (core : Core) (F : Family) (x : ℕ) → Below F (declared core) → x < length core.sets → x < length F
within core F x b h = omega (arith, h, below_length core F b)

value_small : (core : Core) (F : Family) (x : ℕ) (v : ℤ) → Below F (declared core) → has F x v ≡ true → unsigned_abs v ≤ var_magnitude core.sets x
value_small core F x v b h = has_declared core x v (b.sub x v h)

pub constant_small : (core : Core) (ps : List (ℕ × ℤ)) (k : ℤ) → IsShort core ps k → IsSmall (unsigned_abs k)
constant_small core ps k s = omega (arith, s.fits)

some_abs : (k : ℤ) → k ≢ pos 0 → 1 ≤ unsigned_abs k
some_abs k n = at (unsigned_abs k) refl
  where
    at : (m : ℕ) → unsigned_abs k ≡ m → 1 ≤ m
    at zero e = absurd (n (omega (arith, ints, e)))
    at (suc m) e = omega arith

times_more : (m n : ℕ) → 1 ≤ m → n ≤ m * n
times_more m n h = omega (arith, mul-le-mul_right n h)

pub first_small : (core : Core) (p q : ℕ × ℤ) (k : ℤ) (F : Family) (v : ℤ) → IsShort core (p ∷ q ∷ []) k → Below F (declared core) → has F p.0 v ≡ true → IsSmall (unsigned_abs v + unsigned_abs k)
first_small core p q k F v s b h = omega (arith, s.fits, value_small core F p.0 v b h, times_more (unsigned_abs p.1) (var_magnitude core.sets p.0) (some_abs p.1 s.factors.0))

pub second_small : (core : Core) (p q : ℕ × ℤ) (k : ℤ) (F : Family) (v : ℤ) → IsShort core (p ∷ q ∷ []) k → Below F (declared core) → has F q.0 v ≡ true → IsSmall (unsigned_abs v + unsigned_abs k)
second_small core p q k F v s b h = omega (arith, s.fits, value_small core F q.0 v b h, times_more (unsigned_abs q.1) (var_magnitude core.sets q.0) (some_abs q.1 s.factors.2.0))

-- ---- the filter

once_of : (core : Core) (ps : List (ℕ × ℤ)) (k : ℤ) → IsShort core ps k → NamesOnce ps
once_of core [] k s = tt
once_of core (p ∷ []) k s = (refl, tt)
once_of core (p ∷ q ∷ []) k s = let l = lesser p q s.falling in (not_named q [] p.0 (λ e. omega (arith, l, e)) refl, (refl, tt))
once_of core (p ∷ q ∷ r ∷ ps) k s = let h = s.short in cc

not_cond : (b : Bool) → not b ≡ cond b false true
not_cond true = refl
not_cond false = refl

pub never_zero_is : (ps : List (ℕ × ℤ)) (k : ℤ) (F : Family) (z : Bool) → CanTest ps k F → Full F → z ≡ has_zero F (factor_in ps) k (length F) → not z ≡ refutes (equation ps k) F
never_zero_is ps k F z t f e =
    let s = t.form in
    ap not e ∙ not_cond (has_zero F (factor_in ps) k (length F)) ∙ sym (equation_is t.core ps k F f (below_length t.core F t.below) s.short (once_of t.core ps k s) s.among s.factors)

pub can_narrow : (core : Core) (ps : List (ℕ × ℤ)) (k : ℤ) (F G : Family) → IsShort core ps k → Below F (declared core) → Below G F → CanTest ps k G
can_narrow core ps k F G s b c = record { core = core; form = s; below = below_join G F (declared core) c b }

among_named : (n : ℕ) (ps : List (ℕ × ℤ)) (x : ℕ) → AreAmong n ps → names ps x ≡ true → x < n
among_named n [] x a h = cc
among_named n (p ∷ ps) x a h = elim (nat_eq x p.0) as (λ b. nat_eq x p.0 ≡ b → (b || names ps x) ≡ true → x < n) [
  | true ↦ λ e k. let i = (Decides-eqb x p.0).0 e in omega (arith, i, a.0)
  | false ↦ λ e k. among_named n ps x a.1 k
] refl h

-- a list of variables is that of the parts
pub parts_there : (core : Core) (ps : List (ℕ × ℤ)) (k : ℤ) (F : Family) (xs : List ℕ) → IsShort core ps k → Below F (declared core) → ((x : ℕ) → lists xs x ≡ names ps x) → AreThere xs F
parts_there core ps k F xs s b e x h = within core F x b (among_named (length core.sets) ps x s.among (sym (e x) ∙ h))

pub parts_named : (ps : List (ℕ × ℤ)) (k : ℤ) (xs : List ℕ) → ((x : ℕ) → lists xs x ≡ names ps x) → LooksOnlyAt xs (refutes (equation ps k))
parts_named ps k xs e = refutes_looks (equation ps k) xs (λ x. e x ∙ equation_mentions ps k x)

pub one_listed : (ps : List (ℕ × ℤ)) (p : ℕ × ℤ) → ps ≡ p ∷ [] → (x : ℕ) → lists (p.0 ∷ []) x ≡ names ps x
one_listed ps p e x = ap (λ qs. names qs x) (sym e)

pub two_listed : (ps : List (ℕ × ℤ)) (p q : ℕ × ℤ) → ps ≡ p ∷ q ∷ [] → (x : ℕ) → lists (p.0 ∷ q.0 ∷ []) x ≡ names ps x
two_listed ps p q e x = ap (λ qs. names qs x) (sym e)

pub opposite_small : (v k j : ℤ) → j ≡ neg_ℤ k → IsSmall (unsigned_abs v + unsigned_abs k) → IsSmall (unsigned_abs v + unsigned_abs j)
opposite_small v k j e s = omega (arith, ints, s, e)
