-- Over single values ranges are values.
use Rattle.std.proofs.Common.{◌≡◌, ◌≢◌, ◌⊎◌, ℕ, zero, suc, ◌≤◌, ◌<◌, Bool, true, false, cond, ◌&&◌, ◌||◌, refl, List, [], ◌∷◌, ◌++◌, map, length, ℤ, pos, negsuc, ◌+ℤ◌, ◌*ℤ◌, neg_ℤ, ap, sym, ◌∙◌, subst, arith, inl, inr}
use Rattle.std.specs.List.{list_all, flat_map}
use Rattle.std.specs.Prelude.{int_le, int_lt, int_div, int_rem, unsigned_abs, nat_eq, not, Option, Some, None}
use Rattle.std.specs.Ordering.{int_eq}
use Rattle.std.proofs.lemmas.Int.{ints}
use Rattle.std.proofs.lemmas.Bool.Decides.{Decides-int_eq, Decides-eqb, same_from_decides}
use Rattle.std.proofs.Math.IntN.{*ℤ_comm}
use Rattle.opl_domain.specs.Span.{Span, smaller, larger, point, is_point, hull_of, hull_some, values}
use Rattle.opl_domain.specs.Arithmetic.{span_add, span_neg, span_mul, span_min, span_max, span_hull, span_abs, span_div, span_rem}
use Rattle.opl_domain.specs.Family.{member, set_of, has, hull}
use Rattle.opl_domain.proofs.Numbers.{smaller_tells, larger_tells}
use Rattle.opl_domain.proofs.Members.{same_int, int_eq_same, member_first}
use Rattle.opl_domain.proofs.Rows.{rem_none, rem_one}
use Rattle.opl_expr.specs.declared.tables.Table.{Table}
use Rattle.opl_expr.specs.declared.tables.Cell.{Cell}
use Rattle.opl_expr.specs.declared.tables.Cell.TheVariants as cell
use Rattle.opl_expr.specs.declared.forms.Op.TheVariants.{Ne}
use Rattle.opl_expr.specs.Forms.{Relation, Term, Terms, Fact, Facts}
use Rattle.opl_expr.specs.Forms.Relation.{equal, at_most, below}
use Rattle.opl_expr.specs.Options.{lift1, bind1, lift, bind, lift_all, lift_more, lift_some, joined}
use Rattle.opl_expr.specs.Range.{verdict, flip, same_truth, is_possible, span_scale, Linear, constant, minus, weighted, with_variables, range_of_linear, is_one_or_two, has_zero, misses_zero, never_zero, compare, compare_of, taken, chosen, masks, look_up, cell_range, pairwise, defined_range, differ_range, coef, coefs, pure, may_be, rest, linears, fact_range, fact_ranges}
use Rattle.opl_expr.specs.Holds.{bit, value_at, quotient, remainder, relates, op_relates, is_index, cell_value, same, value, all_values, holds, all_hold}
use Rattle.opl_expr.specs.Laws.{singles, all_differ, is_clear, clear, all_clear, clear_fact, clear_facts, Singles, NoneRefuted}
use Rattle.opl_expr.proofs.Narrower.{scale_point, Zip, zip_pairs, possible_in, monotony}
use Rattle.opl_expr.proofs.Ring.{plus_times, neg_times, times_times}

-- ---- sets of one value

single_set : (a : List ℤ) (x : ℕ) → hull (singles a) x ≡ point (value_at a x)
unfolding hull hull_of set_of
single_set [] x = refl
single_set (v ∷ a) zero = refl
single_set (v ∷ a) (suc x) = single_set a x

length-singles : (a : List ℤ) → length (singles a) ≡ length a
length-singles [] = refl
length-singles (v ∷ a) = ap suc (length-singles a)

set_of-singles : (a : List ℤ) (x : ℕ) → x < length a → set_of (singles a) x ≡ value_at a x ∷ []
unfolding set_of
set_of-singles [] x h = absurd (omega arith)
set_of-singles (v ∷ a) zero h = refl
set_of-singles (v ∷ a) (suc x) h = set_of-singles a x (omega arith)

add_points : (u v : ℤ) → span_add (point u) (point v) ≡ point (u +ℤ v)
unfolding span_add
add_points u v = refl

neg_point : (u : ℤ) → span_neg (point u) ≡ point (neg_ℤ u)
unfolding span_neg
neg_point u = refl

-- the sum of coefficient times value over the first n variables
abbrev pub total : List ℤ → (ℕ → ℤ) → ℕ → ℤ
total a c zero = pos 0
total a c (suc n) = total a c n +ℤ (c n *ℤ value_at a n)

weighted_singles : (a : List ℤ) (c : ℕ → ℤ) (n : ℕ) → weighted (singles a) c n ≡ point (total a c n)
weighted_singles a c zero = refl
weighted_singles a c (suc n) = rw (weighted_singles a c n, single_set a n, scale_point (c n) (value_at a n), add_points (total a c n) (c n *ℤ value_at a n)) refl

variables_singles : (a : List ℤ) (c : ℕ → ℤ) (n : ℕ) (r : ℤ) → with_variables (singles a) c n (point r) ≡ point (r +ℤ total a c n)
unfolding with_variables
variables_singles a c n r = rw (weighted_singles a c n) (add_points r (total a c n))

total_zero : (a : List ℤ) (n : ℕ) → total a (λ x. pos 0) n ≡ pos 0
total_zero a zero = refl
total_zero a (suc n) = let e = total_zero a n in let z = zero_times (value_at a n) in omega (arith, ints, e, z)
  where
    zero_times : (v : ℤ) → pos 0 *ℤ v ≡ pos 0
    zero_times (pos m) = omega (arith, ints)
    zero_times (negsuc m) = omega (arith, ints)

total_plus : (a : List ℤ) (c d : ℕ → ℤ) (n : ℕ) → total a (λ x. c x +ℤ d x) n ≡ total a c n +ℤ total a d n
total_plus a c d zero = refl
total_plus a c d (suc n) = omega (arith, ints, total_plus a c d n, plus_times (c n) (d n) (value_at a n))

total_neg : (a : List ℤ) (c : ℕ → ℤ) (n : ℕ) → total a (λ x. neg_ℤ (c x)) n ≡ neg_ℤ (total a c n)
total_neg a c zero = refl
total_neg a c (suc n) = omega (arith, ints, total_neg a c n, neg_times (c n) (value_at a n))

total_scale : (a : List ℤ) (k : ℤ) (c : ℕ → ℤ) (n : ℕ) → total a (λ x. k *ℤ c x) n ≡ k *ℤ total a c n
total_scale a k c zero = times_zero k
  where
    times_zero : (k : ℤ) → pos 0 ≡ k *ℤ pos 0
    times_zero (pos m) = omega (arith, ints)
    times_zero (negsuc m) = omega (arith, ints)
total_scale a k c (suc n) =
    omega (arith, ints, total_scale a k c n, times_times k (c n) (value_at a n), *ℤ_comm k (total a c n +ℤ (c n *ℤ value_at a n)), plus_times (total a c n) (c n *ℤ value_at a n) k, *ℤ_comm (total a c n) k, *ℤ_comm (c n *ℤ value_at a n) k)

-- a variable alone
past : (a : List ℤ) (y : ℕ) → length a ≤ y → value_at a y ≡ pos 0
past [] y h = refl
past (v ∷ a) zero h = absurd (omega arith)
past (v ∷ a) (suc y) h = past a y (omega arith)

one_times : (v : ℤ) → pos 1 *ℤ v ≡ v
one_times (pos m) = omega (arith, ints)
one_times (negsuc m) = omega (arith, ints)

none_times : (v : ℤ) → pos 0 *ℤ v ≡ pos 0
none_times (pos m) = omega (arith, ints)
none_times (negsuc m) = omega (arith, ints)

total_var : (a : List ℤ) (y n : ℕ) → ((y < n) × (total a (coef (Term.var y)) n ≡ value_at a y)) ⊎ ((n ≤ y) × (total a (coef (Term.var y)) n ≡ pos 0))
total_var a y zero = inr (omega arith, refl)
total_var a y (suc n) = elim (total_var a y n) [
  | inl p ↦ let e : nat_eq n y ≡ false = grind arith in
      inl (omega (arith, p.0), rw e (let z = none_times (value_at a n) in omega (arith, ints, p.1, z)))
  | inr p ↦ elim (nat_eq n y) as (λ b. nat_eq n y ≡ b → ((y < suc n) × (total a (coef (Term.var y)) n +ℤ (cond b (pos 1) (pos 0) *ℤ value_at a n) ≡ value_at a y)) ⊎ ((suc n ≤ y) × (total a (coef (Term.var y)) n +ℤ (cond b (pos 1) (pos 0) *ℤ value_at a n) ≡ pos 0))) [
    | true ↦ λ e. let s : n ≡ y = (Decides-eqb n y).0 e in
        let o = one_times (value_at a n) in let v = ap (value_at a) s in
        inl (omega (arith, s), omega (arith, ints, p.1, o, v))
    | false ↦ λ e. let d : n ≢ y = λ s. let t = (Decides-eqb n y).1 s in cc in
        inr (omega (arith, p.0, d), (let z = none_times (value_at a n) in omega (arith, ints, p.1, z)))
  ] refl
]

var_total : (a : List ℤ) (y : ℕ) → total a (coef (Term.var y)) (length a) ≡ value_at a y
var_total a y = elim (total_var a y (length a)) [ inl p ↦ p.1 | inr p ↦ p.1 ∙ sym (past a y p.0) ]

-- ---- the rest of a linear form over single values

-- the value less the weighted variables
abbrev pub less : List ℤ → (ℕ → ℤ) → Option ℤ → Option Span
less a c o = lift1 (λ v. point (v +ℤ neg_ℤ (total a c (length a)))) o

less_none : (a : List ℤ) (o : Option ℤ) → lift1 point o ≡ less a (λ x. pos 0) o
less_none a None = refl
less_none a (Some v) = let e = total_zero a (length a) in ap (λ u. Some (point u)) (omega (arith, ints, e))

less_plus : (a : List ℤ) (c d : ℕ → ℤ) (o p : Option ℤ) → lift span_add (less a c o) (less a d p) ≡ less a (λ x. c x +ℤ d x) (lift ◌+ℤ◌ o p)
less_plus a c d None p = refl
less_plus a c d (Some u) None = refl
less_plus a c d (Some u) (Some v) =
    ap Some (add_points (u +ℤ neg_ℤ (total a c (length a))) (v +ℤ neg_ℤ (total a d (length a)))
    ∙ ap point (let e = total_plus a c d (length a) in omega (arith, ints, e)))

less_neg : (a : List ℤ) (c : ℕ → ℤ) (o : Option ℤ) → lift1 span_neg (less a c o) ≡ less a (λ x. neg_ℤ (c x)) (lift1 neg_ℤ o)
less_neg a c None = refl
less_neg a c (Some v) = ap Some (neg_point (v +ℤ neg_ℤ (total a c (length a))) ∙ ap point (let e = total_neg a c (length a) in omega (arith, ints, e)))

less_scale : (a : List ℤ) (k : ℤ) (c : ℕ → ℤ) (o : Option ℤ) → lift1 (span_scale k) (less a c o) ≡ less a (λ x. k *ℤ c x) (lift1 (λ v. k *ℤ v) o)
less_scale a k c None = refl
less_scale a k c (Some v) = ap Some (scale_point k (v +ℤ neg_ℤ (total a c (length a))) ∙ ap point (scaled k v (total a c (length a)) ∙ ap (λ u. (k *ℤ v) +ℤ neg_ℤ u) (sym (total_scale a k c (length a)))))
  where
    scaled : (k v t : ℤ) → k *ℤ (v +ℤ neg_ℤ t) ≡ (k *ℤ v) +ℤ neg_ℤ (k *ℤ t)
    scaled k v t = omega (arith, ints, *ℤ_comm k (v +ℤ neg_ℤ t), plus_times v (neg_ℤ t) k, neg_times t k, *ℤ_comm v k, *ℤ_comm t k)

-- the range of a form from its rest
whole : (a : List ℤ) (c : ℕ → ℤ) (r : Option Span) (o : Option ℤ) → r ≡ less a c o → lift1 (with_variables (singles a) c (length (singles a))) r ≡ lift1 point o
whole a c r None e = rw e refl
whole a c r (Some v) e =
    rw (e, length-singles a, variables_singles a c (length a) (v +ℤ neg_ℤ (total a c (length a))))
    (ap (λ u. Some (point u)) (omega (arith, ints)))

-- ---- the rows on single numbers

mul_points : (u v : ℤ) → span_mul (point u) (point v) ≡ point (u *ℤ v)
unfolding span_mul hull_of
mul_points u v = rw (smaller_self (u *ℤ v), larger_self (u *ℤ v), smaller_self (u *ℤ v), larger_self (u *ℤ v)) (rw (smaller_self (u *ℤ v), larger_self (u *ℤ v)) refl)
  where
    smaller_self : (v : ℤ) → smaller v v ≡ v
    smaller_self v = elim (smaller_tells v v) [ inl t ↦ t.0 | inr t ↦ t.0 ]

    larger_self : (v : ℤ) → larger v v ≡ v
    larger_self v = elim (larger_tells v v) [ inl t ↦ t.0 | inr t ↦ t.0 ]

min_points : (u v : ℤ) → span_min (point u) (point v) ≡ point (smaller u v)
unfolding span_min
min_points u v = refl

max_points : (u v : ℤ) → span_max (point u) (point v) ≡ point (larger u v)
unfolding span_max
max_points u v = refl

values_point : (u : ℤ) → values (point u) ≡ u ∷ []
unfolding values
values_point u = let e : u +ℤ pos 1 +ℤ neg_ℤ u ≡ pos 1 = omega (arith, ints) in rw e refl

abs_point : (u : ℤ) → span_abs (point u) ≡ Some (point (pos (unsigned_abs u)))
unfolding span_abs hull_of
abs_point u = rw (values_point u) refl

div_points : (u v : ℤ) → span_div (point u) (point v) ≡ lift1 point (quotient u v)
unfolding span_div hull_of
div_points u v = rw (values_point u, values_point v) (elim (int_eq v (pos 0)) as (λ b. hull_some (flat_map (λ y. int_div u y ∷ []) (cond (cond b false true) (v ∷ []) [])) ≡ lift1 point (cond b None (Some (int_div u v)))) [ true ↦ refl | false ↦ refl ])

rem_points : (u v : ℤ) → span_rem (point u) (point v) ≡ lift1 point (remainder u v)
rem_points u v = elim (int_eq v (pos 0)) as (λ b. int_eq v (pos 0) ≡ b → span_rem (point u) (point v) ≡ lift1 point (cond b None (Some (int_rem u v)))) [
  | true ↦ λ e. sym (rem_none (point u) (point v) (rw e refl))
  | false ↦ λ e. sym (rem_one (point u) (point v) (rw e refl) (rw (int_eq_same v, int_eq_same (int_div u v)) refl))
] refl

-- a result of two that may be missing
two_points : (f : Span → Span → Span) (g : ℤ → ℤ → ℤ) → ((u v : ℤ) → f (point u) (point v) ≡ point (g u v)) → (o p : Option ℤ) → lift f (lift1 point o) (lift1 point p) ≡ lift1 point (lift g o p)
two_points f g h None p = refl
two_points f g h (Some u) None = refl
two_points f g h (Some u) (Some v) = ap Some (h u v)

two_bound : (f : Span → Span → Option Span) (g : ℤ → ℤ → Option ℤ) → ((u v : ℤ) → f (point u) (point v) ≡ lift1 point (g u v)) → (o p : Option ℤ) → bind f (lift1 point o) (lift1 point p) ≡ lift1 point (bind g o p)
two_bound f g h None p = refl
two_bound f g h (Some u) None = refl
two_bound f g h (Some u) (Some v) = h u v

more_points : (f : Span → Span → Span) (g : ℤ → ℤ → ℤ) → ((u v : ℤ) → f (point u) (point v) ≡ point (g u v)) → (o : Option ℤ) (os : List (Option ℤ)) → lift_more f (lift1 point o) (map (lift1 point) os) ≡ lift1 point (lift_more g o os)
more_points f g h o [] = refl
more_points f g h o (p ∷ os) = rw (more_points f g h p os) (two_points f g h o (lift_more g p os))

some_points : (f : Span → Span → Span) (g : ℤ → ℤ → ℤ) → ((u v : ℤ) → f (point u) (point v) ≡ point (g u v)) → (os : List (Option ℤ)) → lift_some f (map (lift1 point) os) ≡ lift1 point (lift_some g os)
some_points f g h [] = refl
some_points f g h (o ∷ os) = more_points f g h o os

-- ---- tables

-- none of the list is true
abbrev pub none : List Bool → Bool
none [] = true
none (b ∷ bs) = cond b false (none bs)

-- at most one of the list is true
abbrev one_at_most : List Bool → Bool
one_at_most [] = true
one_at_most (b ∷ bs) = cond b (none bs) (one_at_most bs)

none_one : (bs : List Bool) → none bs ≡ true → one_at_most bs ≡ true
none_one [] e = refl
none_one (true ∷ bs) e = cc
none_one (false ∷ bs) e = none_one bs e

pub none_append : (xs ys : List Bool) → none xs ≡ true → none ys ≡ true → none (xs ++ ys) ≡ true
none_append [] ys e f = f
none_append (true ∷ xs) ys e f = cc
none_append (false ∷ xs) ys e f = none_append xs ys e f

one_then_none : (xs ys : List Bool) → one_at_most xs ≡ true → none ys ≡ true → one_at_most (xs ++ ys) ≡ true
one_then_none [] ys e f = none_one ys f
one_then_none (true ∷ xs) ys e f = none_append xs ys e f
one_then_none (false ∷ xs) ys e f = one_then_none xs ys e f

none_then_one : (xs ys : List Bool) → none xs ≡ true → one_at_most ys ≡ true → one_at_most (xs ++ ys) ≡ true
none_then_one [] ys e f = f
none_then_one (true ∷ xs) ys e f = cc
none_then_one (false ∷ xs) ys e f = none_then_one xs ys e f

pub not_any : (cs : List Bool) → none (map (λ c. false && c) cs) ≡ true
not_any [] = refl
not_any (c ∷ cs) = not_any cs

pub same_all : (cs : List Bool) → map (λ c. true && c) cs ≡ cs
same_all [] = refl
same_all (c ∷ cs) = ap (λ r. c ∷ r) (same_all cs)

pub flat_none : (cs bs : List Bool) → none bs ≡ true → none (flat_map (λ b. map (λ c. b && c) cs) bs) ≡ true
flat_none cs [] e = refl
flat_none cs (true ∷ bs) e = cc
flat_none cs (false ∷ bs) e = none_append (map (λ c. false && c) cs) (flat_map (λ b. map (λ c. b && c) cs) bs) (not_any cs) (flat_none cs bs e)

flat_one : (cs bs : List Bool) → one_at_most cs ≡ true → one_at_most bs ≡ true → one_at_most (flat_map (λ b. map (λ c. b && c) cs) bs) ≡ true
flat_one cs [] o e = refl
flat_one cs (true ∷ bs) o e = one_then_none (map (λ c. true && c) cs) (flat_map (λ b. map (λ c. b && c) cs) bs) (subst (λ ds. one_at_most ds ≡ true) (sym (same_all cs)) o) (flat_none cs bs e)
flat_one cs (false ∷ bs) o e = none_then_one (map (λ c. false && c) cs) (flat_map (λ b. map (λ c. b && c) cs) bs) (not_any cs) (flat_one cs bs o e)

-- each of the lists has at most one that is true
abbrev AllOne : List (List Bool) → Type 0
AllOne [] = Unit {0}
AllOne (m ∷ ms) = (one_at_most m ≡ true) × AllOne ms

taken_one : (ms : List (List Bool)) → AllOne ms → one_at_most (taken ms) ≡ true
taken_one [] o = refl
taken_one (m ∷ ms) o = flat_one (taken ms) m (taken_one ms o.1) o.0

pub chosen_none : (bs : List Bool) (cs : List Cell) → none bs ≡ true → chosen bs cs ≡ []
chosen_none [] cs e = refl
chosen_none (b ∷ bs) [] e = refl
chosen_none (true ∷ bs) (c ∷ cs) e = cc
chosen_none (false ∷ bs) (c ∷ cs) e = chosen_none bs cs e

chosen_one : (bs : List Bool) (cs : List Cell) → one_at_most bs ≡ true → (chosen bs cs ≡ []) ⊎ ((c : Cell) × (chosen bs cs ≡ c ∷ []))
chosen_one [] cs e = inl refl
chosen_one (b ∷ bs) [] e = inl refl
chosen_one (true ∷ bs) (c ∷ cs) e = inr (c, ap (λ r. c ∷ r) (chosen_none bs cs e))
chosen_one (false ∷ bs) (c ∷ cs) e = chosen_one bs cs e

-- ---- which index a subscript is

pub absent : (v : ℤ) (dim : List ℤ) → member v dim ≡ false → none (map (int_eq v) dim) ≡ true
absent v [] e = refl
absent v (w ∷ dim) e = elim (int_eq v w) as (λ b. cond b true (member v dim) ≡ false → cond b false (none (map (int_eq v) dim)) ≡ true) [ true ↦ λ f. cc | false ↦ λ f. absent v dim f ] e

pub not_true : (b : Bool) → not b ≡ true → b ≡ false
not_true true e = cc
not_true false e = refl

pub both : (x y : Bool) → (x && y) ≡ true → (x ≡ true) × (y ≡ true)
both true true e = (refl, refl)
both true false e = cc
both false y e = cc

pub none_index : (dim : List ℤ) → none (map (is_index None) dim) ≡ true
none_index [] = refl
none_index (v ∷ dim) = none_index dim

index_one : (o : Option ℤ) (dim : List ℤ) → all_differ dim ≡ true → one_at_most (map (is_index o) dim) ≡ true
index_one None dim e = none_one (map (is_index None) dim) (none_index dim)
index_one (Some v) [] e = refl
index_one (Some v) (w ∷ dim) e =
    let d = both (not (member w dim)) (all_differ dim) e in
    elim (int_eq v w) as (λ b. int_eq v w ≡ b → cond b (none (map (int_eq v) dim)) (one_at_most (map (int_eq v) dim)) ≡ true) [
      | true ↦ λ f. absent v dim (subst (λ u. member u dim ≡ false) (sym (same_int v w f)) (not_true (member w dim) d.0))
      | false ↦ λ f. index_one (Some v) dim d.1
    ] refl

masks_one : (dims : List (List ℤ)) (os : List (Option ℤ)) → list_all all_differ dims ≡ true → AllOne (masks is_index dims os)
masks_one [] os e = tt
masks_one (dim ∷ dims) [] e = tt
masks_one (dim ∷ dims) (o ∷ os) e = let d = both (all_differ dim) (list_all all_differ dims) e in (index_one o dim d.0, masks_one dims os d.1)

-- ---- comparisons of single values

verdict_bit : (b : Bool) → verdict b (not b) ≡ point (bit b)
verdict_bit true = refl
verdict_bit false = refl

above_zero : (v : ℤ) → int_lt (pos 0) v ≡ not (int_le v (pos 0))
above_zero v = elim (int_le v (pos 0)) as (λ b. int_le v (pos 0) ≡ b → int_lt (pos 0) v ≡ not b) [ true ↦ λ e. grind (arith, ints) | false ↦ λ e. grind (arith, ints) ] refl

from_zero : (v : ℤ) → int_le (pos 0) v ≡ not (int_lt v (pos 0))
from_zero v = elim (int_lt v (pos 0)) as (λ b. int_lt v (pos 0) ≡ b → int_le (pos 0) v ≡ not b) [ true ↦ λ e. grind (arith, ints) | false ↦ λ e. grind (arith, ints) ] refl

missed_point : (v : ℤ) → misses_zero (point v) ≡ not (int_eq v (pos 0))
missed_point v = elim (int_eq v (pos 0)) as (λ b. int_eq v (pos 0) ≡ b → misses_zero (point v) ≡ not b) [
  | true ↦ λ e. let z : v ≡ pos 0 = (Decides-int_eq v (pos 0)).0 e in rw z refl
  | false ↦ λ e. let n : v ≢ pos 0 = λ z. let k = (Decides-int_eq v (pos 0)).1 z in cc in away v n
] refl
  where
    away : (v : ℤ) → v ≢ pos 0 → (int_lt (pos 0) v || int_lt v (pos 0)) ≡ true
    away (pos zero) n = absurd (n refl)
    away (pos (suc m)) n = let e : int_lt (pos 0) (pos (suc m)) ≡ true = grind (arith, ints) in rw e refl
    away (negsuc m) n = refl

zero_point : (v : ℤ) → is_point (pos 0) (point v) ≡ int_eq v (pos 0)
zero_point v = elim (int_eq v (pos 0)) as (λ b. cond b b false ≡ b) [ true ↦ refl | false ↦ refl ]

or_false : (b : Bool) → (b || false) ≡ b
or_false true = refl
or_false false = refl

zero_singles : (a : List ℤ) (c : ℕ → ℤ) (k : ℤ) (n : ℕ) → n ≤ length a → has_zero (singles a) c k n ≡ int_eq (k +ℤ total a c n) (pos 0)
zero_singles a c k zero h = let e : k ≡ k +ℤ pos 0 = omega (arith, ints) in ap (λ v. int_eq v (pos 0)) e
zero_singles a c k (suc n) h =
    rw (set_of-singles a n (omega arith), or_false (has_zero (singles a) c (k +ℤ (c n *ℤ value_at a n)) n), zero_singles a c (k +ℤ (c n *ℤ value_at a n)) n (omega arith))
    (let e : (k +ℤ (c n *ℤ value_at a n)) +ℤ total a c n ≡ k +ℤ (total a c n +ℤ (c n *ℤ value_at a n)) = omega (arith, ints) in ap (λ v. int_eq v (pos 0)) e)

flipped_not : (b : Bool) → cond b false true ≡ not b
flipped_not true = refl
flipped_not false = refl

choice_same : (t b : Bool) → cond t b b ≡ b
choice_same true b = refl
choice_same false b = refl

-- the difference of a comparison's sides, compared with 0
compare_single : (rel : Relation) (a : List ℤ) (c : ℕ → ℤ) (p : Bool) (v : ℤ) → compare rel (singles a) c (length a) p (point (v +ℤ neg_ℤ (total a c (length a)))) ≡ point (bit (relates rel v (pos 0)))
unfolding compare never_zero
compare_single equal a c p v =
    let back : (v +ℤ neg_ℤ (total a c (length a))) +ℤ total a c (length a) ≡ v = omega (arith, ints) in
    let d = variables_singles a c (length a) (v +ℤ neg_ℤ (total a c (length a))) ∙ ap point back in
    let z = zero_singles a c (v +ℤ neg_ℤ (total a c (length a))) (length a) (omega arith) ∙ ap (λ u. int_eq u (pos 0)) back in
    rw (d, zero_point v, z, flipped_not (int_eq v (pos 0)), missed_point v, choice_same (p && is_one_or_two c (length a)) (not (int_eq v (pos 0)))) (verdict_bit (int_eq v (pos 0)))
compare_single at_most a c p v =
    let back : (v +ℤ neg_ℤ (total a c (length a))) +ℤ total a c (length a) ≡ v = omega (arith, ints) in
    let d = variables_singles a c (length a) (v +ℤ neg_ℤ (total a c (length a))) ∙ ap point back in
    rw (d, above_zero v) (verdict_bit (int_le v (pos 0)))
compare_single below a c p v =
    let back : (v +ℤ neg_ℤ (total a c (length a))) +ℤ total a c (length a) ≡ v = omega (arith, ints) in
    let d = variables_singles a c (length a) (v +ℤ neg_ℤ (total a c (length a))) ∙ ap point back in
    rw (d, from_zero v) (verdict_bit (int_lt v (pos 0)))

-- a linear form that has the value o
pub record IsSingle (a : List ℤ) (e : Linear) (o : Option ℤ) : Type 0 where
  pub rests : e.rest ≡ less a e.coef o

difference : (rel : Relation) (u v : ℤ) → relates rel (u +ℤ neg_ℤ v) (pos 0) ≡ relates rel u v
difference equal u v = same_from_decides (int_eq (u +ℤ neg_ℤ v) (pos 0)) (int_eq u v)
    (λ e. let z = (Decides-int_eq (u +ℤ neg_ℤ v) (pos 0)).0 e in omega (arith, ints, z), λ e. (Decides-int_eq (u +ℤ neg_ℤ v) (pos 0)).1 (omega (arith, ints, e))) (Decides-int_eq u v)
difference at_most u v = elim (int_le u v) as (λ b. int_le u v ≡ b → int_le (u +ℤ neg_ℤ v) (pos 0) ≡ b) [ true ↦ λ e. grind (arith, ints) | false ↦ λ e. grind (arith, ints) ] refl
difference below u v = elim (int_lt u v) as (λ b. int_lt u v ≡ b → int_lt (u +ℤ neg_ℤ v) (pos 0) ≡ b) [ true ↦ λ e. grind (arith, ints) | false ↦ λ e. grind (arith, ints) ] refl

compare_of_single : (rel : Relation) (a : List ℤ) (e f : Linear) (o p : Option ℤ) → IsSingle a e o → IsSingle a f p → compare_of rel (singles a) (minus e f) ≡ lift1 (λ b. point (bit b)) (lift (relates rel) o p)
compare_of_single rel a e f o p h k =
    let r : (minus e f).rest ≡ less a (minus e f).coef (lift ◌+ℤ◌ o (lift1 neg_ℤ p)) = rw (h.rests, k.rests, less_neg a f.coef p) (less_plus a e.coef (λ x. neg_ℤ (f.coef x)) o (lift1 neg_ℤ p)) in
    ap (λ s. lift1 (compare rel (singles a) (minus e f).coef (length (singles a)) (minus e f).pure) s) r ∙ cases o p
  where
    cases : (o p : Option ℤ) → lift1 (compare rel (singles a) (minus e f).coef (length (singles a)) (minus e f).pure) (less a (minus e f).coef (lift ◌+ℤ◌ o (lift1 neg_ℤ p))) ≡ lift1 (λ b. point (bit b)) (lift (relates rel) o p)
    cases None p = refl
    cases (Some u) None = refl
    cases (Some u) (Some v) = ap Some (rw (length-singles a) (compare_single rel a (minus e f).coef (minus e f).pure (u +ℤ neg_ℤ v)) ∙ ap (λ b. point (bit b)) (difference rel u v))

possible_bit : (b : Bool) → is_possible (Some (point (bit b))) ≡ b
possible_bit true = refl
possible_bit false = refl

constant_single : (a : List ℤ) (i : ℤ) → IsSingle a (constant i) (Some i)
constant_single a i = record { rests = less_none a (Some i) }

may_be_single : (a : List ℤ) (e : Linear) (o : Option ℤ) → IsSingle a e o → (i : ℤ) → may_be (singles a) e i ≡ is_index o i
may_be_single a e o h i = ap is_possible (compare_of_single equal a e (constant i) o (Some i) h (constant_single a i)) ∙ cases o
  where
    cases : (o : Option ℤ) → is_possible (lift1 (λ b. point (bit b)) (lift int_eq o (Some i))) ≡ is_index o i
    cases None = refl
    cases (Some v) = possible_bit (int_eq v i)

map_same : {A B : Type 0} (f g : A → B) → ((x : A) → f x ≡ g x) → (xs : List A) → map f xs ≡ map g xs
map_same f g h [] = refl
map_same f g h (x ∷ xs) = rw (h x, map_same f g h xs) refl

masks_single : (a : List ℤ) (dims : List (List ℤ)) (es : List Linear) (os : List (Option ℤ)) → Zip (IsSingle a) es os → masks (may_be (singles a)) dims es ≡ masks is_index dims os
masks_single a [] es os z = refl
masks_single a (dim ∷ dims) [] [] z = refl
masks_single a (dim ∷ dims) [] (o ∷ os) z = absurd z
masks_single a (dim ∷ dims) (e ∷ es) [] z = absurd z
masks_single a (dim ∷ dims) (e ∷ es) (o ∷ os) z = rw (map_same (may_be (singles a) e) (is_index o) (may_be_single a e o z.0) dim, masks_single a dims es os z.1) refl

cell_single : (a : List ℤ) (c : Cell) → cell_range (singles a) c ≡ point (cell_value a c)
cell_single a (cell.Const k) = refl
cell_single a (cell.Var x) = single_set a x

look_single : (a : List ℤ) (table : Option Table) (es : List Linear) (os : List (Option ℤ)) → is_clear table ≡ true → Zip (IsSingle a) es os
    → look_up (may_be (singles a)) (cell_range (singles a)) span_hull table es ≡ lift1 point (look_up is_index (cell_value a) (λ v w. v) table os)
look_single a None es os c z = refl
look_single a (Some t) es os c z =
    ap (λ ms. joined span_hull (map (cell_range (singles a)) (chosen (taken ms) t.cells))) (masks_single a t.dims es os z)
    ∙ cases (chosen (taken (masks is_index t.dims os)) t.cells) (chosen_one (taken (masks is_index t.dims os)) t.cells (taken_one (masks is_index t.dims os) (masks_one t.dims os c)))
  where
    cases : (cs : List Cell) → (cs ≡ []) ⊎ ((c : Cell) × (cs ≡ c ∷ [])) → joined span_hull (map (cell_range (singles a)) cs) ≡ lift1 point (joined (λ v w. v) (map (cell_value a) cs))
    cases cs (inl e) = rw e refl
    cases cs (inr q) = rw q.1 (ap Some (cell_single a q.0))

-- ---- truths

min_bits : (b c : Bool) → span_min (point (bit b)) (point (bit c)) ≡ point (bit (b && c))
unfolding span_min smaller
min_bits true true = refl
min_bits true false = refl
min_bits false true = refl
min_bits false false = refl

max_bits : (b c : Bool) → span_max (point (bit b)) (point (bit c)) ≡ point (bit (b || c))
unfolding span_max larger
max_bits true true = refl
max_bits true false = refl
max_bits false true = refl
max_bits false false = refl

same_bits : (b c : Bool) → same_truth (point (bit b)) (point (bit c)) ≡ point (bit (same b c))
unfolding same_truth
same_bits true true = refl
same_bits true false = refl
same_bits false true = refl
same_bits false false = refl

flip_bit : (b : Bool) → flip (point (bit b)) ≡ point (bit (not b))
unfolding flip
flip_bit true = refl
flip_bit false = refl

-- a truth as an interval
abbrev pub truth_point : Bool → Span
truth_point b = point (bit b)

two_truths : (f : Span → Span → Span) (g : Bool → Bool → Bool) → ((b c : Bool) → f (truth_point b) (truth_point c) ≡ truth_point (g b c)) → (o p : Option Bool) → lift f (lift1 truth_point o) (lift1 truth_point p) ≡ lift1 truth_point (lift g o p)
two_truths f g h None p = refl
two_truths f g h (Some b) None = refl
two_truths f g h (Some b) (Some c) = ap Some (h b c)

all_truths : (f : Span → Span → Span) (g : Bool → Bool → Bool) (e : Bool) → ((b c : Bool) → f (truth_point b) (truth_point c) ≡ truth_point (g b c)) → (os : List (Option Bool)) → lift_all f (truth_point e) (map (lift1 truth_point) os) ≡ lift1 truth_point (lift_all g e os)
all_truths f g e h [] = refl
all_truths f g e h (o ∷ os) = rw (all_truths f g e h os) (two_truths f g h o (lift_all g e os))

bits_of : (o : Option Bool) → lift1 point (lift1 bit o) ≡ lift1 truth_point o
bits_of None = refl
bits_of (Some b) = refl

-- ---- all rows

abs_points : (o : Option ℤ) → bind1 span_abs (lift1 point o) ≡ lift1 point (lift1 (λ v. pos (unsigned_abs v)) o)
abs_points None = refl
abs_points (Some v) = abs_point v

truths_flipped : (o : Option Bool) → lift1 flip (lift1 truth_point o) ≡ lift1 truth_point (lift1 not o)
truths_flipped None = refl
truths_flipped (Some b) = ap Some (flip_bit b)

-- ---- pairs

known_single : (a : List ℤ) (e : Linear) (o : Option ℤ) → IsSingle a e o → defined_range e ≡ lift1 truth_point (lift1 (λ v. true) o)
known_single a e o h = ap (lift1 (λ r. point (pos 1))) h.rests ∙ cases o
  where
    cases : (o : Option ℤ) → lift1 (λ r. point (pos 1)) (less a e.coef o) ≡ lift1 truth_point (lift1 (λ v. true) o)
    cases None = refl
    cases (Some v) = refl

differ_single : (a : List ℤ) (d e : Linear) (o p : Option ℤ) → IsSingle a d o → IsSingle a e p → differ_range (singles a) d e ≡ lift1 truth_point (lift (op_relates Ne) o p)
differ_single a d e o p h k = ap (lift1 flip) (compare_of_single equal a d e o p h k) ∙ cases o p
  where
    cases : (o p : Option ℤ) → lift1 flip (lift1 truth_point (lift (relates equal) o p)) ≡ lift1 truth_point (lift (op_relates Ne) o p)
    cases None p = refl
    cases (Some u) None = refl
    cases (Some u) (Some v) = ap Some (flip_bit (int_eq u v))

-- the intervals are those of the truths
abbrev AreTruths : Option Span → Option Bool → Type 0
AreTruths r o = r ≡ lift1 truth_point o

zip_truths : (rs : List (Option Span)) (os : List (Option Bool)) → Zip AreTruths rs os → rs ≡ map (lift1 truth_point) os
zip_truths [] [] z = refl
zip_truths [] (o ∷ os) z = absurd z
zip_truths (r ∷ rs) [] z = absurd z
zip_truths (r ∷ rs) (o ∷ os) z = rw (z.0, zip_truths rs os z.1) refl

pairs_single : (a : List ℤ) (es : List Linear) (os : List (Option ℤ)) → Zip (IsSingle a) es os
    → pairwise defined_range (differ_range (singles a)) es ≡ map (lift1 truth_point) (pairwise (lift1 (λ v. true)) (lift (op_relates Ne)) os)
pairs_single a es os z =
    zip_truths _ _ (zip_pairs (IsSingle a) AreTruths defined_range (lift1 (λ v. true)) (differ_range (singles a)) (lift (op_relates Ne)) (known_single a) (λ d e o p. differ_single a d e o p) es os z)

module _ (a : List ℤ) where
  mutual
    pub rest_single : (t : Term) → clear t ≡ true → rest (singles a) t ≡ less a (coef t) (value a t)
    rest_single (Term.const k) c = less_none a (Some k)
    rest_single (Term.var x) c = ap (λ v. Some (point v)) (let e = var_total a x in omega (arith, ints, e))
    rest_single (Term.sum ts) c = sum_single ts c
    rest_single (Term.neg t) c = rw (rest_single t c) (less_neg a (coef t) (value a t))
    rest_single (Term.scale k t) c = rw (rest_single t c) (less_scale a k (coef t) (value a t))
    rest_single (Term.mul s t) c =
        let d = both (clear s) (clear t) c in
        rw (whole a (coef s) (rest (singles a) s) (value a s) (rest_single s d.0), whole a (coef t) (rest (singles a) t) (value a t) (rest_single t d.1))
        (two_points span_mul ◌*ℤ◌ mul_points (value a s) (value a t) ∙ less_none a (lift ◌*ℤ◌ (value a s) (value a t)))
    rest_single (Term.div s t) c =
        let d = both (clear s) (clear t) c in
        rw (whole a (coef s) (rest (singles a) s) (value a s) (rest_single s d.0), whole a (coef t) (rest (singles a) t) (value a t) (rest_single t d.1))
        (two_bound span_div quotient div_points (value a s) (value a t) ∙ less_none a (bind quotient (value a s) (value a t)))
    rest_single (Term.rem s t) c =
        let d = both (clear s) (clear t) c in
        rw (whole a (coef s) (rest (singles a) s) (value a s) (rest_single s d.0), whole a (coef t) (rest (singles a) t) (value a t) (rest_single t d.1))
        (two_bound span_rem remainder rem_points (value a s) (value a t) ∙ less_none a (bind remainder (value a s) (value a t)))
    rest_single (Term.abs t) c =
        rw (whole a (coef t) (rest (singles a) t) (value a t) (rest_single t c)) (abs_points (value a t) ∙ less_none a (lift1 (λ v. pos (unsigned_abs v)) (value a t)))
    rest_single (Term.least ts) c = rw (ranges_single ts c) (some_points span_min smaller min_points (all_values a ts) ∙ less_none a (lift_some smaller (all_values a ts)))
    rest_single (Term.greatest ts) c = rw (ranges_single ts c) (some_points span_max larger max_points (all_values a ts) ∙ less_none a (lift_some larger (all_values a ts)))
    rest_single (Term.at table ts) c =
        let d = both (is_clear table) (all_clear ts) c in
        look_single a table (linears (singles a) ts) (all_values a ts) d.0 (linears_single ts d.1) ∙ less_none a (look_up is_index (cell_value a) (λ v w. v) table (all_values a ts))
    rest_single (Term.truth c) d = fact_single c d ∙ sym (bits_of (holds a c)) ∙ less_none a (lift1 bit (holds a c))
    rest_single (Term.asked ask x) c = refl

    pub sum_single : (ts : Terms) → all_clear ts ≡ true → lift_all span_add (point (pos 0)) (map (λ (e : Linear). e.rest) (linears (singles a) ts)) ≡ less a (coefs ts) (lift_all ◌+ℤ◌ (pos 0) (all_values a ts))
    sum_single Terms.no_terms c = less_none a (Some (pos 0))
    sum_single (Terms.more_terms t ts) c =
        let d = both (clear t) (all_clear ts) c in
        rw (rest_single t d.0, sum_single ts d.1) (less_plus a (coef t) (coefs ts) (value a t) (lift_all ◌+ℤ◌ (pos 0) (all_values a ts)))

    pub ranges_single : (ts : Terms) → all_clear ts ≡ true → map (range_of_linear (singles a)) (linears (singles a) ts) ≡ map (lift1 point) (all_values a ts)
    ranges_single Terms.no_terms c = refl
    ranges_single (Terms.more_terms t ts) c =
        let d = both (clear t) (all_clear ts) c in
        rw (whole a (coef t) (rest (singles a) t) (value a t) (rest_single t d.0), ranges_single ts d.1) refl

    pub linears_single : (ts : Terms) → all_clear ts ≡ true → Zip (IsSingle a) (linears (singles a) ts) (all_values a ts)
    linears_single Terms.no_terms c = tt
    linears_single (Terms.more_terms t ts) c = let d = both (clear t) (all_clear ts) c in (record { rests = rest_single t d.0 }, linears_single ts d.1)

    pub fact_single : (c : Fact) → clear_fact c ≡ true → fact_range (singles a) c ≡ lift1 truth_point (holds a c)
    fact_single (Fact.fixed b) d = refl
    fact_single (Fact.cmp rel s t) d =
        let e = both (clear s) (clear t) d in
        compare_of_single rel a (record { coef = coef s; pure = pure s; rest = rest (singles a) s }) (record { coef = coef t; pure = pure t; rest = rest (singles a) t }) (value a s) (value a t) (record { rests = rest_single s e.0 }) (record { rests = rest_single t e.1 })
    fact_single (Fact.and cs) d = rw (facts_single cs d) (all_truths span_min (λ b c. b && c) true min_bits (all_hold a cs))
    fact_single (Fact.or cs) d = rw (facts_single cs d) (all_truths span_max (λ b c. b || c) false max_bits (all_hold a cs))
    fact_single (Fact.iff b c) d = let e = both (clear_fact b) (clear_fact c) d in rw (fact_single b e.0, fact_single c e.1) (two_truths same_truth same same_bits (holds a b) (holds a c))
    fact_single (Fact.not c) d = rw (fact_single c d) (truths_flipped (holds a c))
    fact_single (Fact.different ts) d =
        ap (lift_all span_min (point (pos 1))) (pairs_single a (linears (singles a) ts) (all_values a ts) (linears_single ts d))
        ∙ all_truths span_min (λ b c. b && c) true min_bits (pairwise (lift1 (λ v. true)) (lift (op_relates Ne)) (all_values a ts))
    fact_single (Fact.bound x) d = refl

    pub facts_single : (cs : Facts) → clear_facts cs ≡ true → fact_ranges (singles a) cs ≡ map (lift1 truth_point) (all_hold a cs)
    facts_single Facts.no_facts d = refl
    facts_single (Facts.more_facts c cs) d = let e = both (clear_fact c) (clear_facts cs) d in rw (fact_single c e.0, facts_single cs e.1) refl

pub single_values : Singles
single_values = record {
  terms = λ t a c. whole a (coef t) (rest (singles a) t) (value a t) (rest_single a t c);
  facts = λ c a d. fact_single a c d;
}

-- ---- what holds is not refuted

singles_full : (a : List ℤ) (x : ℕ) → x < length (singles a) → (v : ℤ) × (has (singles a) x v ≡ true)
singles_full a x h = (value_at a x, subst (λ vs. member (value_at a x) vs ≡ true) (sym (set_of-singles a x (omega (arith, length-singles a)))) (member_first (value_at a x) []))

pub none_refuted : NoneRefuted
none_refuted c a F d h b =
    possible_in (fact_range (singles a) c) (fact_range F c) (monotony.facts c (singles a) F (singles_full a) b)
    (rw (single_values.facts c a d, h) refl)
