-- Families below one another, with one variable fixed, and restricted to some of their values.
use Rattle.std.proofs.Common.{◌≡◌, ◌≢◌, ℕ, zero, suc, ◌<◌, ◌≤◌, ◌⊎◌, Bool, true, false, cond, refl, List, [], ◌∷◌, ◌++◌, map, length, ℤ, inl, inr, ap, sym, subst, arith}
use Rattle.std.specs.List.{list_any, filter}
use Rattle.std.specs.Ordering.{int_eq}
use Rattle.std.proofs.lemmas.Bool.{cases_lt, cases_eq, or_cases}
use Rattle.opl_domain.specs.Family.{member, Family, set_of, has, only, Sub, Below, Full}
use Rattle.opl_domain.proofs.Members.{member_cases, member_first, member_later, member_filter, from_filter}
use Rattle.opl_domain.proofs.Sets.{set_of-past, length-only, only_here, only_there}
use Rattle.opl_expr.specs.Laws.{singles}
use Rattle.opl_trace.specs.Closure.{sublists, families, restrict}
use Rattle.opl_trace.proofs.Passing.{any_left, any_right, from_any_append, any_map, any_flat, from_any_flat, or_left}

pub below_self : (F : Family) → Below F F
below_self F = record { sub = λ x v h. h; same = refl }

pub below_join : (F G H : Family) → Below F G → Below G H → Below F H
below_join F G H a b = record { sub = λ x v h. b.sub x v (a.sub x v h); same = cc }

-- only a variable that there is has a value
pub has_at : (F : Family) (x : ℕ) (v : ℤ) → has F x v ≡ true → x < length F
has_at F x v h = elim (cases_lt x (length F)) [
  | inl k ↦ k
  | inr k ↦ let m = subst (λ vs. member v vs ≡ true) (set_of-past F x k) h in cc
]

-- ---- one variable fixed

pub from_only : (F : Family) (x y : ℕ) (v w : ℤ) → has (only F x v) y w ≡ true → ((y ≡ x) × (w ≡ v)) ⊎ ((y ≢ x) × (has F y w ≡ true))
from_only F x y v w h = elim (cases_eq y x) [
  | inl e ↦
      let k = has_at (only F x v) y w h in
      let m = subst (λ vs. member w vs ≡ true) (only_here F x v (omega (arith, length-only F x v))) (subst (λ z. has (only F x v) z w ≡ true) e h) in
      inl (e, elim (member_cases w v [] m) [ inl s ↦ s | inr n ↦ cc ])
  | inr n ↦ inr (n, subst (λ vs. member w vs ≡ true) (only_there F x y v n) h)
]

pub only_has : (F : Family) (x : ℕ) (v : ℤ) → x < length F → has (only F x v) x v ≡ true
only_has F x v h = subst (λ vs. member v vs ≡ true) (sym (only_here F x v h)) (member_first v [])

pub only_has_other : (F : Family) (x y : ℕ) (v w : ℤ) → y ≢ x → has F y w ≡ true → has (only F x v) y w ≡ true
only_has_other F x y v w n h = subst (λ vs. member w vs ≡ true) (sym (only_there F x y v n)) h

pub only_full : (F : Family) (x : ℕ) (v : ℤ) → Full F → Full (only F x v)
only_full F x v f y h = elim (cases_eq y x) [
  | inl e ↦ (v, subst (λ z. has (only F x v) z v ≡ true) (sym e) (only_has F x v (omega (arith, length-only F x v))))
  | inr n ↦ let r = f y (omega (arith, length-only F x v)) in (r.0, only_has_other F x y v r.0 n r.1)
]

pub only_below_only : (F G : Family) (x : ℕ) (v : ℤ) → Below F G → Below (only F x v) (only G x v)
only_below_only F G x v b = record {
  sub = λ y w h. elim (from_only F x y v w h) [
    | inl e ↦
        let k = has_at (only F x v) y w h in
        subst (λ u. has (only G x v) y u ≡ true) (sym e.1) (subst (λ z. has (only G x v) z v ≡ true) (sym e.0) (only_has G x v (omega (arith, length-only F x v, b.same, e.0))))
    | inr n ↦ only_has_other G x y v w n.0 (b.sub y w n.1)
  ];
  same = let e = length-only F x v in let g = length-only G x v in let s = b.same in cc;
}

pub only_below : (F : Family) (x : ℕ) (v : ℤ) → has F x v ≡ true → Below (only F x v) F
only_below F x v m = record {
  sub = λ y w h. elim (from_only F x y v w h) [
    | inl e ↦ subst (λ u. has F y u ≡ true) (sym e.1) (subst (λ z. has F z v ≡ true) (sym e.0) m)
    | inr n ↦ n.1
  ];
  same = length-only F x v;
}

-- ---- one more variable

sub_cons : (s vs : List ℤ) (F D : Family) → ((v : ℤ) → member v s ≡ true → member v vs ≡ true) → Sub F D → Sub (s ∷ F) (vs ∷ D)
unfolding set_of
sub_cons s vs F D h b zero v m = h v m
sub_cons s vs F D h b (suc x) v m = b x v m

pub below_cons : (s vs : List ℤ) (F D : Family) → ((v : ℤ) → member v s ≡ true → member v vs ≡ true) → Below F D → Below (s ∷ F) (vs ∷ D)
below_cons s vs F D h b = record { sub = sub_cons s vs F D h b.sub; same = ap suc b.same }

-- ---- restricted families

pub filter_shorter : (p : ℤ → Bool) (vs : List ℤ) → length (filter p vs) ≤ length vs
filter_shorter p [] = omega arith
filter_shorter p (v ∷ vs) = elim (p v) as (λ b. length (cond b (v ∷ filter p vs) (filter p vs)) ≤ length (v ∷ vs)) [
  | true ↦ omega (arith, filter_shorter p vs)
  | false ↦ omega (arith, filter_shorter p vs)
]

pub length-restrict : (keeps : ℕ → ℤ → Bool) (D : Family) → length (restrict keeps D) ≡ length D
length-restrict keeps [] = refl
length-restrict keeps (vs ∷ D) = ap suc (length-restrict (λ x. keeps (suc x)) D)

pub set_of-restrict : (keeps : ℕ → ℤ → Bool) (D : Family) (x : ℕ) → set_of (restrict keeps D) x ≡ filter (keeps x) (set_of D x)
unfolding set_of
set_of-restrict keeps [] x = refl
set_of-restrict keeps (vs ∷ D) zero = refl
set_of-restrict keeps (vs ∷ D) (suc x) = set_of-restrict (λ y. keeps (suc y)) D x

pub has_restrict : (keeps : ℕ → ℤ → Bool) (D : Family) (x : ℕ) (v : ℤ) → has D x v ≡ true → keeps x v ≡ true → has (restrict keeps D) x v ≡ true
has_restrict keeps D x v h k = subst (λ vs. member v vs ≡ true) (sym (set_of-restrict keeps D x)) (member_filter (keeps x) (set_of D x) v h k)

pub from_restrict : (keeps : ℕ → ℤ → Bool) (D : Family) (x : ℕ) (v : ℤ) → has (restrict keeps D) x v ≡ true → (has D x v ≡ true) × (keeps x v ≡ true)
from_restrict keeps D x v h = from_filter (keeps x) (set_of D x) v (subst (λ vs. member v vs ≡ true) (set_of-restrict keeps D x) h)

pub restrict_below : (keeps : ℕ → ℤ → Bool) (D : Family) → Below (restrict keeps D) D
restrict_below keeps D = record { sub = λ x v h. (from_restrict keeps D x v h).0; same = length-restrict keeps D }

-- a family below D has the values of one that is restricted from D
pub below_restrict : (F D : Family) → Below F D → Below F (restrict (has F) D)
below_restrict F D b = record {
  sub = λ x v h. has_restrict (has F) D x v (b.sub x v h) h;
  same = let e = length-restrict (has F) D in let s = b.same in cc;
}

pub restrict_within : (F D : Family) → Below F D → Below (restrict (has F) D) F
restrict_within F D b = record {
  sub = λ x v h. (from_restrict (has F) D x v h).1;
  same = let e = length-restrict (has F) D in let s = b.same in cc;
}

-- ---- the list of all families within D

any_sublist : (p : List ℤ → Bool) (q : ℤ → Bool) (vs : List ℤ) → p (filter q vs) ≡ true → list_any p (sublists vs) ≡ true
any_sublist p q [] h = or_left (p []) false h
any_sublist p q (v ∷ vs) h = elim (q v) as (λ b. p (cond b (v ∷ filter q vs) (filter q vs)) ≡ true → list_any p (map (λ s. v ∷ s) (sublists vs) ++ sublists vs) ≡ true) [
  | true ↦ λ k. any_left p (map (λ s. v ∷ s) (sublists vs)) (sublists vs) (rw (any_map p (λ s. v ∷ s) (sublists vs)) (any_sublist (λ s. p (v ∷ s)) q vs k))
  | false ↦ λ k. any_right p (map (λ s. v ∷ s) (sublists vs)) (sublists vs) (any_sublist p q vs k)
] h

-- what holds of a restricted family holds of one in the list
pub any_family : (p : Family → Bool) (keeps : ℕ → ℤ → Bool) (D : Family) → p (restrict keeps D) ≡ true → list_any p (families D) ≡ true
any_family p keeps [] h = or_left (p []) false h
any_family p keeps (vs ∷ D) h =
    let k = any_family (λ F. p (filter (keeps zero) vs ∷ F)) (λ x. keeps (suc x)) D h in
    any_flat p (λ s. map (λ F. s ∷ F) (families D)) (sublists vs)
    (any_sublist (λ s. list_any p (map (λ F. s ∷ F) (families D))) (keeps zero) vs (rw (any_map p (λ F. filter (keeps zero) vs ∷ F) (families D)) k))

pub record Picked (p : Family → Bool) (D : Family) : Type 0 where
  pub family : Family
  pub passes : p family ≡ true
  pub within : Below family D

record PickedList (p : List ℤ → Bool) (vs : List ℤ) : Type 0 where
  list : List ℤ
  passes : p list ≡ true
  within : (v : ℤ) → member v list ≡ true → member v vs ≡ true

within_cons : (v : ℤ) (s vs : List ℤ) → ((w : ℤ) → member w s ≡ true → member w vs ≡ true) → (w : ℤ) → member w (v ∷ s) ≡ true → member w (v ∷ vs) ≡ true
within_cons v s vs h w m = elim (int_eq w v) as (λ b. cond b true (member w s) ≡ true → cond b true (member w vs) ≡ true) [
  | true ↦ λ k. k
  | false ↦ λ k. h w k
] m

from_sublist : (p : List ℤ → Bool) (vs : List ℤ) → list_any p (sublists vs) ≡ true → PickedList p vs
from_sublist p [] h = record { list = []; passes = elim (or_cases (p []) false h) [ inl e ↦ e | inr e ↦ cc ]; within = λ v m. m }
from_sublist p (v ∷ vs) h = elim (from_any_append p (map (λ s. v ∷ s) (sublists vs)) (sublists vs) h) [
  | inl k ↦
      let r = from_sublist (λ s. p (v ∷ s)) vs (rw (any_map p (λ s. v ∷ s) (sublists vs)) at k) in
      record { list = v ∷ r.list; passes = r.passes; within = within_cons v r.list vs r.within }
  | inr k ↦ let r = from_sublist p vs k in record { list = r.list; passes = r.passes; within = λ w m. member_later w v vs (r.within w m) }
]

-- each family in the list is within D
pub from_family : (p : Family → Bool) (D : Family) → list_any p (families D) ≡ true → Picked p D
from_family p [] h = record { family = []; passes = elim (or_cases (p []) false h) [ inl e ↦ e | inr e ↦ cc ]; within = below_self [] }
from_family p (vs ∷ D) h =
    let a = from_any_flat p (λ s. map (λ F. s ∷ F) (families D)) (sublists vs) h in
    let s = from_sublist (λ s. list_any p (map (λ F. s ∷ F) (families D))) vs a in
    let b = rw (any_map p (λ F. s.list ∷ F) (families D)) at s.passes in
    let r = from_family (λ F. p (s.list ∷ F)) D b in
    record { family = s.list ∷ r.family; passes = r.passes; within = below_cons s.list vs r.family D s.within r.within }

-- ---- the family of an assignment

pub singles_full : (a : List ℤ) → Full (singles a)
unfolding set_of
singles_full [] x h = absurd (omega arith)
singles_full (v ∷ a) zero h = (v, member_first v [])
singles_full (v ∷ a) (suc x) h = singles_full a x (omega arith)

pub singles_only : (a : List ℤ) (x : ℕ) (v : ℤ) → has (singles a) x v ≡ true → only (singles a) x v ≡ singles a
unfolding set_of only
singles_only [] x v h = cc
singles_only (w ∷ a) zero v h = elim (member_cases v w [] h) [ inl e ↦ rw e refl | inr n ↦ cc ]
singles_only (w ∷ a) (suc x) v h = ap (λ F. (w ∷ []) ∷ F) (singles_only a x v h)
