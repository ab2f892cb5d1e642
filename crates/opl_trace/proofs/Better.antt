-- Best values: a better one leaves fewer values, and fewer of the assignments of a list.
use Rattle.std.proofs.Common.{◌≡◌, ℕ, Bool, true, false, cond, ◌&&◌, ◌||◌, refl, List, [], ◌∷◌, ◌++◌, length, ℤ, pos, ◌+ℤ◌, ◌≤ℤ◌, neg_ℤ, inl, inr, ap, sym, subst, arith}
use Rattle.std.specs.Prelude.{int_lt, int_le, Option, Some, None}
use Rattle.std.specs.List.{list_any, filter}
use Rattle.std.proofs.lemmas.Int.{ints}
use Rattle.opl_domain.specs.Span.{Span, point}
use Rattle.opl_domain.specs.Arithmetic.{span_add, span_neg}
use Rattle.opl_domain.specs.Family.{Family, only}
use Rattle.opl_expr.specs.Forms.{Term, Fact}
use Rattle.opl_expr.specs.Forms.Relation.{below}
use Rattle.opl_expr.specs.Options.{lift1, lift}
use Rattle.opl_expr.specs.Holds.{value}
use Rattle.opl_expr.specs.Range.{verdict, weighted, with_variables, compare, coef, pure, rest, is_possible, is_refuted, fact_range}
use Rattle.opl_trace.specs.Objective.{Objective, better_than, bound, is_better, improving_from, NotWorse, Tighter}
use Rattle.opl_trace.specs.Stable.{IsStable}
use Rattle.opl_trace.specs.Run.{is_dead, closed}
use Rattle.opl_trace.specs.SearchLaws.{IsWider}
use Rattle.opl_trace.proofs.Passing.{false_unless, any_left, any_right, from_any_append, or_left}
use Rattle.opl_trace.proofs.Constraints.{refuted_is, refuted_from, moment_is_closure}
use Rattle.opl_trace.proofs.Posting.{closed_stable, wider}

-- ---- a verdict that is surely false

record IsOut (s n : Bool) : Type 0 where
  not_sure : s ≡ false
  never : n ≡ true

verdict_out : (s n : Bool) → is_possible (Some (verdict s n)) ≡ false → IsOut s n
verdict_out true true h = cc
verdict_out true false h = cc
verdict_out false true h = record { not_sure = refl; never = refl }
verdict_out false false h = cc

out_verdict : (s n : Bool) → s ≡ false → n ≡ true → is_possible (Some (verdict s n)) ≡ false
out_verdict s n e f = rw (e, f) refl

not_lt : (x : ℤ) → int_lt x (pos 0) ≡ false → pos 0 ≤ℤ x
not_lt x h = grind (arith, ints)

is_le : (x : ℤ) → int_le (pos 0) x ≡ true → pos 0 ≤ℤ x
is_le x h = grind (arith, ints)

lt_not : (x : ℤ) → pos 0 ≤ℤ x → int_lt x (pos 0) ≡ false
lt_not x h = grind (arith, ints)

le_is : (x : ℤ) → pos 0 ≤ℤ x → int_le (pos 0) x ≡ true
le_is x h = grind (arith, ints)

-- a difference that isn't below zero stays so where both its ends rise
below_out : (F : Family) (c : ℕ → ℤ) (n : ℕ) (p : Bool) (r s : Span) → r.low ≤ℤ s.low → r.high ≤ℤ s.high → is_possible (Some (compare below F c n p r)) ≡ false → is_possible (Some (compare below F c n p s)) ≡ false
unfolding compare with_variables span_add
below_out F c n p r s i j h =
    let d = verdict_out (int_lt (r.high +ℤ (weighted F c n).high) (pos 0)) (int_le (pos 0) (r.low +ℤ (weighted F c n).low)) h in
    let a = not_lt (r.high +ℤ (weighted F c n).high) d.not_sure in
    let b = is_le (r.low +ℤ (weighted F c n).low) d.never in
    out_verdict (int_lt (s.high +ℤ (weighted F c n).high) (pos 0)) (int_le (pos 0) (s.low +ℤ (weighted F c n).low))
    (lt_not (s.high +ℤ (weighted F c n).high) (omega (arith, ints))) (le_is (s.low +ℤ (weighted F c n).low) (omega (arith, ints)))

less_out : (F : Family) (c : ℕ → ℤ) (n : ℕ) (p : Bool) (i j : ℤ) (r : Option Span) → i ≤ℤ j →
    is_possible (lift1 (compare below F c n p) (lift span_add (Some (point i)) (lift1 span_neg r))) ≡ false → is_possible (lift1 (compare below F c n p) (lift span_add (Some (point j)) (lift1 span_neg r))) ≡ false
unfolding span_add
less_out F c n p i j None l h = refl
less_out F c n p i j (Some a) l h = below_out F c n p (span_add (point i) (span_neg a)) (span_add (point j) (span_neg a)) (omega (arith, ints)) (omega (arith, ints)) h

more_out : (F : Family) (c : ℕ → ℤ) (n : ℕ) (p : Bool) (i j : ℤ) (r : Option Span) → j ≤ℤ i →
    is_possible (lift1 (compare below F c n p) (lift span_add r (lift1 span_neg (Some (point i))))) ≡ false → is_possible (lift1 (compare below F c n p) (lift span_add r (lift1 span_neg (Some (point j))))) ≡ false
unfolding span_add span_neg
more_out F c n p i j None l h = refl
more_out F c n p i j (Some a) l h = below_out F c n p (span_add a (span_neg (point i))) (span_add a (span_neg (point j))) (omega (arith, ints)) (omega (arith, ints)) h

bound_tighter : (m : Bool) (t : Term) (F : Family) (i j : ℤ) → NotWorse m i j → is_refuted F (better_than (record { is_most = m; term = t }) i) ≡ true → is_refuted F (better_than (record { is_most = m; term = t }) j) ≡ true
bound_tighter true t F i j l h =
    refuted_from (is_possible (fact_range F (Fact.cmp below (Term.const j) t)))
    (less_out F (λ x. pos 0 +ℤ neg_ℤ (coef t x)) (length F) (true && pure t) i j (rest F t) l (refuted_is (is_possible (fact_range F (Fact.cmp below (Term.const i) t))) h))
bound_tighter false t F i j l h =
    refuted_from (is_possible (fact_range F (Fact.cmp below t (Term.const j))))
    (more_out F (λ x. coef t x +ℤ neg_ℤ (pos 0)) (length F) (pure t && true) i j (rest F t) l (refuted_is (is_possible (fact_range F (Fact.cmp below t (Term.const i)))) h))

only_one : (b : Bool) → (b || false) ≡ true → b ≡ true
only_one true h = refl
only_one false h = h

bound_falls : (g : Objective) (F : Family) (b c : Option ℤ) → Tighter g b c → list_any (is_refuted F) (bound (Some g) b) ≡ true → list_any (is_refuted F) (bound (Some g) c) ≡ true
bound_falls g F None c l h = cc
bound_falls g F (Some i) None l h = absurd l
bound_falls g F (Some i) (Some j) l h = or_left (is_refuted F (better_than g j)) false (bound_tighter g.is_most g.term F i j l (only_one (is_refuted F (better_than g i)) h))

dead_tighter : (g : Objective) (P : List Fact) (b c : Option ℤ) (F : Family) → Tighter g b c → is_dead (Some g) P c F ≡ false → is_dead (Some g) P b F ≡ false
unfolding is_dead
dead_tighter g P b c F l h = false_unless (list_any (is_refuted F) (P ++ bound (Some g) b)) (λ e.
    let k : list_any (is_refuted F) (P ++ bound (Some g) c) ≡ true = elim (from_any_append (is_refuted F) P (bound (Some g) b) e) [
      | inl i ↦ any_left (is_refuted F) P (bound (Some g) c) i
      | inr i ↦ any_right (is_refuted F) P (bound (Some g) c) (bound_falls g F b c l i)
    ] in
    cc)

-- what is stable under a better best value is so under a worse one
pub stable_tighter : (g : Objective) (P : List Fact) (b c : Option ℤ) (F : Family) → Tighter g b c → IsStable (is_dead (Some g) P c) F → IsStable (is_dead (Some g) P b) F
stable_tighter g P b c F l s = record {
  full = s.full;
  spared = dead_tighter g P b c F l s.spared;
  each = λ x v h m. dead_tighter g P b c (only F x v) l (s.each x v h m);
}

-- a better best value leaves fewer values
pub closed_tighter : (g : Objective) (D : Family) (P : List Fact) (b c : Option ℤ) (C : Family) → Tighter g b c → closed (Some g) D P c ≡ Some C → IsWider (closed (Some g) D P b) C
closed_tighter g D P b c C l e =
    let s = closed_stable (Some g) D P c C e in
    wider (Some g) D P b C (closed (Some g) D P b) (moment_is_closure (Some g) D P b) (record { stable = stable_tighter g P b c C l s.stable; within = s.within })

-- ---- what is better than a best value

pub tighter_self : (g : Objective) (b : Option ℤ) → Tighter g b b
tighter_self g None = tt
tighter_self g (Some i) = elim (g.is_most) as (λ m. NotWorse m i i) [ true ↦ omega (arith, ints) | false ↦ omega (arith, ints) ]

lt_below : (i j x : ℤ) → i ≤ℤ j → int_lt j x ≡ true → int_lt i x ≡ true
lt_below i j x l h = grind (arith, ints)

lt_above : (x j i : ℤ) → int_lt x j ≡ true → j ≤ℤ i → int_lt x i ≡ true
lt_above x j i h l = grind (arith, ints)

lt_le : (x y : ℤ) → int_lt x y ≡ true → x ≤ℤ y
lt_le x y h = grind (arith, ints)

not_worse_join : (m : Bool) (i j l : ℤ) → NotWorse m i j → NotWorse m j l → NotWorse m i l
not_worse_join true i j l h k = omega (arith, ints)
not_worse_join false i j l h k = omega (arith, ints)

pub tighter_join : (g : Objective) (b c d : Option ℤ) → Tighter g b c → Tighter g c d → Tighter g b d
tighter_join g None c d h k = tt
tighter_join g (Some i) None d h k = absurd h
tighter_join g (Some i) (Some j) None h k = absurd k
tighter_join g (Some i) (Some j) (Some l) h k = not_worse_join g.is_most i j l h k

better_than_worse : (m : Bool) (x i j : ℤ) → NotWorse m i j → cond m (int_lt j x) (int_lt x j) ≡ true → cond m (int_lt i x) (int_lt x i) ≡ true
better_than_worse true x i j l h = lt_below i j x l h
better_than_worse false x i j l h = lt_above x j i h l

better_not_worse : (m : Bool) (x i : ℤ) → cond m (int_lt i x) (int_lt x i) ≡ true → NotWorse m i x
better_not_worse true x i h = lt_le i x h
better_not_worse false x i h = lt_le x i h

-- better than c is better than b
pub better_down : (g : Objective) (v b c : Option ℤ) → Tighter g b c → is_better g v c ≡ true → is_better g v b ≡ true
better_down g None b c l h = h
better_down g (Some x) None c l h = refl
better_down g (Some x) (Some i) None l h = absurd l
better_down g (Some x) (Some i) (Some j) l h = better_than_worse g.is_most x i j l h

pub better_tighter : (g : Objective) (v b : Option ℤ) → is_better g v b ≡ true → Tighter g b v
better_tighter g None b h = cc
better_tighter g (Some x) None h = tt
better_tighter g (Some x) (Some i) h = better_not_worse g.is_most x i h

-- the best value after a list of assignments
abbrev pub best_of : Objective → Option ℤ → List (List ℤ) → Option ℤ
best_of g b [] = b
best_of g b (a ∷ others) = cond (is_better g (value a g.term) b) (best_of g (value a g.term) others) (best_of g b others)

pub best_tighter : (g : Objective) (b : Option ℤ) (L : List (List ℤ)) → Tighter g b (best_of g b L)
best_tighter g b [] = tighter_self g b
best_tighter g b (a ∷ L) = elim (is_better g (value a g.term) b) as (λ t. is_better g (value a g.term) b ≡ t → Tighter g b (cond t (best_of g (value a g.term) L) (best_of g b L))) [
  | true ↦ λ e. tighter_join g b (value a g.term) (best_of g (value a g.term) L) (better_tighter g (value a g.term) b e) (best_tighter g (value a g.term) L)
  | false ↦ λ e. best_tighter g b L
] refl

pub improving-append : (g : Objective) (b : Option ℤ) (L M : List (List ℤ)) → improving_from g b (L ++ M) ≡ improving_from g b L ++ improving_from g (best_of g b L) M
improving-append g b [] M = refl
improving-append g b (a ∷ L) M = elim (is_better g (value a g.term) b) as (λ t. cond t (a ∷ improving_from g (value a g.term) (L ++ M)) (improving_from g b (L ++ M)) ≡ cond t (a ∷ improving_from g (value a g.term) L) (improving_from g b L) ++ improving_from g (cond t (best_of g (value a g.term) L) (best_of g b L)) M) [
  | true ↦ ap (λ N. a ∷ N) (improving-append g (value a g.term) L M)
  | false ↦ improving-append g b L M
]

pub best-append : (g : Objective) (b : Option ℤ) (L M : List (List ℤ)) → best_of g b (L ++ M) ≡ best_of g (best_of g b L) M
best-append g b [] M = refl
best-append g b (a ∷ L) M = elim (is_better g (value a g.term) b) as (λ t. cond t (best_of g (value a g.term) (L ++ M)) (best_of g b (L ++ M)) ≡ best_of g (cond t (best_of g (value a g.term) L) (best_of g b L)) M) [
  | true ↦ best-append g (value a g.term) L M
  | false ↦ best-append g b L M
]

-- the same of what is better than b and of all, from a best value on that is at least as good
pub record IsSame (g : Objective) (c : Option ℤ) (L M : List (List ℤ)) : Type 0 where
  pub improves : improving_from g c L ≡ improving_from g c M
  pub best : best_of g c L ≡ best_of g c M

abbrev pub betters : Objective → Option ℤ → List (List ℤ) → List (List ℤ)
betters g b L = filter (λ a. is_better g (value a g.term) b) L

skip_first : (g : Objective) (c : Option ℤ) (a : List ℤ) (L M : List (List ℤ)) → is_better g (value a g.term) c ≡ false → IsSame g c L M → IsSame g c (a ∷ L) M
skip_first g c a L M e s = record { improves = rw e s.improves; best = rw e s.best }

skip_last : (g : Objective) (c : Option ℤ) (a : List ℤ) (L M : List (List ℤ)) → is_better g (value a g.term) c ≡ false → IsSame g c L M → IsSame g c L (a ∷ M)
skip_last g c a L M e s = record { improves = rw e s.improves; best = rw e s.best }

take_both : (g : Objective) (c : Option ℤ) (a : List ℤ) (L M : List (List ℤ)) → is_better g (value a g.term) c ≡ true → IsSame g (value a g.term) L M → IsSame g c (a ∷ L) (a ∷ M)
take_both g c a L M e s = record { improves = rw e (ap (λ N. a ∷ N) s.improves); best = rw e s.best }

pub drop_worse : (g : Objective) (b c : Option ℤ) (L : List (List ℤ)) → Tighter g b c → IsSame g c (betters g b L) L
drop_worse g b c [] l = record { improves = refl; best = refl }
drop_worse g b c (a ∷ L) l =
    elim (is_better g (value a g.term) c) as (λ t. is_better g (value a g.term) c ≡ t → IsSame g c (betters g b (a ∷ L)) (a ∷ L)) [
      | true ↦ λ e.
          let f : is_better g (value a g.term) b ≡ true = better_down g (value a g.term) b c l e in
          let t : betters g b (a ∷ L) ≡ a ∷ betters g b L = rw f refl in
          subst (λ N. IsSame g c N (a ∷ L)) (sym t)
          (take_both g c a (betters g b L) L e (drop_worse g b (value a g.term) L (better_tighter g (value a g.term) b f)))
      | false ↦ λ e. skip_last g c a (betters g b (a ∷ L)) L e
          (elim (is_better g (value a g.term) b) as (λ t. IsSame g c (cond t (a ∷ betters g b L) (betters g b L)) L) [
            | true ↦ skip_first g c a (betters g b L) L e (drop_worse g b c L l)
            | false ↦ drop_worse g b c L l
          ])
    ] refl
