-- The last of the better ones is the best.
use Rattle.std.proofs.Common.{◌≡◌, ◌⊎◌, refl, sym, ap, ◌∙◌, subst, ℤ, Bool, true, false, cond, List, [], ◌∷◌, ◌++◌, Option, None, Some, inl, inr, arith}
use Rattle.std.specs.Prelude.{filter, is_some}
use Rattle.std.specs.List.{All, AllPairs}
use Rattle.std.proofs.lemmas.Int.{ints}
use Rattle.std.proofs.lemmas.List.Elements.{All-head, All-tail}
use Rattle.opl_draft.specs.Solutions as conditions
use Rattle.opl_draft.specs.Solutions.{Model}
use Rattle.opl_expr.specs.Forms.{Term}
use Rattle.opl_expr.specs.Holds.{value}
use Rattle.opl_trace.specs.Objective as cores
use Rattle.opl_optimum.specs.Best.{IsAmong, IsBestOf, Precedes}
use Rattle.opl_optimum.specs.Laws.{BestIsBest, ImprovingAgrees, LastIsBest, SolutionsHaveValues, SomeIsBest}
use Rattle.opl_optimum.specs.Optima.{Objective, better_than, improving_by, is_better, is_defined_by, objective_value, solutions, value_by}
use Rattle.opl_optimum.proofs.Order.{first-pairs, other-pairs, solutions_in_order}

-- ---- the same by an expression of a core

agrees-from : (m : Model) (g : Objective) (t : Term) (b : Option ℤ) (list : List (List ℤ)) → All (λ ns. value ns t ≡ objective_value m.environment m.variables g ns) list →
    cores.improving_from (record { is_most = g.is_most; term = t }) b list ≡ better_than g.is_most (objective_value m.environment m.variables g) b list
agrees-from m g t b [] h = refl
agrees-from m g t b (ns ∷ list) h =
    kept (All-head (λ ns. value ns t ≡ objective_value m.environment m.variables g ns) ns list h)
    (λ c. agrees-from m g t c list (All-tail (λ ns. value ns t ≡ objective_value m.environment m.variables g ns) ns list h))
  where
    theirs : Option ℤ → List (List ℤ)
    theirs c = cores.improving_from (record { is_most = g.is_most; term = t }) c list

    ours : Option ℤ → List (List ℤ)
    ours c = better_than g.is_most (objective_value m.environment m.variables g) c list

    same : (v : Option ℤ) → cores.is_better (record { is_most = g.is_most; term = t }) v b ≡ is_better g.is_most v b
    same None = refl
    same (Some v) = with_best v b
      where
        with_best : (v : ℤ) (b : Option ℤ) → cores.is_better (record { is_most = g.is_most; term = t }) (Some v) b ≡ is_better g.is_most (Some v) b
        with_best v None = refl
        with_best v (Some w) = refl

    kept : value ns t ≡ objective_value m.environment m.variables g ns → ((c : Option ℤ) → theirs c ≡ ours c) →
        cond (cores.is_better (record { is_most = g.is_most; term = t }) (value ns t) b) (ns ∷ theirs (value ns t)) (theirs b)
        ≡ cond (is_better g.is_most (objective_value m.environment m.variables g ns) b) (ns ∷ ours (objective_value m.environment m.variables g ns)) (ours b)
    kept e k =
        (λ i. cond (same (value ns t) i) (ns ∷ k (value ns t) i) (k b i))
        ∙ ap (λ v. cond (is_better g.is_most v b) (ns ∷ ours v) (ours b)) e

pub improving_agrees : ImprovingAgrees
improving_agrees m g t list h = agrees-from m g t None list h

-- ---- better values

better-trans : (most : Bool) (u v w : Option ℤ) → is_better most u v ≡ true → is_better most v w ≡ true → is_better most u w ≡ true
better-trans most None v w h k = absurd (cc)
better-trans most (Some a) None w h k = absurd (cc)
better-trans most (Some a) (Some b) None h k = refl
better-trans true (Some a) (Some b) (Some c) h k = grind (arith, ints)
better-trans false (Some a) (Some b) (Some c) h k = grind (arith, ints)

better-itself : (most : Bool) (u : Option ℤ) → is_better most u u ≡ false
better-itself most None = refl
better-itself true (Some a) = grind (arith, ints)
better-itself false (Some a) = grind (arith, ints)

-- what is not better than b is not better than what is
not-further : (most : Bool) (u v b : Option ℤ) → is_better most u b ≡ false → is_better most v b ≡ true → is_better most u v ≡ false
not-further most u v b h k = by (is_better most u v) refl
  where
    by : (q : Bool) → is_better most u v ≡ q → is_better most u v ≡ false
    by true e = let further = better-trans most u v b e k in absurd (cc)
    by false e = e

not-back : (most : Bool) (u v : Option ℤ) → is_better most u v ≡ true → is_better most v u ≡ false
not-back most u v h = not-further most v u v (better-itself most v) h

-- ---- the last one

first-same : {A : Type 0} (x y : A) (xs ys : List A) → ◌≡◌ {A = List A} (x ∷ xs) (y ∷ ys) → x ≡ y
first-same x y xs ys e = cc

rest-same : {A : Type 0} (x y : A) (xs ys : List A) → ◌≡◌ {A = List A} (x ∷ xs) (y ∷ ys) → xs ≡ ys
rest-same x y xs ys e = cc

not-none : {A : Type 0} (before : List A) (x : A) → [] ≡ before ++ x ∷ [] → ⊥
not-none [] x e = absurd (cc)
not-none (y ∷ before) x e = absurd (cc)

module _ (most : Bool) (value : List ℤ → Option ℤ) where
  -- where none is kept, none is better
  none-better : (b : Option ℤ) (list : List (List ℤ)) → better_than most value b list ≡ [] → (ms : List ℤ) → IsAmong ms list → is_better most (value ms) b ≡ false
  none-better b [] e ms h = absurd h
  none-better b (x ∷ list) e ms h = by (is_better most (value x) b) refl e h (λ k l. none-better b list k ms l)
    where
      by : (q : Bool) → is_better most (value x) b ≡ q → cond q (x ∷ better_than most value (value x) list) (better_than most value b list) ≡ [] → (ms ≡ x) ⊎ IsAmong ms list →
          (better_than most value b list ≡ [] → IsAmong ms list → is_better most (value ms) b ≡ false) → is_better most (value ms) b ≡ false
      by true d e h more = absurd (cc)
      by false d e (inl s) more = ap (λ z. is_better most (value z) b) s ∙ d
      by false d e (inr h) more = more e h

  -- the best of a list, which is better than b
  record IsLast (b : Option ℤ) (list : List (List ℤ)) (ns : List ℤ) : Type 0 where
    better : is_better most (value ns) b ≡ true
    is_best : IsBestOf most value list ns

  -- the first of a list is the best where none of the others is better
  first-best : (x : List ℤ) (list : List (List ℤ)) → All (Precedes x) list → better_than most value (value x) list ≡ [] → IsBestOf most value (x ∷ list) x
  first-best x list p e = record {
    member = inl refl;
    best = λ ms h. best ms h;
    first = λ ms h k. first ms h;
  }
    where
      best : (ms : List ℤ) → (ms ≡ x) ⊎ IsAmong ms list → is_better most (value ms) (value x) ≡ false
      best ms (inl s) = ap (λ z. is_better most (value z) (value x)) s ∙ better-itself most (value x)
      best ms (inr h) = none-better (value x) list e ms h

      first : (ms : List ℤ) → (ms ≡ x) ⊎ IsAmong ms list → (ms ≡ x) ⊎ Precedes x ms
      first ms (inl s) = inl s
      first ms (inr h) = inr (behind list p ms h)
        where
          behind : (list : List (List ℤ)) → All (Precedes x) list → (ms : List ℤ) → IsAmong ms list → Precedes x ms
          behind [] p ms h = absurd h
          behind (y ∷ list) p ms (inl s) = subst (Precedes x) (sym s) (All-head (Precedes x) y list p)
          behind (y ∷ list) p ms (inr h) = behind list (All-tail (Precedes x) y list p) ms h

  -- the best of the others is the best where the first isn't better and has another value
  later-best : (x ns : List ℤ) (list : List (List ℤ)) → is_better most (value x) (value ns) ≡ false → (value x ≡ value ns → ⊥) → IsBestOf most value list ns → IsBestOf most value (x ∷ list) ns
  later-best x ns list d n b = record {
    member = inr b.member;
    best = λ ms h. best ms h;
    first = λ ms h k. first ms h k;
  }
    where
      best : (ms : List ℤ) → (ms ≡ x) ⊎ IsAmong ms list → is_better most (value ms) (value ns) ≡ false
      best ms (inl s) = ap (λ z. is_better most (value z) (value ns)) s ∙ d
      best ms (inr h) = b.best ms h

      first : (ms : List ℤ) → (ms ≡ x) ⊎ IsAmong ms list → value ms ≡ value ns → (ms ≡ ns) ⊎ Precedes ns ms
      first ms (inl s) k = absurd (n (ap value (sym s) ∙ k))
      first ms (inr h) k = b.first ms h k

  -- a value that is better than b is none that isn't
  other-value : (b u v : Option ℤ) → is_better most u b ≡ false → is_better most v b ≡ true → u ≡ v → ⊥
  other-value b u v h k e = let same : is_better most u b ≡ is_better most v b = ap (λ z. is_better most z b) e in absurd (cc)

  last-best : (list : List (List ℤ)) (b : Option ℤ) (before : List (List ℤ)) (ns : List ℤ) → AllPairs Precedes list → better_than most value b list ≡ before ++ ns ∷ [] → IsLast b list ns
  last-best [] b before ns p e = absurd (not-none before ns e)
  last-best (x ∷ list) b before ns p e = by (is_better most (value x) b) before refl e (λ c before k. last-best list c before ns (other-pairs Precedes x list p) k)
    where
      by : (q : Bool) (before : List (List ℤ)) → is_better most (value x) b ≡ q → cond q (x ∷ better_than most value (value x) list) (better_than most value b list) ≡ before ++ ns ∷ [] →
          ((c : Option ℤ) (before : List (List ℤ)) → better_than most value c list ≡ before ++ ns ∷ [] → IsLast c list ns) → IsLast b (x ∷ list) ns
      by true [] d e more =
          subst (IsLast b (x ∷ list)) (first-same x ns (better_than most value (value x) list) [] e) (record {
            better = d;
            is_best = first-best x list (first-pairs Precedes x list p) (rest-same x ns (better_than most value (value x) list) [] e);
          })
      by true (y ∷ before) d e more =
          let l = more (value x) before (rest-same x y (better_than most value (value x) list) (before ++ ns ∷ []) e) in
          record {
            better = better-trans most (value ns) (value x) b l.better d;
            is_best = later-best x ns list (not-back most (value ns) (value x) l.better) (other-value (value x) (value x) (value ns) (better-itself most (value x)) l.better) l.is_best;
          }
      by false before d e more =
          let l = more b before e in
          record {
            better = l.better;
            is_best = later-best x ns list (not-further most (value x) (value ns) b d l.better) (other-value b (value x) (value ns) d l.better) l.is_best;
          }

pub last_is_best : LastIsBest
last_is_best most value list before ns p e = (last-best most value list None before ns p e).is_best

-- ---- problems

some-same : {A : Type 0} (x y : A) → ◌≡◌ {A = Option A} (Some x) (Some y) → x ≡ y
some-same x y e = cc

best-by : (m : Model) (o : Option Objective) (g : Objective) (list before : List (List ℤ)) (ns : List ℤ) → o ≡ Some g → AllPairs Precedes list → improving_by m o list ≡ before ++ ns ∷ [] →
    IsBestOf g.is_most (value_by m o) list ns
best-by m None g list before ns o p e = absurd (cc)
best-by m (Some h) g list before ns o p e =
    subst (λ k. IsBestOf k.is_most (value_by m (Some h)) list ns) (some-same h g o) (last_is_best h.is_most (objective_value m.environment m.variables h) list before ns p e)

pub best_is_best : BestIsBest
best_is_best p g before ns o e = best-by p.model p.objective g (solutions p) before ns o (solutions_in_order p) e

-- what is among those that pass a test passes it
among-pass : (q : List ℤ → Bool) (xs : List (List ℤ)) (x : List ℤ) → IsAmong x (filter q xs) → q x ≡ true
among-pass q [] x h = absurd h
among-pass q (y ∷ xs) x h = by (q y) refl h (λ k. among-pass q xs x k)
  where
    by : (b : Bool) → q y ≡ b → IsAmong x (cond b (y ∷ filter q xs) (filter q xs)) → (IsAmong x (filter q xs) → q x ≡ true) → q x ≡ true
    by true d (inl s) more = subst (λ z. q z ≡ true) (sym s) d
    by true d (inr h) more = more h
    by false d h more = more h

value-by : (m : Model) (o : Option Objective) (g : Objective) (xs : List (List ℤ)) (ns : List ℤ) → o ≡ Some g → IsAmong ns (filter (is_defined_by m o) xs) → (v : ℤ) × (value_by m o ns ≡ Some v)
value-by m None g xs ns e h = absurd (cc)
value-by m (Some k) g xs ns e h = found (objective_value m.environment m.variables k ns) (among-pass (is_defined_by m (Some k)) xs ns h)
  where
    found : (o : Option ℤ) → is_some o ≡ true → (v : ℤ) × (o ≡ Some v)
    found None d = absurd (cc)
    found (Some v) d = (v, refl)

pub solutions_have_values : SolutionsHaveValues
unfolding solutions
solutions_have_values p g ns e h = value-by p.model p.objective g (conditions.solutions p.model) ns e h

some-by : (m : Model) (o : Option Objective) (xs list : List (List ℤ)) → filter (is_defined_by m o) xs ≡ list → (list ≡ [] → ⊥) → improving_by m o list ≡ [] → ⊥
some-by m o xs [] e n h = n refl
some-by m None xs (x ∷ list) e n h = n h
some-by m (Some g) xs (x ∷ list) e n h = by (objective_value m.environment m.variables g x) (among-pass (is_defined_by m (Some g)) xs x (subst (IsAmong x) (sym e) (inl refl))) h
  where
    by : (v : Option ℤ) → is_some v ≡ true →
        cond (is_better g.is_most v None) (x ∷ better_than g.is_most (objective_value m.environment m.variables g) v list) (better_than g.is_most (objective_value m.environment m.variables g) None list) ≡ [] → ⊥
    by None d h = absurd (cc)
    by (Some v) d h = absurd (cc)

pub some_is_best : SomeIsBest
unfolding solutions
some_is_best p n e = some-by p.model p.objective (conditions.solutions p.model) (solutions p) refl n e
