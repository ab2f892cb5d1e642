-- The value of the objective at a solution, and that it is better than the best value before.
use Rattle.std.proofs.Common.{◌≡◌, ◌∙◌, Bool, true, false, ◌||◌, refl, List, [], ◌∷◌, ◌++◌, ℤ, ap, sym, subst, arith}
use Rattle.std.specs.Prelude.{Option, Some, None}
use Rattle.std.specs.List.{list_any}
use Rattle.std.proofs.lemmas.Int.{ints}
use Rattle.opl_domain.specs.Span.{Span, point}
use Rattle.opl_domain.specs.Family.{Family, IsFamily, IsRising, member, set_of}
use Rattle.opl_domain.proofs.Members.{member_first, member_later}
use Rattle.opl_expr.specs.declared.model.Core.{Core}
use Rattle.opl_expr.specs.Forms.{Term, Fact, term}
use Rattle.opl_expr.specs.declared.model.Goal.{Goal}
use Rattle.opl_expr.specs.Options.{lift1}
use Rattle.opl_expr.specs.Holds.{value}
use Rattle.opl_expr.specs.Laws.{singles}
use Rattle.opl_expr.specs.Range.{range, is_refuted}
use Rattle.opl_expr.specs.Solutions.{declared}
use Rattle.opl_expr.specs.Sound.{IsSoundTerm}
use Rattle.opl_expr.proofs.SingleValues.{single_values}
use Rattle.opl_trace.specs.Marks.{objective}
use Rattle.opl_trace.specs.Objective.{Objective, bound, best_after}
use Rattle.opl_trace.specs.Run.{values_of, is_dead, closed}
use Rattle.opl_trace.specs.Solutions.{satisfies}
use Rattle.opl_trace.specs.SoundCores.{IsSoundGoal, IsSoundCore}
use Rattle.opl_trace.proofs.Better.{better_tighter}
use Rattle.opl_trace.proofs.Constraints.{spared_satisfied}
use Rattle.opl_trace.proofs.Found.{all_single}
use Rattle.opl_trace.proofs.Posting.{closed_stable}
use Rattle.opl_trace.proofs.SoundForms.{sound_clear}
use Rattle.opl_trace.proofs.Reached.{ClearGoal, goal_clear, clear_bounded}
use Rattle.opl_turns.specs.Covered.{AreAlone}
use Rattle.opl_steps.proofs.Bounds.{better_holds}
use Rattle.opl_engine.specs.Laws.{IsNotWorse}
use Rattle.opl_search.specs.States.{moment}

-- ---- one value for each variable

one_value : (vs : List ℤ) → IsRising vs → (v : ℤ) → member v vs ≡ true → ((v w : ℤ) → member v vs ≡ true → member w vs ≡ true → v ≡ w) → (u : ℤ) × (vs ≡ u ∷ [])
one_value [] r v m a = cc
one_value (u ∷ []) r v m a = (u, refl)
one_value (u ∷ w ∷ vs) r v m a =
    let e = a u w (member_first u (w ∷ vs)) (member_later w u (w ∷ vs) (member_first w vs)) in
    let l = r.0 w (member_first w vs) in
    absurd (omega (arith, ints, e, l))

pub alone_singles : (F : Family) → IsFamily F → AreAlone F → F ≡ singles (values_of F)
alone_singles F f a = all_single F (λ y l. let v = f.full y l in one_value (set_of F y) (f.rising y) v.0 v.1 (a y))

-- ---- the value of an expression

abbrev low_of : Option Span → Option ℤ
low_of None = None
low_of (Some a) = Some a.low

low_point : (o : Option ℤ) → low_of (lift1 point o) ≡ o
low_point None = refl
low_point (Some v) = refl

value_low : (sets : List (ℤ × ℤ)) (F : Family) (t : Term) (r : Option Span) → IsSoundTerm sets t → IsFamily F → AreAlone F → r ≡ range F t → low_of r ≡ value (values_of F) t
value_low sets F t r s f a e =
    let single = alone_singles F f a in
    ap low_of (e ∙ ap (λ G. range G t) single ∙ single_values.terms t (values_of F) (sound_clear sets t s)) ∙ low_point (value (values_of F) t)

pub value_none : (sets : List (ℤ × ℤ)) (F : Family) (t : Term) (r : Option Span) → IsSoundTerm sets t → IsFamily F → AreAlone F → r ≡ range F t → r ≡ None → None ≡ value (values_of F) t
value_none sets F t r s f a e i = sym (ap low_of i) ∙ value_low sets F t r s f a e

pub value_some : (sets : List (ℤ × ℤ)) (F : Family) (t : Term) (r : Option Span) (s : Span) (v : ℤ) → IsSoundTerm sets t → IsFamily F → AreAlone F → r ≡ range F t → r ≡ Some s → v ≡ s.low → Some v ≡ value (values_of F) t
value_some sets F t r s v sound f a e i l = ap (λ w. Some w) l ∙ sym (ap low_of i) ∙ value_low sets F t r sound f a e

-- ---- the objective

pub sound_goal : (core : Core) (g : Goal) → IsSoundCore core → core.goal ≡ Some g → IsSoundTerm core.sets (term core.tables core.resources g.value)
sound_goal core g s e = (subst (λ o. IsSoundGoal core.sets (lift1 (λ h. term core.tables core.resources h.value) o)) e s.goal).1

pub best_none : (core : Core) (a : List ℤ) (b : Option ℤ) → core.goal ≡ None → b ≡ best_after (objective core) a b
best_none core a b e = rw e refl

pub best_some : (core : Core) (g : Goal) (a : List ℤ) (b r : Option ℤ) → core.goal ≡ Some g → r ≡ value a (term core.tables core.resources g.value) → r ≡ best_after (objective core) a b
best_some core g a b r e h = rw e h

-- ---- not worse

none_last : {A : Type 0} (p : A → Bool) (xs ys : List A) → list_any p (xs ++ ys) ≡ false → list_any p ys ≡ false
none_last p [] ys h = h
none_last p (x ∷ xs) ys h = elim (p x) as (λ b. (b || list_any p (xs ++ ys)) ≡ false → list_any p ys ≡ false) [ true ↦ λ k. cc | false ↦ λ k. none_last p xs ys k ] h

bound_spared : (goal : Option Objective) (P : List Fact) (b : Option ℤ) (F : Family) → is_dead goal P b F ≡ false → list_any (is_refuted F) (bound goal b) ≡ false
unfolding is_dead
bound_spared goal P b F h = none_last (is_refuted F) P (bound goal b) h

bound_holds : (goal : Option Objective) (D : Family) (P : List Fact) (b : Option ℤ) (F : Family) → ClearGoal goal → closed goal D P b ≡ Some F → F ≡ singles (values_of F) → satisfies (bound goal b) (values_of F) ≡ true
bound_holds goal D P b F t e s =
    spared_satisfied (bound goal b) (values_of F) (clear_bounded goal [] b t refl)
    (subst (λ G. list_any (is_refuted G) (bound goal b) ≡ false) s (bound_spared goal P b F (closed_stable goal D P b F e).stable.spared))

bound_better : (goal : Option Objective) (b : Option ℤ) (a : List ℤ) → satisfies (bound goal b) a ≡ true → IsNotWorse goal b (best_after goal a b)
bound_better None b a h = tt
bound_better (Some g) None a h = tt
bound_better (Some g) (Some i) a h = better_tighter g (value a g.term) (Some i) (sym (better_holds g i a) ∙ h)

pub solution_better : (core : Core) (P : List Fact) (b : Option ℤ) (F : Family) → IsSoundCore core → moment core P b ≡ Some F → IsFamily F → AreAlone F → IsNotWorse (objective core) b (best_after (objective core) (values_of F) b)
unfolding moment
solution_better core P b F s e f a = bound_better (objective core) b (values_of F) (bound_holds (objective core) (declared core) P b F (goal_clear core s.goal) e (alone_singles F f a))

-- where the core and the best value are told by others
pub told_best : (core d : Core) (b c r : Option ℤ) (F : Family) → d ≡ core → c ≡ b → r ≡ best_after (objective d) (values_of F) c → r ≡ best_after (objective core) (values_of F) b
told_best core d b c r F h i k = k ∙ ap (λ x. best_after (objective x) (values_of F) c) h ∙ ap (best_after (objective core) (values_of F)) i

pub told_better : (core d : Core) (P : List Fact) (b c r : Option ℤ) (F : Family) → IsSoundCore core → moment core P b ≡ Some F → IsFamily F → AreAlone F → d ≡ core → c ≡ b → r ≡ best_after (objective d) (values_of F) c → IsNotWorse (objective core) b r
told_better core d P b c r F s e f a h i k =
    subst (IsNotWorse (objective core) b) (sym (told_best core d b c r F h i k)) (solution_better core P b F s e f a)
