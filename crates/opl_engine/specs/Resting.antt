-- A member whose variables have lost nothing, or no end where the ends alone decide it, is stable still: the law that members keep as propagators.
use Rattle.std.proofs.Common.{◌≡◌, ◌∙◌, ℕ, zero, suc, ◌<◌, Bool, true, false, ◌||◌, cond, refl, List, [], ◌∷◌, length, ℤ, ap, sym, subst, arith, inl, inr}
use Rattle.std.proofs.lemmas.Bool.{cases_eq}
use Rattle.std.specs.Prelude.{is_some, Option, Some, None}
use Rattle.opl_domain.specs.Span.{hull_of}
use Rattle.opl_domain.specs.Family.{Family, member as has_number, set_of, hull, only, Below, Full}
use Rattle.opl_domain.proofs.Sets.{only_here, only_there, length-only}
use Rattle.opl_expr.specs.declared.model.Core.{Core}
use Rattle.opl_expr.specs.Forms.{Term, Fact}
use Rattle.opl_expr.specs.Forms.Relation.{below}
use Rattle.opl_expr.specs.Range.{is_possible}
use Rattle.opl_expr.specs.Solutions.{declared}
use Rattle.opl_filter.specs.Filtering.{refutes}
use Rattle.opl_filter.specs.Fresh.{AgreeOn}
use Rattle.opl_filter.proofs.Agreeing.{agreeing_same}
use Rattle.opl_filter.specs.Mentions.{mentions, term_mentions, lists}
use Rattle.opl_trace.specs.Marks.{objective}
use Rattle.opl_trace.specs.Objective.{Objective, better_than}
use Rattle.opl_trace.specs.Stable.{IsStable}
use Rattle.opl_trace.proofs.Families.{only_full, below_self}
use Rattle.opl_linear_filter.specs.Ends.{SeesEnds}
use Rattle.opl_linear_filter.proofs.Weights.{below_length}
use Rattle.opl_linear_filter.proofs.Ends as linear
use Rattle.opl_all_different.proofs.Ends as different
use Rattle.opl_reify.proofs.Ends as disjunction
use Rattle.opl_connective.proofs.Ends as connective
use Rattle.opl_objective_filter.specs.declared.objective_filter.ObjectiveFilter.{ObjectiveFilter}
use Rattle.opl_objective_filter.proofs.Ends as objective_filter
use Rattle.opl_closure.proofs.Turns.{stable_moves}
use Rattle.opl_closure.proofs.Values.{value_rests}
use Rattle.opl_engine.specs.declared.member.Member.{Member}
use Rattle.opl_engine.specs.declared.member.Member.TheVariants as member
use Rattle.opl_engine.specs.declared.own_filter.OwnFilter.{OwnFilter}
use Rattle.opl_engine.specs.declared.own_filter.OwnFilter.TheVariants as own
use Rattle.opl_engine.specs.OwnFilters.{IsOwnFilter, IsOwnFilterIfAny, sees_ends, sees_ends_if_any}
use Rattle.opl_engine.specs.Members.{bound_fact, fact_of, wakes_on, wakes_by_ends, IsListed, IsGoal, IsObjectiveFilterIfAny, IsMember}

or_none : (b : Bool) → (b || false) ≡ b
or_none true = refl
or_none false = refl

-- the variables of the bound are those of the objective
pub bound_mentions : (g : Objective) (v : ℤ) (x : ℕ) → mentions (better_than g v) x ≡ term_mentions g.term x
bound_mentions g v x = elim (g.is_most) as (λ m. mentions (cond m (Fact.cmp below (Term.const v) g.term) (Fact.cmp below g.term (Term.const v))) x ≡ term_mentions g.term x) [ true ↦ refl | false ↦ or_none (term_mentions g.term x) ]

fixed_rests : (F G : Family) → IsStable (refutes (Fact.fixed true)) F → Full G → IsStable (refutes (Fact.fixed true)) G
fixed_rests F G s g = record { full = g; spared = refl; each = λ x v l h. refl }

listed_rests : (core : Core) (c : Fact) (variables : List ℕ) (F G : Family) → IsListed core c variables → IsStable (refutes c) F → Full G → Below G F → ((x : ℕ) → lists variables x ≡ true → set_of G x ≡ set_of F x) → IsStable (refutes c) G
listed_rests core c variables F G m s g b same = stable_moves c F G s g b (λ x h. same x (m.named x ∙ h))

-- ---- a constraint that the ends of sets alone decide

-- the sets of F for the variables that pass, and those of G for all others
abbrev chosen : (ℕ → Bool) → Family → Family → Family
chosen p [] G = []
chosen p (vs ∷ F) [] = []
chosen p (vs ∷ F) (ws ∷ G) = cond (p 0) vs ws ∷ chosen (λ x. p (suc x)) F G

length-chosen : (p : ℕ → Bool) (F G : Family) → length F ≡ length G → length (chosen p F G) ≡ length G
length-chosen p [] [] e = refl
length-chosen p [] (ws ∷ G) e = absurd (omega (arith, e))
length-chosen p (vs ∷ F) [] e = absurd (omega (arith, e))
length-chosen p (vs ∷ F) (ws ∷ G) e = ap suc (length-chosen (λ x. p (suc x)) F G (omega (arith, e)))

set-chosen : (p : ℕ → Bool) (F G : Family) (x : ℕ) → length F ≡ length G → set_of (chosen p F G) x ≡ cond (p x) (set_of F x) (set_of G x)
unfolding set_of
set-chosen p [] [] x e = elim (p x) as (λ b. ◌≡◌ {A = List ℤ} [] (cond b [] [])) [ true ↦ refl | false ↦ refl ]
set-chosen p [] (ws ∷ G) x e = absurd (omega (arith, e))
set-chosen p (vs ∷ F) [] x e = absurd (omega (arith, e))
set-chosen p (vs ∷ F) (ws ∷ G) zero e = refl
set-chosen p (vs ∷ F) (ws ∷ G) (suc x) e = set-chosen (λ y. p (suc y)) F G x (omega (arith, e))

first_chosen : (p : ℕ → Bool) (F G : Family) (x : ℕ) → length F ≡ length G → p x ≡ true → set_of (chosen p F G) x ≡ set_of F x
first_chosen p F G x e h = set-chosen p F G x e ∙ ap (λ b. cond b (set_of F x) (set_of G x)) h

second_chosen : (p : ℕ → Bool) (F G : Family) (x : ℕ) → length F ≡ length G → p x ≡ false → set_of (chosen p F G) x ≡ set_of G x
second_chosen p F G x e h = set-chosen p F G x e ∙ ap (λ b. cond b (set_of F x) (set_of G x)) h

same_hull : (F G : Family) (x : ℕ) → set_of F x ≡ set_of G x → hull F x ≡ hull G x
unfolding hull
same_hull F G x e = ap hull_of e

full_chosen : (p : ℕ → Bool) (F G : Family) → length F ≡ length G → Full F → Full G → Full (chosen p F G)
full_chosen p F G e f g x l =
    let n : x < length G = omega (arith, l, length-chosen p F G e) in
    elim (p x) as (λ b. p x ≡ b → (v : ℤ) × (has_number v (set_of (chosen p F G) x) ≡ true)) [
      | true ↦ λ h. let r = f x (omega (arith, n, e)) in (r.0, subst (λ vs. has_number r.0 vs ≡ true) (sym (first_chosen p F G x e h)) r.1)
      | false ↦ λ h. let r = g x n in (r.0, subst (λ vs. has_number r.0 vs ≡ true) (sym (second_chosen p F G x e h)) r.1)
    ] refl

-- two families whose sets have the same ends, for the variables that it mentions, refute it alike
alike : (n : ℕ) (c : Fact) (F G : Family) → SeesEnds n c → Full F → Full G → length F ≡ n → length G ≡ n → ((x : ℕ) → mentions c x ≡ true → hull F x ≡ hull G x) → refutes c F ≡ refutes c G
alike n c F G s f g a b h =
    let e : length F ≡ length G = a ∙ sym b in
    let H = chosen (mentions c) F G in
    let k = full_chosen (mentions c) F G e f g in
    let l = length-chosen (mentions c) F G e in
    let one : AgreeOn (mentions c) F H = record { same = e ∙ sym l; first = f; second = k; sets = λ x m. sym (first_chosen (mentions c) F G x e m) } in
    ap (λ r. cond (is_possible r) false true) (agreeing_same c F H one)
    ∙ s H G k g (l ∙ b) b (λ x m. elim (mentions c x) as (λ q. mentions c x ≡ q → hull H x ≡ hull G x) [
      | true ↦ λ q. same_hull H F x (first_chosen (mentions c) F G x e q) ∙ h x q
      | false ↦ λ q. same_hull H G x (second_chosen (mentions c) F G x e q)
    ] refl)

-- it is stable still where these ends stay
ends_rest : (n : ℕ) (c : Fact) (F G : Family) → SeesEnds n c → length F ≡ n → IsStable (refutes c) F → Full G → Below G F → ((x : ℕ) → mentions c x ≡ true → hull G x ≡ hull F x) → IsStable (refutes c) G
ends_rest n c F G t w s g b h =
    let u : length G ≡ n = b.same ∙ w in
    record {
      full = g;
      spared = alike n c G F t g s.full u w h ∙ s.spared;
      each = λ x v l m. elim (mentions c x) as (λ q. mentions c x ≡ q → refutes c (only G x v) ≡ false) [
        | true ↦ λ e.
            let k : x < length F = omega (arith, b.same, l) in
            alike n c (only G x v) (only F x v) t (only_full G x v g) (only_full F x v s.full) (length-only G x v ∙ u) (length-only F x v ∙ w)
            (λ y d. elim (cases_eq y x) [
              | inl j ↦ same_hull (only G x v) (only F x v) y (subst (λ z. set_of (only G x v) z ≡ set_of (only F x v) z) (sym j) (only_here G x v l ∙ sym (only_here F x v k)))
              | inr o ↦ same_hull (only G x v) G y (only_there G x y v o) ∙ h y d ∙ sym (same_hull (only F x v) F y (only_there F x y v o))
            ]) ∙ s.each x v k (b.sub x v m)
        | false ↦ λ e.
            alike n c (only G x v) F t (only_full G x v g) s.full (length-only G x v ∙ u) w
            (λ y d. elim (cases_eq y x) [
              | inl j ↦ absurd (let r = subst (λ z. mentions c z ≡ true) j d in cc)
              | inr o ↦ same_hull (only G x v) G y (only_there G x y v o) ∙ h y d
            ]) ∙ s.spared
      ] refl;
    }

-- where the ends decide a filter, they decide its constraint
own_ends_decide : (core : Core) (c : Fact) (f : OwnFilter) → IsOwnFilter core c f → sees_ends f ≡ true → SeesEnds (length core.sets) c
own_ends_decide core c (own.Linear f) i e = linear.ends_decide core c f i e
own_ends_decide core c (own.Different f) i e = different.different_by_ends core c f i
own_ends_decide core c (own.Reify f) i e = disjunction.ends_decide core c f i e
own_ends_decide core c (own.Connective f) i e = connective.ends_decide core c f i e
own_ends_decide core c (own.Count f) i e = cc
own_ends_decide core c (own.Addends f) i e = cc

module _ (core : Core) (c : Fact) (variables : List ℕ) (F G : Family) (m : IsListed core c variables) (wide : length F ≡ length core.sets) (s : IsStable (refutes c) F) (g : Full G) (b : Below G F) where
  filter_rests : (f : OwnFilter) → IsOwnFilter core c f → (t : Bool) → sees_ends f ≡ t →
      ((x : ℕ) → cond t false (lists variables x) ≡ true → set_of G x ≡ set_of F x) → ((x : ℕ) → cond t (lists variables x) false ≡ true → hull G x ≡ hull F x) → IsStable (refutes c) G
  filter_rests f i true e same ends = ends_rest (length core.sets) c F G (own_ends_decide core c f i e) wide s g b (λ x h. ends x (m.named x ∙ h))
  filter_rests f i false e same ends = listed_rests core c variables F G m s g b same

  constraint_rests : (form : Option OwnFilter) → IsOwnFilterIfAny core c form →
      ((x : ℕ) → cond (sees_ends_if_any form) false (lists variables x) ≡ true → set_of G x ≡ set_of F x) → ((x : ℕ) → cond (sees_ends_if_any form) (lists variables x) false ≡ true → hull G x ≡ hull F x) → IsStable (refutes c) G
  constraint_rests None i same ends = listed_rests core c variables F G m s g b same
  constraint_rests (Some f) i same ends = filter_rests f i (sees_ends f) refl same ends

-- ---- members

better_rests : (core : Core) (o : Objective) (v : ℤ) (variables : List ℕ) (form : Option ObjectiveFilter) (F G : Family) → length F ≡ length core.sets → IsGoal core o variables → IsObjectiveFilterIfAny core o form → IsStable (refutes (better_than o v)) F → Full G → Below G F →
    ((x : ℕ) → cond (is_some form) false (lists variables x) ≡ true → set_of G x ≡ set_of F x) → ((x : ℕ) → cond (is_some form) (lists variables x) false ≡ true → hull G x ≡ hull F x) → IsStable (refutes (better_than o v)) G
better_rests core o v variables None F G wide m i s g b same ends = stable_moves (better_than o v) F G s g b (λ x h. same x (m.named x ∙ sym (bound_mentions o v x) ∙ h))
better_rests core o v variables (Some f) F G wide m i s g b same ends =
    ends_rest (length core.sets) (better_than o v) F G (objective_filter.ends_decide core o v i.linear) wide s g b (λ x h. ends x (m.named x ∙ sym (bound_mentions o v x) ∙ h))

bound_rests : (core : Core) (goal : Option Objective) (best : Option ℤ) (variables : List ℕ) (form : Option ObjectiveFilter) (F G : Family) → length F ≡ length core.sets → ((g : Objective) → goal ≡ Some g → IsGoal core g variables × IsObjectiveFilterIfAny core g form) → IsStable (refutes (bound_fact goal best)) F → Full G → Below G F →
    ((x : ℕ) → cond (is_some form) false (lists variables x) ≡ true → set_of G x ≡ set_of F x) → ((x : ℕ) → cond (is_some form) (lists variables x) false ≡ true → hull G x ≡ hull F x) → IsStable (refutes (bound_fact goal best)) G
bound_rests core None best variables form F G wide m s g b same ends = fixed_rests F G s g
bound_rests core (Some o) None variables form F G wide m s g b same ends = fixed_rests F G s g
bound_rests core (Some o) (Some v) variables form F G wide m s g b same ends = let made = m o refl in better_rests core o v variables form F G wide made.0 made.1 s g b same ends

pub member_rests : (core : Core) (m : Member) (F G : Family) → IsMember core m → length F ≡ length (declared core) → IsStable (refutes (fact_of core m)) F → Full G → Below G F →
    ((x : ℕ) → wakes_on m x ≡ true → set_of G x ≡ set_of F x) → ((x : ℕ) → wakes_by_ends m x ≡ true → hull G x ≡ hull F x) → IsStable (refutes (fact_of core m)) G
member_rests core (member.Bound best variables form) F G m wide s g b same ends =
    bound_rests core (objective core) best variables form F G (wide ∙ below_length core (declared core) (below_self (declared core))) m.1 s g b same ends
member_rests core (member.Declared k variables form) F G m wide s g b same ends =
    constraint_rests core (fact_of core (member.Declared k variables form)) variables F G m.1.0 (wide ∙ below_length core (declared core) (below_self (declared core))) s g b form m.1.1 same ends
member_rests core (member.Posted c variables form) F G m wide s g b same ends =
    constraint_rests core (fact_of core (member.Posted c variables form)) variables F G m.0 (wide ∙ below_length core (declared core) (below_self (declared core))) s g b form m.1 same ends
member_rests core (member.Value x v) F G m wide s g b same ends = value_rests x v F G s g b
