-- Members of a core as they are made.
use Rattle.std.proofs.Common.{append-nil, add-one, get_or, ℤ, ◌≡◌, ◌∙◌, ℕ, zero, suc, ◌+◌, ◌<◌, ◌≤◌, ◌||◌, Bool, true, false, refl, List, [], ◌∷◌, ◌++◌, length, map, take, drop, set, ap, sym, subst, arith, inl, inr}
use Rattle.std.specs.Prelude.{◌^◌, Option, Some, None, slice_get}
use Rattle.std.specs.List.{All}
use Rattle.std.proofs.lemmas.Bool.{cases_lt}
use Rattle.std.proofs.lemmas.Option.{slice_get-map, slice_get-get_or}
use Rattle.std.proofs.lemmas.List.Elements.{All-head, All-tail}
use Rattle.std.specs.Option.{option_map}
use Rattle.opl_expr.specs.declared.model.Core.{Core}
use Rattle.opl_expr.specs.declared.model.Goal.{Goal}
use Rattle.opl_expr.specs.declared.forms.Op.{Op}
use Rattle.opl_expr.specs.declared.forms.Expr.{Expr}
use Rattle.opl_expr.specs.declared.forms.Cons.{Cons}
use Rattle.opl_expr.specs.declared.forms.Cons.TheVariants as C
use Rattle.opl_expr.specs.Forms.{Term, Fact, term, fact, compared}
use Rattle.opl_expr.specs.Forms.Relation.{equal}
use Rattle.opl_expr.specs.Sound.{IsSoundFact}
use Rattle.opl_expr.specs.Options.{lift1}
use Rattle.opl_expr.specs.Solutions.{declared, facts, definedness, base}
use Rattle.opl_expr.proofs.Plain.{fact_Cmp}
use Rattle.opl_trace.specs.SoundCores.{IsSoundCore, IsSoundGoal}
use Rattle.opl_trace.specs.Marks.{objective}
use Rattle.opl_trace.specs.Objective.{Objective}
use Rattle.opl_trace.proofs.Families.{below_self}
use Rattle.opl_filter.specs.Mentions.{lists, term_mentions, AreVariables}
use Rattle.opl_filter.proofs.Mentioned.{variables_there}
use Rattle.opl_closure.specs.Members.{Each}
use Rattle.opl_engine.specs.declared.own_filter.OwnFilter.{OwnFilter}
use Rattle.opl_engine.specs.OwnFilters.{IsOwnFilterIfAny}
use Rattle.opl_engine.specs.declared.member.Member.{Member}
use Rattle.opl_engine.specs.declared.member.Member.TheVariants as member
use Rattle.opl_objective_filter.specs.declared.objective_filter.ObjectiveFilter.{ObjectiveFilter}
use Rattle.opl_objective_filter.specs.ObjectiveFilters.{goal_in, IsThereFor}
use Rattle.opl_closure.specs.Waits.{waits}
use Rattle.opl_engine.specs.Members.{bound_fact, fact_of, means_members, fact_at, names, AreVariablesOf, IsListed, IsConstraint, IsGoal, IsObjectiveFilterIfAny, IsMember}
use Rattle.opl_trail.specs.Levels.{Levels}
use Rattle.opl_engine.specs.Crowds.{Crowd, kind_of, PlacesNotes}
use Rattle.opl_engine.specs.Engines.{IsBounded, IsFirst, IsGrown, HasPlaces, IsBase}
use Rattle.opl_engine.proofs.Lists.{the_one, length_map, map_added, drop_added, there, get_first}

pub compared_same : (core : Core) (op : Op) (l r e : Expr) → l ≡ e → r ≡ e → fact core.tables core.resources (C.Cmp op l r) ≡ compared op (term core.tables core.resources e) (term core.tables core.resources e)
compared_same core op l r e i j =
    fact_Cmp core.tables core.resources op l r ∙ ap (λ u. compared op (term core.tables core.resources u) (term core.tables core.resources r)) i ∙ ap (λ u. compared op (term core.tables core.resources e) (term core.tables core.resources u)) j

or_same : (b : Bool) → (b || b) ≡ b
or_same true = refl
or_same false = refl

-- the variables of an expression that is compared with itself are its own
own_variables : (xs : List ℕ) (t : Term) → AreVariables xs (Fact.cmp equal t t) → AreVariablesOf xs t
own_variables xs t a x = a x ∙ or_same (term_mentions t x)

length-declared : (core : Core) → length (declared core) ≡ length core.sets
unfolding declared
length-declared core = length_map _ core.sets

pub inside_declared : (core : Core) (n x : ℕ) → n ≡ length (declared core) → x < length core.sets → x < n
inside_declared core n x e l = omega (arith, e, l, length-declared core)

listed_there : (core : Core) (c : Fact) (xs : List ℕ) (x : ℕ) → IsListed core c xs → lists xs x ≡ true → x < length core.sets
listed_there core c xs x m h = omega (arith, variables_there core c xs (declared core) m.sound (below_self (declared core)) m.named x h, length-declared core)

-- ---- the objective

defined_sound : (core : Core) (t : Term) → IsSoundGoal core.sets (Some t) → IsSoundFact core.sets (Fact.cmp equal t t)
defined_sound core t s = (s.0, s.1, s.1)

-- with an objective, the bound's variables are those of a constraint that asks for its being defined
pub bound_made : (core : Core) (g : Goal) (c : Fact) (xs : List ℕ) → objective core ≡ Some (goal_in core g) → c ≡ Fact.cmp equal (goal_in core g).term (goal_in core g).term → AreVariables xs c → IsSoundGoal core.sets (Some (goal_in core g).term) → (form : Option ObjectiveFilter) → IsObjectiveFilterIfAny core (goal_in core g) form → IsMember core (member.Bound None xs form)
bound_made core g c xs o e a s form f =
    let t = (goal_in core g).term in
    let named : AreVariables xs (Fact.cmp equal t t) = subst (AreVariables xs) e a in (
      λ x h. listed_there core (Fact.cmp equal t t) xs x (record { sound = defined_sound core t s; named = named }) h,
      λ h i. subst (λ k. IsGoal core k xs × IsObjectiveFilterIfAny core k form) (the_one (goal_in core g) h (sym o ∙ i)) (record { sound = s.1; named = own_variables xs t named }, f),
    )

-- a filter that is there is that of the objective
filter_there : (core : Core) (g : Objective) (form : Option ObjectiveFilter) → IsThereFor core g form → IsObjectiveFilterIfAny core g form
filter_there core g None t = tt
filter_there core g (Some f) t = t

pub unbound_made : (core : Core) → objective core ≡ None → IsMember core (member.Bound None [] None)
unbound_made core o = (λ x h. cc, λ h i. absurd (let e = sym o ∙ i in cc))

-- a constraint is sound where all are
pub all_at : {A : Type 0} (P : A → Type 0) (xs : List A) (i : ℕ) (a : A) → All P xs → slice_get xs i ≡ Some a → P a
all_at P [] i a h e = cc
all_at P (x ∷ xs) zero a h e = subst P (the_one x a e) (All-head P x xs h)
all_at P (x ∷ xs) (suc i) a h e = all_at P xs i a (All-tail P x xs h) e

-- ---- members that come

last_one : {A : Type 0} (xs : List A) (x : A) (i : ℕ) (a : A) → length xs ≤ i → slice_get (xs ++ x ∷ []) i ≡ Some a → x ≡ a
last_one [] x zero a l e = the_one x a e
last_one [] x (suc i) a l e = cc
last_one (y ∷ xs) x zero a l e = absurd (omega arith)
last_one (y ∷ xs) x (suc i) a l e = last_one xs x i a (omega arith) e

pub each_added : {A : Type 0} (good : A → Type 0) (xs : List A) (x : A) → Each (λ i a. good a) xs → good x → Each (λ i a. good a) (xs ++ x ∷ [])
each_added good xs x h g i a e = elim (cases_lt i (length xs)) [
  | inl l ↦ h i a (sym (get_first xs (x ∷ []) i l) ∙ e)
  | inr l ↦ subst good (last_one xs x i a l e) g
]

pub some_members : (core : Core) (best : Option ℤ) (ms : List Member) → IsBounded core best ms → 1 ≤ length ms
some_members core best ms b = there ms 0 (member.Bound b.value b.variables b.form) b.first

pub bounded_added : (core : Core) (best : Option ℤ) (ms : List Member) (m : Member) → IsBounded core best ms → IsBounded core best (ms ++ m ∷ [])
bounded_added core best ms m b = record { value = b.value; variables = b.variables; form = b.form; first = get_first ms (m ∷ []) 0 (some_members core best ms b) ∙ b.first; same = b.same }

first_taken : {A : Type 0} (n : ℕ) (xs : List A) → 1 ≤ n → slice_get (take n xs) 0 ≡ slice_get xs 0
first_taken zero xs l = absurd (omega arith)
first_taken (suc n) [] l = refl
first_taken (suc n) (x ∷ xs) l = refl

pub bounded_taken : (core : Core) (best : Option ℤ) (ms : List Member) (n : ℕ) → 1 ≤ n → IsBounded core best ms → IsBounded core best (take n ms)
bounded_taken core best ms n l b = record { value = b.value; variables = b.variables; form = b.form; first = first_taken n ms l ∙ b.first; same = b.same }

first_set : {A : Type 0} (xs : List A) (y : A) → 1 ≤ length xs → slice_get (set xs 0 y) 0 ≡ Some y
first_set [] y l = absurd (omega arith)
first_set (x ∷ xs) y l = refl

pub bounded_set : (core : Core) (best more : Option ℤ) (ms : List Member) (b : IsBounded core best ms) → IsBounded core more (set ms 0 (member.Bound more b.variables b.form))
bounded_set core best more ms b = record { value = more; variables = b.variables; form = b.form; first = first_set ms (member.Bound more b.variables b.form) (some_members core best ms b); same = refl }

-- the bound has worked
bound_kind : (m : Member) → kind_of m ≡ 0 → (v : Option ℤ) × (xs : List ℕ) × (f : Option ObjectiveFilter) × (m ≡ member.Bound v xs f)
bound_kind (member.Bound v xs f) h = (v, xs, f, refl)
bound_kind (member.Declared k xs form) h = absurd (omega (arith, h))
bound_kind (member.Posted c xs form) h = absurd (omega (arith, h))
bound_kind (member.Value x v) h = absurd (omega (arith, h))

the_head : {B : Type 0} (a b : B) (xs ys : List B) → ◌≡◌ {A = List B} (a ∷ xs) (b ∷ ys) → a ≡ b
the_head a b xs ys h = cc

same_first : {A B : Type 0} (f : A → B) (xs ys : List A) (x : A) → map f ys ≡ map f xs → slice_get xs 0 ≡ Some x → (y : A) × (slice_get ys 0 ≡ Some y) × (f y ≡ f x)
same_first f [] ys x e h = cc
same_first f (z ∷ xs) [] x e h = cc
same_first f (z ∷ xs) (y ∷ ys) x e h = (y, refl, the_head (f y) (f z) (map f ys) (map f xs) e ∙ ap f (the_one z x h))

pub bounded_worked : (core : Core) (best : Option ℤ) (ms ns : List Member) → map kind_of ns ≡ map kind_of ms → map (fact_of core) ns ≡ map (fact_of core) ms → IsBounded core best ms → IsBounded core best ns
bounded_worked core best ms ns k f b =
    let m = member.Bound b.value b.variables b.form in
    let r = same_first kind_of ms ns m k b.first in
    let s = same_first (fact_of core) ms ns m f b.first in
    let t = bound_kind r.0 r.2 in
    record {
      value = t.0;
      variables = t.1;
      form = t.2;
      first = r.1 ∙ ap (λ a. Some a) t.3;
      same = ap (fact_of core) (sym t.3 ∙ the_one r.0 s.0 (sym r.1 ∙ s.1)) ∙ s.2 ∙ b.same;
    }

-- the facts of all members: the bound, and what is posted
first_rest : {A : Type 0} (xs : List A) (x : A) → slice_get xs 0 ≡ Some x → xs ≡ x ∷ drop 1 xs
first_rest [] x h = cc
first_rest (y ∷ xs) x h = ap (λ z. z ∷ xs) (the_one y x h)

pub bounded_facts : (core : Core) (best : Option ℤ) (ms : List Member) → IsBounded core best ms → map (fact_of core) ms ≡ bound_fact (objective core) best ∷ drop 1 (map (fact_of core) ms)
bounded_facts core best ms b =
    first_rest (map (fact_of core) ms) (bound_fact (objective core) best)
    (slice_get-map (fact_of core) ms 0 ∙ ap (option_map (fact_of core)) b.first ∙ ap (λ c. Some c) b.same)

pub grown_added : (core : Core) (P : List Fact) (crowd : Crowd) (m : Member) (w : List Bool) (ns : Levels) → IsGrown core P crowd → IsMember core m → IsGrown core (P ++ fact_of core m ∷ []) (record { variables = crowd.variables; members = crowd.members ++ m ∷ []; waits = w; notes = ns })
grown_added core P crowd m w ns g s = record {
  bounded = bounded_added core None crowd.members m g.bounded;
  variables = g.variables;
  made = each_added (IsMember core) crowd.members m g.made s;
  posted = ap (drop 1) (map_added (fact_of core) crowd.members m)
      ∙ drop_added (map (fact_of core) crowd.members) (fact_of core m ∷ []) (omega (arith, some_members core None crowd.members g.bounded, length_map (fact_of core) crowd.members))
      ∙ ap (λ Q. Q ++ fact_of core m ∷ []) g.posted;
}

pub made_added : (core : Core) (ms : List Member) (m : Member) → Each (λ i a. IsMember core a) ms → IsMember core m → Each (λ i a. IsMember core a) (ms ++ m ∷ [])
made_added core ms m = each_added (IsMember core) ms m

-- a member's variables are there
pub member_there : (core : Core) (m : Member) (x : ℕ) → IsMember core m → names m x ≡ true → x < length core.sets
member_there core (member.Bound best xs form) x s h = s.0 x h
member_there core (member.Declared k xs form) x s h = listed_there core (fact_at core (slice_get core.cons k)) xs x s.1.0 h
member_there core (member.Posted c xs form) x s h = listed_there core (fact core.tables core.resources c.value) xs x s.0 h
member_there core (member.Value y v) x s h = cc

-- ---- the members of a core

pub objective_some : (core : Core) (g : Goal) → core.goal ≡ Some g → objective core ≡ Some (goal_in core g)
objective_some core g e = ap (lift1 (goal_in core)) e

objective_none : (core : Core) → core.goal ≡ None → objective core ≡ None
objective_none core e = ap (lift1 (goal_in core)) e

pub goal_sound : (core : Core) (g : Goal) → core.goal ≡ Some g → IsSoundCore core → IsSoundGoal core.sets (Some (goal_in core g).term)
goal_sound core g e s = subst (λ o. IsSoundGoal core.sets (lift1 (λ (h : Goal). term core.tables core.resources h.value) o)) e s.goal

pub first_none : (core : Core) (xs : List ℕ) → core.goal ≡ None → xs ≡ [] → IsFirst core (member.Bound None xs None)
first_none core xs e n = subst (λ ys. IsFirst core (member.Bound None ys None)) (sym n) (record { variables = []; form = None; is = refl; made = unbound_made core (objective_none core e) })

pub first_some : (core : Core) (g : Goal) (c : Fact) (xs : List ℕ) → core.goal ≡ Some g → IsSoundCore core → c ≡ Fact.cmp equal (goal_in core g).term (goal_in core g).term → AreVariables xs c → (form : Option ObjectiveFilter) → IsThereFor core (goal_in core g) form → IsFirst core (member.Bound None xs form)
first_some core g c xs e s f a form t = record { variables = xs; form = form; is = refl; made = bound_made core g c xs (objective_some core g e) f a (goal_sound core g e s) form (filter_there core (goal_in core g) form t) }

at_place : (core : Core) (k : ℕ) (c : Cons) → k < length core.cons → c ≡ get_or core.cons k c → slice_get core.cons k ≡ Some c
at_place core k c l e = slice_get-get_or core.cons k c l ∙ ap (λ d. Some d) (sym e)

fact_is : (core : Core) (k : ℕ) (c : Cons) → k < length core.cons → c ≡ get_or core.cons k c → slice_get (facts core) k ≡ Some (fact core.tables core.resources c)
fact_is core k c l e = slice_get-map (fact core.tables core.resources) core.cons k ∙ ap (option_map (fact core.tables core.resources)) (at_place core k c l e)

pub declared_sound : (core : Core) (k : ℕ) (c : Cons) → IsSoundCore core → k < length core.cons → c ≡ get_or core.cons k c → IsSoundFact core.sets (fact core.tables core.resources c)
declared_sound core k c s l e = all_at (IsSoundFact core.sets) (facts core) k (fact core.tables core.resources c) s.constraints (fact_is core k c l e)

pub declared_made : (core : Core) (k : ℕ) (c : Cons) (xs : List ℕ) (form : Option OwnFilter) → IsSoundCore core → k < length core.cons → c ≡ get_or core.cons k c → AreVariables xs (fact core.tables core.resources c) →
    IsOwnFilterIfAny core (fact core.tables core.resources c) form → IsMember core (member.Declared k xs form)
declared_made core k c xs form s l e a f =
    subst (λ o. (k < length core.cons) × IsConstraint core (fact_at core o) xs form) (sym (at_place core k c l e))
    (l, (record { sound = declared_sound core k c s l e; named = a }, f))

pub declared_fact : (core : Core) (k : ℕ) (c : Cons) (xs : List ℕ) (form : Option OwnFilter) → k < length core.cons → c ≡ get_or core.cons k c → slice_get (facts core) k ≡ Some (fact_of core (member.Declared k xs form))
declared_fact core k c xs form l e = fact_is core k c l e ∙ ap (λ o. Some (fact_at core o)) (sym (at_place core k c l e))

only_one : (core : Core) (m : Member) → IsMember core m → Each (λ i a. IsMember core a) (m ∷ [])
only_one core m s zero a h = subst (IsMember core) (the_one m a h) s
only_one core m s (suc i) a h = cc

pub begun_grown : (core : Core) (m : Member) (crowd : Crowd) (ns : Levels) → IsFirst core m → crowd ≡ record { variables = length core.sets; members = m ∷ []; waits = true ∷ []; notes = ns } → IsGrown core [] crowd
begun_grown core m crowd ns f e = subst (IsGrown core []) (sym e) (record {
  bounded = record { value = None; variables = f.variables; form = f.form; first = ap (λ a. Some a) f.is; same = refl };
  variables = refl;
  made = only_one core m f.made;
  posted = refl;
})

pub take_next : {A : Type 0} (xs : List A) (k : ℕ) (a : A) → slice_get xs k ≡ Some a → take (k + 1) xs ≡ take k xs ++ a ∷ []
take_next xs k a h = ap (λ n. take n xs) (add-one k) ∙ next xs k a h
  where
    next : {A : Type 0} (xs : List A) (k : ℕ) (a : A) → slice_get xs k ≡ Some a → take (suc k) xs ≡ take k xs ++ a ∷ []
    next [] k a h = cc
    next (x ∷ xs) zero a h = ap (λ z. z ∷ []) (the_one x a h)
    next (x ∷ xs) (suc k) a h = ap (λ ys. x ∷ ys) (next xs k a h)

pub take_whole : {A : Type 0} (xs : List A) (n : ℕ) → n ≡ length xs → take n xs ≡ xs
take_whole [] zero e = refl
take_whole [] (suc n) e = refl
take_whole (x ∷ xs) zero e = absurd (omega (arith, e))
take_whole (x ∷ xs) (suc n) e = ap (λ ys. x ∷ ys) (take_whole xs n (omega (arith, e)))

pub length-facts : (core : Core) → length (facts core) ≡ length core.cons
length-facts core = length_map (fact core.tables core.resources) core.cons

-- without an objective, nothing is added for its being defined
pub base_none : (core : Core) → core.goal ≡ None → facts core ≡ base core
base_none core e = sym (append-nil (facts core)) ∙ ap (λ (o : Option Goal). facts core ++ definedness (lift1 (λ (h : Goal). term core.tables core.resources h.value) o)) (sym e)

pub base_some : (core : Core) (g : Goal) (c : Fact) → core.goal ≡ Some g → c ≡ Fact.cmp equal (goal_in core g).term (goal_in core g).term → facts core ++ c ∷ [] ≡ base core
base_some core g c e f = ap (λ d. facts core ++ d ∷ []) f ∙ ap (λ (o : Option Goal). facts core ++ definedness (lift1 (λ (h : Goal). term core.tables core.resources h.value) o)) (sym e)

pub definedness_sound : (core : Core) (g : Goal) (c : Cons) → core.goal ≡ Some g → IsSoundCore core → fact core.tables core.resources c ≡ Fact.cmp equal (goal_in core g).term (goal_in core g).term → IsSoundFact core.sets (fact core.tables core.resources c)
definedness_sound core g c e s f = subst (IsSoundFact core.sets) (sym f) (defined_sound core (goal_in core g).term (goal_sound core g e s))

pub defined_made : (core : Core) (g : Goal) (c : Cons) (xs : List ℕ) → core.goal ≡ Some g → IsSoundCore core → fact core.tables core.resources c ≡ Fact.cmp equal (goal_in core g).term (goal_in core g).term → AreVariables xs (fact core.tables core.resources c) → IsListed core (fact core.tables core.resources c) xs
defined_made core g c xs e s f a = record { sound = definedness_sound core g c e s f; named = a }

-- a constraint that is posted, by what is lent of it and of the core
pub posted_made : (core now lent : Core) (c d : Cons) (xs : List ℕ) → core ≡ now → lent ≡ core → d ≡ c → IsSoundFact now.sets (fact now.tables now.resources c) → AreVariables xs (fact lent.tables lent.resources d) → IsListed core (fact core.tables core.resources c) xs
posted_made core now lent c d xs e l i s a = record {
  sound = subst (λ (k : Core). IsSoundFact k.sets (fact k.tables k.resources c)) (sym e) s;
  named = subst (λ (k : Core). AreVariables xs (fact k.tables k.resources c)) l (subst (λ (k : Cons). AreVariables xs (fact lent.tables lent.resources k)) i a);
}

pub posted_sound : (core now lent : Core) (c d : Cons) → core ≡ now → lent ≡ core → d ≡ c → IsSoundFact now.sets (fact now.tables now.resources c) → IsSoundFact lent.sets (fact lent.tables lent.resources d)
posted_sound core now lent c d e l i s =
    subst (λ (k : Cons). IsSoundFact lent.sets (fact lent.tables lent.resources k)) (sym i) (subst (λ (k : Core). IsSoundFact k.sets (fact k.tables k.resources c)) (sym (l ∙ e)) s)

pub posted_form : (core lent : Core) (c d : Cons) (form : Option OwnFilter) → lent ≡ core → d ≡ c → IsOwnFilterIfAny lent (fact lent.tables lent.resources d) form → IsOwnFilterIfAny core (fact core.tables core.resources c) form
posted_form core lent c d form l i f =
    subst (λ (k : Core). IsOwnFilterIfAny k (fact k.tables k.resources c) form) l (subst (λ (k : Cons). IsOwnFilterIfAny lent (fact lent.tables lent.resources k) form) i f)

-- ---- places of notes

pub grown_placed : (core : Core) (P : List Fact) (old new : Crowd) → IsGrown core P old → PlacesNotes old new → IsGrown core P new
grown_placed core P old new g p = record {
  bounded = bounded_worked core None old.members new.members p.given.kinds (p.given.constraints core) g.bounded;
  variables = p.variables ∙ g.variables;
  made = p.given.made core g.made;
  posted = ap (drop 1) (p.given.constraints core) ∙ g.posted;
}

pub has_places : (core : Core) (old new : Crowd) → PlacesNotes old new → HasPlaces core new
has_places core old new p = let f = p.given.places core in record { places = p.places; notes = p.notes; facts = f.0; meant = f.1 }

pub base_made : (core : Core) (old placed new : Crowd) → length core.sets < 2 ^ 32 → IsGrown core (base core) old → PlacesNotes old placed → new.variables ≡ placed.variables → new.members ≡ placed.members → new.notes ≡ placed.notes →
    ((i : ℕ) → i < length placed.members → waits new.waits i ≡ true) → IsBase core new
base_made core old placed new few g p v m z w =
    let h = grown_placed core (base core) old placed g p in
    let k = has_places core old placed p in
    record {
      few = few;
      grown = record {
        bounded = subst (IsBounded core None) (sym m) h.bounded;
        variables = v ∙ h.variables;
        made = subst (λ ms. Each (λ i a. IsMember core a) ms) (sym m) h.made;
        posted = ap (λ ms. drop 1 (map (fact_of core) ms)) m ∙ h.posted;
      };
      waiting = λ i l. w i (omega (arith, l, ap length m));
      placed = record { places = k.places; notes = z ∙ k.notes; facts = k.facts; meant = subst (λ ms. means_members core ms k.facts k.places) (sym m) k.meant };
    }
