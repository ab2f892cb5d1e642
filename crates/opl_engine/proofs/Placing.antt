-- Places of notes, as members are given them.
use Rattle.std.proofs.Common.{◌≡◌, ◌∙◌, ℕ, ◌+◌, ◌<◌, ◌≤◌, true, false, cond, refl, List, length, get_or, map, set, ap, sym, subst, arith, length-set}
use Rattle.std.specs.Prelude.{Option, Some, None, slice_get}
use Rattle.std.specs.declared.alloc.Global.{Global}
use Rattle.std.specs.declared.rc.Rc.{Rc}
use Rattle.opl_expr.specs.declared.model.Core.{Core}
use Rattle.opl_expr.specs.declared.forms.Cons.{Cons}
use Rattle.opl_expr.specs.Forms.{Fact, fact}
use Rattle.opl_filter.specs.Mentions.{lists}
use Rattle.opl_closure.proofs.Turns.{same_after, same_test, each_set, each_at}
use Rattle.opl_count.specs.declared.count_filter.CountFilter.{CountFilter}
use Rattle.opl_count.specs.Places.{Extends, GivesPlaces}
use Rattle.opl_count.proofs.Known.{means_on}
use Rattle.opl_engine.specs.declared.own_filter.OwnFilter.{OwnFilter}
use Rattle.opl_engine.specs.declared.own_filter.OwnFilter.TheVariants as own
use Rattle.opl_engine.specs.OwnFilters.{means_own, means_if_any, GivesOwnPlaces, GivesPlacesIfAny}
use Rattle.opl_engine.specs.declared.member.Member.{Member}
use Rattle.opl_engine.specs.declared.member.Member.TheVariants as member
use Rattle.opl_engine.specs.Members.{fact_of, fact_at, means_member, wakes_on, wakes_by_ends, IsMember}
use Rattle.opl_engine.specs.Crowds.{kind_of, GivesMemberPlaces, GivesAllPlaces}
use Rattle.opl_engine.proofs.Lists.{there}

-- nothing needs a place
abbrev nowhere : (means : (ℕ → Fact) → ℕ → Type 0) → ((facts : ℕ → Fact) → (n : ℕ) → means facts n) → (facts : ℕ → Fact) (first : ℕ) → Extends means facts first first
nowhere means h facts first = record { wider = facts; same = λ p l. refl; meant = h facts first }

-- ---- a filter

own_nowhere : (f : OwnFilter) (first : ℕ) → ((core : Core) (facts : ℕ → Fact) (n : ℕ) → means_own core f facts n) → GivesOwnPlaces f f first first
own_nowhere f first h = record { more = omega arith; constraint = λ core c i. i; ends = refl; places = λ core facts. nowhere (means_own core f) (h core) facts first }

pub own_none : (s f : OwnFilter) (first : ℕ) → s ≡ f → ((core : Core) (facts : ℕ → Fact) (n : ℕ) → means_own core f facts n) → GivesOwnPlaces s f first first
own_none s f first e h = subst (λ z. GivesOwnPlaces z f first first) (sym e) (own_nowhere f first h)

pub own_counts : (s : OwnFilter) (f g : CountFilter) (first n : ℕ) → s ≡ own.Count f → GivesPlaces f g first n → GivesOwnPlaces s (own.Count g) first n
own_counts s f g first n e p = subst (λ z. GivesOwnPlaces z (own.Count g) first n) (sym e) (record { more = p.more; constraint = p.filter; ends = refl; places = p.places })

none_given : (first : ℕ) → GivesPlacesIfAny None None first first
none_given first = record { more = omega arith; constraint = λ core c i. i; ends = refl; places = λ core facts. nowhere (means_if_any core None) (λ fs n. tt) facts first }

pub none_there : (o : Option OwnFilter) (first : ℕ) → o ≡ None → GivesPlacesIfAny o o first first
none_there o first e = subst (λ z. GivesPlacesIfAny z z first first) (sym e) (none_given first)

pub some_given : (o : Option OwnFilter) (f g : OwnFilter) (first n : ℕ) → o ≡ Some f → GivesOwnPlaces f g first n → GivesPlacesIfAny o (Some g) first n
some_given o f g first n e p = subst (λ z. GivesPlacesIfAny z (Some g) first n) (sym e) (record { more = p.more; constraint = p.constraint; ends = p.ends; places = p.places })

-- ---- a member

member_nowhere : (m : Member) (first : ℕ) → ((core : Core) (facts : ℕ → Fact) (n : ℕ) → means_member core m facts n) → GivesMemberPlaces m m first first
member_nowhere m first h = record {
  more = omega arith;
  constraint = λ core. refl;
  made = λ core i. i;
  woken = λ x. refl;
  woken_by_ends = λ x. refl;
  kind = refl;
  places = λ core facts. nowhere (means_member core m) (h core) facts first;
}

pub member_none : (s m : Member) (first : ℕ) → s ≡ m → ((core : Core) (facts : ℕ → Fact) (n : ℕ) → means_member core m facts n) → GivesMemberPlaces s m first first
member_none s m first e h = subst (λ z. GivesMemberPlaces z m first first) (sym e) (member_nowhere m first h)

pub declared_given : (m : Member) (k : ℕ) (xs : List ℕ) (old new : Option OwnFilter) (first n : ℕ) → m ≡ member.Declared k xs old → GivesPlacesIfAny old new first n → GivesMemberPlaces m (member.Declared k xs new) first n
declared_given m k xs old new first n e g = subst (λ z. GivesMemberPlaces z (member.Declared k xs new) first n) (sym e) (record {
  more = g.more;
  constraint = λ core. refl;
  made = λ core i. (i.0, (i.1.0, g.constraint core (fact_at core (slice_get core.cons k)) i.1.1));
  woken = λ x. ap (λ b. cond b false (lists xs x)) g.ends;
  woken_by_ends = λ x. ap (λ b. cond b (lists xs x) false) g.ends;
  kind = refl;
  places = g.places;
})

pub posted_given : (m : Member) (c : Rc Cons Global) (xs : List ℕ) (old new : Option OwnFilter) (first n : ℕ) → m ≡ member.Posted c xs old → GivesPlacesIfAny old new first n → GivesMemberPlaces m (member.Posted c xs new) first n
posted_given m c xs old new first n e g = subst (λ z. GivesMemberPlaces z (member.Posted c xs new) first n) (sym e) (record {
  more = g.more;
  constraint = λ core. refl;
  made = λ core i. (i.0, g.constraint core (fact core.tables core.resources c.value) i.1);
  woken = λ x. ap (λ b. cond b false (lists xs x)) g.ends;
  woken_by_ends = λ x. ap (λ b. cond b (lists xs x) false) g.ends;
  kind = refl;
  places = g.places;
})

-- ---- members, one after another

own_on : (core : Core) (f : OwnFilter) (facts wider : ℕ → Fact) (k n : ℕ) → k ≤ n → ((p : ℕ) → p < k → wider p ≡ facts p) → means_own core f facts k → means_own core f wider n
own_on core (own.Linear f) facts wider k n l h m = tt
own_on core (own.Different f) facts wider k n l h m = tt
own_on core (own.Reify f) facts wider k n l h m = tt
own_on core (own.Connective f) facts wider k n l h m = tt
own_on core (own.Count f) facts wider k n l h m = (
  means_on core f.first.costs.literals f.first.first_place facts wider k n l h m.0,
  means_on core f.second.costs.literals f.second.first_place facts wider k n l h m.1,
)
own_on core (own.Addends f) facts wider k n l h m = tt

if_any_on : (core : Core) (o : Option OwnFilter) (facts wider : ℕ → Fact) (k n : ℕ) → k ≤ n → ((p : ℕ) → p < k → wider p ≡ facts p) → means_if_any core o facts k → means_if_any core o wider n
if_any_on core None facts wider k n l h m = tt
if_any_on core (Some f) facts wider k n l h m = own_on core f facts wider k n l h m

member_on : (core : Core) (m : Member) (facts wider : ℕ → Fact) (k n : ℕ) → k ≤ n → ((p : ℕ) → p < k → wider p ≡ facts p) → means_member core m facts k → means_member core m wider n
member_on core (member.Bound best xs form) facts wider k n l h m = tt
member_on core (member.Declared j xs form) facts wider k n l h m = if_any_on core form facts wider k n l h m
member_on core (member.Posted c xs form) facts wider k n l h m = if_any_on core form facts wider k n l h m
member_on core (member.Value x v) facts wider k n l h m = tt

-- a member without places takes none to stand for anything
pub means_nothing : (old new : Member) (n : ℕ) → n ≤ 0 → GivesMemberPlaces old new 0 n → (core : Core) (facts : ℕ → Fact) (k : ℕ) → means_member core new facts k
means_nothing old new n l g core facts k =
    let x = g.places core facts in
    member_on core new x.wider facts n k (omega (arith, l)) (λ p q. absurd (omega (arith, l, q))) x.meant

-- the first k members have places below n; all are as they were, but for their places
pub record HasGiven (old new : List Member) (k n : ℕ) : Type 0 where
  pub constraints : (core : Core) → map (fact_of core) new ≡ map (fact_of core) old
  pub made : (core : Core) → ((i : ℕ) (m : Member) → slice_get old i ≡ Some m → IsMember core m) → (i : ℕ) (m : Member) → slice_get new i ≡ Some m → IsMember core m
  pub woken : map wakes_on new ≡ map wakes_on old
  pub woken_by_ends : map wakes_by_ends new ≡ map wakes_by_ends old
  pub kinds : map kind_of new ≡ map kind_of old
  pub long : length new ≡ length old
  pub facts : Core → ℕ → Fact
  pub meant : (core : Core) (i : ℕ) (m : Member) → i < k → slice_get new i ≡ Some m → means_member core m (facts core) n

pub given_none : (ms : List Member) → HasGiven ms ms 0 0
given_none ms = record {
  constraints = λ core. refl;
  made = λ core h. h;
  woken = refl;
  woken_by_ends = refl;
  kinds = refl;
  long = refl;
  facts = λ core p. Fact.fixed true;
  meant = λ core i m l. absurd (omega (arith, l));
}

pub given_next : (old ms : List Member) (k n b : ℕ) (d y : Member) → k < length ms → HasGiven old ms k n → GivesMemberPlaces (get_or ms k d) y n b → HasGiven old (set ms k y) (k + 1) b
given_next old ms k n b d y l h g = record {
  constraints = λ core. same_after (fact_of core) ms k d y (g.constraint core) ∙ h.constraints core;
  made = λ core s. each_set (λ j a. IsMember core a) ms k y (g.made core (each_at (λ j a. IsMember core a) ms k d (h.made core s) l)) (λ j a e. h.made core s j a);
  woken = same_after wakes_on ms k d y (same_test _ _ g.woken) ∙ h.woken;
  woken_by_ends = same_after wakes_by_ends ms k d y (same_test _ _ g.woken_by_ends) ∙ h.woken_by_ends;
  kinds = same_after kind_of ms k d y g.kind ∙ h.kinds;
  long = length-set ms k y ∙ h.long;
  facts = λ core. (g.places core (h.facts core)).wider;
  meant = λ core i m j e. each_set (λ a z. a < k + 1 → means_member core z (g.places core (h.facts core)).wider b) ms k y (λ q. (g.places core (h.facts core)).meant)
      (λ a z u s q. member_on core z (h.facts core) (g.places core (h.facts core)).wider n b g.more (g.places core (h.facts core)).same (h.meant core a z (omega (arith, u, q)) s)) i m e j;
}

pub given_all : (old ms : List Member) (k n : ℕ) → length old ≤ k → HasGiven old ms k n → GivesAllPlaces old ms n
given_all old ms k n l h = record {
  constraints = h.constraints;
  made = h.made;
  woken = h.woken;
  woken_by_ends = h.woken_by_ends;
  kinds = h.kinds;
  places = λ core. (h.facts core, λ i m e. h.meant core i m (let t = there ms i m e in let s = h.long in omega (arith, t, s, l)) e);
}
