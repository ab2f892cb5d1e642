-- What notes tell of literals.
use Rattle.std.proofs.Common.{◌≡◌, ◌∙◌, ℕ, ◌+◌, ◌<◌, ◌≤◌, Bool, true, false, refl, List, [], ◌∷◌, length, get_or, drop, ap, sym, subst, arith, inl, inr, length-set}
use Rattle.std.specs.Prelude.{◌^◌, ◌-◌, cond, nat_lt, Option, Some, None, slice_get}
use Rattle.opl_domain.specs.Family.{Family, IsFamily}
use Rattle.opl_expr.specs.declared.model.Core.{Core}
use Rattle.opl_expr.specs.Forms.{Fact}
use Rattle.opl_filter.specs.Filtering.{refutes, IsLeftOf}
use Rattle.opl_linear.specs.Alternating.{either}
use Rattle.opl_filter.proofs.Removals.{left_below, left_sets}
use Rattle.opl_trail.specs.Levels.{Levels}
use Rattle.opl_notes.specs.Noted.{is_noted, Knows, Tells}
use Rattle.opl_notes.proofs.Rightness.{right_below, right_noted}
use Rattle.opl_count.specs.declared.sum.Literal.{Literal}
use Rattle.opl_count.specs.declared.sum.Sum.{Sum}
use Rattle.opl_count.specs.declared.sum.Costs.{Costs}
use Rattle.opl_count.specs.declared.count_filter.CountFilter.{CountFilter}
use Rattle.opl_count.specs.Costs.{fact_of, price, prices, weights, is_over}
use Rattle.opl_count.specs.Forcing.{SettlesAt}
use Rattle.opl_count.proofs.Prices.{within, the_one, there_or}
use Rattle.opl_count.proofs.Read.{price_before, price_fits}
use Rattle.opl_count.specs.Places.{StandFor, means_literals, Writes, GivesPlacesTo, GivesPlaces}

module _ (core : Core) (ls : List Literal) (first : ℕ) where
  abbrev means : (ℕ → Fact) → ℕ → Type 0
  means = means_literals core ls (Some first)

  pub known_fits : (words : List ℕ) (F : Family) (i : ℕ) → i < length ls → Knows means words F → first + i < 2 ^ 32
  known_fits words F i l k = let f = k.meant.few in omega (arith, f, l)

  pub known_place : (words : List ℕ) (F : Family) (i : ℕ) → i < length ls → Knows means words F → first + i < length words
  known_place words F i l k = let t = k.meant.there in omega (arith, t, l)

  pub known_right : (words : List ℕ) (F : Family) (i : ℕ) (l : Literal) → slice_get ls i ≡ Some l → i < length ls → Knows means words F → is_noted words (first + i) ≡ true → refutes (fact_of core l) F ≡ true
  known_right words F i l h m k n = ap (λ c. refutes c F) (sym (k.meant.each i l h)) ∙ k.right (first + i) (known_place words F i m k) n

  pub written : (old new : Levels) (F : Family) (i : ℕ) (l : Literal) (r : Bool) → slice_get ls i ≡ Some l → r ≡ refutes (fact_of core l) F → Writes old (first + i) r new → Tells means old F new F
  written old new F i l false h e w = subst (λ z. Tells means old F z F) (sym w) (record { places = refl; below = refl; right = λ facts m r. r })
  written old new F i l true h e w = elim w [
    | inl s ↦ subst (λ z. Tells means old F z F) (sym s) (record { places = refl; below = refl; right = λ facts m r. r })
    | inr s ↦ subst (λ z. Tells means old F z F) (sym s) (record {
      places = length-set old.top (first + i) 1;
      below = refl;
      right = λ facts m r. right_noted facts old.top F (first + i) (ap (λ c. refutes c F) (m.each i l h) ∙ sym e) r;
    })
  ]

-- where a first place is there
pub right_at : (core : Core) (ls : List Literal) (f : Option ℕ) (first : ℕ) (words : List ℕ) (F : Family) (i : ℕ) (l : Literal) → f ≡ Some first → slice_get ls i ≡ Some l → i < length ls → Knows (means_literals core ls f) words F → is_noted words (first + i) ≡ true → refutes (fact_of core l) F ≡ true
right_at core ls f first words F i l e h m k n = known_right core ls first words F i l h m (subst (λ o. Knows (means_literals core ls o) words F) e k) n

pub written_at : (core : Core) (ls : List Literal) (f : Option ℕ) (first : ℕ) (old new : Levels) (F : Family) (i : ℕ) (l : Literal) (r : Bool) → f ≡ Some first → slice_get ls i ≡ Some l → r ≡ refutes (fact_of core l) F → Writes old (first + i) r new → Tells (means_literals core ls f) old F new F
written_at core ls f first old new F i l r e h d w = subst (λ o. Tells (means_literals core ls o) old F new F) (sym e) (written core ls first old new F i l r h d w)

pub refuted_at : (core : Core) (ls : List Literal) (F : Family) (i : ℕ) (l m : Literal) (r : Bool) → slice_get ls i ≡ Some l → r ≡ refutes (fact_of core l) F → slice_get ls i ≡ Some m → r ≡ refutes (fact_of core m) F
refuted_at core ls F i l m r h e k = e ∙ ap (λ (z : Literal). refutes (fact_of core z) F) (the_one l m (sym h ∙ k))

-- what is paid for a literal, as it is refuted or not
pub priced : (core : Core) (F : Family) (l : Literal) (b : Bool) (p : ℕ) → b ≡ refutes (fact_of core l) F → p ≡ cond b l.weight 0 → p ≡ price core F l
priced core F l b p e h = h ∙ ap (λ c. cond c l.weight 0) e

-- one literal more, from the last on
last_there : (ls : List Literal) (i : ℕ) → 0 < i → i ≤ length ls → (l : Literal) × (slice_get ls (i - 1) ≡ Some l) × (l ≡ get_or ls (i - 1) l)
last_there [] i p k = absurd (omega (arith, p, k))
last_there (m ∷ ls) i p k =
    let n : i - 1 < length (m ∷ ls) = omega (arith, p, k) in
    let l = get_or (m ∷ ls) (i - 1) m in
    (l, there_or (m ∷ ls) (i - 1) m n, the_one l (get_or (m ∷ ls) (i - 1) l) (sym (there_or (m ∷ ls) (i - 1) m n) ∙ there_or (m ∷ ls) (i - 1) l n))

pub cost_fits : (core : Core) (F : Family) (ls : List Literal) (i n r p : ℕ) → 0 < i → i ≤ length ls → n + weights ls < 2 ^ 128 → r ≡ n + prices core F (drop i ls) → ((l : Literal) → slice_get ls (i - 1) ≡ Some l → p ≡ price core F l) → r + p < 2 ^ 128
cost_fits core F ls i n r p a b s h e =
    let t = last_there ls i a b in
    let f = price_fits core F ls i t.0 n r a b t.2 s h in
    omega (arith, f, e t.0 t.1)

pub cost_next : (core : Core) (F : Family) (ls : List Literal) (i n r p : ℕ) → 0 < i → i ≤ length ls → r ≡ n + prices core F (drop i ls) → ((l : Literal) → slice_get ls (i - 1) ≡ Some l → p ≡ price core F l) → r + p ≡ n + prices core F (drop (i - 1) ls)
cost_next core F ls i n r p a b h e =
    let t = last_there ls i a b in
    let f = price_before core F ls i t.0 n r a b t.2 h in
    omega (arith, f, e t.0 t.1)

-- a list that was read is the list
pub tells_read : (core : Core) (ls xs : List Literal) (f : Option ℕ) (old new : Levels) (F G : Family) → xs ≡ ls → Tells (means_literals core xs f) old F new G → Tells (means_literals core ls f) old F new G
tells_read core ls xs f old new F G e t = subst (λ ys. Tells (means_literals core ys f) old F new G) e t

pub knows_read : (core : Core) (ls xs : List Literal) (f : Option ℕ) (words : List ℕ) (F : Family) → xs ≡ ls → Knows (means_literals core ls f) words F → Knows (means_literals core xs f) words F
knows_read core ls xs f words F e k = subst (λ ys. Knows (means_literals core ys f) words F) (sym e) k

-- ---- values go

-- what is told of a family is told of what is left of it
pub tells_left : (means : (ℕ → Fact) → ℕ → Type 0) (dead : Family → Bool) (old new : Levels) (D F G : Family) → IsFamily F → IsLeftOf dead F G → Tells means old D new F → Tells means old D new G
tells_left means dead old new D F G f a t = record {
  places = t.places;
  below = t.below;
  right = λ facts m r. right_below facts new.top F G (left_sets dead F G f a).full (left_below dead F G a) (t.right facts m r);
}

pub left_at : (core : Core) (c : Costs) (D F : Family) (i : ℕ) (b : Bool) → SettlesAt core c D F i b → IsLeftOf (is_over core c) D F
left_at core c D F i false s = s.0
left_at core c D F i true s = s.0

-- ---- places that are given

pub stand_on : (core : Core) (ls : List Literal) (first : ℕ) (facts wider : ℕ → Fact) (k n : ℕ) → k ≤ n → ((p : ℕ) → p < k → wider p ≡ facts p) → StandFor core ls first facts k → StandFor core ls first wider n
stand_on core ls first facts wider k n l h s = record {
  there = let t = s.there in omega (arith, t, l);
  few = s.few;
  each = λ i m e. h (first + i) (let t = s.there in let w = within ls i m e in omega (arith, t, w)) ∙ s.each i m e;
}

pub means_on : (core : Core) (ls : List Literal) (f : Option ℕ) (facts wider : ℕ → Fact) (k n : ℕ) → k ≤ n → ((p : ℕ) → p < k → wider p ≡ facts p) → means_literals core ls f facts k → means_literals core ls f wider n
means_on core ls None facts wider k n l h s = tt
means_on core ls (Some first) facts wider k n l h s = stand_on core ls first facts wider k n l h s

is_less : (p n : ℕ) → p < n → nat_lt p n ≡ true
is_less p n h = grind arith

not_less : (n i : ℕ) → nat_lt (n + i) n ≡ false
not_less n i = grind arith

behind : (n i : ℕ) → (n + i) - n ≡ i
behind n i = omega arith

-- the constraint of a literal, or else another one
fact_or : Core → Option Literal → Fact → Fact
fact_or core None c = c
fact_or core (Some l) c = fact_of core l

-- the places before the first stand for what they did, those from it on for literals
wider : Core → List Literal → ℕ → (ℕ → Fact) → ℕ → Fact
wider core ls first facts p = cond (nat_lt p first) (facts p) (fact_or core (slice_get ls (p - first)) (facts p))

wider_before : (core : Core) (ls : List Literal) (first : ℕ) (facts : ℕ → Fact) (p : ℕ) → p < first → wider core ls first facts p ≡ facts p
unfolding wider
wider_before core ls first facts p h = ap (λ b. cond b (facts p) (fact_or core (slice_get ls (p - first)) (facts p))) (is_less p first h)

wider_at : (core : Core) (ls : List Literal) (first : ℕ) (facts : ℕ → Fact) (i : ℕ) (l : Literal) → slice_get ls i ≡ Some l → wider core ls first facts (first + i) ≡ fact_of core l
unfolding wider fact_or
wider_at core ls first facts i l h =
    ap (λ b. cond b (facts (first + i)) (fact_or core (slice_get ls ((first + i) - first)) (facts (first + i)))) (not_less first i)
    ∙ ap (λ k. fact_or core (slice_get ls k) (facts (first + i))) (behind first i)
    ∙ ap (λ o. fact_or core o (facts (first + i))) h

abbrev pub placed : Sum → Option ℕ → Sum
placed s f = record { costs = s.costs; ties = s.ties; first_place = f }

pub no_places : (s : Sum) (first : ℕ) → GivesPlacesTo s (placed s None) first first
no_places s first = record {
  more = omega arith;
  made = λ core i. record { made = i.made; ties = i.ties };
  same = refl;
  places = λ core facts. record { wider = facts; same = λ p l. refl; meant = tt };
}

pub some_places : (s : Sum) (first : ℕ) → first + length s.costs.literals < 2 ^ 32 → GivesPlacesTo s (placed s (Some first)) first (first + length s.costs.literals)
some_places s first l = record {
  more = omega arith;
  made = λ core i. record { made = i.made; ties = i.ties };
  same = refl;
  places = λ core facts. record {
    wider = wider core s.costs.literals first facts;
    same = wider_before core s.costs.literals first facts;
    meant = record { there = omega arith; few = l; each = wider_at core s.costs.literals first facts };
  };
}

pub both_places : (f : CountFilter) (a b : Sum) (k m n : ℕ) → GivesPlacesTo f.first a k m → GivesPlacesTo f.second b m n → GivesPlaces f (record { first = a; second = b }) k n
both_places f a b k m n g h = record {
  more = omega (arith, g.more, h.more);
  made = λ core i. (g.made core i.0, h.made core i.1);
  filter = λ core c i. record {
    made = (g.made core i.made.0, h.made core i.made.1);
    same = λ F l. i.same F l ∙ ap (λ d. either (is_over core d) (is_over core f.second.costs) F) (sym g.same) ∙ ap (λ d. either (is_over core a.costs) (is_over core d) F) (sym h.same);
  };
  places = λ core facts.
      let x = g.places core facts in
      let y = h.places core x.wider in
      record {
        wider = y.wider;
        same = λ p l. y.same p (omega (arith, l, g.more)) ∙ x.same p l;
        meant = (means_on core a.costs.literals a.first_place x.wider y.wider m n h.more y.same x.meant, y.meant);
      };
}
