-- Open places and turns, over plain variables.
use Rattle.std.proofs.Common.{◌≡◌, ◌∙◌, ℕ, suc, ◌+◌, ◌<◌, true, false, refl, List, [], ◌∷◌, ◌++◌, map, drop, length, reverse, ℤ, ap, sym, subst, arith}
use Rattle.std.specs.Prelude.{Option, Some, None}
use Rattle.std.specs.declared.rc.Rc.{Rc}
use Rattle.std.specs.declared.alloc.Global.{Global}
use Rattle.std.proofs.lemmas.List.{reverse-append}
use Rattle.opl_domain.specs.Family.{Family, set_of}
use Rattle.opl_expr.specs.declared.model.Core.{Core}
use Rattle.opl_trace.specs.Answers.{is_value, is_single}
use Rattle.opl_trace.specs.Marks.{objective}
use Rattle.opl_trace.specs.Run.{Out, marked}
use Rattle.opl_trace.specs.Run.Mark.{choice}
use Rattle.opl_steps.specs.Tasks as plain
use Rattle.opl_steps.specs.Tasks.End.{whole}
use Rattle.opl_steps.specs.Tasks.Task.{values}
use Rattle.opl_steps.specs.Steps.{Way, on, on_value}
use Rattle.opl_turns.specs.Coming as c
use Rattle.opl_turns.specs.Coming.{Place, Chooses, mode, coming, trying}
use Rattle.opl_turns.specs.Coming.Place.{ways}
use Rattle.opl_turns.specs.Covered.{Covers}
use Rattle.opl_turns.specs.Weights.{weight_back}
use Rattle.opl_turns.proofs.Chosen.{chooses_same, chooses_from, chooses_on}
use Rattle.opl_turns.proofs.Turns.{down_goes, down_fails, down_chooses, down_solves, enters, enters_none, back_tries}
use Rattle.opl_turns.proofs.Nexts.{next_labelled, next_single, next_values}
use Rattle.opl_search.specs.declared.search.Open.{Open}
use Rattle.opl_search.specs.declared.search.Turn as turn
use Rattle.opl_search.specs.declared.search.Turn.TheVariants as at
use Rattle.opl_search.specs.declared.search.Step1.{Step1}
use Rattle.opl_search.specs.declared.search.Step1.TheVariants as step
use Rattle.opl_search.specs.declared.tail.Tail.{Tail}
use Rattle.opl_search.specs.Tails.{tail_of}
use Rattle.opl_search.specs.States.{Level, State, level_at, lowest, opened, with_level, back_to, posting, with_sets, improved, moment, IsMoment}
use Rattle.opl_search.specs.Pending.{above, left_values, ways_of, rest_of, place_of, places, IsOpen, AreOpen, comes, tries, IsTurn, Goes, best_at, answer_of}
use Rattle.opl_search.proofs.Levels.{level_more, level_last, length_lowest, level_lowest}

pub last_open : (opens others : List Open) (o : Open) → opens ≡ others ++ o ∷ [] → reverse opens ≡ o ∷ reverse others
last_open opens others o e = ap (reverse {A = Open}) e ∙ reverse-append others (o ∷ [])

-- ---- levels that agree below n give the same places

places_same : (os : List Open) (n : ℕ) (ls ms : List Level) → AreOpen os n ls → ((i : ℕ) → i < n → level_at i ls ≡ level_at i ms) → places os ls ≡ places os ms
places_same [] n ls ms h e = refl
places_same (o ∷ os) n ls ms h e =
    ap (λ p. p ∷ places os ls) (ap (place_of o) (e o.level h.0))
    ∙ ap (λ ps. place_of o (level_at o.level ms) ∷ ps) (places_same os o.level ls ms h.2 (λ i k. e i (omega (arith, h.0, k))))

open_same : (os : List Open) (n : ℕ) (ls ms : List Level) → AreOpen os n ls → ((i : ℕ) → i < n → level_at i ls ≡ level_at i ms) → AreOpen os n ms
open_same [] n ls ms h e = tt
open_same (o ∷ os) n ls ms h e = (h.0, subst (IsOpen o) (e o.level h.0) h.1, open_same os o.level ls ms h.2 (λ i k. e i (omega (arith, h.0, k))))

-- ---- a place is opened

module _ (s : State) (os : List Open) (h : AreOpen os (length s.levels) s.levels) (i x : ℕ) (v : ℤ) (xs : Rc (List ℕ) Global) (k : ℕ) (r : Rc Tail Global) (e : i ≡ length s.levels) where
  abbrev made : Open
  made = record { level = i; variable = x; last = v; variables = xs; place = k; rest = r }

  here : level_at i (opened s).levels ≡ Some (record { sets = s.sets; posted = s.posted })
  here = level_last i (record { sets = s.sets; posted = s.posted }) s.levels e

  pub opens_opened : Covers s.sets (values (x ∷ drop k xs.value) ∷ tail_of r.value) → AreOpen (made ∷ os) (length (opened s).levels) (opened s).levels
  opens_opened c =
      let l : Level = record { sets = s.sets; posted = s.posted } in
      let below : i < suc (length s.levels) = omega (arith, e) in
      (below, subst (IsOpen made) (sym here) c, subst (λ n. AreOpen os n (l ∷ s.levels)) (sym e) (open_same os (length s.levels) s.levels (l ∷ s.levels) h (λ j m. sym (level_more j l s.levels m))))

  pub places_opened : places (made ∷ os) (opened s).levels ≡ ways (ways_of x (Some v) (values (drop k xs.value) ∷ tail_of r.value) (record { sets = s.sets; posted = s.posted })) ∷ places os s.levels
  places_opened =
      let l : Level = record { sets = s.sets; posted = s.posted } in
      ap (λ q. place_of made q ∷ places os (l ∷ s.levels)) here
      ∙ ap (λ ps. ways (ways_of x (Some v) (values (drop k xs.value) ∷ tail_of r.value) l) ∷ ps) (sym (places_same os (length s.levels) s.levels (l ∷ s.levels) h (λ j m. sym (level_more j l s.levels m))))

-- ---- outcomes

pub goes_from : {s0 : State} {o p : Out} {n m : ℕ} {s : State} {os : List Open} {t : turn.Turn} → o ≡ p → Goes s0 p n s os m t → Goes s0 o n s os m t
goes_from e g = record { same = g.same; best = g.best; fewer = g.fewer; makes = chooses_from e g.makes; opens = g.opens; turn = g.turn }

-- what was before may be any state of the same core and best value
pub goes_since : {s0 s1 : State} {o : Out} {n m : ℕ} {s : State} {os : List Open} {t : turn.Turn} → s1.core ≡ s0.core → s1.best ≡ s0.best → Goes s1 o n s os m t → Goes s0 o n s os m t
goes_since {s0 = s0} {s1 = s1} {s = s} {t = t} i j g = record { same = g.same ∙ i; best = g.best ∙ ap (λ k. best_at k s1.best s.sets t) i ∙ ap (λ b. best_at s0.core b s.sets t) j; fewer = g.fewer; makes = g.makes; opens = g.opens; turn = g.turn }

pub goes_same : {s0 : State} {o : Out} {s : State} {os : List Open} {t : turn.Turn} (n : ℕ) → s.core ≡ s0.core → s.best ≡ best_at s0.core s0.best s.sets t → o ≡ comes s os n t → AreOpen os (length s.levels) s.levels → IsTurn s t → Goes s0 o n s os n t
goes_same n i b e h k = record { same = i; best = b; fewer = omega arith; makes = chooses_same n e; opens = h; turn = k }

-- the best value stays where there is no answer
pub best_stays : (core : Core) (b : Option ℤ) (F : Family) (t : turn.Turn) → answer_of t ≡ None → best_at core b F t ≡ b
best_stays core b F (at.Down t) e = refl
best_stays core b F (at.At t) e = refl
best_stays core b F (at.Back) e = refl
best_stays core b F (at.Done a) e = cc

pub goes_on : {s0 : State} {o : Out} {n m k : ℕ} {s r : State} {os ps : List Open} {t u : turn.Turn} → answer_of t ≡ None → Goes s0 o n s os m t → Goes s (comes s os m t) m r ps k u → Goes s0 o n r ps k u
goes_on {s0 = s0} {n = n} {m = m} {k = k} {s = s} {t = t} e g h =
    let later = goes_since {s0 = s0} {s1 = s} g.same (g.best ∙ best_stays s0.core s0.best s.sets t e) h in
    record { same = later.same; best = later.best; fewer = omega (arith, g.fewer, h.fewer); makes = chooses_on n m k g.fewer h.fewer g.makes h.makes; opens = h.opens; turn = h.turn }

-- ---- the values of a variable

module _ (s : State) (os : List Open) (n x : ℕ) (last : Option ℤ) (ts : List plain.Task) where
  pub enter_none : left_values last (set_of s.sets x) ≡ [] → tries s os n x last ts ≡ comes s os n at.Back
  unfolding coming trying
  enter_none e = ap (λ vs. trying (objective s.core) (moment s.core) (map (λ v. on_value x v s.posted ts) vs) s.best n (places os s.levels)) e

  pub enter_spent : (v : ℤ) (more : List ℤ) → left_values last (set_of s.sets x) ≡ v ∷ more → n ≡ 0 → tries s os n x last ts ≡ comes s os n (at.Done step.Spent)
  unfolding coming
  enter_spent v more e z =
      ap (λ vs. trying (objective s.core) (moment s.core) (map (λ w. on_value x w s.posted ts) vs) s.best n (places os s.levels)) e
      ∙ ap (λ k. trying (objective s.core) (moment s.core) (map (λ w. on_value x w s.posted ts) (v ∷ more)) s.best k (places os s.levels)) z
      ∙ enters_none (objective s.core) (moment s.core) (on_value x v s.posted ts) (map (λ w. on_value x w s.posted ts) more) s.best (places os s.levels)

  -- a value is entered
  pub enter_taken : (v : ℤ) (m : ℕ) (t : State) (new : List Open) (tail : Tail) → left_values last (set_of s.sets x) ≡ v ∷ above v (set_of s.sets x) → n ≡ m + 1 → t ≡ posting (is_value x v) (opened s) →
      places new t.levels ≡ ways (ways_of x (Some v) ts (record { sets = s.sets; posted = s.posted })) ∷ places os s.levels → tail_of tail ≡ ts →
      tries s os n x last ts ≡ marked (choice (Some (x, v))) (comes t new m (at.Down tail))
  enter_taken v m t new tail e i j k l =
      let way : ℤ → Way = λ w. on_value x w s.posted ts in
      let up : n ≡ suc m = omega (arith, i) in
      ap (λ vs. trying (objective s.core) (moment s.core) (map way vs) s.best n (places os s.levels)) e
      ∙ ap (λ d. trying (objective s.core) (moment s.core) (map way (v ∷ above v (set_of s.sets x))) s.best d (places os s.levels)) up
      ∙ enters (objective s.core) (moment s.core) (way v) (map way (above v (set_of s.sets x))) s.best m (places os s.levels)
      ∙ ap (λ ps. marked (choice (Some (x, v))) (coming (objective s.core) (moment s.core) (c.Turn.down ts) (s.posted ++ is_value x v ∷ []) s.best m ps)) (sym k)
      ∙ ap (λ us. marked (choice (Some (x, v))) (coming (objective s.core) (moment s.core) (c.Turn.down us) (s.posted ++ is_value x v ∷ []) s.best m (places new t.levels))) (sym l)
      ∙ ap (λ u. marked (choice (Some (x, v))) (coming (objective u.core) (moment u.core) (c.Turn.down (tail_of tail)) u.posted u.best m (places new t.levels))) (sym j)

-- ---- going back

-- what going back to the place opened last gives
pub record Gone (s : State) (o : Open) (os : List Open) (n : ℕ) (t : State) : Type 0 where
  pub same : t.core ≡ s.core
  pub best : t.best ≡ s.best
  pub opens : AreOpen os (length t.levels) t.levels
  pub covers : Covers t.sets (values (o.variable ∷ drop o.place o.variables.value) ∷ tail_of o.rest.value)
  pub comes_to : comes s (o ∷ os) n at.Back ≡ tries t os n o.variable (Some o.last) (rest_of o)
  pub less : weight_back (places os t.levels) n < weight_back (places (o ∷ os) s.levels) n

module _ (s : State) (o : Open) (os : List Open) (n : ℕ) (h : AreOpen (o ∷ os) (length s.levels) s.levels) where
  gone_at : (q : Option Level) → level_at o.level s.levels ≡ q → IsOpen o q → Gone s o os n (with_level s o.level q)
  unfolding trying
  gone_at None e i = absurd i
  gone_at (Some l) e i =
      let low = lowest o.level s.levels in
      let long = length_lowest o.level s.levels h.0 in
      let same : (j : ℕ) → j < o.level → level_at j s.levels ≡ level_at j low = λ j m. sym (level_lowest j o.level s.levels m h.0) in
      let kept = places_same os o.level s.levels low h.2 same in
      record {
        same = refl;
        best = refl;
        opens = subst (λ k. AreOpen os k low) (sym long) (open_same os o.level s.levels low h.2 same);
        covers = i;
        comes_to = ap (λ q. coming (objective s.core) (moment s.core) c.Turn.back s.posted s.best n (place_of o q ∷ places os s.levels)) e
            ∙ back_tries (objective s.core) (moment s.core) (ways_of o.variable (Some o.last) (rest_of o) l) s.posted s.best n (places os s.levels)
            ∙ ap (trying (objective s.core) (moment s.core) (ways_of o.variable (Some o.last) (rest_of o) l) s.best n) kept;
        less = let w = ap (λ q. weight_back (place_of o q ∷ places os s.levels) n) e in let v = ap (λ ps. weight_back ps n) kept in omega (arith, w, v);
      }

  pub gone_back : (t : State) → t ≡ back_to o.level s → Gone s o os n t
  gone_back t e = subst (Gone s o os n) (sym e) (gone_at (level_at o.level s.levels) refl h.1)

pub back_ends : (s : State) (n : ℕ) (os new : List Open) → os ≡ [] → comes s os n at.Back ≡ comes s new n (at.Done step.End)
unfolding coming
back_ends s n os new e = ap (λ ps. coming (objective s.core) (moment s.core) c.Turn.back s.posted s.best n (places ps s.levels)) e

-- ---- at a moment

module _ (s : State) (os : List Open) (n : ℕ) where
  pub closes_failed : (tail : Tail) (F : Family) → moment s.core s.posted s.best ≡ None → comes s os n (at.Down tail) ≡ comes (with_sets F s) os n at.Back
  closes_failed tail F e = down_fails (objective s.core) (moment s.core) (tail_of tail) s.posted s.best n (places os s.levels) e

  module _ (e : IsMoment s) where
    pub labelled_all : (xs : List ℕ) (us : List plain.Task) (tail : Tail) → xs ≡ [] → tail_of tail ≡ us →
        coming (objective s.core) (moment s.core) (c.Turn.down (values xs ∷ us)) s.posted s.best n (places os s.levels) ≡ comes s os n (at.At tail)
    labelled_all xs us tail i j =
        ap (λ ys. coming (objective s.core) (moment s.core) (c.Turn.down (values ys ∷ us)) s.posted s.best n (places os s.levels)) i
        ∙ down_goes (objective s.core) (moment s.core) (values [] ∷ us) s.posted s.best n (places os s.levels) s.sets e (on s.posted us) (next_labelled s.sets s.posted n us)
        ∙ ap (λ ts. coming (objective s.core) (moment s.core) (c.Turn.down ts) s.posted s.best n (places os s.levels)) (sym j)

    pub labelled_single : (all xs : List ℕ) (x : ℕ) (us : List plain.Task) (tail : Tail) → all ≡ x ∷ xs → is_single s.sets x ≡ true → tail_of tail ≡ values xs ∷ us →
        coming (objective s.core) (moment s.core) (c.Turn.down (values all ∷ us)) s.posted s.best n (places os s.levels) ≡ comes s os n (at.At tail)
    labelled_single all xs x us tail i one j =
        ap (λ ys. coming (objective s.core) (moment s.core) (c.Turn.down (values ys ∷ us)) s.posted s.best n (places os s.levels)) i
        ∙ down_goes (objective s.core) (moment s.core) (values (x ∷ xs) ∷ us) s.posted s.best n (places os s.levels) s.sets e (on s.posted (values xs ∷ us)) (next_single s.sets s.posted n us x xs one)
        ∙ ap (λ ts. coming (objective s.core) (moment s.core) (c.Turn.down ts) s.posted s.best n (places os s.levels)) (sym j)

    pub labelled_values : (all xs : List ℕ) (x : ℕ) (us : List plain.Task) → all ≡ x ∷ xs → is_single s.sets x ≡ false →
        coming (objective s.core) (moment s.core) (c.Turn.down (values all ∷ us)) s.posted s.best n (places os s.levels) ≡ tries s os n x None (values xs ∷ us)
    labelled_values all xs x us i one =
        ap (λ ys. coming (objective s.core) (moment s.core) (c.Turn.down (values ys ∷ us)) s.posted s.best n (places os s.levels)) i
        ∙ down_chooses (objective s.core) (moment s.core) (values (x ∷ xs) ∷ us) s.posted s.best n (places os s.levels) s.sets e (map (λ v. on_value x v s.posted (values xs ∷ us)) (set_of s.sets x)) (next_values s.sets s.posted n us x xs one)

    whole_mode : (ps : List Open) → mode (places ps s.levels) ≡ whole
    whole_mode [] = refl
    whole_mode (o ∷ ps) = by_level (level_at o.level s.levels) (whole_mode ps)
      where
        by_level : (q : Option Level) → mode (places ps s.levels) ≡ whole → mode (place_of o q ∷ places ps s.levels) ≡ whole
        by_level None h = h
        by_level (Some l) h = h

    pub solves : coming (objective s.core) (moment s.core) (c.Turn.down []) s.posted s.best n (places os s.levels) ≡ comes (improved s) os n (at.Done step.Solution)
    solves = down_solves (objective s.core) (moment s.core) [] s.posted s.best n (places os s.levels) s.sets e refl (whole_mode os)

-- ---- answers

pub answer_is : (t : turn.Turn) (a : Step1) → answer_of t ≡ Some a → t ≡ at.Done a
answer_is (at.Down u) a e = cc
answer_is (at.At u) a e = cc
answer_is (at.Back) a e = cc
answer_is (at.Done b) a e = let i : b ≡ a = cc in ap at.Done i
