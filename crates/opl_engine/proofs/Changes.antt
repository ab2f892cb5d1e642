-- What each call makes of an engine.
use Rattle.std.proofs.Common.{◌≡◌, ◌∙◌, ◌≢◌, ℕ, suc, ◌+◌, ◌<◌, ◌≤◌, Bool, true, false, refl, List, [], ◌∷◌, ◌++◌, length, map, take, drop, set, reverse, ℤ, ap, sym, subst, arith}
use Rattle.std.specs.Prelude.{Option, Some, None, min, not, ◌-◌}
use Rattle.std.proofs.lemmas.List.{length-append, length-take, reverse-append}
use Rattle.opl_domain.specs.Family.{Family, IsFamily, Below}
use Rattle.opl_expr.specs.declared.model.Core.{Core}
use Rattle.opl_expr.specs.Forms.{Fact}
use Rattle.opl_expr.specs.Solutions.{declared}
use Rattle.opl_trace.specs.Closure.{closure}
use Rattle.opl_trace.specs.Moments.{core_sets}
use Rattle.opl_trace.specs.Removals.{Kept}
use Rattle.opl_filter.specs.declared.outcome.Outcome.{Outcome}
use Rattle.opl_filter.specs.declared.outcome.Outcome.TheVariants as outcome
use Rattle.opl_closure.specs.Waits.{waits}
use Rattle.opl_closure.specs.Members as propagation
use Rattle.opl_closure.specs.Members.{refutes_one, Each, WaitOrAreStable}
use Rattle.opl_engine.specs.declared.member.Member.{Member}
use Rattle.opl_engine.specs.declared.member.Member.TheVariants as member
use Rattle.opl_engine.specs.declared.opening.Opening.{Opening}
use Rattle.opl_trail.specs.Levels.{Levels}
use Rattle.opl_notes.specs.Noted.{Knows, Tells}
use Rattle.opl_engine.specs.Members.{fact_of, means_member, means_members, IsMember}
use Rattle.opl_engine.specs.Crowds.{Crowd, kind_of}
use Rattle.opl_engine.specs.Engines.{IsBounded, IsEngine, IsBase}
use Rattle.opl_engine.specs.States.{Level, State, Parts, seen, posted_below, closed_after, SameBeside, CanClose, Closes, Fits, state_of, level_of, AreOpenings}
use Rattle.opl_engine.proofs.Lists.{length_map, take_all, map_added, map_take, drop_added, map_set_first, drop_set, levels_added, levels_kept, levels_set, openings_more}
use Rattle.opl_engine.proofs.Made.{some_members, bounded_added, bounded_taken, bounded_set, bounded_worked, bounded_facts, made_added}
use Rattle.opl_engine.proofs.Crowds.{each_taken, each_set}
use Rattle.opl_engine.proofs.Fitting.{fits_added, fits_better, fits_opened, fits_closed, fits_narrowed, fits_new}
use Rattle.opl_engine.proofs.Noting.{knows_of}
use Rattle.opl_engine.proofs.Holding.{kept_from, holds_from, moment_from}

module _ (core : Core) where
  -- the state of an engine with these members and openings
  abbrev state : Option ℤ → Crowd → List Opening → State
  state best crowd os = state_of core best (map (fact_of core) crowd.members) os crowd

  abbrev state_with : Option ℤ → List Fact → List Level → Crowd → State
  state_with best P levels k = record { core = core; best = best; posted = P; levels = levels; waits = k.waits; crowd = k.members; notes = k.notes }

  abbrev facts : Crowd → List Fact
  facts crowd = map (fact_of core) crowd.members

  same_state : (best : Option ℤ) (P Q : List Fact) (ls ms : List Level) (k : Crowd) → P ≡ Q → ls ≡ ms → ◌≡◌ {A = State} (state_with best P ls k) (state_with best Q ms k)
  same_state best P Q ls ms k e h = ap (λ R. state_with best R ls k) e ∙ ap (λ ks. state_with best Q ks k) h

  posted_length : (best : Option ℤ) (crowd : Crowd) → IsBounded core best crowd.members → suc (length (drop 1 (facts crowd))) ≡ length crowd.members
  posted_length best crowd b = sym (ap length (bounded_facts core best crowd.members b)) ∙ length_map (fact_of core) crowd.members

  -- ---- one more member

  pub record Posts (old new : State) (c : Fact) : Type 0 where
    pub posted : new.posted ≡ old.posted ++ c ∷ []
    pub same : SameBeside old new
    pub fits : (F : Family) (below : List Family) → Fits old F below → Fits new F below

  abbrev grown : Crowd → Member → Crowd
  grown crowd m = record { variables = crowd.variables; members = crowd.members ++ m ∷ []; waits = crowd.waits ++ true ∷ []; notes = crowd.notes }

  added_state : (best : Option ℤ) (crowd more : Crowd) (os : List Opening) (m : Member) → IsEngine core best crowd os → more ≡ record crowd { members = crowd.members ++ m ∷ []; waits = crowd.waits ++ true ∷ [] } →
      state best more os ≡ state_with best (drop 1 (facts crowd) ++ fact_of core m ∷ []) (map (level_of (facts crowd)) os) (grown crowd m)
  added_state best crowd more os m i e =
      let n : length (facts crowd) ≡ length crowd.members = length_map (fact_of core) crowd.members in
      let l = some_members core best crowd.members i.bounded in
      let f = map_added (fact_of core) crowd.members m in
      ap (λ d. state best d os) e
      ∙ same_state best _ _ _ _ (grown crowd m)
      (ap (drop 1) f ∙ drop_added (facts crowd) (fact_of core m ∷ []) (omega (arith, l, n)))
      (ap (λ fs. map (level_of fs) os) f ∙ levels_added (facts crowd) (fact_of core m ∷ []) (length crowd.members) os (omega (arith, n)) i.levels)

  pub posts : (best : Option ℤ) (crowd more : Crowd) (os : List Opening) (m : Member) (old : State) → IsEngine core best crowd os → state best crowd os ≡ old → more ≡ record crowd { members = crowd.members ++ m ∷ []; waits = crowd.waits ++ true ∷ [] } → length crowd.waits ≡ length crowd.members → ((facts : ℕ → Fact) (n : ℕ) → means_member core m facts n) → Posts old (state best more os) (fact_of core m)
  posts best crowd more os m old i s e l g =
      let t = added_state best crowd more os m i e in
      subst (λ z. Posts z (state best more os) (fact_of core m)) s (subst (λ z. Posts (state best crowd os) z (fact_of core m)) (sym t) (record {
        posted = refl;
        same = record { core = refl; best = refl; levels = refl };
        fits = λ F below h. fits_added core best (drop 1 (facts crowd)) (map (level_of (facts crowd)) os) crowd.waits (fact_of core m) crowd.members m crowd.notes F below (l ∙ sym (posted_length best crowd i.bounded)) g h;
      }))

  pub posts_keep : (best : Option ℤ) (crowd more : Crowd) (os : List Opening) (m : Member) → IsEngine core best crowd os → IsMember core m → more ≡ record crowd { members = crowd.members ++ m ∷ []; waits = crowd.waits ++ true ∷ [] } → IsEngine core best more os
  posts_keep best crowd more os m i s e = subst (λ d. IsEngine core best d os) (sym e) (record {
    few = i.few;
    bounded = bounded_added core best crowd.members m i.bounded;
    variables = i.variables;
    made = made_added core crowd.members m i.made s;
    levels = openings_more (length crowd.members) (length (crowd.members ++ m ∷ [])) os (omega (arith, length-append crowd.members (m ∷ []))) i.levels;
    notes = i.notes;
  })

  -- ---- another best value

  pub record Betters (best : Option ℤ) (old new : State) : Type 0 where
    pub best_is : new.best ≡ best
    pub core_is : new.core ≡ old.core
    pub posted : new.posted ≡ old.posted
    pub levels : new.levels ≡ old.levels
    pub fits : (F : Family) (below : List Family) → Fits old F below → Fits new F below

  abbrev replaced : Crowd → Member → Crowd
  replaced crowd m = record { variables = crowd.variables; members = set crowd.members 0 m; waits = set crowd.waits 0 true; notes = crowd.notes }

  abbrev crowd_with : ℕ → List Member → List Bool → Levels → Crowd
  crowd_with n ms w ns = record { variables = n; members = ms; waits = w; notes = ns }

  set_state : (best more : Option ℤ) (crowd next : Crowd) (os : List Opening) (m : Member) → next.members ≡ set crowd.members 0 m → next.waits ≡ set crowd.waits 0 true → next.notes ≡ crowd.notes →
      state more next os ≡ state_with more (drop 1 (facts crowd)) (map (level_of (facts crowd)) os) (replaced crowd m)
  set_state best more crowd next os m e w z =
      let f = ap (map (fact_of core)) e ∙ map_set_first (fact_of core) crowd.members m in
      same_state more _ _ _ _ next (ap (drop 1) f ∙ drop_set (facts crowd) (fact_of core m)) (ap (λ fs. map (level_of fs) os) f ∙ levels_set (facts crowd) (fact_of core m) os)
      ∙ ap (λ ms. state_with more (drop 1 (facts crowd)) (map (level_of (facts crowd)) os) (crowd_with crowd.variables ms next.waits next.notes)) e
      ∙ ap (λ v. state_with more (drop 1 (facts crowd)) (map (level_of (facts crowd)) os) (crowd_with crowd.variables (set crowd.members 0 m) v next.notes)) w
      ∙ ap (λ ns. state_with more (drop 1 (facts crowd)) (map (level_of (facts crowd)) os) (crowd_with crowd.variables (set crowd.members 0 m) (set crowd.waits 0 true) ns)) z

  pub betters : (best more : Option ℤ) (crowd next : Crowd) (os : List Opening) (old : State) (i : IsEngine core best crowd os) → state best crowd os ≡ old → next.members ≡ set crowd.members 0 (member.Bound more i.bounded.variables i.bounded.form) → next.waits ≡ set crowd.waits 0 true → next.notes ≡ crowd.notes → length crowd.waits ≡ length crowd.members → Betters more old (state more next os)
  betters best more crowd next os old i s e w z l =
      let t = set_state best more crowd next os (member.Bound more i.bounded.variables i.bounded.form) e w z in
      subst (λ z. Betters more z (state more next os)) s (subst (λ z. Betters more (state best crowd os) z) (sym t) (record {
        best_is = refl;
        core_is = refl;
        posted = refl;
        levels = refl;
        fits = λ F below h. fits_better core best more (drop 1 (facts crowd)) (map (level_of (facts crowd)) os) crowd.waits crowd.members (member.Bound more i.bounded.variables i.bounded.form) crowd.notes F below (omega (arith, l, some_members core best crowd.members i.bounded)) (λ fs n. tt) h;
      }))

  pub betters_keep : (best more : Option ℤ) (crowd next : Crowd) (os : List Opening) (i : IsEngine core best crowd os) → next.members ≡ set crowd.members 0 (member.Bound more i.bounded.variables i.bounded.form) → next.variables ≡ crowd.variables → next.notes ≡ crowd.notes → IsMember core (member.Bound more i.bounded.variables i.bounded.form) → length next.members ≡ length crowd.members → IsEngine core more next os
  betters_keep best more crowd next os i e v z m l = record {
    few = i.few;
    bounded = subst (IsBounded core more) (sym e) (bounded_set core best more crowd.members i.bounded);
    variables = v ∙ i.variables;
    made = subst (Each (λ j a. IsMember core a)) (sym e) (each_set (IsMember core) crowd.members (member.Bound more i.bounded.variables i.bounded.form) i.made m);
    levels = subst (λ n. AreOpenings n os) (sym l) i.levels;
    notes = ap (λ (ns : Levels). length ns.below) z ∙ i.notes;
  }

  -- ---- a level is opened

  pub unless : (b : Bool) → not b ≡ true → b ≡ false
  unless true h = cc
  unless false h = refl

  pub reverse_last : {A : Type 0} (xs : List A) (x : A) → reverse (xs ++ x ∷ []) ≡ x ∷ reverse xs
  reverse_last xs x = reverse-append xs (x ∷ [])

  pub record Opens (old new : State) : Type 0 where
    pub core_is : new.core ≡ old.core
    pub best_is : new.best ≡ old.best
    pub posted : new.posted ≡ old.posted
    pub below_is : posted_below new ≡ old.posted ∷ posted_below old
    pub fits : (F : Family) (below : List Family) → Fits old F below → Fits new F (F ∷ below)

  abbrev level_with : List Fact → Bool → Bool → Option ℤ → Level
  level_with P calm bounded best = record { posted = P; calm = calm; bounded = bounded; best = best }

  -- the notes have one level more
  abbrev pub deeper : Crowd → Crowd
  deeper crowd = record { variables = crowd.variables; members = crowd.members; waits = crowd.waits; notes = record { top = crowd.notes.top; below = crowd.notes.top ∷ crowd.notes.below } }

  pub opens : (best : Option ℤ) (crowd next : Crowd) (os ps : List Opening) (n : ℕ) (calm bounded : Bool) (old : State) → state best crowd os ≡ old → next ≡ deeper crowd → n ≡ length crowd.members → ps ≡ record { members = n; calm = calm; bounded = bounded; best = best } ∷ os →
      (calm ≡ true → (i : ℕ) → i ≢ 0 → waits crowd.waits i ≡ false) → (bounded ≡ true → waits crowd.waits 0 ≡ false) → Opens old (state best next ps)
  opens best crowd next os ps n calm bounded old s d l e c b =
      let P = drop 1 (facts crowd) in
      let f : level_of (facts crowd) (record { members = n; calm = calm; bounded = bounded; best = best }) ≡ record { posted = P; calm = calm; bounded = bounded; best = best } =
      ap (λ fs. level_with (drop 1 fs) calm bounded best) (take_all n (facts crowd) (l ∙ sym (length_map (fact_of core) crowd.members))) in
      let t : state best next ps ≡ state_with best P (record { posted = P; calm = calm; bounded = bounded; best = best } ∷ map (level_of (facts crowd)) os) (deeper crowd) =
      ap (λ k. state best k ps) d ∙ ap (state best (deeper crowd)) e ∙ ap (λ k. state_with best P (k ∷ map (level_of (facts crowd)) os) (deeper crowd)) f in
      subst (λ z. Opens z (state best next ps)) s (subst (λ z. Opens (state best crowd os) z) (sym t) (record {
        core_is = refl;
        best_is = refl;
        posted = refl;
        below_is = refl;
        fits = λ F below h. fits_opened core best P (map (level_of (facts crowd)) os) crowd.waits calm bounded crowd.members crowd.notes F below c b h;
      }))

  pub opens_keep : (best : Option ℤ) (crowd next : Crowd) (os ps : List Opening) (o : Opening) → IsEngine core best crowd os → next ≡ deeper crowd → o.members ≡ length crowd.members → ps ≡ o ∷ os → IsEngine core best next ps
  opens_keep best crowd next os ps o i d l e = subst (λ k. IsEngine core best k ps) (sym d) (subst (IsEngine core best (deeper crowd)) (sym e) (record {
    few = i.few;
    bounded = i.bounded;
    variables = i.variables;
    made = i.made;
    levels = (omega (arith, l, some_members core best crowd.members i.bounded), omega (arith, l), subst (λ n. AreOpenings n os) (sym l) i.levels);
    notes = ap suc i.notes;
  }))

  -- ---- a level is closed

  pub record ClosesLevel (old new : State) : Type 0 where
    pub core_is : new.core ≡ old.core
    pub best_is : new.best ≡ old.best
    pub below_is : posted_below old ≡ new.posted ∷ posted_below new
    pub fits : (F G : Family) (below : List Family) → Fits old F (G ∷ below) → Fits new G below

  plus_one : (j : ℕ) → j + 1 ≡ suc j
  plus_one j = omega arith

  dropped : (xs : List Fact) → length (drop 1 xs) ≡ length xs - 1
  dropped [] = omega arith
  dropped (x ∷ xs) = omega arith

  taken_length : (n : ℕ) (xs : List Fact) → 1 ≤ n → n ≤ length xs → suc (length (drop 1 (take n xs))) ≡ n
  taken_length n xs l m = omega (arith, length-take n xs, dropped (take n xs), l, m)

  suc_plus : (i n : ℕ) → i < n → (m : ℕ) → suc n ≡ m → i + 1 < m
  suc_plus i n l m e = omega (arith, l, e)

  pub closes_level : (best : Option ℤ) (crowd next : Crowd) (o : Opening) (os ps : List Opening) (old : State) → IsEngine core best crowd ps → state best crowd ps ≡ old → ps ≡ o ∷ os → next.members ≡ take o.members crowd.members → crowd.notes.below ≡ next.notes.top ∷ next.notes.below →
      ((i : ℕ) → i + 1 < o.members → waits next.waits (i + 1) ≡ false → o.calm ≡ true) → (waits next.waits 0 ≡ false → (o.bounded ≡ true) × (o.best ≡ best)) → ClosesLevel old (state best next os)
  closes_level best crowd next o os ps old i s p e z c b =
      let fs = facts crowd in
      let a : AreOpenings (length crowd.members) (o ∷ os) = subst (AreOpenings (length crowd.members)) p i.levels in
      let f : facts next ≡ take o.members fs = ap (map (fact_of core)) e ∙ map_take (fact_of core) o.members crowd.members in
      let l = level_of fs o in
      let ls = map (level_of fs) os in
      let taken = crowd_with next.variables (take o.members crowd.members) next.waits next.notes in
      let t : state best next os ≡ state_with best l.posted ls taken =
      same_state best _ _ _ _ next (ap (drop 1) f) (ap (λ gs. map (level_of gs) os) f ∙ levels_kept fs o.members os a.2)
      ∙ ap (λ ms. state_with best l.posted ls (crowd_with next.variables ms next.waits next.notes)) e in
      let u : state best crowd ps ≡ state_with best (drop 1 fs) (l ∷ ls) crowd = ap (state best crowd) p in
      let n : suc (length l.posted) ≡ o.members = taken_length o.members fs a.0 (omega (arith, a.1, length_map (fact_of core) crowd.members)) in
      subst (λ z. ClosesLevel z (state best next os)) (sym u ∙ s) (subst (λ z. ClosesLevel (state_with best (drop 1 fs) (l ∷ ls) crowd) z) (sym t) (record {
        core_is = refl;
        best_is = refl;
        below_is = refl;
        fits = λ F G below h. fits_closed core best (drop 1 fs) l ls crowd.waits next.waits crowd.members o.members crowd.notes next.notes F G below z (λ j k q. c j (suc_plus j (length l.posted) k o.members n) (ap (waits next.waits) (plus_one j) ∙ q)) b h;
      }))

  least_of_two : (a b : ℕ) → a ≤ b → min a b ≡ a
  least_of_two a b l = omega arith

  one_less : (a b : ℕ) → suc a ≡ suc b → a ≡ b
  one_less a b e = omega (arith, e)

  pub closes_level_keep : (best : Option ℤ) (crowd next : Crowd) (o : Opening) (os ps : List Opening) → IsEngine core best crowd ps → ps ≡ o ∷ os → next.members ≡ take o.members crowd.members → next.variables ≡ crowd.variables → crowd.notes.below ≡ next.notes.top ∷ next.notes.below → IsEngine core best next os
  closes_level_keep best crowd next o os ps i p e v z =
      let a : AreOpenings (length crowd.members) (o ∷ os) = subst (AreOpenings (length crowd.members)) p i.levels in
      let n : length next.members ≡ o.members = ap length e ∙ length-take o.members crowd.members ∙ least_of_two o.members (length crowd.members) a.1 in
      record {
        few = i.few;
        bounded = subst (IsBounded core best) (sym e) (bounded_taken core best crowd.members o.members a.0 i.bounded);
        variables = v ∙ i.variables;
        made = subst (Each (λ j m. IsMember core m)) (sym e) (each_taken (IsMember core) o.members crowd.members i.made);
        levels = subst (λ k. AreOpenings k os) (sym n) a.2;
        notes = one_less (length next.notes.below) (length os) (sym (ap length z) ∙ i.notes ∙ ap length p);
      }

  -- ---- propagation

  pub worked_keep : (best : Option ℤ) (crowd next : Crowd) (os : List Opening) → IsEngine core best crowd os → facts next ≡ facts crowd → map kind_of next.members ≡ map kind_of crowd.members → Each (λ j m. IsMember core m) next.members → next.variables ≡ crowd.variables → next.notes.below ≡ crowd.notes.below → IsEngine core best next os
  worked_keep best crowd next os i f k m v z =
      let n : length next.members ≡ length crowd.members = sym (length_map (fact_of core) next.members) ∙ ap length f ∙ length_map (fact_of core) crowd.members in
      record {
        few = i.few;
        bounded = bounded_worked core best crowd.members next.members k f i.bounded;
        variables = v ∙ i.variables;
        made = m;
        levels = subst (λ a. AreOpenings a os) (sym n) i.levels;
        notes = ap length z ∙ i.notes;
      }

  pub worked_state : (best : Option ℤ) (crowd next : Crowd) (os : List Opening) → facts next ≡ facts crowd → state best next os ≡ state_with best (drop 1 (facts crowd)) (map (level_of (facts crowd)) os) next
  worked_state best crowd next os f = same_state best _ _ _ _ next (ap (drop 1) f) (ap (λ fs. map (level_of fs) os) f)

  -- ---- closing

  pub notes_of : (best : Option ℤ) (crowd : Crowd) (os : List Opening) (old : State) (F : Family) (below : List Family) → state best crowd os ≡ old → Fits old F below → Knows (means_members core crowd.members) crowd.notes.top F
  notes_of best crowd os old F below s f = knows_of core crowd.members crowd.notes F below ((subst (λ z. Fits z F below) (sym s) f).notes)

  pub wait_of : (best : Option ℤ) (crowd : Crowd) (os : List Opening) (old : State) (F : Family) (below : List Family) → IsEngine core best crowd os → state best crowd os ≡ old → Fits old F below → WaitOrAreStable (facts crowd) crowd.waits F
  wait_of best crowd os old F below i s f =
      subst (λ ms. WaitOrAreStable ms crowd.waits F) (sym (bounded_facts core best crowd.members i.bounded)) ((subst (λ z. Fits z F below) (sym s) f).wait)

  pub within_of : (best : Option ℤ) (crowd : Crowd) (os : List Opening) (old : State) (F : Family) (below : List Family) → state best crowd os ≡ old → Fits old F below → Below F (declared core)
  within_of best crowd os old F below s f = (subst (λ z. Fits z F below) (sym s) f).within

  pub kept_of : (best : Option ℤ) (crowd : Crowd) (os : List Opening) (old : State) (F : Family) → IsEngine core best crowd os → state best crowd os ≡ old → IsFamily F → CanClose old F → Kept (refutes_one (facts crowd)) (declared core) F
  kept_of best crowd os old F i s f c =
      subst (λ ms. Kept (refutes_one ms) (declared core) F) (sym (bounded_facts core best crowd.members i.bounded)) (kept_from core (drop 1 (facts crowd)) best F f (subst (λ z. CanClose z F) (sym s) c))

  pub can_of : (best : Option ℤ) (crowd : Crowd) (os : List Opening) (old : State) (G : Family) → IsEngine core best crowd os → state best crowd os ≡ old → Kept (refutes_one (facts crowd)) (declared core) G → CanClose old G
  can_of best crowd os old G i s k =
      subst (λ z. CanClose z G) s (holds_from core (drop 1 (facts crowd)) best G (subst (λ ms. Kept (refutes_one ms) (declared core) G) (bounded_facts core best crowd.members i.bounded) k))

  pub moment_of : (best : Option ℤ) (crowd : Crowd) (os : List Opening) (old : State) (o : Option Family) → IsEngine core best crowd os → state best crowd os ≡ old → closure (refutes_one (facts crowd)) (declared core) ≡ o → core_sets old.core old.posted old.best ≡ o
  moment_of best crowd os old o i s h =
      subst (λ (z : State). core_sets z.core z.posted z.best ≡ o) s (moment_from core (drop 1 (facts crowd)) best o (subst (λ ms. closure (refutes_one ms) (declared core) ≡ o) (bounded_facts core best crowd.members i.bounded) h))

  pub closes_of : (best : Option ℤ) (crowd : Crowd) (os : List Opening) (old : State) (G : Family) (o : Outcome) → IsEngine core best crowd os → state best crowd os ≡ old → propagation.Closes (refutes_one (facts crowd)) (declared core) G o → Closes old.core old.posted old.best G (closed_after o)
  closes_of best crowd os old G outcome.Stable i s h = moment_of best crowd os old (Some G) i s h
  closes_of best crowd os old G outcome.Failed i s h = moment_of best crowd os old None i s h

  pub record Works (old new : State) (F G : Family) : Type 0 where
    pub same : SameBeside old new
    pub posted : new.posted ≡ old.posted
    pub fits : (below : List Family) → Fits old F below → Fits new G below

  pub works : (best : Option ℤ) (crowd next : Crowd) (os : List Opening) (old : State) (F G : Family) → IsEngine core best crowd os → state best crowd os ≡ old → facts next ≡ facts crowd → WaitOrAreStable (facts crowd) next.waits G → Tells (means_members core crowd.members) crowd.notes F next.notes G → ((fs : ℕ → Fact) (n : ℕ) → means_members core crowd.members fs n → means_members core next.members fs n) → CanClose old G → Works old (state best next os) F G
  works best crowd next os old F G i s f w y m c =
      let t = worked_state best crowd next os f in
      let v = subst (λ ms. WaitOrAreStable ms next.waits G) (bounded_facts core best crowd.members i.bounded) w in
      let b = (subst (λ z. CanClose z G) (sym s) c).within in
      subst (λ z. Works z (state best next os) F G) s (subst (λ z. Works (state best crowd os) z F G) (sym t) (record {
        same = record { core = refl; best = refl; levels = refl };
        posted = refl;
        fits = λ below h. fits_narrowed core best (drop 1 (facts crowd)) (map (level_of (facts crowd)) os) crowd.waits next.waits crowd.members next.members crowd.notes next.notes F G below b y m v h;
      }))

  -- ---- a new engine

  pub begins : (crowd : Crowd) → IsBase core crowd → IsEngine core None crowd []
  begins crowd b = record { few = b.few; bounded = b.grown.bounded; variables = b.grown.variables; made = b.grown.made; levels = tt; notes = ap (λ (ns : Levels). length ns.below) b.placed.notes }

  pub begins_fit : (crowd : Crowd) (F : Family) → IsBase core crowd → Below F (declared core) → Fits (state None crowd []) F []
  begins_fit crowd F b w =
      let n = posted_length None crowd b.grown.bounded in
      fits_new core None (drop 1 (facts crowd)) crowd F b.placed w (λ i l. b.waiting i (omega (arith, l, n)))

-- ---- nothing has changed

abbrev pub parts : Core → Option ℤ → Crowd → List Opening → Parts
parts core best crowd os = record { core = core; best = best; crowd = crowd; openings = os }

pub record Stays (old new : Parts) : Type 0 where
  pub is : new ≡ old
  pub same : SameBeside (seen old) (seen new)
  pub fits : (F : Family) (below : List Family) → Fits (seen old) F below → Fits (seen new) F below

pub stays : (core : Core) (best : Option ℤ) (crowd next : Crowd) (os : List Opening) (old : Parts) → next ≡ crowd → parts core best crowd os ≡ old → Stays old (parts core best next os)
stays core best crowd next os old e s =
    let i : parts core best next os ≡ old = ap (λ k. parts core best k os) e ∙ s in
    subst (λ z. Stays old z) (sym i) (record { is = refl; same = record { core = refl; best = refl; levels = refl }; fits = λ F below h. h })

pub stays_engine : (core : Core) (best : Option ℤ) (crowd next : Crowd) (os : List Opening) → next ≡ crowd → IsEngine core best crowd os → IsEngine core best next os
stays_engine core best crowd next os e i = subst (λ k. IsEngine core best k os) (sym e) i
