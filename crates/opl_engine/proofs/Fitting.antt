-- When an engine fits sets.
use Rattle.std.proofs.Common.{◌≡◌, ◌∙◌, ◌≢◌, ℕ, zero, suc, ◌<◌, Bool, true, false, ◌||◌, refl, List, [], ◌∷◌, ◌++◌, length, set, take, ℤ, ap, sym, subst, arith}
use Rattle.std.specs.Prelude.{Option, nat_eq}
use Rattle.std.proofs.lemmas.Bool.Decides.{nat_tests}
use Rattle.std.proofs.lemmas.List.{get_or-set_same, get_or-set_other, length-append}
use Rattle.opl_domain.specs.Family.{Family, Below}
use Rattle.opl_expr.specs.declared.model.Core.{Core}
use Rattle.opl_expr.specs.Forms.{Fact}
use Rattle.opl_expr.specs.Solutions.{declared}
use Rattle.opl_trace.specs.Marks.{objective}
use Rattle.opl_trace.specs.Stable.{IsStable}
use Rattle.opl_filter.specs.Filtering.{refutes}
use Rattle.opl_closure.specs.Waits.{waits}
use Rattle.opl_closure.specs.Members.{WaitOrAreStable}
use Rattle.opl_closure.proofs.Queues.{pushed_waits}
use Rattle.opl_trail.specs.Levels.{Levels}
use Rattle.opl_notes.specs.Noted.{Tells}
use Rattle.opl_engine.specs.declared.member.Member.{Member}
use Rattle.opl_engine.specs.Crowds.{Crowd}
use Rattle.opl_engine.specs.Engines.{HasPlaces}
use Rattle.opl_engine.specs.Members.{bound_fact, means_member, means_members}
use Rattle.opl_engine.specs.States.{Level, Fits}
use Rattle.opl_engine.proofs.Lists.{the_one, there, get_first}
use Rattle.opl_engine.proofs.Noting.{notes_added, notes_set, notes_opened, notes_closed, notes_new, notes_narrowed}

pub not_false : (b : Bool) → b ≡ true → b ≡ false → ⊥
not_false b h k = cc

or_parts : (a b : Bool) → (a || b) ≡ false → (a ≡ false) × (b ≡ false)
or_parts true b h = cc
or_parts false b h = (refl, h)

-- one more member, who waits
wait_added : (ms : List Fact) (c : Fact) (w : List Bool) (F : Family) → length w ≡ length ms → WaitOrAreStable ms w F → WaitOrAreStable (ms ++ c ∷ []) (w ++ true ∷ []) F
wait_added ms c w F e h i d g q =
    let p = or_parts (waits w i) (nat_eq i (length w)) (sym (pushed_waits w i) ∙ q) in
    let n : i ≢ length w = λ s. let t : nat_eq i (length w) ≡ true = grind (arith, nat_tests) in not_false (nat_eq i (length w)) t p.1 in
    let l : i < length ms = omega (arith, there (ms ++ c ∷ []) i d g, length-append ms (c ∷ []), n, e) in
    h i d (sym (get_first ms (c ∷ []) i l) ∙ g) p.0

pub fits_added : (core : Core) (best : Option ℤ) (P : List Fact) (levels : List Level) (w : List Bool) (c : Fact) (ms : List Member) (m : Member) (ns : Levels) (F : Family) (below : List Family) → length w ≡ suc (length P) → ((facts : ℕ → Fact) (n : ℕ) → means_member core m facts n) →
    Fits (record { core = core; best = best; posted = P; levels = levels; waits = w; crowd = ms; notes = ns }) F below →
    Fits (record { core = core; best = best; posted = P ++ c ∷ []; levels = levels; waits = w ++ true ∷ []; crowd = ms ++ m ∷ []; notes = ns }) F below
fits_added core best P levels w c ms m ns F below e h f = record {
  within = f.within;
  wait = wait_added (bound_fact (objective core) best ∷ P) c w F e f.wait;
  levels = f.levels;
  notes = notes_added core ms m ns F below h f.notes;
}

-- another bound, who waits
wait_bound : (b c : Fact) (P : List Fact) (w : List Bool) (F : Family) → 0 < length w → WaitOrAreStable (b ∷ P) w F → WaitOrAreStable (c ∷ P) (set w 0 true) F
wait_bound b c P w F l h zero d g q = absurd (not_false (waits (set w 0 true) 0) (get_or-set_same w 0 true false l) q)
wait_bound b c P w F l h (suc i) d g q = h (suc i) d g (sym (get_or-set_other w 0 (suc i) true false (λ e. omega (arith, e))) ∙ q)

pub fits_better : (core : Core) (best more : Option ℤ) (P : List Fact) (levels : List Level) (w : List Bool) (ms : List Member) (m : Member) (ns : Levels) (F : Family) (below : List Family) → 0 < length w → ((facts : ℕ → Fact) (n : ℕ) → means_member core m facts n) →
    Fits (record { core = core; best = best; posted = P; levels = levels; waits = w; crowd = ms; notes = ns }) F below →
    Fits (record { core = core; best = more; posted = P; levels = levels; waits = set w 0 true; crowd = set ms 0 m; notes = ns }) F below
fits_better core best more P levels w ms m ns F below l h f = record {
  within = f.within;
  wait = wait_bound (bound_fact (objective core) best) (bound_fact (objective core) more) P w F l f.wait;
  levels = f.levels;
  notes = notes_set core ms m ns F below h f.notes;
}

-- a level is opened over the same sets
pub fits_opened : (core : Core) (best : Option ℤ) (P : List Fact) (levels : List Level) (w : List Bool) (calm bounded : Bool) (ms : List Member) (ns : Levels) (F : Family) (below : List Family) →
    (calm ≡ true → (i : ℕ) → i ≢ 0 → waits w i ≡ false) → (bounded ≡ true → waits w 0 ≡ false) →
    Fits (record { core = core; best = best; posted = P; levels = levels; waits = w; crowd = ms; notes = ns }) F below →
    Fits (record { core = core; best = best; posted = P; levels = record { posted = P; calm = calm; bounded = bounded; best = best } ∷ levels; waits = w; crowd = ms; notes = record { top = ns.top; below = ns.top ∷ ns.below } }) F (F ∷ below)
fits_opened core best P levels w calm bounded ms ns F below c b f = record {
  within = f.within;
  wait = f.wait;
  levels = (
    record {
      within = f.within;
      calm = λ h i d g. f.wait (suc i) d g (c h (suc i) (λ e. omega (arith, e)));
      bounded = λ h. f.wait 0 (bound_fact (objective core) best) refl (b h);
    },
    f.levels,
  );
  notes = notes_opened core ms ns F below f.notes;
}

-- a level is closed: of its members those wait who may not be stable
pub fits_closed : (core : Core) (best : Option ℤ) (P : List Fact) (l : Level) (levels : List Level) (v w : List Bool) (ms : List Member) (k : ℕ) (ns new : Levels) (F G : Family) (below : List Family) → ns.below ≡ new.top ∷ new.below →
    ((i : ℕ) → i < length l.posted → waits w (suc i) ≡ false → l.calm ≡ true) →
    (waits w 0 ≡ false → (l.bounded ≡ true) × (l.best ≡ best)) →
    Fits (record { core = core; best = best; posted = P; levels = l ∷ levels; waits = v; crowd = ms; notes = ns }) F (G ∷ below) →
    Fits (record { core = core; best = best; posted = l.posted; levels = levels; waits = w; crowd = take k ms; notes = new }) G below
fits_closed core best P l levels v w ms k ns new F G below e c b f = record {
  within = f.levels.0.within;
  wait = closed;
  levels = f.levels.1;
  notes = notes_closed core ms k ns new F G below e f.notes;
}
  where
    closed : WaitOrAreStable (bound_fact (objective core) best ∷ l.posted) w G
    closed zero d g q =
        let r = b q in
        let k = f.levels.0.bounded r.0 in
        let e : bound_fact (objective core) l.best ≡ d = ap (bound_fact (objective core)) r.1 ∙ the_one (bound_fact (objective core) best) d g in
        subst (λ m. IsStable (refutes m) G) e k
    closed (suc i) d g q = f.levels.0.calm (c i (there l.posted i d g) q) i d g

-- no level is open, and everybody waits
pub fits_new : (core : Core) (best : Option ℤ) (P : List Fact) (crowd : Crowd) (F : Family) → HasPlaces core crowd → Below F (declared core) → ((i : ℕ) → i < suc (length P) → waits crowd.waits i ≡ true) →
    Fits (record { core = core; best = best; posted = P; levels = []; waits = crowd.waits; crowd = crowd.members; notes = crowd.notes }) F []
fits_new core best P crowd F p b h = record {
  within = b;
  wait = λ i d g q. absurd (not_false (waits crowd.waits i) (h i (there (bound_fact (objective core) best ∷ P) i d g)) q);
  levels = tt;
  notes = notes_new core crowd F p;
}

-- sets are narrowed, and whoever doesn't wait is stable
pub fits_narrowed : (core : Core) (best : Option ℤ) (P : List Fact) (levels : List Level) (v w : List Bool) (ms ks : List Member) (ns new : Levels) (F G : Family) (below : List Family) → Below G (declared core) →
    Tells (means_members core ms) ns F new G → ((facts : ℕ → Fact) (n : ℕ) → means_members core ms facts n → means_members core ks facts n) →
    WaitOrAreStable (bound_fact (objective core) best ∷ P) w G →
    Fits (record { core = core; best = best; posted = P; levels = levels; waits = v; crowd = ms; notes = ns }) F below →
    Fits (record { core = core; best = best; posted = P; levels = levels; waits = w; crowd = ks; notes = new }) G below
fits_narrowed core best P levels v w ms ks ns new F G below b t m h f = record { within = b; wait = h; levels = f.levels; notes = notes_narrowed core ms ks ns new F G below t m f.notes }
