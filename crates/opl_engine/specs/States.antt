-- What an engine is: a core, a best value, and constraints that are posted level by level. When it fits sets of variables.
use Rattle.std.specs.Prelude.{◌≡◌, ℕ, ◌≤◌, Bool, true, List, [], ◌∷◌, length, map, take, drop, ℤ, Option, Some, None}
use Rattle.opl_domain.specs.Family.{Family, Below}
use Rattle.opl_expr.specs.declared.model.Core.{Core}
use Rattle.opl_expr.specs.Forms.{Fact}
use Rattle.opl_expr.specs.Solutions.{declared}
use Rattle.opl_trace.specs.Marks.{objective}
use Rattle.opl_trace.specs.Moments.{core_sets}
use Rattle.opl_trace.specs.Run.{is_dead}
use Rattle.opl_trace.specs.Stable.{IsStable, IsStableWithin}
use Rattle.opl_filter.specs.declared.outcome.Outcome.{Outcome}
use Rattle.opl_filter.specs.declared.outcome.Outcome.TheVariants as outcome
use Rattle.opl_filter.specs.Filtering.{refutes}
use Rattle.opl_closure.specs.Members.{Each, WaitOrAreStable}
use Rattle.opl_engine.specs.Crowds.{Crowd}
use Rattle.opl_trail.specs.Levels.{Levels}
use Rattle.opl_notes.specs.Noted.{AreRight}
use Rattle.opl_engine.specs.declared.member.Member.{Member}
use Rattle.opl_engine.specs.Members.{bound_fact, fact_of, means_members}
use Rattle.opl_engine.specs.declared.opening.Opening.{Opening}
use Rattle.opl_engine.specs.declared.closed.Closed.{Closed}
use Rattle.opl_engine.specs.declared.closed.Closed.TheVariants as closed

-- what was posted when a level was opened. The others are for the engine alone: whether nobody waited but perhaps the bound,
-- whether the bound did not wait, and the best value
pub record Level : Type 0 where
  pub posted : List Fact
  pub calm : Bool
  pub bounded : Bool
  pub best : Option ℤ

-- an engine: the constraints that are posted now, among them those of the core, and the open levels, the last one first; and,
-- for the engine alone, who waits, the bound first, the members, and their notes
pub record State : Type 0 where
  pub core : Core
  pub best : Option ℤ
  pub posted : List Fact
  pub levels : List Level
  pub waits : List Bool
  pub crowd : List Member
  pub notes : Levels

-- the lists of posted constraints at the openings, the last one first
abbrev pub posted_below : State → List (List Fact)
posted_below e = map (λ l. l.posted) e.levels

-- the core, the best value and the levels are as before
pub record SameBeside (old new : State) : Type 0 where
  pub core : new.core ≡ old.core
  pub best : new.best ≡ old.best
  pub levels : new.levels ≡ old.levels

-- the bound, and what is posted
abbrev pub members : State → List Fact
members e = bound_fact (objective e.core) e.best ∷ e.posted

-- the sets lie within the declared ones, and hold every stable family
pub record HoldsAll (core : Core) (P : List Fact) (best : Option ℤ) (F : Family) : Type 0 where
  pub within : Below F (declared core)
  pub holds : (G : Family) → IsStableWithin (is_dead (objective core) P best) (declared core) G → Below G F

-- so do the sets that an engine is to close
abbrev pub CanClose : State → Family → Type 0
CanClose e F = HoldsAll e.core e.posted e.best F

-- how closing ends: the sets are those of the moment, or there are none
abbrev pub Closes : Core → List Fact → Option ℤ → Family → Closed → Type 0
Closes core P best F closed.Stable = core_sets core P best ≡ Some F
Closes core P best F closed.Failed = core_sets core P best ≡ None

-- how closing ends, by how propagation ends
abbrev pub closed_after : Outcome → Closed
closed_after outcome.Stable = closed.Stable
closed_after outcome.Failed = closed.Failed

-- ---- when an engine fits sets

-- the sets of a level, once it is given back, are stable for all but those whom the engine then lets wait
pub record FitsLevel (core : Core) (l : Level) (F : Family) : Type 0 where
  pub within : Below F (declared core)
  pub calm : l.calm ≡ true → Each (λ i c. IsStable (refutes c) F) l.posted
  pub bounded : l.bounded ≡ true → IsStable (refutes (bound_fact (objective core) l.best)) F

-- as many levels, and each fits
abbrev pub FitLevels : Core → List Level → List Family → Type 0
FitLevels core [] [] = Unit {0}
FitLevels core [] (F ∷ below) = ⊥
FitLevels core (l ∷ levels) [] = ⊥
FitLevels core (l ∷ levels) (F ∷ below) = FitsLevel core l F × FitLevels core levels below

-- what was noted at the openings of levels was right of their sets
abbrev pub AreRightBelow : (ℕ → Fact) → ℕ → List (List ℕ) → List Family → Type 0
AreRightBelow facts n [] [] = Unit {0}
AreRightBelow facts n [] (G ∷ below) = ⊥
AreRightBelow facts n (words ∷ earlier) [] = ⊥
AreRightBelow facts n (words ∷ earlier) (G ∷ below) = (length words ≡ n) × AreRight facts words G × AreRightBelow facts n earlier below

-- notes are right of sets, and so were those of each level, as the members take them
pub record FitNotes (core : Core) (ms : List Member) (notes : Levels) (F : Family) (below : List Family) : Type 0 where
  pub facts : ℕ → Fact
  pub meant : means_members core ms facts (length notes.top)
  pub right : AreRight facts notes.top F
  pub earlier : AreRightBelow facts (length notes.top) notes.below below

-- an engine fits sets F and those at the openings of the open levels, the last one first: each member waits, or F is stable for it, and its
-- notes are right
pub record Fits (e : State) (F : Family) (below : List Family) : Type 0 where
  pub within : Below F (declared e.core)
  pub wait : WaitOrAreStable (members e) e.waits F
  pub levels : FitLevels e.core e.levels below
  pub notes : FitNotes e.core e.crowd e.notes F below

-- ---- what it is made of

abbrev pub level_of : List Fact → Opening → Level
level_of facts o = record { posted = drop 1 (take o.members facts); calm = o.calm; bounded = o.bounded; best = o.best }

-- the members' constraints, the bound's first, and the openings, the last one first
abbrev pub state_of : Core → Option ℤ → List Fact → List Opening → Crowd → State
state_of core best facts openings crowd = record { core = core; best = best; posted = drop 1 facts; levels = map (level_of facts) openings; waits = crowd.waits; crowd = crowd.members; notes = crowd.notes }

-- what an engine is made of: the members with those who wait, and the openings, the last one first
pub record Parts : Type 0 where
  pub core : Core
  pub best : Option ℤ
  pub crowd : Crowd
  pub openings : List Opening

-- what is seen of it
abbrev pub seen : Parts → State
seen e = state_of e.core e.best (map (fact_of e.core) e.crowd.members) e.openings e.crowd

-- of n members, each level has at least one, and none more than a level above it
abbrev pub AreOpenings : ℕ → List Opening → Type 0
AreOpenings n [] = Unit {0}
AreOpenings n (o ∷ openings) = (1 ≤ o.members) × (o.members ≤ n) × AreOpenings o.members openings
