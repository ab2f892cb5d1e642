-- An engine and a store as one: what both are of a search, and how one fits the other.
use Rattle.std.specs.Prelude.{List, [], ◌∷◌, ℤ, Option}
use Rattle.opl_domain.specs.Family.{Family}
use Rattle.opl_expr.specs.declared.model.Core.{Core}
use Rattle.opl_expr.specs.Forms.{Fact}
use Rattle.opl_trace.specs.SoundCores.{IsSoundCore}
use Rattle.opl_engine.specs.declared.closed.Closed.{Closed}
use Rattle.opl_engine.specs.declared.closed.Closed.TheVariants as closed
use Rattle.opl_engine.specs.States as engine
use Rattle.opl_engine.specs.States.{Parts, seen, posted_below, HoldsAll, Fits}
use Rattle.opl_search.specs.declared.solver.Closed as search
use Rattle.opl_search.specs.declared.solver.Closed.TheVariants as answer
use Rattle.opl_search.specs.States.{Level, State}
use Rattle.opl_store.specs.Stacks.{Stack}

-- what an engine is made of, and a stack of families
pub record Joint : Type 0 where
  pub engine : Parts
  pub store : Stack

-- the levels of both, the last one first
abbrev pub levels_of : List (List Fact) → List Family → List Level
levels_of [] below = []
levels_of (P ∷ Ps) [] = []
levels_of (P ∷ Ps) (F ∷ below) = record { sets = F; posted = P } ∷ levels_of Ps below

-- the constraints and the best value are those of the engine, the sets those of the store
abbrev pub both : engine.State → Stack → State
both e s = record { core = e.core; best = e.best; sets = s.top; posted = e.posted; levels = levels_of (posted_below e) s.below }

abbrev pub state_of : Joint → State
state_of p = both (seen p.engine) p.store

-- the sets of each level hold every family that is stable for its constraints and the best value
abbrev pub AllHold : Core → Option ℤ → List (List Fact) → List Family → Type 0
AllHold core best [] below = Unit {0}
AllHold core best (P ∷ Ps) [] = Unit {0}
AllHold core best (P ∷ Ps) (F ∷ below) = HoldsAll core P best F × AllHold core best Ps below

-- so do the sets now; the core is sound; and each member that doesn't wait is at rest over the sets, also once levels are given back
pub record IsPair (e : engine.State) (s : Stack) : Type 0 where
  pub sound : IsSoundCore e.core
  pub fits : Fits e s.top s.below
  pub now : HoldsAll e.core e.posted e.best s.top
  pub below : AllHold e.core e.best (posted_below e) s.below

-- how closing ends, for a search
abbrev pub closed_as : Closed → search.Closed
closed_as closed.Stable = answer.Stable
closed_as closed.Failed = answer.Failed

-- the level opened last is given back; the best value stays
abbrev pub given_to : State → List Level → State
given_to s [] = s
given_to s (l ∷ ls) = record { core = s.core; best = s.best; sets = l.sets; posted = l.posted; levels = ls }

abbrev pub given_back : State → State
given_back s = given_to s s.levels
