-- What a search stands on: a core, the best value, the sets and constraints now, and those at the opening of each open level.
use Rattle.std.specs.Prelude.{◌≡◌, ℕ, cond, List, [], ◌∷◌, ◌++◌, length, ℤ, nat_eq, Option, Some, None}
use Rattle.opl_domain.specs.Family.{Family}
use Rattle.opl_expr.specs.declared.model.Core.{Core}
use Rattle.opl_expr.specs.Forms.{Fact}
use Rattle.opl_expr.specs.Solutions.{base, declared}
use Rattle.opl_trace.specs.Marks.{objective}
use Rattle.opl_trace.specs.Moments.{core_sets}
use Rattle.opl_trace.specs.Objective.{best_after}
use Rattle.opl_trace.specs.Run.{values_of}
use Rattle.opl_search.specs.declared.solver.Closed.{Closed}
use Rattle.opl_search.specs.declared.solver.Closed.TheVariants as answer

-- the sets and the constraints at the opening of a level
pub record Level : Type 0 where
  pub sets : Family
  pub posted : List Fact

-- the level opened last stands first
pub record State : Type 0 where
  pub core : Core
  pub best : Option ℤ
  pub sets : Family
  pub posted : List Fact
  pub levels : List Level

-- before a search
abbrev pub beginning : Core → State
beginning core = record { core = core; best = None; sets = declared core; posted = base core; levels = [] }

-- ---- levels

-- the level that was opened when k were open
abbrev pub level_at : ℕ → List Level → Option Level
level_at k [] = None
level_at k (l ∷ ls) = cond (nat_eq k (length ls)) (Some l) (level_at k ls)

-- the levels that were open then
abbrev pub lowest : ℕ → List Level → List Level
lowest k [] = []
lowest k (l ∷ ls) = cond (nat_eq k (length ls)) ls (lowest k ls)

-- one more level
abbrev pub opened : State → State
opened s = record { core = s.core; best = s.best; sets = s.sets; posted = s.posted; levels = record { sets = s.sets; posted = s.posted } ∷ s.levels }

-- the sets and constraints of a level, where there is one, and the levels below it; the best value stays
abbrev pub with_level : State → ℕ → Option Level → State
with_level s k None = s
with_level s k (Some l) = record { core = s.core; best = s.best; sets = l.sets; posted = l.posted; levels = lowest k s.levels }

abbrev pub back_to : ℕ → State → State
back_to k s = with_level s k (level_at k s.levels)

-- ---- constraints, sets and the best value

abbrev pub posting : Fact → State → State
posting c s = record { core = s.core; best = s.best; sets = s.sets; posted = s.posted ++ c ∷ []; levels = s.levels }

abbrev pub with_sets : Family → State → State
with_sets F s = record { core = s.core; best = s.best; sets = F; posted = s.posted; levels = s.levels }

-- the sets at a moment of a core's search
unfoldable pub moment : Core → List Fact → Option ℤ → Option Family
moment core = core_sets core

-- the sets are those of the moment
abbrev pub IsMoment : State → Type 0
IsMoment s = moment s.core s.posted s.best ≡ Some s.sets

-- what closing answers, with the sets F afterwards
abbrev pub Closes : State → Family → Closed → Type 0
Closes s F answer.Stable = moment s.core s.posted s.best ≡ Some F
Closes s F answer.Failed = moment s.core s.posted s.best ≡ None

-- a solution, with its value as the best
abbrev pub improved : State → State
improved s = record { core = s.core; best = best_after (objective s.core) (values_of s.sets) s.best; sets = s.sets; posted = s.posted; levels = s.levels }
