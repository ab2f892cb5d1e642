-- What holds of families that are narrowed step by step, and of sound cores, as propagation and search need it.
use Rattle.std.specs.Prelude.{◌≡◌, ℕ, Bool, true, List, ◌++◌, length, ℤ, Option, Some, None}
use Rattle.std.specs.List.{filter}
use Rattle.opl_domain.specs.Family.{Family, set_of, cut_of}
use Rattle.opl_expr.specs.declared.model.Core.{Core}
use Rattle.opl_expr.specs.Forms.{Fact}
use Rattle.opl_expr.specs.Solutions.{base, declared}
use Rattle.opl_trace.specs.Stable.{IsMonotone, IsStable}
use Rattle.opl_trace.specs.Closure.{closure}
use Rattle.opl_trace.specs.Removals.{IsDeadValue, Kept}
use Rattle.opl_trace.specs.Objective.{Objective, Tighter}
use Rattle.opl_trace.specs.Solutions.{satisfies, product, solutions}
use Rattle.opl_trace.specs.SoundCores.{IsSoundCore, AreSound}
use Rattle.opl_trace.specs.Run.{is_dead}

-- a family that is stable for some constraints is stable for the first of them
abbrev pub StableForFewer : Type 0
StableForFewer = (goal : Option Objective) (P Q : List Fact) (b : Option ℤ) (F : Family) → IsStable (is_dead goal (P ++ Q) b) F → IsStable (is_dead goal P b) F

-- a family that is stable under a best value is stable under one that is no better
abbrev pub StableUnderWorse : Type 0
StableUnderWorse = (g : Objective) (P : List Fact) (b c : Option ℤ) (F : Family) → Tighter g b c → IsStable (is_dead (Some g) P c) F → IsStable (is_dead (Some g) P b) F

-- from D on, dead values are removed one after another: what is kept has all that a stable family has; once it is stable it is
-- the closure, and there is none where it is dead or its last value of a variable is
pub record KeptCloses : Type 0 where
  pub begins : (dead : Family → Bool) (D : Family) → Kept dead D D
  pub goes_on : (dead : Family → Bool) (D F : Family) (x : ℕ) (v : ℤ) → IsMonotone dead → Kept dead D F → IsDeadValue dead F x v → Kept dead D (cut_of F x v v)
  pub closes : (dead : Family → Bool) (D F : Family) → IsMonotone dead → Kept dead D F → IsStable dead F → Some F ≡ closure dead D
  pub fails : (dead : Family → Bool) (D F : Family) → IsMonotone dead → Kept dead D F → dead F ≡ true → None ≡ closure dead D
  pub empties : (dead : Family → Bool) (D F : Family) (x : ℕ) (v : ℤ) → IsMonotone dead → Kept dead D F → IsDeadValue dead F x v → length (set_of F x) ≡ 1 → None ≡ closure dead D

-- the solutions of a core are the assignments of its declared sets on which its constraints hold, and its objective is defined
abbrev pub SolutionsSatisfy : Type 0
SolutionsSatisfy = (core : Core) → solutions core ≡ filter (satisfies (base core)) (product (declared core))

-- the constraints of a sound core are sound, and so is the one that asks for a defined objective
abbrev pub BaseIsSound : Type 0
BaseIsSound = (core : Core) → IsSoundCore core → AreSound core (base core)
