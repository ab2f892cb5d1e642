-- A slow program for the closure: rounds that remove all values that are dead alone, until the family is stable.
use Rattle.std.specs.Prelude.{ℕ, zero, suc, ◌+◌, Bool, true, false, not, List, [], ◌∷◌, length, ℤ, Option, Some, None}
use Rattle.opl_domain.specs.Family.{Family, only}
use Rattle.opl_expr.specs.Forms.{Fact}
use Rattle.opl_trace.specs.Closure.{is_stable, restrict}
use Rattle.opl_trace.specs.Objective.{Objective}
use Rattle.opl_trace.specs.Statements.{Statement}
use Rattle.opl_trace.specs.Run.{Out, is_dead}
use Rattle.opl_trace.specs.Marks.{searched}

-- how many values all sets have
abbrev pub size : Family → ℕ
size [] = zero
size (vs ∷ F) = length vs + size F

-- the family without the values with which alone, for their variable, it is dead
abbrev pub round : (Family → Bool) → Family → Family
round dead F = restrict (λ x v. not (dead (only F x v))) F

-- the family itself where it is done, else what comes next
abbrev pub or_next : Bool → Family → (Family → Option Family) → Family → Option Family
or_next true F next G = Some F
or_next false F next G = next G

abbrev pub failed : Family → Option Family
failed F = None

-- at most n rounds
abbrev pub sweeps : (Family → Bool) → ℕ → Family → Option Family
sweeps dead zero F = or_next (is_stable dead F) F failed F
sweeps dead (suc n) F = or_next (is_stable dead F) F (λ G. sweeps dead n (round dead G)) F

-- as many rounds as D has values
unfoldable pub swept : (Family → Bool) → Family → Option Family
swept dead D = sweeps dead (size D) D

-- the sets at a moment, by sweeps
abbrev pub swept_sets : Option Objective → Family → List Fact → Option ℤ → Option Family
swept_sets goal D P b = swept (is_dead goal P b) D

-- what a whole search makes, by sweeps
abbrev pub swept_trace : Option Objective → Family → Option Statement → List Fact → ℕ → Out
swept_trace goal D section P n = searched goal (swept_sets goal D) (length D) section P None n
