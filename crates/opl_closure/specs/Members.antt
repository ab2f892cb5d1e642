-- Lists of constraints, the members, and which of them wait.
use Rattle.std.specs.Prelude.{◌≡◌, ℕ, Bool, true, false, List, slice_get, Some, None}
use Rattle.std.specs.List.{list_any}
use Rattle.opl_domain.specs.Family.{Family}
use Rattle.opl_expr.specs.Forms.{Fact}
use Rattle.opl_expr.specs.Range.{is_refuted}
use Rattle.opl_trace.specs.Stable.{IsStable}
use Rattle.opl_trace.specs.Closure.{closure}
use Rattle.opl_filter.specs.declared.outcome.Outcome.{Outcome}
use Rattle.opl_filter.specs.declared.outcome.Outcome.TheVariants as outcome
use Rattle.opl_filter.specs.Filtering.{refutes}
use Rattle.opl_closure.specs.Waits.{waits, watches}

-- the family refutes one of the constraints
abbrev pub refutes_one : List Fact → Family → Bool
refutes_one members F = list_any (is_refuted F) members

-- each of a list is as it should be at its place
abbrev pub Each : {A : Type 0} → (ℕ → A → Type 0) → List A → Type 0
Each {A} good xs = (i : ℕ) (a : A) → slice_get xs i ≡ Some a → good i a

-- each member watches the variables that wake it
abbrev pub AreWatched : List (List ℕ) → List (ℕ → Bool) → Type 0
AreWatched watchers members = Each (λ i woken_by. (x : ℕ) → woken_by x ≡ true → watches watchers i x ≡ true) members

-- each member waits, or the family is stable for it
abbrev pub WaitOrAreStable : List Fact → List Bool → Family → Type 0
WaitOrAreStable members w F = Each (λ i c. waits w i ≡ false → IsStable (refutes c) F) members

-- once the family is stable, nobody waits
abbrev pub Rest : List Bool → Outcome → Type 0
Rest w outcome.Stable = (i : ℕ) → waits w i ≡ false
Rest w outcome.Failed = Unit {0}

-- what propagation tells of the sets D where it began to narrow them: F is their closure, or they have none
abbrev pub Closes : (Family → Bool) → Family → Family → Outcome → Type 0
Closes dead D F outcome.Stable = closure dead D ≡ Some F
Closes dead D F outcome.Failed = closure dead D ≡ None
