-- Which literals hang together, by their variables, and which of them there is no room to pay for.
use Rattle.std.specs.Prelude.{◌≡◌, ◌≢◌, ℕ, ◌+◌, ◌≤◌, ◌<◌, true, false, List, length, slice_get, Some}
use Rattle.opl_domain.specs.Family.{Family}
use Rattle.opl_expr.specs.declared.model.Core.{Core}
use Rattle.opl_filter.specs.Mentions.{lists}
use Rattle.opl_filter.specs.Filtering.{refutes}
use Rattle.opl_count.specs.declared.sum.Literal.{Literal}
use Rattle.opl_count.specs.declared.sum.Costs.{Costs}
use Rattle.opl_count.specs.declared.sum.Tie.{Tie}
use Rattle.opl_count.specs.declared.sum.Sum.{Sum}
use Rattle.opl_count.specs.Costs.{fact_of, prices, weights_on, IsMade}

-- two lists have no variable in common
abbrev pub AreApart : List ℕ → List ℕ → Type 0
AreApart xs ys = (x : ℕ) → lists xs x ≡ true → lists ys x ≡ false

-- no other literal has a variable of the one at a place
abbrev pub IsAlone : List Literal → ℕ → Type 0
IsAlone ls i = (j : ℕ) (l m : Literal) → slice_get ls i ≡ Some l → slice_get ls j ≡ Some m → j ≢ i → AreApart l.part.variables m.part.variables

-- no variable of the literal at a place can change more of what is paid than the tie tells; for one that is alone, that is its weight
pub record IsTie (ls : List Literal) (i : ℕ) (t : Tie) : Type 0 where
  pub reach : (l : Literal) → slice_get ls i ≡ Some l → (x : ℕ) → lists l.part.variables x ≡ true → weights_on x ls ≤ t.reach
  pub own : t.is_alone ≡ true → (l : Literal) → slice_get ls i ≡ Some l → t.reach ≡ l.weight
  pub apart : t.is_alone ≡ true → IsAlone ls i

-- there is a tie for each literal
pub record AreTies (ls : List Literal) (ts : List Tie) : Type 0 where
  pub same : length ts ≡ length ls
  pub each : (i : ℕ) (t : Tie) → slice_get ts i ≡ Some t → IsTie ls i t

pub record IsSum (core : Core) (s : Sum) : Type 0 where
  pub made : IsMade core s.costs
  pub ties : AreTies s.costs.literals s.ties

-- the family doesn't refute the literal at a place
abbrev pub IsOpenAt : Core → Family → List Literal → ℕ → Type 0
IsOpenAt core F ls i = (l : Literal) → slice_get ls i ≡ Some l → refutes (fact_of core l) F ≡ false

-- there is no room to pay for it, beside what the family makes to pay
abbrev pub IsDearAt : Core → Family → Costs → ℕ → Type 0
IsDearAt core F c i = (l : Literal) → slice_get c.literals i ≡ Some l → c.room < c.paid + prices core F c.literals + l.weight
