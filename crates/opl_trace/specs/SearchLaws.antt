-- What is proved of searches.
use Rattle.std.specs.Prelude.{◌≡◌, ℕ, suc, ◌+◌, ◌≤◌, Bool, true, false, List, [], ◌∷◌, ◌++◌, ℤ, Option, Some, None}
use Rattle.std.specs.List.{list_all, filter}
use Rattle.opl_domain.specs.Family.{Family, IsRising, set_of, has, Below}
use Rattle.opl_expr.specs.Laws.{singles, clear, clear_fact}
use Rattle.opl_expr.specs.Holds.{value}
use Rattle.opl_expr.specs.Forms.{Fact}
use Rattle.opl_trace.specs.Stable.{IsMonotone}
use Rattle.opl_trace.specs.Closure.{closure}
use Rattle.opl_trace.specs.ClosureLaws.{ClosesTo, IsBelowSome}
use Rattle.opl_trace.specs.Answers.{is_value}
use Rattle.opl_trace.specs.Objective.{Objective, bound, improving}
use Rattle.opl_trace.specs.Solutions.{satisfies, product}
use Rattle.opl_trace.specs.Sweeps.{swept, swept_trace}
use Rattle.opl_trace.specs.Statements.{Statement}
use Rattle.opl_trace.specs.Run.{Mark, Out, marks_of, choices, is_dead, closed}
use Rattle.opl_trace.specs.Marks.{trace, prefixes, solved}

-- the marks of the one but its Cut are the first of the other; where there was no Cut there are no others
pub record IsContinued (o p : Out) : Type 0 where
  pub others : List Mark
  pub joins : marks_of p ≡ o.marks ++ others
  pub ended : o.is_cut ≡ false → marks_of p ≡ o.marks

-- the marks with n choices, without a Cut, are the first of those with one choice more, whatever the statements
abbrev pub Prefix : Type 0
Prefix = (goal : Option Objective) (D : Family) (section : Option Statement) (P : List Fact) (n : ℕ) → IsContinued (trace goal D section P n) (trace goal D section P (suc n))

-- each choice that is made is one less that is left
abbrev pub Counted : Type 0
Counted = (goal : Option Objective) (D : Family) (section : Option Statement) (P : List Fact) (n : ℕ) →
    choices (trace goal D section P n).marks + (trace goal D section P n).left ≡ n

-- default search makes at most as many choices as the assignments of the declared sets have non-empty prefixes, and with as
-- many it has no Cut
pub record IsEnough (D : Family) (n : ℕ) (o : Out) : Type 0 where
  pub few : choices o.marks ≤ prefixes D
  pub ends : prefixes D ≤ n → o.is_cut ≡ false

abbrev pub Enough : Type 0
Enough = (goal : Option Objective) (D : Family) (P : List Fact) (n : ℕ) → IsEnough D n (trace goal D None P n)

-- in each table that a constraint names, the indices of a dimension differ
abbrev pub clear_all : List Fact → Bool
clear_all P = list_all clear_fact P

-- constraints and a bound are a monotone test
abbrev pub RefutingIsMonotone : Type 0
RefutingIsMonotone = (goal : Option Objective) (P : List Fact) (b : Option ℤ) → IsMonotone (is_dead goal P b)

-- the sets of a moment are the union of all families that are stable for the constraints and the bound
abbrev pub MomentIsClosure : Type 0
MomentIsClosure = (goal : Option Objective) (D : Family) (P : List Fact) (b : Option ℤ) → ClosesTo (is_dead goal P b) D (closed goal D P b)

-- an assignment of the declared sets on which all constraints and the bound hold lies in the sets of the moment
abbrev pub SolutionsStay : Type 0
SolutionsStay = (goal : Option Objective) (D : Family) (P : List Fact) (b : Option ℤ) (a : List ℤ) →
    clear_all (P ++ bound goal b) ≡ true → satisfies (P ++ bound goal b) a ≡ true → Below (singles a) D → IsBelowSome (singles a) (closed goal D P b)

-- where each variable has one value, all constraints and the bound hold on these values
abbrev pub SinglesHold : Type 0
SinglesHold = (goal : Option Objective) (D : Family) (P : List Fact) (b : Option ℤ) (a : List ℤ) →
    clear_all (P ++ bound goal b) ≡ true → closed goal D P b ≡ Some (singles a) → satisfies (P ++ bound goal b) a ≡ true

-- sweeps give the closure
abbrev pub SweepsClose : Type 0
SweepsClose = (dead : Family → Bool) (D : Family) → IsMonotone dead → swept dead D ≡ closure dead D

-- a search by sweeps makes what the search makes
abbrev pub SweepsTrace : Type 0
SweepsTrace = (goal : Option Objective) (D : Family) (section : Option Statement) (P : List Fact) (n : ℕ) → swept_trace goal D section P n ≡ trace goal D section P n

-- more constraints leave fewer values: where their closure hasn't failed, that of fewer hasn't, and has all its values
pub record IsWider (o : Option Family) (F : Family) : Type 0 where
  pub family : Family
  pub is : o ≡ Some family
  pub above : Below F family

abbrev pub PostingNarrows : Type 0
PostingNarrows = (goal : Option Objective) (D : Family) (P Q : List Fact) (b : Option ℤ) (C : Family) → closed goal D (P ++ Q) b ≡ Some C → IsWider (closed goal D P b) C

-- once `x = v` is posted, x has no other value
abbrev pub PostedIsSingle : Type 0
PostedIsSingle = (goal : Option Objective) (D : Family) (P : List Fact) (b : Option ℤ) (x : ℕ) (v w : ℤ) (C : Family) →
    closed goal D (P ++ is_value x v ∷ []) b ≡ Some C → has C x w ≡ true → w ≡ v

-- without an objective, default search without a Cut makes exactly the assignments of the declared sets on which all
-- constraints hold, in lexicographic order
abbrev pub AllFound : Type 0
AllFound = (D : Family) (P : List Fact) (n : ℕ) → ((x : ℕ) → IsRising (set_of D x)) → clear_all P ≡ true →
    (trace None D None P n).is_cut ≡ false → solved (trace None D None P n).marks ≡ filter (satisfies P) (product D)

-- an objective, if there is one, has a value where all constraints hold
abbrev pub Defines : Option Objective → List Fact → Type 0
Defines None P = Unit {0}
Defines (Some g) P = (a : List ℤ) → satisfies P a ≡ true → (v : ℤ) × (value a g.term ≡ Some v)

-- default search without a Cut makes exactly those of these assignments that are better than all before them
abbrev pub BestFound : Type 0
BestFound = (g : Objective) (D : Family) (P : List Fact) (n : ℕ) → ((x : ℕ) → IsRising (set_of D x)) → clear_all P ≡ true → clear g.term ≡ true →
    Defines (Some g) P → (trace (Some g) D None P n).is_cut ≡ false → solved (trace (Some g) D None P n).marks ≡ improving (Some g) (filter (satisfies P) (product D))
