-- What keeps sets that hold every stable family.
use Rattle.std.specs.Prelude.{◌≡◌, List, ◌++◌, ℤ, Option, Some, None}
use Rattle.opl_domain.specs.Family.{Family}
use Rattle.opl_expr.specs.declared.model.Core.{Core}
use Rattle.opl_expr.specs.Forms.{Fact}
use Rattle.opl_expr.specs.Solutions.{declared}
use Rattle.opl_trace.specs.Marks.{objective}
use Rattle.opl_trace.specs.Moments.{core_sets}
use Rattle.opl_trace.specs.Objective.{Objective, Tighter}
use Rattle.opl_engine.specs.States.{HoldsAll}

-- a best value is at least as good as another; without an objective it doesn't matter
abbrev pub IsNotWorse : Option Objective → Option ℤ → Option ℤ → Type 0
IsNotWorse None b c = Unit {0}
IsNotWorse (Some g) b c = Tighter g b c

-- the declared sets hold every stable family
abbrev pub DeclaredHoldAll : Type 0
DeclaredHoldAll = (core : Core) (P : List Fact) (b : Option ℤ) → HoldsAll core P b (declared core)

-- after one more post, or with a better best value, the same sets still hold all
abbrev pub PostingHoldsAll : Type 0
PostingHoldsAll = (core : Core) (P Q : List Fact) (b : Option ℤ) (F : Family) → HoldsAll core P b F → HoldsAll core (P ++ Q) b F

abbrev pub BetterHoldsAll : Type 0
BetterHoldsAll = (core : Core) (P : List Fact) (b c : Option ℤ) (F : Family) → IsNotWorse (objective core) b c → HoldsAll core P b F → HoldsAll core P c F

-- the sets of a moment hold all
abbrev pub MomentHoldsAll : Type 0
MomentHoldsAll = (core : Core) (P : List Fact) (b : Option ℤ) (F : Family) → core_sets core P b ≡ Some F → HoldsAll core P b F
