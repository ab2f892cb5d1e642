-- Constraints that connectives build of comparisons of linear sides.
use Rattle.std.specs.Prelude.{◌≡◌, ℕ, List, slice_get, Option, Some, None}
use Rattle.opl_expr.specs.declared.model.Core.{Core}
use Rattle.opl_expr.specs.declared.forms.Cons.{Cons}
use Rattle.opl_expr.specs.declared.forms.Cons.TheVariants as constraint
use Rattle.opl_linear_filter.specs.LinearForms.{ComparesLinear}
use Rattle.opl_reify.specs.Literals.{IsLiteral}

-- a comparison of linear sides, or an opposite, a conjunction, a disjunction, an implication or an equivalence of such
pub data Connects (core : Core) : Cons → Type 0 where
  comparison : (c : Cons) → ComparesLinear core c → Connects core c
  opposite : (c a : Cons) → c ≡ constraint.Not a → Connects core a → Connects core c
  conjunction : (c : Cons) (cs : List Cons) → c ≡ constraint.And cs → ((i : ℕ) (d : Cons) → slice_get cs i ≡ Some d → Connects core d) → Connects core c
  disjunction : (c : Cons) (cs : List Cons) → c ≡ constraint.Or cs → ((i : ℕ) (d : Cons) → slice_get cs i ≡ Some d → Connects core d) → Connects core c
  implication : (c a b : Cons) → c ≡ constraint.Imp a b → Connects core a → Connects core b → Connects core c
  equivalence : (c a b : Cons) → c ≡ constraint.Iff a b → Connects core a → Connects core b → Connects core c

-- each constraint of a list is so
abbrev pub AllConnect : Core → List Cons → Type 0
AllConnect core cs = (i : ℕ) (c : Cons) → slice_get cs i ≡ Some c → Connects core c

-- a result is there for such a constraint, and for no other
abbrev pub IsThereFor : {A : Type 0} → Core → Cons → Option A → Type 0
IsThereFor core c None = Connects core c → ⊥
IsThereFor core c (Some a) = Connects core c

-- a result is there for a comparison of linear sides, or an opposite of one, and for nothing else
abbrev pub IsLiteralThere : {A : Type 0} → Core → Cons → Option A → Type 0
IsLiteralThere core c None = (n : ℕ) → IsLiteral core n c → ⊥
IsLiteralThere core c (Some a) = (n : ℕ) × IsLiteral core n c

-- the same of constraints
abbrev pub AreThereFor : {A : Type 0} → Core → List Cons → Option A → Type 0
AreThereFor core cs None = AllConnect core cs → ⊥
AreThereFor core cs (Some a) = AllConnect core cs
