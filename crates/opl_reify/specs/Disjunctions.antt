-- Disjunctions of comparisons of linear sides, and what a filter of one has.
use Rattle.std.specs.Prelude.{◌≡◌, ℕ, List, Option, Some, None}
use Rattle.opl_domain.specs.Family.{Family}
use Rattle.opl_expr.specs.declared.model.Core.{Core}
use Rattle.opl_expr.specs.declared.forms.Cons.{Cons}
use Rattle.opl_expr.specs.declared.forms.Cons.TheVariants as constraint
use Rattle.opl_expr.specs.Forms.{Fact}
use Rattle.opl_expr.specs.Range.{fact_range}
use Rattle.opl_reify.specs.Parts.{AreParts, any_of}
use Rattle.opl_reify.specs.Literals.{IsLiteral, AreLiterals}
use Rattle.opl_reify.specs.declared.reify_filter.ReifyFilter.{ReifyFilter}

-- the parts are those of some disjunction of a core
abbrev pub IsMadeOfParts : Core → ReifyFilter → Type 0
IsMadeOfParts core f = AreParts core f.parts

-- the filter is that of a constraint: over every family some part's holding has the range of the constraint
pub record IsDisjunctionFor (core : Core) (c : Fact) (f : ReifyFilter) : Type 0 where
  pub made : IsMadeOfParts core f
  pub same : (F : Family) → fact_range F c ≡ fact_range F (any_of core f.parts)

-- a filter, where there is one, is that of a constraint
abbrev pub IsDisjunctionIfAny : Core → Fact → Option ReifyFilter → Type 0
IsDisjunctionIfAny core c None = Unit {0}
IsDisjunctionIfAny core c (Some f) = IsDisjunctionFor core c f

-- a disjunction or an implication whose parts compare linear sides, or are opposites of such comparisons
pub data IsDisjunction (core : Core) (c : Cons) : Type 0 where
  disjunction : (cs : List Cons) → c ≡ constraint.Or cs → AreLiterals core cs → IsDisjunction core c
  implication : (a b : Cons) (n m : ℕ) → c ≡ constraint.Imp a b → IsLiteral core n a → IsLiteral core m b → IsDisjunction core c

-- a filter is there for such a constraint, and for no other
abbrev pub IsThereFor : Core → Cons → Option ReifyFilter → Type 0
IsThereFor core c None = IsDisjunction core c → ⊥
IsThereFor core c (Some f) = IsDisjunction core c
