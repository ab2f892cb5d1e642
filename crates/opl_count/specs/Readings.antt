-- How expressions are read as costs.
use Rattle.std.specs.Prelude.{◌≡◌, ℕ, ◌+◌, ◌*◌, ◌≤◌, Bool, true, false, cond, not, List, ℤ, pos, ◌+ℤ◌, ◌*ℤ◌, ◌≤ℤ◌, neg_ℤ, int_lt, map, slice_get, Option, Some}
use Rattle.opl_domain.specs.Span.{Span}
use Rattle.opl_domain.specs.Family.{Family, Full}
use Rattle.opl_expr.specs.declared.model.Core.{Core}
use Rattle.opl_expr.specs.declared.forms.Cons.{Cons}
use Rattle.opl_expr.specs.declared.forms.Expr.{Expr}
use Rattle.opl_expr.specs.Forms.{Term, Fact, fact, terms_of}
use Rattle.opl_expr.specs.Range.{coef, rest, fact_range}
use Rattle.opl_expr.specs.Sound.{term_magnitude}
use Rattle.opl_range.specs.Between.{term_of}
use Rattle.opl_reify.specs.Literals.{IsLiteral}
use Rattle.opl_count.specs.declared.sum.Costs.{Costs}
use Rattle.opl_count.specs.Costs.{prices, weights, HaveParts}
use Rattle.opl_count.specs.CountingSums.{IsTruth, Counts}

-- what a family makes to pay beyond the room
abbrev pub excess : Core → Costs → Family → ℤ
excess core c F = pos (c.paid + prices core F c.literals) +ℤ neg_ℤ (pos c.room)

-- no sum of costs is greater
abbrev pub load : Costs → ℕ
load c = c.paid + weights c.literals + c.room

-- the least that an expression with such a range is, or its opposite
abbrev pub least_of : Bool → Span → ℤ
least_of false r = r.low
least_of true r = neg_ℤ r.high

-- so much more is paid, or there is so much more room
abbrev pub added : Bool → ℕ → Costs → Costs
added true n c = record { literals = c.literals; paid = c.paid + n; room = c.room }
added false n c = record { literals = c.literals; paid = c.paid; room = c.room + n }

-- whether a number is paid: where it, or its opposite, is above 0
abbrev pub is_paid : Bool → ℤ → Bool
is_paid negative k = cond (int_lt k (pos 0)) negative (not negative)

-- whether a multiple by a number is subtracted
abbrev pub is_turned : Bool → ℤ → Bool
is_turned negative k = cond (int_lt k (pos 0)) (not negative) negative

-- a range is there, and so many times its least more is paid beyond the room
pub record IsAdded (core : Core) (negative : Bool) (times : ℕ) (old new : Costs) (F : Family) (x : Option Span) : Type 0 where
  pub range : Span
  pub is : x ≡ Some range
  pub ordered : range.low ≤ℤ range.high
  pub more : excess core new F ≡ excess core old F +ℤ (pos times *ℤ least_of negative range)

-- a truth was read as costs, so many times
pub record ReadsTruth (core : Core) (negative : Bool) (times : ℕ) (c : Fact) (old new : Costs) : Type 0 where
  pub parts : HaveParts core old.literals → HaveParts core new.literals
  pub ranges : (F : Family) → Full F → IsAdded core negative times old new F (fact_range F c)
  pub load : load new ≤ load old + 2 * times

-- so it was, or there is no comparison of linear sides
abbrev pub ReadsTruthIf : Core → Bool → ℕ → Cons → Costs → Costs → Bool → Type 0
ReadsTruthIf core negative times c old new false = (n : ℕ) → IsLiteral core n c → ⊥
ReadsTruthIf core negative times c old new true = ((n : ℕ) × IsLiteral core n c) × ReadsTruth core negative times (fact core.tables core.resources c) old new

-- an expression was read as costs; it has no variable beside those of its truths
pub record Reads (core : Core) (negative : Bool) (t : Term) (old new : Costs) : Type 0 where
  pub bare : (x : ℕ) → coef t x ≡ pos 0
  pub parts : HaveParts core old.literals → HaveParts core new.literals
  pub ranges : (F : Family) → Full F → IsAdded core negative 1 old new F (rest F t)
  pub load : load new ≤ load old + 2 * term_magnitude core.sets t

-- so it was, or it doesn't count truths
abbrev pub ReadsIf : Core → Bool → Expr → Costs → Costs → Bool → Type 0
ReadsIf core negative e old new false = Counts core e → ⊥
ReadsIf core negative e old new true = Counts core e × Reads core negative (term_of core e) old new

-- a multiple of a truth by a number was read as costs, or there is no truth
abbrev pub ReadsMultipleIf : Core → Bool → ℤ → Expr → Costs → Costs → Bool → Type 0
ReadsMultipleIf core negative k e old new false = IsTruth core e → ⊥
ReadsMultipleIf core negative k e old new true = IsTruth core e × Reads core negative (Term.scale k (term_of core e)) old new

-- expressions were read as costs, or one of them doesn't count truths
abbrev pub ReadAllIf : Core → Bool → List Expr → Costs → Costs → Bool → Type 0
ReadAllIf core negative es old new false = ((i : ℕ) (x : Expr) → slice_get es i ≡ Some x → Counts core x) → ⊥
ReadAllIf core negative es old new true = ((i : ℕ) (x : Expr) → slice_get es i ≡ Some x → Counts core x) × Reads core negative (Term.sum (terms_of (map (term_of core) es))) old new
