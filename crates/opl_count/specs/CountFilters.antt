-- Comparisons of counting sums, and what a filter of one has.
use Rattle.std.specs.Prelude.{◌≡◌, ◌≢◌, ℕ, Bool, false, cond, [], pos, ◌+ℤ◌, ◌≤ℤ◌, neg_ℤ, Option, Some, None}
use Rattle.opl_domain.specs.Span.{Span}
use Rattle.opl_domain.specs.Family.{Family, Full}
use Rattle.opl_expr.specs.declared.model.Core.{Core}
use Rattle.opl_expr.specs.declared.forms.Op.{Op}
use Rattle.opl_expr.specs.declared.forms.Op.TheVariants.{Ne}
use Rattle.opl_expr.specs.declared.forms.Expr.{Expr}
use Rattle.opl_expr.specs.declared.forms.Cons.{Cons}
use Rattle.opl_expr.specs.declared.forms.Cons.TheVariants as constraint
use Rattle.opl_expr.specs.Forms.{Fact, compared}
use Rattle.opl_expr.specs.Range.{coef, rest}
use Rattle.opl_filter.specs.Filtering.{refutes}
use Rattle.opl_linear.specs.Alternating.{either}
use Rattle.opl_range.specs.Between.{term_of, is_pure_between}
use Rattle.opl_count.specs.declared.sum.Sum.{Sum}
use Rattle.opl_count.specs.declared.count_filter.CountFilter.{CountFilter}
use Rattle.opl_count.specs.Costs.{is_over}
use Rattle.opl_count.specs.Sums.{IsSum}
use Rattle.opl_count.specs.CountingSums.{Counts}
use Rattle.opl_count.specs.Readings.{excess}

-- the ranges of two expressions are there, and what is paid beyond the room is the least of the one less the greatest of the other
pub record IsDifference (core : Core) (a b : Expr) (strict : Bool) (s : Sum) (F : Family) : Type 0 where
  pub first : Span
  pub second : Span
  pub is_first : rest F (term_of core a) ≡ Some first
  pub is_second : rest F (term_of core b) ≡ Some second
  pub first_ordered : first.low ≤ℤ first.high
  pub second_ordered : second.low ≤ℤ second.high
  pub over : excess core s.costs F ≡ pos (cond strict 1 0) +ℤ first.low +ℤ neg_ℤ second.high

-- the sum is that of a less b, which is to be at most 0, or below 0
pub record IsSumOf (core : Core) (a b : Expr) (strict : Bool) (s : Sum) : Type 0 where
  pub made : IsSum core s
  pub first : Counts core a
  pub second : Counts core b
  pub bare : (x : ℕ) → coef (term_of core a) x ≡ pos 0
  pub bare_second : (x : ℕ) → coef (term_of core b) x ≡ pos 0
  pub differences : (F : Family) → Full F → IsDifference core a b strict s F

abbrev pub IsSumIfAny : Core → Expr → Expr → Bool → Option Sum → Type 0
IsSumIfAny core a b strict None = Counts core a → Counts core b → ⊥
IsSumIfAny core a b strict (Some s) = IsSumOf core a b strict s

-- nothing is paid, and there is no room
pub record IsNothing (s : Sum) : Type 0 where
  pub literals : s.costs.literals ≡ []
  pub ties : s.ties ≡ []
  pub paid : s.costs.paid ≡ 0
  pub room : s.costs.room ≡ 0

-- the filter has the sum alone
abbrev pub IsMadeIfAny : Core → Expr → Expr → Bool → Option CountFilter → Type 0
IsMadeIfAny core a b strict None = Counts core a → Counts core b → ⊥
IsMadeIfAny core a b strict (Some f) = IsSumOf core a b strict f.first × IsNothing f.second

-- the filter has the sum and that of the difference the other way
abbrev pub IsMadeBothIfAny : Core → Expr → Expr → Option CountFilter → Type 0
IsMadeBothIfAny core a b None = Counts core a → Counts core b → ⊥
IsMadeBothIfAny core a b (Some f) = IsSumOf core a b false f.first × IsSumOf core b a false f.second

-- both sums are made with a core
abbrev pub IsMadeOfCounts : Core → CountFilter → Type 0
IsMadeOfCounts core f = IsSum core f.first × IsSum core f.second

-- the filter is that of a constraint: where no set is empty, the constraint is refuted where more is paid than there is room for, in
-- one of the two sums
pub record IsCountFor (core : Core) (c : Fact) (f : CountFilter) : Type 0 where
  pub made : IsMadeOfCounts core f
  pub same : (F : Family) → Full F → refutes c F ≡ either (is_over core f.first.costs) (is_over core f.second.costs) F

-- a filter, where there is one, is that of a constraint
abbrev pub IsCountIfAny : Core → Fact → Option CountFilter → Type 0
IsCountIfAny core c None = Unit {0}
IsCountIfAny core c (Some f) = IsCountFor core c f

-- two sides count truths, at least one of them, and are compared otherwise than by `<>`
pub record CountSides (core : Core) (op : Op) (a b : Expr) : Type 0 where
  pub comparable : op ≢ Ne
  pub first : Counts core a
  pub second : Counts core b
  pub mixed : is_pure_between core a b ≡ false

-- the filter of a comparison, where its sides do so, and none where they don't
abbrev pub IsMadeForSides : Core → Op → Expr → Expr → Option CountFilter → Type 0
IsMadeForSides core op a b None = CountSides core op a b → ⊥
IsMadeForSides core op a b (Some f) = CountSides core op a b × IsCountFor core (compared op (term_of core a) (term_of core b)) f

-- a constraint compares such sides
pub record ComparesCounts (core : Core) (c : Cons) : Type 0 where
  pub op : Op
  pub left : Expr
  pub right : Expr
  pub is : c ≡ constraint.Cmp op left right
  pub sides : CountSides core op left right

-- a filter is there for such a constraint, and for no other
abbrev pub IsThereFor : Core → Cons → Option CountFilter → Type 0
IsThereFor core c None = ComparesCounts core c → ⊥
IsThereFor core c (Some f) = ComparesCounts core c
