-- The filter of a comparison of sums, and for which constraints it is made.
use Rattle.std.specs.Prelude.{◌≡◌, false, List, Option, Some, None}
use Rattle.opl_domain.specs.Family.{Family, Full}
use Rattle.opl_expr.specs.declared.model.Core.{Core}
use Rattle.opl_expr.specs.declared.forms.Cons.{Cons}
use Rattle.opl_expr.specs.declared.forms.Cons.TheVariants as constraint
use Rattle.opl_expr.specs.declared.forms.Expr.{Expr}
use Rattle.opl_expr.specs.declared.forms.Op.{Op}
use Rattle.opl_expr.specs.Forms.{Fact, compared}
use Rattle.opl_filter.specs.Filtering.{refutes}
use Rattle.opl_range.specs.Between.{term_of, is_pure_between}
use Rattle.opl_addends.specs.declared.sum.Addend.{Addend}
use Rattle.opl_addends.specs.declared.sum.Sum.{Sum}
use Rattle.opl_addends.specs.declared.addends_filter.AddendsFilter.{AddendsFilter}
use Rattle.opl_addends.specs.Addends.{plains, AreApart}
use Rattle.opl_addends.specs.Demands.{addends_of}
use Rattle.opl_addends.specs.Sums.{is_refuted, IsSum}
use Rattle.opl_addends.specs.Making.{AllNamed}

-- the sum is made, and a family refutes the constraint exactly where it refutes the sum
pub record IsMadeOf (core : Core) (c : Fact) (s : Sum) : Type 0 where
  pub sum : IsSum core s
  pub same : (F : Family) → Full F → refutes c F ≡ is_refuted core s F

-- the addends of a comparison were found
pub record HasAddends (core : Core) (op : Op) (a b : Expr) (found : List Addend) : Type 0 where
  pub same : plains core found ≡ addends_of op (term_of core a) (term_of core b)
  pub named : AllNamed core found

-- a side isn't linear, and no variable has a factor in two addends
pub record HaveAddends (core : Core) (op : Op) (a b : Expr) : Type 0 where
  pub mixed : is_pure_between core a b ≡ false
  pub apart : AreApart (addends_of op (term_of core a) (term_of core b))

-- the sum is made for a comparison of two sides, exactly where they are so
abbrev pub IsMadeForSides : Core → Op → Expr → Expr → Option Sum → Type 0
IsMadeForSides core op a b None = HaveAddends core op a b → ⊥
IsMadeForSides core op a b (Some s) = HaveAddends core op a b × IsMadeOf core (compared op (term_of core a) (term_of core b)) s

-- a constraint compares such sides
pub record ComparesAddends (core : Core) (c : Cons) : Type 0 where
  pub op : Op
  pub left : Expr
  pub right : Expr
  pub is : c ≡ constraint.Cmp op left right
  pub sides : HaveAddends core op left right

-- a filter is there for such a constraint, and for no other
abbrev pub IsThereFor : Core → Cons → Option AddendsFilter → Type 0
IsThereFor core c None = ComparesAddends core c → ⊥
IsThereFor core c (Some f) = ComparesAddends core c

-- the filter was made with a core
abbrev pub IsMadeOfAddends : Core → AddendsFilter → Type 0
IsMadeOfAddends core f = IsSum core f.sum

-- the filter is that of a constraint
abbrev pub IsAddendsFor : Core → Fact → AddendsFilter → Type 0
IsAddendsFor core c f = IsMadeOf core c f.sum

-- a filter, where there is one, is that of a constraint
abbrev pub IsAddendsIfAny : Core → Fact → Option AddendsFilter → Type 0
IsAddendsIfAny core c None = Unit {0}
IsAddendsIfAny core c (Some f) = IsAddendsFor core c f
