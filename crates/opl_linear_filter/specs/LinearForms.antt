-- Constraints that compare linear sides, and what a filter of one has.
use Rattle.std.specs.Prelude.{◌≡◌, ℕ, ◌+◌, Bool, true, false, length, unsigned_abs, Option, Some, None}
use Rattle.opl_expr.specs.declared.model.Core.{Core}
use Rattle.opl_expr.specs.declared.forms.Op.{Op}
use Rattle.opl_expr.specs.declared.forms.Expr.{Expr}
use Rattle.opl_expr.specs.declared.forms.Cons.{Cons}
use Rattle.opl_expr.specs.declared.forms.Cons.TheVariants as constraint
use Rattle.opl_expr.specs.Forms.{Term, Fact, term, compared}
use Rattle.opl_expr.specs.Range.{pure}
use Rattle.opl_expr.specs.Sound.{IsSmall}
use Rattle.opl_linear.specs.declared.kind.Kind.{Kind}
use Rattle.opl_linear.specs.declared.kind.Kind.TheVariants as kind
use Rattle.opl_linear.specs.Linear.{factor_in, NamesOnce, AreAmong, AreFactors, opposite}
use Rattle.opl_linear.specs.Forms.{kind_of, left_of, right_of}
use Rattle.opl_linear.specs.Laws.{factors_of, constant_of}
use Rattle.opl_linear_filter.specs.declared.linear_filter.LinearFilter.{LinearFilter}
use Rattle.opl_linear_filter.specs.Parts.{weight_of, AreFalling, is_short}

-- the parts name variables of the core, each once, with factors that aren't 0, and all sums fit
pub record IsMade (core : Core) (f : LinearFilter) : Type 0 where
  pub once : NamesOnce f.parts
  pub falling : AreFalling f.parts
  pub among : AreAmong (length core.sets) f.parts
  pub factors : AreFactors f.parts
  pub opposites : f.opposites ≡ opposite f.parts
  pub fits : IsSmall (unsigned_abs f.constant + weight_of core.sets f.parts)

-- the parts and the constant are those of one expression less another
pub record IsDifference (core : Core) (wanted : Kind) (a b : Term) (f : LinearFilter) : Type 0 where
  pub made : IsMade core f
  pub kind : f.kind ≡ wanted
  pub factors : (x : ℕ) → factor_in f.parts x ≡ factors_of a b x
  pub constant : f.constant ≡ constant_of a b

-- the filter is that of a comparison of linear sides
pub record IsComparison (core : Core) (op : Op) (a b : Term) (f : LinearFilter) : Type 0 where
  pub first : pure a ≡ true
  pub second : pure b ≡ true
  pub difference : IsDifference core (kind_of op) (left_of op a b) (right_of op a b) f

-- the filter is that of a constraint
pub record IsFilterOf (core : Core) (c : Fact) (f : LinearFilter) : Type 0 where
  pub op : Op
  pub left : Term
  pub right : Term
  pub is : c ≡ compared op left right
  pub comparison : IsComparison core op left right f

-- a constraint compares sides that are linear
pub record ComparesLinear (core : Core) (c : Cons) : Type 0 where
  pub op : Op
  pub left : Expr
  pub right : Expr
  pub is : c ≡ constraint.Cmp op left right
  pub first : pure (term core.tables core.resources left) ≡ true
  pub second : pure (term core.tables core.resources right) ≡ true

-- the filter of a comparison, where its sides are linear, and none where they aren't
abbrev pub IsMadeForSides : Core → Op → Term → Term → Option LinearFilter → Type 0
IsMadeForSides core op a b None = pure a ≡ true → pure b ≡ true → ⊥
IsMadeForSides core op a b (Some f) = IsFilterOf core (compared op a b) f × (pure a ≡ true) × (pure b ≡ true)

-- whether values decide the form: it is to be 0, and is short
abbrev pub DecidesByValues : LinearFilter → Bool → Type 0
DecidesByValues f true = (f.kind ≡ kind.Zero) × (is_short f.parts ≡ true)
DecidesByValues f false = f.kind ≡ kind.Zero → is_short f.parts ≡ false

-- a filter is there where a constraint compares linear sides, and there alone
abbrev pub IsThereFor : Core → Cons → Option LinearFilter → Type 0
IsThereFor core c None = ComparesLinear core c → ⊥
IsThereFor core c (Some f) = ComparesLinear core c

-- a filter, where there is one, is that of a constraint
abbrev pub IsFilterIfAny : Core → Fact → Option LinearFilter → Type 0
IsFilterIfAny core c None = Unit {0}
IsFilterIfAny core c (Some f) = IsFilterOf core c f
