-- Expressions that count truths of comparisons of linear sides.
use Rattle.std.specs.Prelude.{◌≡◌, ℕ, List, ℤ, slice_get, Some, None}
use Rattle.opl_expr.specs.declared.model.Core.{Core}
use Rattle.opl_expr.specs.declared.forms.Cons.{Cons}
use Rattle.opl_expr.specs.declared.forms.Expr.{Expr}
use Rattle.opl_expr.specs.declared.forms.Expr.TheVariants as expression
use Rattle.opl_expr.specs.Forms.{constant_value}
use Rattle.opl_range.specs.Between.{term_of}
use Rattle.opl_reify.specs.Literals.{IsLiteral}

-- the truth of a comparison of linear sides, or of an opposite of one
pub record IsTruth (core : Core) (e : Expr) : Type 0 where
  pub constraint : Cons
  pub negations : ℕ
  pub is : e ≡ expression.Truth constraint
  pub literal : IsLiteral core negations constraint

-- a multiple of one by a number, which stands on either side
pub record IsMultiple (core : Core) (a b : Expr) : Type 0 where
  pub number : ℤ
  pub is : constant_value (term_of core a) ≡ Some number
  pub truth : IsTruth core b

-- a number, a truth, a multiple of a truth, or the opposite or the sum of such
pub data Counts (core : Core) : Expr → Type 0 where
  number : (e : Expr) (k : ℤ) → e ≡ expression.Const k → Counts core e
  one : (e : Expr) → IsTruth core e → Counts core e
  multiple : (e a b : Expr) → e ≡ expression.Mul a b → IsMultiple core a b → Counts core e
  multiple_by : (e a b : Expr) → e ≡ expression.Mul a b → constant_value (term_of core a) ≡ None → IsMultiple core b a → Counts core e
  opposite : (e a : Expr) → e ≡ expression.Neg a → Counts core a → Counts core e
  total : (e : Expr) (es : List Expr) → e ≡ expression.Sum es → ((i : ℕ) (x : Expr) → slice_get es i ≡ Some x → Counts core x) → Counts core e
