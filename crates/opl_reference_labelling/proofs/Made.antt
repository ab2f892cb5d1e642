-- The plain data of constraints that a search makes.
use Rattle.std.proofs.Common.{◌≡◌, ℕ, List, ℤ, ap, ◌∙◌}
use Rattle.opl_expr.specs.declared.forms.Op.{Op}
use Rattle.opl_expr.specs.declared.forms.Op.TheVariants.{Eq, Lt}
use Rattle.opl_expr.specs.declared.forms.Expr.{Expr}
use Rattle.opl_expr.specs.declared.forms.Expr.TheVariants as E
use Rattle.opl_expr.specs.declared.forms.Cons.TheVariants as C
use Rattle.opl_expr.specs.declared.tables.Table.{Table}
use Rattle.opl_expr.specs.declared.tables.Resource.{Resource}
use Rattle.opl_expr.specs.Forms.{Term, term, fact, compared}
use Rattle.opl_expr.proofs.Plain.{term_Const, term_Var, fact_Cmp}
use Rattle.opl_trace.specs.Answers.{is_value}
use Rattle.opl_trace.specs.Objective.{Objective, better_than}
use Rattle.std.proofs.Common.{true, false}

module _ (tables : List Table) (resources : List Resource) where
  pub compared_made : (op : Op) (l r : Expr) (s t : Term) → term tables resources l ≡ s → term tables resources r ≡ t → fact tables resources (C.Cmp op l r) ≡ compared op s t
  compared_made op l r s t e f =
      fact_Cmp tables resources op l r ∙ ap (λ u. compared op u (term tables resources r)) e ∙ ap (compared op s) f

  pub var_made : (x : ℕ) (e : Expr) → e ≡ E.Var x → term tables resources e ≡ Term.var x
  var_made x e i = ap (term tables resources) i ∙ term_Var tables resources x

  pub const_made : (k : ℤ) (e : Expr) → e ≡ E.Const k → term tables resources e ≡ Term.const k
  const_made k e i = ap (term tables resources) i ∙ term_Const tables resources k

  pub value_made : (x : ℕ) (v : ℤ) (l r : Expr) → l ≡ E.Var x → r ≡ E.Const v → fact tables resources (C.Cmp Eq l r) ≡ is_value x v
  value_made x v l r e f = compared_made Eq l r (Term.var x) (Term.const v) (var_made x l e) (const_made v r f)

  -- the objective is better than a number, as the two directions write it
  pub more_made : (g : Objective) (b : ℤ) (l r : Expr) → g.is_most ≡ true → l ≡ E.Const b → term tables resources r ≡ g.term → fact tables resources (C.Cmp Lt l r) ≡ better_than g b
  more_made g b l r i e f = rw i (compared_made Lt l r (Term.const b) g.term (const_made b l e) f)

  pub less_made : (g : Objective) (b : ℤ) (l r : Expr) → g.is_most ≡ false → term tables resources l ≡ g.term → r ≡ E.Const b → fact tables resources (C.Cmp Lt l r) ≡ better_than g b
  less_made g b l r i e f = rw i (compared_made Lt l r g.term (Term.const b) e (const_made b r f))
