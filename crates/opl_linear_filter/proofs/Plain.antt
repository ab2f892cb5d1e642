-- The number beside the variables, for each form of expression as the code sees it.
use Rattle.std.proofs.Common.{◌≡◌, List, map, ℤ, ap}
use Rattle.std.specs.Prelude.{ℕ, slice_get}
use Rattle.opl_expr.specs.declared.forms.Ask.{Ask}
use Rattle.opl_expr.specs.declared.forms.Expr.{Expr}
use Rattle.opl_expr.specs.declared.forms.Expr.TheVariants as E
use Rattle.opl_expr.specs.declared.forms.Cons.{Cons}
use Rattle.opl_expr.specs.declared.tables.Table.{Table}
use Rattle.opl_expr.specs.declared.tables.Resource.{Resource}
use Rattle.opl_expr.specs.Forms.{Term, terms_of, product, term, fact}
use Rattle.opl_expr.proofs.Plain.{term_Const, term_Var, term_Sum, term_Neg, term_Mul, term_Div, term_Rem, term_Abs, term_Min, term_Max, term_At, term_Truth, term_Ask}
use Rattle.opl_linear.specs.Forms.{constant_part}

module _ (tables : List Table) (resources : List Resource) where
  pub part_Const : (k : ℤ) → constant_part (term tables resources (E.Const k)) ≡ constant_part (Term.const k)
  part_Const k = ap constant_part (term_Const tables resources k)

  pub part_Var : (x : ℕ) → constant_part (term tables resources (E.Var x)) ≡ constant_part (Term.var x)
  part_Var x = ap constant_part (term_Var tables resources x)

  pub part_Sum : (es : List Expr) → constant_part (term tables resources (E.Sum es)) ≡ constant_part (Term.sum (terms_of (map (term tables resources) es)))
  part_Sum es = ap constant_part (term_Sum tables resources es)

  pub part_Neg : (a : Expr) → constant_part (term tables resources (E.Neg a)) ≡ constant_part (Term.neg (term tables resources a))
  part_Neg a = ap constant_part (term_Neg tables resources a)

  pub part_Mul : (a b : Expr) → constant_part (term tables resources (E.Mul a b)) ≡ constant_part (product (term tables resources a) (term tables resources b))
  part_Mul a b = ap constant_part (term_Mul tables resources a b)

  pub part_Div : (a b : Expr) → constant_part (term tables resources (E.Div a b)) ≡ constant_part (Term.div (term tables resources a) (term tables resources b))
  part_Div a b = ap constant_part (term_Div tables resources a b)

  pub part_Rem : (a b : Expr) → constant_part (term tables resources (E.Rem a b)) ≡ constant_part (Term.rem (term tables resources a) (term tables resources b))
  part_Rem a b = ap constant_part (term_Rem tables resources a b)

  pub part_Abs : (a : Expr) → constant_part (term tables resources (E.Abs a)) ≡ constant_part (Term.abs (term tables resources a))
  part_Abs a = ap constant_part (term_Abs tables resources a)

  pub part_Min : (es : List Expr) → constant_part (term tables resources (E.Min es)) ≡ constant_part (Term.least (terms_of (map (term tables resources) es)))
  part_Min es = ap constant_part (term_Min tables resources es)

  pub part_Max : (es : List Expr) → constant_part (term tables resources (E.Max es)) ≡ constant_part (Term.greatest (terms_of (map (term tables resources) es)))
  part_Max es = ap constant_part (term_Max tables resources es)

  pub part_At : (t : ℕ) (es : List Expr) → constant_part (term tables resources (E.At t es)) ≡ constant_part (Term.at (slice_get tables t) (terms_of (map (term tables resources) es)))
  part_At t es = ap constant_part (term_At tables resources t es)

  pub part_Truth : (c : Cons) → constant_part (term tables resources (E.Truth c)) ≡ constant_part (Term.truth (fact tables resources c))
  part_Truth c = ap constant_part (term_Truth tables resources c)

  pub part_Ask : (ask : Ask) (x : ℕ) → constant_part (term tables resources (E.Ask ask x)) ≡ constant_part (Term.asked ask x)
  part_Ask ask x = ap constant_part (term_Ask tables resources ask x)

pub ruleset parts_are = (part_Const, part_Var, part_Sum, part_Neg, part_Mul, part_Div, part_Rem, part_Abs, part_Min, part_Max, part_At, part_Truth, part_Ask)
