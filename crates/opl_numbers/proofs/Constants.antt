-- Which expressions are numbers that are written down.
use Rattle.std.proofs.Common.{◌≡◌, ℕ, ℤ, true, false, List, [], Option, Some, None, is_some, refl, ap, ◌∙◌}
use Rattle.opl_expr.specs.declared.forms.Ask.{Ask}
use Rattle.opl_expr.specs.declared.forms.Cons.{Cons}
use Rattle.opl_expr.specs.declared.forms.Expr.{Expr}
use Rattle.opl_expr.specs.declared.forms.Expr.TheVariants as E
use Rattle.opl_expr.specs.Forms.{Term, constant_value, product_by, term}
use Rattle.opl_expr.proofs.Plain.{term_Abs, term_Ask, term_At, term_Const, term_Div, term_Max, term_Min, term_Mul, term_Neg, term_Rem, term_Sum, term_Truth, term_Var}
use Rattle.opl_form.specs.Parts.{tables}
use Rattle.opl_nodes.specs.declared.context.Context.{Context}
use Rattle.opl_nodes.specs.Contexts.{arrays}
use Rattle.opl_numbers.specs.Numbers.{is_constant}

product-live : (o p : Option ℤ) (s t : Term) → is_some (constant_value (product_by o p s t)) ≡ false
product-live (Some k) p s t = refl
product-live None (Some k) s t = refl
product-live None None s t = refl

module _ (c : Context) where
  pub constant-Const : (k : ℤ) → is_constant c (E.Const k) ≡ true
  constant-Const k = ap (λ t. is_some (constant_value t)) (term_Const (tables (arrays c)) [] k)

  pub constant-Var : (x : ℕ) → is_constant c (E.Var x) ≡ false
  constant-Var x = ap (λ t. is_some (constant_value t)) (term_Var (tables (arrays c)) [] x)

  pub constant-Sum : (es : List Expr) → is_constant c (E.Sum es) ≡ false
  constant-Sum es = ap (λ t. is_some (constant_value t)) (term_Sum (tables (arrays c)) [] es)

  pub constant-Neg : (a : Expr) → is_constant c (E.Neg a) ≡ false
  constant-Neg a = ap (λ t. is_some (constant_value t)) (term_Neg (tables (arrays c)) [] a)

  pub constant-Mul : (a b : Expr) → is_constant c (E.Mul a b) ≡ false
  constant-Mul a b =
      let s : Term = term (tables (arrays c)) [] a in
      let t : Term = term (tables (arrays c)) [] b in
      ap (λ t. is_some (constant_value t)) (term_Mul (tables (arrays c)) [] a b) ∙ product-live (constant_value s) (constant_value t) s t

  pub constant-Div : (a b : Expr) → is_constant c (E.Div a b) ≡ false
  constant-Div a b = ap (λ t. is_some (constant_value t)) (term_Div (tables (arrays c)) [] a b)

  pub constant-Rem : (a b : Expr) → is_constant c (E.Rem a b) ≡ false
  constant-Rem a b = ap (λ t. is_some (constant_value t)) (term_Rem (tables (arrays c)) [] a b)

  pub constant-Abs : (a : Expr) → is_constant c (E.Abs a) ≡ false
  constant-Abs a = ap (λ t. is_some (constant_value t)) (term_Abs (tables (arrays c)) [] a)

  pub constant-Min : (es : List Expr) → is_constant c (E.Min es) ≡ false
  constant-Min es = ap (λ t. is_some (constant_value t)) (term_Min (tables (arrays c)) [] es)

  pub constant-Max : (es : List Expr) → is_constant c (E.Max es) ≡ false
  constant-Max es = ap (λ t. is_some (constant_value t)) (term_Max (tables (arrays c)) [] es)

  pub constant-At : (a : ℕ) (es : List Expr) → is_constant c (E.At a es) ≡ false
  constant-At a es = ap (λ t. is_some (constant_value t)) (term_At (tables (arrays c)) [] a es)

  pub constant-Truth : (d : Cons) → is_constant c (E.Truth d) ≡ false
  constant-Truth d = ap (λ t. is_some (constant_value t)) (term_Truth (tables (arrays c)) [] d)

  pub constant-Ask : (ask : Ask) (x : ℕ) → is_constant c (E.Ask ask x) ≡ false
  constant-Ask ask x = ap (λ t. is_some (constant_value t)) (term_Ask (tables (arrays c)) [] ask x)

pub ruleset constants = (constant-Const, constant-Var, constant-Sum, constant-Neg, constant-Mul, constant-Div, constant-Rem, constant-Abs, constant-Min, constant-Max, constant-At, constant-Truth, constant-Ask)
