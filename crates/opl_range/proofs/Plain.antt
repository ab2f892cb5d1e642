-- What the words of the definitions say of each form of expression, as the code sees it.
use Rattle.std.proofs.Common.{◌≡◌, List, map, ℤ, refl, ap, ◌∙◌}
use Rattle.std.specs.Prelude.{ℕ, slice_get, None}
use Rattle.opl_expr.specs.declared.forms.Ask.{Ask}
use Rattle.opl_expr.specs.declared.forms.Expr.{Expr}
use Rattle.opl_expr.specs.declared.forms.Expr.TheVariants as E
use Rattle.opl_expr.specs.declared.forms.Cons.{Cons}
use Rattle.opl_expr.specs.declared.tables.Table.{Table}
use Rattle.opl_expr.specs.declared.tables.Resource.{Resource}
use Rattle.opl_expr.specs.Forms.{Term, terms_of, product, term, fact, constant_value}
use Rattle.opl_expr.specs.Range.{coef, pure}
use Rattle.opl_expr.proofs.Parts.{product_cases}
use Rattle.opl_expr.proofs.Plain.{term_Const, term_Var, term_Sum, term_Neg, term_Mul, term_Div, term_Rem, term_Abs, term_Min, term_Max, term_At, term_Truth, term_Ask}

no_constant : (s t : Term) → constant_value (product s t) ≡ None
no_constant = product_cases (λ s t p. constant_value p ≡ None) (λ k t. refl) (λ s k. refl) (λ s t. refl)

module _ (tables : List Table) (resources : List Resource) where
  pub constant_Mul : (a b : Expr) → constant_value (term tables resources (E.Mul a b)) ≡ None
  constant_Mul a b = ap constant_value (term_Mul tables resources a b) ∙ no_constant (term tables resources a) (term tables resources b)

  pub constant_Const : (k : ℤ) → constant_value (term tables resources (E.Const k)) ≡ constant_value (Term.const k)
  constant_Const k = ap (constant_value) (term_Const tables resources k)

  pub constant_Var : (x : ℕ) → constant_value (term tables resources (E.Var x)) ≡ constant_value (Term.var x)
  constant_Var x = ap (constant_value) (term_Var tables resources x)

  pub constant_Sum : (es : List Expr) → constant_value (term tables resources (E.Sum es)) ≡ constant_value (Term.sum (terms_of (map (term tables resources) es)))
  constant_Sum es = ap (constant_value) (term_Sum tables resources es)

  pub constant_Neg : (a : Expr) → constant_value (term tables resources (E.Neg a)) ≡ constant_value (Term.neg (term tables resources a))
  constant_Neg a = ap (constant_value) (term_Neg tables resources a)

  pub constant_Div : (a b : Expr) → constant_value (term tables resources (E.Div a b)) ≡ constant_value (Term.div (term tables resources a) (term tables resources b))
  constant_Div a b = ap (constant_value) (term_Div tables resources a b)

  pub constant_Rem : (a b : Expr) → constant_value (term tables resources (E.Rem a b)) ≡ constant_value (Term.rem (term tables resources a) (term tables resources b))
  constant_Rem a b = ap (constant_value) (term_Rem tables resources a b)

  pub constant_Abs : (a : Expr) → constant_value (term tables resources (E.Abs a)) ≡ constant_value (Term.abs (term tables resources a))
  constant_Abs a = ap (constant_value) (term_Abs tables resources a)

  pub constant_Min : (es : List Expr) → constant_value (term tables resources (E.Min es)) ≡ constant_value (Term.least (terms_of (map (term tables resources) es)))
  constant_Min es = ap (constant_value) (term_Min tables resources es)

  pub constant_Max : (es : List Expr) → constant_value (term tables resources (E.Max es)) ≡ constant_value (Term.greatest (terms_of (map (term tables resources) es)))
  constant_Max es = ap (constant_value) (term_Max tables resources es)

  pub constant_At : (t : ℕ) (es : List Expr) → constant_value (term tables resources (E.At t es)) ≡ constant_value (Term.at (slice_get tables t) (terms_of (map (term tables resources) es)))
  constant_At t es = ap (constant_value) (term_At tables resources t es)

  pub constant_Truth : (c : Cons) → constant_value (term tables resources (E.Truth c)) ≡ constant_value (Term.truth (fact tables resources c))
  constant_Truth c = ap (constant_value) (term_Truth tables resources c)

  pub constant_Ask : (ask : Ask) (x : ℕ) → constant_value (term tables resources (E.Ask ask x)) ≡ constant_value (Term.asked ask x)
  constant_Ask ask x = ap (constant_value) (term_Ask tables resources ask x)

  pub coef_Const : (k : ℤ) (v : ℕ) → coef (term tables resources (E.Const k)) v ≡ coef (Term.const k) v
  coef_Const k v = ap (λ t. coef t v) (term_Const tables resources k)

  pub coef_Var : (x : ℕ) (v : ℕ) → coef (term tables resources (E.Var x)) v ≡ coef (Term.var x) v
  coef_Var x v = ap (λ t. coef t v) (term_Var tables resources x)

  pub coef_Sum : (es : List Expr) (v : ℕ) → coef (term tables resources (E.Sum es)) v ≡ coef (Term.sum (terms_of (map (term tables resources) es))) v
  coef_Sum es v = ap (λ t. coef t v) (term_Sum tables resources es)

  pub coef_Neg : (a : Expr) (v : ℕ) → coef (term tables resources (E.Neg a)) v ≡ coef (Term.neg (term tables resources a)) v
  coef_Neg a v = ap (λ t. coef t v) (term_Neg tables resources a)

  pub coef_Mul : (a b : Expr) (v : ℕ) → coef (term tables resources (E.Mul a b)) v ≡ coef (product (term tables resources a) (term tables resources b)) v
  coef_Mul a b v = ap (λ t. coef t v) (term_Mul tables resources a b)

  pub coef_Div : (a b : Expr) (v : ℕ) → coef (term tables resources (E.Div a b)) v ≡ coef (Term.div (term tables resources a) (term tables resources b)) v
  coef_Div a b v = ap (λ t. coef t v) (term_Div tables resources a b)

  pub coef_Rem : (a b : Expr) (v : ℕ) → coef (term tables resources (E.Rem a b)) v ≡ coef (Term.rem (term tables resources a) (term tables resources b)) v
  coef_Rem a b v = ap (λ t. coef t v) (term_Rem tables resources a b)

  pub coef_Abs : (a : Expr) (v : ℕ) → coef (term tables resources (E.Abs a)) v ≡ coef (Term.abs (term tables resources a)) v
  coef_Abs a v = ap (λ t. coef t v) (term_Abs tables resources a)

  pub coef_Min : (es : List Expr) (v : ℕ) → coef (term tables resources (E.Min es)) v ≡ coef (Term.least (terms_of (map (term tables resources) es))) v
  coef_Min es v = ap (λ t. coef t v) (term_Min tables resources es)

  pub coef_Max : (es : List Expr) (v : ℕ) → coef (term tables resources (E.Max es)) v ≡ coef (Term.greatest (terms_of (map (term tables resources) es))) v
  coef_Max es v = ap (λ t. coef t v) (term_Max tables resources es)

  pub coef_At : (t : ℕ) (es : List Expr) (v : ℕ) → coef (term tables resources (E.At t es)) v ≡ coef (Term.at (slice_get tables t) (terms_of (map (term tables resources) es))) v
  coef_At t es v = ap (λ t. coef t v) (term_At tables resources t es)

  pub coef_Truth : (c : Cons) (v : ℕ) → coef (term tables resources (E.Truth c)) v ≡ coef (Term.truth (fact tables resources c)) v
  coef_Truth c v = ap (λ t. coef t v) (term_Truth tables resources c)

  pub coef_Ask : (ask : Ask) (x : ℕ) (v : ℕ) → coef (term tables resources (E.Ask ask x)) v ≡ coef (Term.asked ask x) v
  coef_Ask ask x v = ap (λ t. coef t v) (term_Ask tables resources ask x)

  pub pure_Const : (k : ℤ) → pure (term tables resources (E.Const k)) ≡ pure (Term.const k)
  pure_Const k = ap (pure) (term_Const tables resources k)

  pub pure_Var : (x : ℕ) → pure (term tables resources (E.Var x)) ≡ pure (Term.var x)
  pure_Var x = ap (pure) (term_Var tables resources x)

  pub pure_Sum : (es : List Expr) → pure (term tables resources (E.Sum es)) ≡ pure (Term.sum (terms_of (map (term tables resources) es)))
  pure_Sum es = ap (pure) (term_Sum tables resources es)

  pub pure_Neg : (a : Expr) → pure (term tables resources (E.Neg a)) ≡ pure (Term.neg (term tables resources a))
  pure_Neg a = ap (pure) (term_Neg tables resources a)

  pub pure_Mul : (a b : Expr) → pure (term tables resources (E.Mul a b)) ≡ pure (product (term tables resources a) (term tables resources b))
  pure_Mul a b = ap (pure) (term_Mul tables resources a b)

  pub pure_Div : (a b : Expr) → pure (term tables resources (E.Div a b)) ≡ pure (Term.div (term tables resources a) (term tables resources b))
  pure_Div a b = ap (pure) (term_Div tables resources a b)

  pub pure_Rem : (a b : Expr) → pure (term tables resources (E.Rem a b)) ≡ pure (Term.rem (term tables resources a) (term tables resources b))
  pure_Rem a b = ap (pure) (term_Rem tables resources a b)

  pub pure_Abs : (a : Expr) → pure (term tables resources (E.Abs a)) ≡ pure (Term.abs (term tables resources a))
  pure_Abs a = ap (pure) (term_Abs tables resources a)

  pub pure_Min : (es : List Expr) → pure (term tables resources (E.Min es)) ≡ pure (Term.least (terms_of (map (term tables resources) es)))
  pure_Min es = ap (pure) (term_Min tables resources es)

  pub pure_Max : (es : List Expr) → pure (term tables resources (E.Max es)) ≡ pure (Term.greatest (terms_of (map (term tables resources) es)))
  pure_Max es = ap (pure) (term_Max tables resources es)

  pub pure_At : (t : ℕ) (es : List Expr) → pure (term tables resources (E.At t es)) ≡ pure (Term.at (slice_get tables t) (terms_of (map (term tables resources) es)))
  pure_At t es = ap (pure) (term_At tables resources t es)

  pub pure_Truth : (c : Cons) → pure (term tables resources (E.Truth c)) ≡ pure (Term.truth (fact tables resources c))
  pure_Truth c = ap (pure) (term_Truth tables resources c)

  pub pure_Ask : (ask : Ask) (x : ℕ) → pure (term tables resources (E.Ask ask x)) ≡ pure (Term.asked ask x)
  pure_Ask ask x = ap (pure) (term_Ask tables resources ask x)

pub ruleset constants = (constant_Const, constant_Var, constant_Sum, constant_Neg, constant_Mul, constant_Div, constant_Rem, constant_Abs, constant_Min, constant_Max, constant_At, constant_Truth, constant_Ask)

pub ruleset coefs_are = (coef_Const, coef_Var, coef_Sum, coef_Neg, coef_Mul, coef_Div, coef_Rem, coef_Abs, coef_Min, coef_Max, coef_At, coef_Truth, coef_Ask)

pub ruleset pures = (pure_Const, pure_Var, pure_Sum, pure_Neg, pure_Mul, pure_Div, pure_Rem, pure_Abs, pure_Min, pure_Max, pure_At, pure_Truth, pure_Ask)
