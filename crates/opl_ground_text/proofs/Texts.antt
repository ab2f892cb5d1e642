-- The text of each form, and the resource of each constraint.
use Rattle.std.proofs.Common.{◌≡◌, ℕ, ℤ, Bool, List, [], ◌∷◌, codes, map, refl, ap, ◌∙◌, sym, Option, Some, None}
use Rattle.std.specs.Prelude.{slice_get}
use Rattle.std.specs.Fmt.{signed_decimal}
use Rattle.opl_expr.specs.declared.forms.Ask.{Ask}
use Rattle.opl_expr.specs.declared.forms.Op.{Op}
use Rattle.opl_expr.specs.declared.forms.Expr.{Expr}
use Rattle.opl_expr.specs.declared.forms.Expr.TheVariants as E
use Rattle.opl_expr.specs.declared.forms.Cons.{Cons}
use Rattle.opl_expr.specs.declared.forms.Cons.TheVariants as C
use Rattle.opl_expr.specs.declared.forms.Cons.TheOpen.{Expr-F, Cons-F}
use Rattle.opl_expr.specs.declared.forms.Cons.TheFolds.{fold-roll-Expr, fold-roll-Cons, map-Expr, map-Cons}
use Rattle.opl_expr.specs.declared.forms.Cons.TheViews.{roll-Expr, roll-Cons, out-Cons, out-roll-Cons}
use Rattle.opl_expr.specs.declared.model.Core.{Core}
use Rattle.opl_ground_text.specs.Texts.{node, chain, op_word, ask_word, truth_text, table_name, capacity_text, variable_name, expr_layer, cons_layer, expr_text, cons_text, resource_layer, resource_of}

module _ (core : Core) where
  layer : (d : Expr-F Cons Expr) → expr_text core (roll-Expr d) ≡ expr_layer core (map-Expr Cons Expr (List ℕ) (List ℕ) (cons_text core) (expr_text core) d)
  unfolding expr_text cons_text
  layer d = fold-roll-Expr (List ℕ) (List ℕ) (cons_layer core) (expr_layer core) d

  layer_of : (d : Cons-F Cons Expr) → cons_text core (roll-Cons d) ≡ cons_layer core (map-Cons Cons Expr (List ℕ) (List ℕ) (cons_text core) (expr_text core) d)
  unfolding expr_text cons_text
  layer_of d = fold-roll-Cons (List ℕ) (List ℕ) (cons_layer core) (expr_layer core) d

  pub text-Const : (k : ℤ) → expr_text core (E.Const k) ≡ signed_decimal k
  text-Const k = ap (expr_text core) (sym (E.rolls-Const k)) ∙ layer (Expr-F.Const k)

  pub text-Var : (x : ℕ) → expr_text core (E.Var x) ≡ variable_name core x
  text-Var x = ap (expr_text core) (sym (E.rolls-Var x)) ∙ layer (Expr-F.Var x)

  pub text-Sum : (es : List Expr) → expr_text core (E.Sum es) ≡ chain (codes "+") (map (expr_text core) es)
  text-Sum es = ap (expr_text core) (sym (E.rolls-Sum es)) ∙ layer (Expr-F.Sum es)

  pub text-Neg : (a : Expr) → expr_text core (E.Neg a) ≡ node (codes "-") (expr_text core a ∷ [])
  text-Neg a = ap (expr_text core) (sym (E.rolls-Neg a)) ∙ layer (Expr-F.Neg a)

  pub text-Mul : (a b : Expr) → expr_text core (E.Mul a b) ≡ node (codes "*") (expr_text core a ∷ expr_text core b ∷ [])
  text-Mul a b = ap (expr_text core) (sym (E.rolls-Mul a b)) ∙ layer (Expr-F.Mul a b)

  pub text-Div : (a b : Expr) → expr_text core (E.Div a b) ≡ node (codes "div") (expr_text core a ∷ expr_text core b ∷ [])
  text-Div a b = ap (expr_text core) (sym (E.rolls-Div a b)) ∙ layer (Expr-F.Div a b)

  pub text-Rem : (a b : Expr) → expr_text core (E.Rem a b) ≡ node (codes "mod") (expr_text core a ∷ expr_text core b ∷ [])
  text-Rem a b = ap (expr_text core) (sym (E.rolls-Rem a b)) ∙ layer (Expr-F.Rem a b)

  pub text-Abs : (a : Expr) → expr_text core (E.Abs a) ≡ node (codes "abs") (expr_text core a ∷ [])
  text-Abs a = ap (expr_text core) (sym (E.rolls-Abs a)) ∙ layer (Expr-F.Abs a)

  pub text-Min : (es : List Expr) → expr_text core (E.Min es) ≡ node (codes "min") (map (expr_text core) es)
  text-Min es = ap (expr_text core) (sym (E.rolls-Min es)) ∙ layer (Expr-F.Min es)

  pub text-Max : (es : List Expr) → expr_text core (E.Max es) ≡ node (codes "max") (map (expr_text core) es)
  text-Max es = ap (expr_text core) (sym (E.rolls-Max es)) ∙ layer (Expr-F.Max es)

  pub text-At : (t : ℕ) (es : List Expr) → expr_text core (E.At t es) ≡ node (codes "at") (table_name (slice_get core.tables t) ∷ map (expr_text core) es)
  text-At t es = ap (expr_text core) (sym (E.rolls-At t es)) ∙ layer (Expr-F.At t es)

  pub text-Truth : (c : Cons) → expr_text core (E.Truth c) ≡ cons_text core c
  text-Truth c = ap (expr_text core) (sym (E.rolls-Truth c)) ∙ layer (Expr-F.Truth c)

  pub text-Ask : (ask : Ask) (x : ℕ) → expr_text core (E.Ask ask x) ≡ node (ask_word ask) (variable_name core x ∷ [])
  text-Ask ask x = ap (expr_text core) (sym (E.rolls-Ask ask x)) ∙ layer (Expr-F.Ask ask x)

  pub text-Fixed : (b : Bool) → cons_text core (C.Fixed b) ≡ truth_text b
  text-Fixed b = ap (cons_text core) (sym (C.rolls-Fixed b)) ∙ layer_of (Cons-F.Fixed b)

  pub text-Cmp : (op : Op) (a b : Expr) → cons_text core (C.Cmp op a b) ≡ node (op_word op) (expr_text core a ∷ expr_text core b ∷ [])
  text-Cmp op a b = ap (cons_text core) (sym (C.rolls-Cmp op a b)) ∙ layer_of (Cons-F.Cmp op a b)

  pub text-And : (cs : List Cons) → cons_text core (C.And cs) ≡ chain (codes "&") (map (cons_text core) cs)
  text-And cs = ap (cons_text core) (sym (C.rolls-And cs)) ∙ layer_of (Cons-F.And cs)

  pub text-Or : (cs : List Cons) → cons_text core (C.Or cs) ≡ chain (codes "\\/") (map (cons_text core) cs)
  text-Or cs = ap (cons_text core) (sym (C.rolls-Or cs)) ∙ layer_of (Cons-F.Or cs)

  pub text-Imp : (a b : Cons) → cons_text core (C.Imp a b) ≡ node (codes "=>") (cons_text core a ∷ cons_text core b ∷ [])
  text-Imp a b = ap (cons_text core) (sym (C.rolls-Imp a b)) ∙ layer_of (Cons-F.Imp a b)

  pub text-Iff : (a b : Cons) → cons_text core (C.Iff a b) ≡ node (codes "<=>") (cons_text core a ∷ cons_text core b ∷ [])
  text-Iff a b = ap (cons_text core) (sym (C.rolls-Iff a b)) ∙ layer_of (Cons-F.Iff a b)

  pub text-Not : (a : Cons) → cons_text core (C.Not a) ≡ node (codes "not") (cons_text core a ∷ [])
  text-Not a = ap (cons_text core) (sym (C.rolls-Not a)) ∙ layer_of (Cons-F.Not a)

  pub text-AllDifferent : (es : List Expr) → cons_text core (C.AllDifferent es) ≡ node (codes "alldifferent") (map (expr_text core) es)
  text-AllDifferent es = ap (cons_text core) (sym (C.rolls-AllDifferent es)) ∙ layer_of (Cons-F.AllDifferent es)

  pub text-Capacity : (r : ℕ) (t : ℤ) → cons_text core (C.Capacity r t) ≡ capacity_text (slice_get core.resources r) t t
  text-Capacity r t = ap (cons_text core) (sym (C.rolls-Capacity r t)) ∙ layer_of (Cons-F.Capacity r t)

  pub text-Bound : (x : ℕ) → cons_text core (C.Bound x) ≡ node (codes "bound") (variable_name core x ∷ [])
  text-Bound x = ap (cons_text core) (sym (C.rolls-Bound x)) ∙ layer_of (Cons-F.Bound x)

-- each of these
pub ruleset texts = (text-Const, text-Var, text-Sum, text-Neg, text-Mul, text-Div, text-Rem, text-Abs, text-Min, text-Max, text-At, text-Truth, text-Ask, text-Fixed, text-Cmp, text-And, text-Or, text-Imp, text-Iff, text-Not, text-AllDifferent, text-Capacity, text-Bound)

rolled : (d : Cons-F Cons Expr) → resource_of (roll-Cons d) ≡ resource_layer d
unfolding resource_of
rolled d = ap resource_layer (out-roll-Cons d)

pub resource-Fixed : (b : Bool) → resource_of (C.Fixed b) ≡ None
resource-Fixed b = ap resource_of (sym (C.rolls-Fixed b)) ∙ rolled (Cons-F.Fixed b)

pub resource-Cmp : (op : Op) (a b : Expr) → resource_of (C.Cmp op a b) ≡ None
resource-Cmp op a b = ap resource_of (sym (C.rolls-Cmp op a b)) ∙ rolled (Cons-F.Cmp op a b)

pub resource-And : (cs : List Cons) → resource_of (C.And cs) ≡ None
resource-And cs = ap resource_of (sym (C.rolls-And cs)) ∙ rolled (Cons-F.And cs)

pub resource-Or : (cs : List Cons) → resource_of (C.Or cs) ≡ None
resource-Or cs = ap resource_of (sym (C.rolls-Or cs)) ∙ rolled (Cons-F.Or cs)

pub resource-Imp : (a b : Cons) → resource_of (C.Imp a b) ≡ None
resource-Imp a b = ap resource_of (sym (C.rolls-Imp a b)) ∙ rolled (Cons-F.Imp a b)

pub resource-Iff : (a b : Cons) → resource_of (C.Iff a b) ≡ None
resource-Iff a b = ap resource_of (sym (C.rolls-Iff a b)) ∙ rolled (Cons-F.Iff a b)

pub resource-Not : (a : Cons) → resource_of (C.Not a) ≡ None
resource-Not a = ap resource_of (sym (C.rolls-Not a)) ∙ rolled (Cons-F.Not a)

pub resource-AllDifferent : (es : List Expr) → resource_of (C.AllDifferent es) ≡ None
resource-AllDifferent es = ap resource_of (sym (C.rolls-AllDifferent es)) ∙ rolled (Cons-F.AllDifferent es)

pub resource-Capacity : (r : ℕ) (t : ℤ) → resource_of (C.Capacity r t) ≡ Some r
resource-Capacity r t = ap resource_of (sym (C.rolls-Capacity r t)) ∙ rolled (Cons-F.Capacity r t)

pub resource-Bound : (x : ℕ) → resource_of (C.Bound x) ≡ None
resource-Bound x = ap resource_of (sym (C.rolls-Bound x)) ∙ rolled (Cons-F.Bound x)

-- each of these
pub ruleset resources = (resource-Fixed, resource-Cmp, resource-And, resource-Or, resource-Imp, resource-Iff, resource-Not, resource-AllDifferent, resource-Capacity, resource-Bound)
