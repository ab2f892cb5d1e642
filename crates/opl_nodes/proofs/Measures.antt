-- The magnitudes of values and of truths.
use Rattle.std.proofs.Common.{◌≡◌, ℤ, unsigned_abs, [], ap}
use Rattle.opl_expr.specs.declared.forms.Cons.{Cons}
use Rattle.opl_expr.specs.declared.forms.Expr.TheVariants as E
use Rattle.opl_expr.specs.Sound.{term_magnitude}
use Rattle.opl_expr.proofs.Plain.{term_Const, term_Truth}
use Rattle.opl_form.specs.Parts.{tables}
use Rattle.opl_nodes.specs.declared.context.Context.{Context}
use Rattle.opl_nodes.specs.Contexts.{arrays, sets}
use Rattle.opl_nodes.specs.Pieces.{magnitude}

module _ (c : Context) where
  pub magnitude-Const : (k : ℤ) → magnitude c (E.Const k) ≡ unsigned_abs k
  unfolding magnitude
  magnitude-Const k = ap (term_magnitude (sets c)) (term_Const (tables (arrays c)) [] k)

  pub magnitude-Truth : (d : Cons) → magnitude c (E.Truth d) ≡ 1
  unfolding magnitude
  magnitude-Truth d = ap (term_magnitude (sets c)) (term_Truth (tables (arrays c)) [] d)

pub ruleset leaves = (magnitude-Const, magnitude-Truth)
