-- Variables one behind another.
use Rattle.std.specs.Prelude.{ℕ, zero, suc, ℤ, pos, Bool, true, ◌&&◌, slice_index_or, List, [], ◌∷◌}
use Rattle.opl_expr.specs.declared.forms.Expr.{Expr}
use Rattle.opl_expr.specs.declared.forms.Expr.TheVariants as E
use Rattle.opl_expr.specs.Sound.{var_magnitude}
use Rattle.opl_form.specs.Nodes.{has_positions}

-- So many variables from number x on.
abbrev pub run : ℕ → ℕ → List Expr
run x zero = []
run x (suc n) = E.Var x ∷ run (suc x) n

module _ (sets : List (ℤ × ℤ)) where
  -- Their magnitudes.
  abbrev pub run_sizes : ℕ → ℕ → List ℕ
  run_sizes x zero = []
  run_sizes x (suc n) = var_magnitude sets x ∷ run_sizes (suc x) n

  -- Whether no declared set of them has a number below 0.
  abbrev pub all_positions : ℕ → ℕ → Bool
  all_positions x zero = true
  all_positions x (suc n) = has_positions (slice_index_or sets x (pos 0, pos 0)) && all_positions (suc x) n
