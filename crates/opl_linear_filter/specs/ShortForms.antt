-- Short forms: of one variable, or of two with the factors 1 and -1. That such a form is 0 is decided by the values of its variables.
use Rattle.std.specs.Prelude.{◌≡◌, ℕ, ◌+◌, Bool, true, false, cond, List, [], ◌∷◌, length, ℤ, neg_ℤ, unsigned_abs}
use Rattle.opl_domain.specs.Family.{Family, Below}
use Rattle.opl_expr.specs.declared.model.Core.{Core}
use Rattle.opl_expr.specs.Forms.{Term, Terms, Fact}
use Rattle.opl_expr.specs.Forms.Relation.{equal}
use Rattle.opl_expr.specs.Range.{has_zero}
use Rattle.opl_expr.specs.Solutions.{declared}
use Rattle.opl_expr.specs.Sound.{IsSmall}
use Rattle.opl_linear.specs.Linear.{factor_in, AreAmong, AreFactors}
use Rattle.opl_linear_filter.specs.Parts.{weight_of, is_short, AreFalling}

abbrev pub scaled : List (ℕ × ℤ) → Terms
scaled [] = Terms.no_terms
scaled (p ∷ ps) = Terms.more_terms (Term.scale p.1 (Term.var p.0)) (scaled ps)

-- that the parts and a constant are 0, as a constraint
abbrev pub equation : List (ℕ × ℤ) → ℤ → Fact
equation ps k = Fact.cmp equal (Term.sum (scaled ps)) (Term.const (neg_ℤ k))

-- no values of the variables make the parts and the constant 0
abbrev pub is_never_zero : List (ℕ × ℤ) → ℤ → Family → Bool
is_never_zero ps k F = cond (has_zero F (factor_in ps) k (length F)) false true

-- a short form of variables of a core, all of whose sums fit
pub record IsShort (core : Core) (ps : List (ℕ × ℤ)) (k : ℤ) : Type 0 where
  pub short : is_short ps ≡ true
  pub falling : AreFalling ps
  pub among : AreAmong (length core.sets) ps
  pub factors : AreFactors ps
  pub fits : IsSmall (unsigned_abs k + weight_of core.sets ps)

-- so it is, and all values of the sets are declared
pub record CanTest (ps : List (ℕ × ℤ)) (k : ℤ) (F : Family) : Type 0 where
  pub core : Core
  pub form : IsShort core ps k
  pub below : Below F (declared core)
