-- Comparisons whose sides are sums of multiples of variables and of numbers: what the difference of the sides is to be, and when a
-- family refutes it.
use Rattle.std.specs.Prelude.{ℕ, Bool, true, false, cond, ℤ, pos, ◌+ℤ◌, ◌*ℤ◌, neg_ℤ}
use Rattle.opl_domain.specs.Family.{Family}
use Rattle.opl_expr.specs.declared.forms.Op.{Op}
use Rattle.opl_expr.specs.declared.forms.Op.TheVariants.{Eq, Ne, Lt, Le, Gt, Ge}
use Rattle.opl_expr.specs.Forms.{Term, Terms}
use Rattle.opl_linear.specs.declared.kind.Kind.{Kind}
use Rattle.opl_linear.specs.declared.kind.Kind.TheVariants as kind
use Rattle.opl_linear.specs.Linear.{is_above, is_zero}
use Rattle.opl_linear.specs.Alternating.{either}

-- ---- the difference of two sides

abbrev mutual
  -- the number that stands beside the variables in an expression
  pub constant_part : Term → ℤ
  constant_part (Term.const k) = k
  constant_part (Term.sum ts) = constant_parts ts
  constant_part (Term.neg t) = neg_ℤ (constant_part t)
  constant_part (Term.scale k t) = k *ℤ constant_part t
  constant_part t = pos 0

  pub constant_parts : Terms → ℤ
  constant_parts Terms.no_terms = pos 0
  constant_parts (Terms.more_terms t ts) = constant_part t +ℤ constant_parts ts

-- what the difference of the sides is to be; for `>` and `>=` the sides are exchanged
abbrev pub kind_of : Op → Kind
kind_of Eq = kind.Zero
kind_of Ne = kind.Different
kind_of Lt = kind.Below
kind_of Le = kind.AtMost
kind_of Gt = kind.Below
kind_of Ge = kind.AtMost

abbrev pub is_exchanged : Op → Bool
is_exchanged Gt = true
is_exchanged Ge = true
is_exchanged _ = false

abbrev pub left_of : Op → Term → Term → Term
left_of op a b = cond (is_exchanged op) b a

abbrev pub right_of : Op → Term → Term → Term
right_of op a b = cond (is_exchanged op) a b

-- ---- what a family refutes

-- the family refutes that a form, by its factors and its constant, is what it is to be
abbrev pub rejects : Kind → (ℕ → ℤ) → ℤ → Family → Bool
rejects kind.AtMost c k F = is_above c k F
rejects kind.Below c k F = is_above c (k +ℤ pos 1) F
rejects kind.Zero c k F = either (is_above c k) (is_above (λ x. neg_ℤ (c x)) (neg_ℤ k)) F
rejects kind.Different c k F = is_zero c k F
