-- The values of variables one behind another.
use Rattle.std.proofs.Common.{◌≡◌, ℕ, zero, suc, ◌+◌, ◌<◌, ◌≤◌, ℤ, pos, List, [], ◌∷◌, ◌++◌, refl, ap, ◌∙◌, arith}
use Rattle.std.specs.Prelude.{slice_index_or}
use Rattle.opl_value.specs.declared.value.Value.TheVariants as values
use Rattle.opl_value.specs.Places.{value_at}
use Rattle.opl_meaning.specs.declared.variable.Kind.{Kind}
use Rattle.opl_meaning.specs.Assigned.{value_of}
use Rattle.opl_draft.specs.Drafts.{variable_values}

module _ (ns : List ℤ) (kind : Kind) where
  -- one more
  pub variables-last : (x n : ℕ) → variable_values [] ns kind x (n + 1) ≡ variable_values [] ns kind x n ++ value_of kind (slice_index_or ns (x + n) (pos 0)) ∷ []
  variables-last x n = ap (variable_values [] ns kind x) (plus-one n) ∙ by n x
    where
      plus-one : (n : ℕ) → n + 1 ≡ suc n
      plus-one n = omega arith

      same : (x : ℕ) → x ≡ x + 0
      same x = omega arith

      next : (x n : ℕ) → suc x + n ≡ x + suc n
      next x n = omega arith

      by : (n x : ℕ) → variable_values [] ns kind x (suc n) ≡ variable_values [] ns kind x n ++ value_of kind (slice_index_or ns (x + n) (pos 0)) ∷ []
      by zero x = ap (λ y. value_of kind (slice_index_or ns y (pos 0)) ∷ []) (same x)
      by (suc n) x =
          ap (λ vs. value_of kind (slice_index_or ns x (pos 0)) ∷ vs)
          (by n (suc x) ∙ ap (λ y. variable_values [] ns kind (suc x) n ++ value_of kind (slice_index_or ns y (pos 0)) ∷ []) (next x n))

  -- the value at a place
  pub variables-at : (x n p : ℕ) → p < n → value_at (variable_values [] ns kind x n) p ≡ value_of kind (slice_index_or ns (x + p) (pos 0))
  variables-at x zero p l = absurd (omega (arith, l))
  variables-at x (suc n) zero l = ap (λ y. value_of kind (slice_index_or ns y (pos 0))) (same x)
    where
      same : (x : ℕ) → x ≡ x + 0
      same x = omega arith
  variables-at x (suc n) (suc p) l = variables-at (suc x) n p (omega (arith, l)) ∙ ap (λ y. value_of kind (slice_index_or ns y (pos 0))) (next x p)
    where
      next : (x p : ℕ) → suc x + p ≡ x + suc p
      next x p = omega arith

  pub variables-past : (x n p : ℕ) → n ≤ p → value_at (variable_values [] ns kind x n) p ≡ values.Int (pos 0)
  variables-past x zero p l = refl
  variables-past x (suc n) zero l = absurd (omega (arith, l))
  variables-past x (suc n) (suc p) l = variables-past (suc x) n p (omega (arith, l))

pub ruleset places = (variables-at, variables-past)
