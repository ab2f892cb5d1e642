-- One level less.
use Rattle.std.proofs.Common.{◌≡◌, ℕ, suc, ◌-◌, ◌<◌, refl, ap, ◌∙◌, arith}
use Rattle.opl_grammar.specs.Input.{Input}
use Rattle.opl_data.specs.Grammar.{rules, level, no_level, value, value_within}

no_rules : rules 0 ≡ no_level
unfolding rules
no_rules = refl

-- where no level is left, an opening token is one too many
pub no_level_left : (levels : ℕ) (i : Input) → levels ≡ 0 → value_within levels i ≡ value no_level i
no_level_left levels i e = ap (λ n. value (rules n) i) e ∙ ap (λ r. value r i) no_rules

one_more : (n : ℕ) → rules (suc n) ≡ level (value_within n)
unfolding rules
one_more n = refl

-- where one is left, a value is read over the others
pub one_level : (levels : ℕ) (i : Input) → 0 < levels → value_within levels i ≡ value (level (value_within (levels - 1))) i
one_level levels i some = let e : levels ≡ suc (levels - 1) = omega arith in ap (λ n. value (rules n) i) e ∙ ap (λ r. value r i) (one_more (levels - 1))
