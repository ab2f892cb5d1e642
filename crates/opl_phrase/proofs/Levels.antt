-- One level less.
use Rattle.std.proofs.Common.{◌≡◌, ℕ, suc, ◌-◌, ◌<◌, Err, refl, ap, ◌∙◌, arith}
use Rattle.opl_grammar.specs.Input.{Input, too_deep}
use Rattle.opl_grammar.specs.Rules.{rules, level}
use Rattle.opl_phrase.specs.declared.wanted.Wanted.{Wanted}
use Rattle.opl_phrase.specs.declared.wanted.Wanted.TheVariants as wanted
use Rattle.opl_phrase.specs.Nests.{one_of, read}

no_rules_refuse : (at : ℕ) (w : Wanted) (i : Input) → one_of (rules 0) at w i ≡ Err (too_deep at)
unfolding rules
no_rules_refuse at wanted.Expr i = refl
no_rules_refuse at wanted.Add i = refl
no_rules_refuse at wanted.Post i = refl
no_rules_refuse at wanted.Params i = refl
no_rules_refuse at wanted.Ordered i = refl
no_rules_refuse at wanted.Ends i = refl
no_rules_refuse at wanted.Imp i = refl
no_rules_refuse at wanted.Neg i = refl
no_rules_refuse at wanted.Operand i = refl
no_rules_refuse at wanted.Aggregate i = refl
no_rules_refuse at wanted.Adds i = refl
no_rules_refuse at wanted.Listed i = refl
no_rules_refuse at wanted.Keyed i = refl
no_rules_refuse at wanted.Braced i = refl
no_rules_refuse at wanted.Names i = refl
no_rules_refuse at wanted.Type i = refl
no_rules_refuse at wanted.Fields i = refl
no_rules_refuse at wanted.Dims i = refl

-- where no level is left, the opening token is one too many
pub no_level_refuses : (levels at : ℕ) (w : Wanted) (i : Input) → levels ≡ 0 → read levels at w i ≡ Err (too_deep at)
unfolding read
no_level_refuses levels at w i e = rw e (no_rules_refuse at w i)

one_level_more : (n at : ℕ) (w : Wanted) (i : Input) → read (suc n) at w i ≡ one_of (level (rules n)) at w i
unfolding read rules
one_level_more n at w i = refl

-- where one is left, what is wanted is read over the others
pub one_level : (levels at : ℕ) (w : Wanted) (i : Input) → 0 < levels → read levels at w i ≡ one_of (level (rules (levels - 1))) at w i
one_level levels at w i some = let e : levels ≡ suc (levels - 1) = omega arith in ap (λ n. read n at w i) e ∙ one_level_more (levels - 1) at w i
