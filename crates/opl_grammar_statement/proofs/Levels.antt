-- One level less of statements.
use Rattle.std.proofs.Common.{◌≡◌, ℕ, suc, ◌-◌, ◌<◌, Err, refl, ap, ◌∙◌, arith}
use Rattle.opl_grammar.specs.Input.{Input, too_deep}
use Rattle.opl_grammar.specs.Rules.{rules}
use Rattle.opl_grammar.specs.Search.{statement_rules, statement_level}
use Rattle.opl_grammar_statement.specs.declared.wanted_statements.WantedStatements.TheVariants as statements_wanted
use Rattle.opl_grammar_statement.specs.declared.wanted_statements.WantedStatements.{WantedStatements}
use Rattle.opl_grammar_statement.specs.StatementNests as statements

statements_none : (at : ℕ) (w : WantedStatements) (i : Input) → statements.one_of (statement_rules 0) at w i ≡ Err (too_deep at)
unfolding statement_rules
statements_none at statements_wanted.Statements i = refl
statements_none at statements_wanted.Alternatives i = refl
statements_none at statements_wanted.Branch i = refl
statements_none at statements_wanted.Statement i = refl
statements_none at statements_wanted.Loop i = refl
statements_none at statements_wanted.Choice i = refl

-- where no level is left, the opening token is one too many
pub statements_refuse : (levels at : ℕ) (w : WantedStatements) (i : Input) → levels ≡ 0 → statements.read levels at w i ≡ Err (too_deep at)
unfolding statements.read
statements_refuse levels at w i e = rw e (statements_none at w i)

statements_more : (n at : ℕ) (w : WantedStatements) (i : Input) → statements.read (suc n) at w i ≡ statements.one_of (statement_level (rules n) (statement_rules n)) at w i
unfolding statements.read statement_rules
statements_more n at w i = refl

-- where one is left, what is wanted is read over the others
pub statements_level : (levels at : ℕ) (w : WantedStatements) (i : Input) → 0 < levels → statements.read levels at w i ≡ statements.one_of (statement_level (rules (levels - 1)) (statement_rules (levels - 1))) at w i
statements_level levels at w i some = let e : levels ≡ suc (levels - 1) = omega arith in ap (λ n. statements.read n at w i) e ∙ statements_more (levels - 1) at w i
