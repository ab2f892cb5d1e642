-- What the code finds of conditions and keys.
use Rattle.std.proofs.Common.{◌≡◌, Bool, ◌||◌, ℤ, pos, ap, sym, ◌∙◌}
use Rattle.std.specs.Prelude.{Option, Some, None}
use Rattle.opl_domain.specs.Span.{Span}
use Rattle.opl_domain.specs.Family.{Family}
use Rattle.opl_expr.specs.Forms.{Term, Fact}
use Rattle.opl_expr.specs.Options.{lift1, bind1}
use Rattle.opl_expr.specs.Range.{range, fact_range}
use Rattle.opl_trace.specs.Answers.{is_some_point, answered, answered_term, is_met, is_decided, key_value}

pub met_is : (F : Family) (c d : Fact) (r : Bool) (o : Option Span) → d ≡ answered F c → o ≡ fact_range F d → r ≡ is_some_point (pos 1) o → r ≡ is_met F c
unfolding is_met
met_is F c d r o e i j = j ∙ ap (is_some_point (pos 1)) (i ∙ ap (fact_range F) e)

pub decided_is : (F : Family) (c : Fact) (r s : Bool) (o p : Option Span) → o ≡ fact_range F c → r ≡ is_some_point (pos 0) o → p ≡ fact_range F c → s ≡ is_some_point (pos 1) p → (r || s) ≡ is_decided F c
unfolding is_decided
decided_is F c r s o p i j k l = ap (λ b. b || s) (j ∙ ap (is_some_point (pos 0)) i) ∙ ap (λ b. is_some_point (pos 0) (fact_range F c) || b) (l ∙ ap (is_some_point (pos 1)) k)

pub no_key : (F : Family) (key : Option Term) → key ≡ None → None ≡ key_value F key
unfolding key_value
no_key F key e = sym (ap (bind1 (λ t. lift1 (λ a. a.low) (range F (answered_term F t)))) e)

pub key_is : (F : Family) (key : Option Term) (t u : Term) (o : Option Span) → key ≡ Some t → u ≡ answered_term F t → o ≡ range F u → lift1 (λ a. a.low) o ≡ key_value F key
unfolding key_value
key_is F key t u o e i j = ap (lift1 (λ a. a.low)) (j ∙ ap (range F) i) ∙ sym (ap (bind1 (λ v. lift1 (λ a. a.low) (range F (answered_term F v)))) e)
