-- What each form of terms comes to, by what its parts come to.
use Rattle.std.proofs.Common.{◌≡◌, ◌||◌, ℕ, ℤ, pos, Bool as Truth, not, List, [], ◌∷◌, map, Option, None, Some, Ok, Err, refl, ap, ◌∙◌}
use Rattle.std.specs.List.{list_any, list_all}
use Rattle.opl_tree.specs.declared.expression.AggregateOp.{AggregateOp}
use Rattle.opl_tree.specs.declared.expression.CallOp.{CallOp}
use Rattle.opl_tree.specs.declared.expression.QuestionOp.{QuestionOp}
use Rattle.opl_tree.specs.declared.expression.Relation.{Relation}
use Rattle.opl_term.specs.declared.term.FieldName.{FieldName}
use Rattle.opl_term.specs.declared.term.GroupTerm.{GroupTerm}
use Rattle.opl_term.specs.declared.term.SetTerm.{SetTerm}
use Rattle.opl_term.specs.declared.term.SetTerm.TheVariants as sets
use Rattle.opl_term.specs.declared.term.Step.{Step}
use Rattle.opl_term.specs.declared.term.Step.TheVariants as steps
use Rattle.opl_term.specs.declared.term.Term.{Term}
use Rattle.opl_term.specs.declared.term.Term.TheVariants as terms
use Rattle.opl_value.specs.declared.value.Value.{Value}
use Rattle.opl_value.specs.declared.value.Value.TheVariants as values
use Rattle.opl_value.specs.declared.value.Dimension.TheViews.{out-Value}
use Rattle.opl_value.specs.Sets.{first_occurrences}
use Rattle.opl_eval.specs.declared.arithmetic.Operation.TheVariants as operations
use Rattle.opl_eval.specs.Arithmetic.{then, run, negative}
use Rattle.opl_eval.specs.Compare.{number, relates, is_member}
use Rattle.opl_eval.specs.Evaluation.{Environment, Found, aggregate, all, called, different_layer, element, equivalent, eval, found, integer, is_true, meaning, part_at, set_meaning, step_meaning, truth, value_named, values_of}
use Rattle.opl_eval.specs.Visits.{bodies_in, operations_in, values_in}
use Rattle.opl_eval.proofs.Meanings as by

-- the meanings of parts, and what they come to
each-term : (ts : List Term) (env : Environment) → values_of (map meaning ts) env ≡ values_in ts env
unfolding values_in
each-term [] env = refl
each-term (t ∷ ts) env = ap (λ r. then (eval t env) (λ x. found (λ xs. x ∷ xs) r)) (each-term ts env)

truths : (f : List Value → Truth) (r : Found (List Value)) → truth (found f r) ≡ found (λ vs. values.Bool (f vs)) r
truths f (Ok vs) = refl
truths f (Err e) = refl

numbers : {A : Type 0} (f : ℤ → A) (r : Found Value) → found (λ v. f (number v)) r ≡ found f (found number r)
numbers f (Ok v) = refl
numbers f (Err e) = refl

each-step : (ss : List Step) (env : Environment) → all (map (λ s. s env) (map step_meaning ss)) ≡ operations_in ss env
unfolding operations_in
each-step [] env = refl
each-step (s ∷ ss) env = ap (λ r. then (step_meaning s env) (λ x. found (λ xs. x ∷ xs) r)) (each-step ss env)

pub eval-Number : (at : ℕ) (n : ℤ) (env : Environment) → eval (terms.Number at n) env ≡ Ok (values.Int n)
eval-Number at n env = ap (λ m. m.value env) (by.meaning-Number at n)

pub eval-Named : (at : ℕ) (name : List ℕ) (env : Environment) → eval (terms.Named at name) env ≡ Ok (value_named name env)
eval-Named at name env = ap (λ m. m.value env) (by.meaning-Named at name)

pub eval-Bracket : (at : ℕ) (t : Term) (env : Environment) → eval (terms.Bracket at t) env ≡ eval t env
eval-Bracket at t env = ap (λ m. m.value env) (by.meaning-Bracket at t)

pub eval-Negative : (at : ℕ) (t : Term) (env : Environment) → eval (terms.Negative at t) env ≡ then (eval t env) (λ v. integer (negative at (number v)))
eval-Negative at t env = ap (λ m. m.value env) (by.meaning-Negative at t)

pub eval-Chain : (at : ℕ) (t : Term) (ss : List Step) (env : Environment) → eval (terms.Chain at t ss) env ≡ then (eval t env) (λ v. then (operations_in ss env) (λ os. integer (run at (number v) os)))
eval-Chain at t ss env = ap (λ m. m.value env) (by.meaning-Chain at t ss) ∙ ap (λ r. then (eval t env) (λ v. then r (λ os. integer (run at (number v) os)))) (each-step ss env)

pub eval-Related : (at : ℕ) (t : Term) (r : Relation) (u : Term) (env : Environment) → eval (terms.Related at t r u) env ≡ then (eval t env) (λ v. then (eval u env) (λ w. Ok (values.Bool (relates r v w))))
eval-Related at t r u env = ap (λ m. m.value env) (by.meaning-Related at t r u)

pub eval-Member : (at : ℕ) (t : Term) (s : SetTerm) (env : Environment) → eval (terms.Member at t s) env ≡ then (eval t env) (λ v. then ((set_meaning s).value env) (λ w. Ok (values.Bool (is_member v w))))
eval-Member at t s env = ap (λ m. m.value env) (by.meaning-Member at t s)

pub eval-Equivalent : (at : ℕ) (ts : List Term) (env : Environment) → eval (terms.Equivalent at ts) env ≡ found (λ vs. values.Bool (equivalent vs)) (values_in ts env)
eval-Equivalent at ts env = ap (λ m. m.value env) (by.meaning-Equivalent at ts) ∙ ap (λ r. truth (found equivalent r)) (each-term ts env) ∙ truths equivalent (values_in ts env)

pub eval-Implied : (at : ℕ) (t : Term) (u : Term) (env : Environment) → eval (terms.Implied at t u) env ≡ then (eval t env) (λ v. then (eval u env) (λ w. Ok (values.Bool (not (is_true v) || is_true w))))
eval-Implied at t u env = ap (λ m. m.value env) (by.meaning-Implied at t u)

pub eval-Or : (at : ℕ) (ts : List Term) (env : Environment) → eval (terms.Or at ts) env ≡ found (λ vs. values.Bool (list_any is_true vs)) (values_in ts env)
eval-Or at ts env = ap (λ m. m.value env) (by.meaning-Or at ts) ∙ ap (λ r. truth (found (list_any is_true) r)) (each-term ts env) ∙ truths (list_any is_true) (values_in ts env)

pub eval-And : (at : ℕ) (ts : List Term) (env : Environment) → eval (terms.And at ts) env ≡ found (λ vs. values.Bool (list_all is_true vs)) (values_in ts env)
eval-And at ts env = ap (λ m. m.value env) (by.meaning-And at ts) ∙ ap (λ r. truth (found (list_all is_true) r)) (each-term ts env) ∙ truths (list_all is_true) (values_in ts env)

pub eval-Not : (at : ℕ) (t : Term) (env : Environment) → eval (terms.Not at t) env ≡ found (λ v. values.Bool (not (is_true v))) (eval t env)
eval-Not at t env = ap (λ m. m.value env) (by.meaning-Not at t)

pub eval-Call : (at : ℕ) (op : CallOp) (t : Term) (env : Environment) → eval (terms.Call at op t) env ≡ then (eval t env) (λ v. integer (called op at v))
eval-Call at op t env = ap (λ m. m.value env) (by.meaning-Call at op t)

pub eval-AllDifferent : (at : ℕ) (t : Term) (env : Environment) → eval (terms.AllDifferent at t) env ≡ found (λ v. values.Bool (different_layer (out-Value v))) (eval t env)
eval-AllDifferent at t env = ap (λ m. m.value env) (by.meaning-AllDifferent at t)

pub eval-Question : (at : ℕ) (op : QuestionOp) (t : Term) (env : Environment) → eval (terms.Question at op t) env ≡ Ok (values.Int (pos 0))
eval-Question at op t env = ap (λ m. m.value env) (by.meaning-Question at op t)

pub eval-Element : (at : ℕ) (t : Term) (ts : List Term) (env : Environment) → eval (terms.Element at t ts) env ≡ then (values_in ts env) (λ key. element at key ((meaning t).item env))
eval-Element at t ts env = ap (λ m. m.value env) (by.meaning-Element at t ts) ∙ ap (λ r. then r (λ key. element at key ((meaning t).item env))) (each-term ts env)

pub eval-Fields : (at : ℕ) (t : Term) (names : List FieldName) (env : Environment) → eval (terms.Fields at t names) env ≡ found (λ v. part_at env.position v names) (eval t env)
eval-Fields at t names env = ap (λ m. m.value env) (by.meaning-Fields at t names)

pub eval-Record : (at : ℕ) (ts : List Term) (env : Environment) → eval (terms.Record at ts) env ≡ found values.Record (values_in ts env)
eval-Record at ts env = ap (λ m. m.value env) (by.meaning-Record at ts) ∙ ap (λ r. found values.Record r) (each-term ts env)

pub eval-Listed : (at : ℕ) (ts : List Term) (env : Environment) → eval (terms.Listed at ts) env ≡ found (λ vs. values.Set (first_occurrences vs)) (values_in ts env)
eval-Listed at ts env = ap (λ m. m.value env) (by.meaning-Listed at ts) ∙ ap (λ r. found (λ vs. values.Set (first_occurrences vs)) r) (each-term ts env)

pub eval-Array : (at : ℕ) (ts : List Term) (env : Environment) → eval (terms.Array at ts) env ≡ Ok (values.Int (pos 0))
eval-Array at ts env = ap (λ m. m.value env) (by.meaning-Array at ts)

pub eval-KeyedArray : (at : ℕ) (ts us : List Term) (env : Environment) → eval (terms.KeyedArray at ts us) env ≡ Ok (values.Int (pos 0))
eval-KeyedArray at ts us env = ap (λ m. m.value env) (by.meaning-KeyedArray at ts us)

pub eval-Aggregate : (at : ℕ) (op : AggregateOp) (gs : List GroupTerm) (c : Option Term) (t : Term) (env : Environment) → eval (terms.Aggregate at op gs c t) env ≡ then (bodies_in gs c t env) (λ vs. integer (aggregate op at (map number vs)))
unfolding bodies_in
eval-Aggregate at op gs None t env = ap (λ m. m.value env) (by.meaning-Aggregate at op gs t)
eval-Aggregate at op gs (Some c) t env = ap (λ m. m.value env) (by.meaning-Aggregate_where at op gs c t)

pub eval-Described : (at : ℕ) (t : Term) (gs : List GroupTerm) (c : Option Term) (env : Environment) → eval (terms.Described at t gs c) env ≡ found (λ vs. values.Set (first_occurrences vs)) (bodies_in gs c t env)
unfolding bodies_in
eval-Described at t gs None env = ap (λ m. m.value env) (by.meaning-Described at t gs)
eval-Described at t gs (Some c) env = ap (λ m. m.value env) (by.meaning-Described_where at t gs c)

pub set-Whole : (t : Term) (env : Environment) → (set_meaning (sets.Whole t)).value env ≡ eval t env
set-Whole t env = ap (λ m. m.value env) (by.set_meaning-Whole t)

pub set-Between : (t u : Term) (env : Environment) → (set_meaning (sets.Between t u)).value env ≡ then (eval t env) (λ l. then (eval u env) (λ h. Ok (values.Range (number l) (number h))))
set-Between t u env = ap (λ m. m.value env) (by.set_meaning-Between t u)

pub step-Plus : (t : Term) (env : Environment) → step_meaning (steps.Plus t) env ≡ found operations.Plus (found number (eval t env))
step-Plus t env = by.step_meaning-Plus t env ∙ numbers operations.Plus (eval t env)

pub step-Minus : (t : Term) (env : Environment) → step_meaning (steps.Minus t) env ≡ found operations.Minus (found number (eval t env))
step-Minus t env = by.step_meaning-Minus t env ∙ numbers operations.Minus (eval t env)

pub step-Times : (t : Term) (env : Environment) → step_meaning (steps.Times t) env ≡ found operations.Times (found number (eval t env))
step-Times t env = by.step_meaning-Times t env ∙ numbers operations.Times (eval t env)

pub step-Quotient : (t : Term) (env : Environment) → step_meaning (steps.Quotient t) env ≡ found operations.Quotient (found number (eval t env))
step-Quotient t env = by.step_meaning-Quotient t env ∙ numbers operations.Quotient (eval t env)

pub step-Remainder : (t : Term) (env : Environment) → step_meaning (steps.Remainder t) env ≡ found operations.Remainder (found number (eval t env))
step-Remainder t env = by.step_meaning-Remainder t env ∙ numbers operations.Remainder (eval t env)

pub ruleset evals = (eval-Number, eval-Named, eval-Bracket, eval-Negative, eval-Chain, eval-Related, eval-Member, eval-Equivalent, eval-Implied, eval-Or, eval-And, eval-Not, eval-Call, eval-AllDifferent, eval-Question, eval-Element, eval-Fields, eval-Record, eval-Listed, eval-Array, eval-KeyedArray, eval-Aggregate)

pub ruleset descriptions = (eval-Described, eval-Number)

pub ruleset sets_of = (set-Whole, set-Between)

pub ruleset steps_of = (step-Plus, step-Minus, step-Times, step-Quotient, step-Remainder)
