-- Which forms of terms are clean, where decision variables are named in them.
use Rattle.std.proofs.Common.{◌≡◌, ◌&&◌, not, Bool, true, false, ℕ, ℤ, List, Option, refl, ap, ◌∙◌}
use Rattle.std.specs.List.{list_all}
use Rattle.opl_tree.specs.declared.expression.AggregateOp.{AggregateOp}
use Rattle.opl_tree.specs.declared.expression.CallOp.{CallOp}
use Rattle.opl_tree.specs.declared.expression.QuestionOp.{QuestionOp}
use Rattle.opl_tree.specs.declared.expression.Relation.{Relation}
use Rattle.opl_term.specs.declared.term.FieldName.{FieldName}
use Rattle.opl_term.specs.declared.term.GroupTerm.{GroupTerm}
use Rattle.opl_term.specs.declared.term.SetTerm.{SetTerm}
use Rattle.opl_term.specs.declared.term.Step.{Step}
use Rattle.opl_term.specs.declared.term.Term.{Term}
use Rattle.opl_term.specs.declared.term.Term.TheVariants as terms
use Rattle.opl_meaning.specs.declared.variable.VariableItem.{VariableItem}
use Rattle.opl_meaning.specs.Runs.{Names, group_use}
use Rattle.opl_draft.specs.Forms.{form_clean, is_clean_step, is_name}
use Rattle.opl_draft.specs.Numbers.{variable_named}
use Rattle.opl_draft.specs.Unrolled.{has_no_variable, is_absolute, is_clean, is_plain_variable}
use Rattle.opl_runs.specs.Scopes.{clean_by_form}

and-turn : (a b c : Bool) → (a && (b && c)) ≡ ((a && b) && c)
and-turn true b c = refl
and-turn false b c = refl

pub clean-Number : (items : List VariableItem) (names : Names) (at : ℕ) (n : ℤ) → clean_by_form items names (terms.Number at n) ≡ true
unfolding clean_by_form
clean-Number items names at n = ap (form_clean items names) (terms.outs-Number at n)

pub clean-Named : (items : List VariableItem) (names : Names) (at : ℕ) (name : List ℕ) → clean_by_form items names (terms.Named at name) ≡ is_plain_variable (variable_named name items)
unfolding clean_by_form
clean-Named items names at name = ap (form_clean items names) (terms.outs-Named at name)

pub clean-Bracket : (items : List VariableItem) (names : Names) (at : ℕ) (t : Term) → clean_by_form items names (terms.Bracket at t) ≡ is_clean items names t
unfolding clean_by_form
clean-Bracket items names at t = ap (form_clean items names) (terms.outs-Bracket at t)

pub clean-Negative : (items : List VariableItem) (names : Names) (at : ℕ) (t : Term) → clean_by_form items names (terms.Negative at t) ≡ is_clean items names t
unfolding clean_by_form
clean-Negative items names at t = ap (form_clean items names) (terms.outs-Negative at t)

pub clean-Chain : (items : List VariableItem) (names : Names) (at : ℕ) (t : Term) (ss : List Step) → clean_by_form items names (terms.Chain at t ss) ≡ (is_clean items names t && list_all (is_clean_step items names) ss)
unfolding clean_by_form
clean-Chain items names at t ss = ap (form_clean items names) (terms.outs-Chain at t ss)

pub clean-Related : (items : List VariableItem) (names : Names) (at : ℕ) (t : Term) (r : Relation) (u : Term) → clean_by_form items names (terms.Related at t r u) ≡ (is_clean items names t && is_clean items names u)
unfolding clean_by_form
clean-Related items names at t r u = ap (form_clean items names) (terms.outs-Related at t r u)

pub clean-Member : (items : List VariableItem) (names : Names) (at : ℕ) (t : Term) (s : SetTerm) → clean_by_form items names (terms.Member at t s) ≡ false
unfolding clean_by_form
clean-Member items names at t s = ap (form_clean items names) (terms.outs-Member at t s)

pub clean-Equivalent : (items : List VariableItem) (names : Names) (at : ℕ) (ts : List Term) → clean_by_form items names (terms.Equivalent at ts) ≡ list_all (is_clean items names) ts
unfolding clean_by_form
clean-Equivalent items names at ts = ap (form_clean items names) (terms.outs-Equivalent at ts)

pub clean-Implied : (items : List VariableItem) (names : Names) (at : ℕ) (t u : Term) → clean_by_form items names (terms.Implied at t u) ≡ (is_clean items names t && is_clean items names u)
unfolding clean_by_form
clean-Implied items names at t u = ap (form_clean items names) (terms.outs-Implied at t u)

pub clean-Or : (items : List VariableItem) (names : Names) (at : ℕ) (ts : List Term) → clean_by_form items names (terms.Or at ts) ≡ list_all (is_clean items names) ts
unfolding clean_by_form
clean-Or items names at ts = ap (form_clean items names) (terms.outs-Or at ts)

pub clean-And : (items : List VariableItem) (names : Names) (at : ℕ) (ts : List Term) → clean_by_form items names (terms.And at ts) ≡ list_all (is_clean items names) ts
unfolding clean_by_form
clean-And items names at ts = ap (form_clean items names) (terms.outs-And at ts)

pub clean-Not : (items : List VariableItem) (names : Names) (at : ℕ) (t : Term) → clean_by_form items names (terms.Not at t) ≡ is_clean items names t
unfolding clean_by_form
clean-Not items names at t = ap (form_clean items names) (terms.outs-Not at t)

pub clean-Aggregate : (items : List VariableItem) (names : Names) (at : ℕ) (op : AggregateOp) (gs : List GroupTerm) (c : Option Term) (t : Term) → clean_by_form items names (terms.Aggregate at op gs c t) ≡ ((list_all (λ g. not (group_use names g)) gs && has_no_variable items names c) && is_clean items names t)
unfolding clean_by_form
clean-Aggregate items names at op gs c t =
    ap (form_clean items names) (terms.outs-Aggregate at op gs c t) ∙ and-turn (list_all (λ g. not (group_use names g)) gs) (has_no_variable items names c) (is_clean items names t)

pub clean-Call : (items : List VariableItem) (names : Names) (at : ℕ) (op : CallOp) (t : Term) → clean_by_form items names (terms.Call at op t) ≡ (is_absolute op && is_clean items names t)
unfolding clean_by_form
clean-Call items names at op t = ap (form_clean items names) (terms.outs-Call at op t)

pub clean-AllDifferent : (items : List VariableItem) (names : Names) (at : ℕ) (t : Term) → clean_by_form items names (terms.AllDifferent at t) ≡ is_name items names t
unfolding clean_by_form
clean-AllDifferent items names at t = ap (form_clean items names) (terms.outs-AllDifferent at t)

pub clean-Question : (items : List VariableItem) (names : Names) (at : ℕ) (op : QuestionOp) (t : Term) → clean_by_form items names (terms.Question at op t) ≡ false
unfolding clean_by_form
clean-Question items names at op t = ap (form_clean items names) (terms.outs-Question at op t)

pub clean-Element : (items : List VariableItem) (names : Names) (at : ℕ) (t : Term) (ts : List Term) → clean_by_form items names (terms.Element at t ts) ≡ (is_name items names t && list_all (is_clean items names) ts)
unfolding clean_by_form
clean-Element items names at t ts = ap (form_clean items names) (terms.outs-Element at t ts)

pub clean-Fields : (items : List VariableItem) (names : Names) (at : ℕ) (t : Term) (fs : List FieldName) → clean_by_form items names (terms.Fields at t fs) ≡ false
unfolding clean_by_form
clean-Fields items names at t fs = ap (form_clean items names) (terms.outs-Fields at t fs)

pub clean-Record : (items : List VariableItem) (names : Names) (at : ℕ) (ts : List Term) → clean_by_form items names (terms.Record at ts) ≡ false
unfolding clean_by_form
clean-Record items names at ts = ap (form_clean items names) (terms.outs-Record at ts)

pub clean-Listed : (items : List VariableItem) (names : Names) (at : ℕ) (ts : List Term) → clean_by_form items names (terms.Listed at ts) ≡ false
unfolding clean_by_form
clean-Listed items names at ts = ap (form_clean items names) (terms.outs-Listed at ts)

pub clean-Described : (items : List VariableItem) (names : Names) (at : ℕ) (t : Term) (gs : List GroupTerm) (c : Option Term) → clean_by_form items names (terms.Described at t gs c) ≡ false
unfolding clean_by_form
clean-Described items names at t gs c = ap (form_clean items names) (terms.outs-Described at t gs c)

pub clean-Array : (items : List VariableItem) (names : Names) (at : ℕ) (ts : List Term) → clean_by_form items names (terms.Array at ts) ≡ false
unfolding clean_by_form
clean-Array items names at ts = ap (form_clean items names) (terms.outs-Array at ts)

pub clean-KeyedArray : (items : List VariableItem) (names : Names) (at : ℕ) (ts us : List Term) → clean_by_form items names (terms.KeyedArray at ts us) ≡ false
unfolding clean_by_form
clean-KeyedArray items names at ts us = ap (form_clean items names) (terms.outs-KeyedArray at ts us)

pub ruleset clean_forms = (clean-Number, clean-Named, clean-Bracket, clean-Negative, clean-Chain, clean-Related, clean-Member, clean-Equivalent, clean-Implied, clean-Or, clean-And, clean-Not, clean-Aggregate, clean-Call, clean-AllDifferent, clean-Question, clean-Element, clean-Fields, clean-Record, clean-Listed, clean-Described, clean-Array, clean-KeyedArray)
