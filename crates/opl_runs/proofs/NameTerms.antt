-- Which forms of terms are names, in brackets or not.
use Rattle.std.proofs.Common.{◌≡◌, true, false, ℕ, ℤ, List, Option, None, Some, refl, ap, sym, ◌∙◌}
use Rattle.opl_tree.specs.declared.expression.AggregateOp.{AggregateOp}
use Rattle.opl_tree.specs.declared.expression.CallOp.{CallOp}
use Rattle.opl_tree.specs.declared.expression.QuestionOp.{QuestionOp}
use Rattle.opl_tree.specs.declared.expression.Relation.{Relation}
use Rattle.opl_term.specs.declared.term.FieldName.{FieldName}
use Rattle.opl_term.specs.declared.term.GroupTerm.{GroupTerm}
use Rattle.opl_term.specs.declared.term.GroupTerm.TheOpen.{Term-F}
use Rattle.opl_term.specs.declared.term.GroupTerm.TheViews.{roll-Term}
use Rattle.opl_term.specs.declared.term.SetTerm.{SetTerm}
use Rattle.opl_term.specs.declared.term.Step.{Step}
use Rattle.opl_term.specs.declared.term.Term.{Term}
use Rattle.opl_term.specs.declared.term.Term.TheVariants as terms
use Rattle.opl_meaning.specs.declared.variable.VariableItem.{VariableItem}
use Rattle.opl_meaning.specs.Runs.{Names}
use Rattle.opl_draft.specs.Forms.{form_name, is_name}
use Rattle.opl_draft.specs.Unrolled.{name_layer}
use Rattle.opl_declared.proofs.TermPlaces.{part-roll, parts_of}

module _ (items : List VariableItem) (names : Names) where
  name-form : (x : Term-F GroupTerm SetTerm Step Term) → name_layer (parts_of items names x) ≡ form_name items names x
  name-form (Term-F.Aggregate at op gs None t) = refl
  name-form (Term-F.Aggregate at op gs (Some c) t) = refl
  name-form (Term-F.Described at t gs None) = refl
  name-form (Term-F.Described at t gs (Some c)) = refl
  name-form y = refl

  name-roll : (x : Term-F GroupTerm SetTerm Step Term) → is_name items names (roll-Term x) ≡ form_name items names x
  name-roll x = ap (λ p. p.is_name) (part-roll items names x) ∙ name-form x

pub name-Number : (items : List VariableItem) (names : Names) (at : ℕ) (n : ℤ) → is_name items names (terms.Number at n) ≡ false
name-Number items names at n = ap (is_name items names) (sym (terms.rolls-Number at n)) ∙ name-roll items names (Term-F.Number at n)

pub name-Named : (items : List VariableItem) (names : Names) (at : ℕ) (name : List ℕ) → is_name items names (terms.Named at name) ≡ true
name-Named items names at name = ap (is_name items names) (sym (terms.rolls-Named at name)) ∙ name-roll items names (Term-F.Named at name)

pub name-Bracket : (items : List VariableItem) (names : Names) (at : ℕ) (t : Term) → is_name items names (terms.Bracket at t) ≡ is_name items names t
name-Bracket items names at t = ap (is_name items names) (sym (terms.rolls-Bracket at t)) ∙ name-roll items names (Term-F.Bracket at t)

pub name-Negative : (items : List VariableItem) (names : Names) (at : ℕ) (t : Term) → is_name items names (terms.Negative at t) ≡ false
name-Negative items names at t = ap (is_name items names) (sym (terms.rolls-Negative at t)) ∙ name-roll items names (Term-F.Negative at t)

pub name-Chain : (items : List VariableItem) (names : Names) (at : ℕ) (t : Term) (ss : List Step) → is_name items names (terms.Chain at t ss) ≡ false
name-Chain items names at t ss = ap (is_name items names) (sym (terms.rolls-Chain at t ss)) ∙ name-roll items names (Term-F.Chain at t ss)

pub name-Related : (items : List VariableItem) (names : Names) (at : ℕ) (t : Term) (r : Relation) (u : Term) → is_name items names (terms.Related at t r u) ≡ false
name-Related items names at t r u = ap (is_name items names) (sym (terms.rolls-Related at t r u)) ∙ name-roll items names (Term-F.Related at t r u)

pub name-Member : (items : List VariableItem) (names : Names) (at : ℕ) (t : Term) (s : SetTerm) → is_name items names (terms.Member at t s) ≡ false
name-Member items names at t s = ap (is_name items names) (sym (terms.rolls-Member at t s)) ∙ name-roll items names (Term-F.Member at t s)

pub name-Equivalent : (items : List VariableItem) (names : Names) (at : ℕ) (ts : List Term) → is_name items names (terms.Equivalent at ts) ≡ false
name-Equivalent items names at ts = ap (is_name items names) (sym (terms.rolls-Equivalent at ts)) ∙ name-roll items names (Term-F.Equivalent at ts)

pub name-Implied : (items : List VariableItem) (names : Names) (at : ℕ) (t u : Term) → is_name items names (terms.Implied at t u) ≡ false
name-Implied items names at t u = ap (is_name items names) (sym (terms.rolls-Implied at t u)) ∙ name-roll items names (Term-F.Implied at t u)

pub name-Or : (items : List VariableItem) (names : Names) (at : ℕ) (ts : List Term) → is_name items names (terms.Or at ts) ≡ false
name-Or items names at ts = ap (is_name items names) (sym (terms.rolls-Or at ts)) ∙ name-roll items names (Term-F.Or at ts)

pub name-And : (items : List VariableItem) (names : Names) (at : ℕ) (ts : List Term) → is_name items names (terms.And at ts) ≡ false
name-And items names at ts = ap (is_name items names) (sym (terms.rolls-And at ts)) ∙ name-roll items names (Term-F.And at ts)

pub name-Not : (items : List VariableItem) (names : Names) (at : ℕ) (t : Term) → is_name items names (terms.Not at t) ≡ false
name-Not items names at t = ap (is_name items names) (sym (terms.rolls-Not at t)) ∙ name-roll items names (Term-F.Not at t)

pub name-Aggregate : (items : List VariableItem) (names : Names) (at : ℕ) (op : AggregateOp) (gs : List GroupTerm) (c : Option Term) (t : Term) → is_name items names (terms.Aggregate at op gs c t) ≡ false
name-Aggregate items names at op gs c t = ap (is_name items names) (sym (terms.rolls-Aggregate at op gs c t)) ∙ name-roll items names (Term-F.Aggregate at op gs c t)

pub name-Call : (items : List VariableItem) (names : Names) (at : ℕ) (op : CallOp) (t : Term) → is_name items names (terms.Call at op t) ≡ false
name-Call items names at op t = ap (is_name items names) (sym (terms.rolls-Call at op t)) ∙ name-roll items names (Term-F.Call at op t)

pub name-AllDifferent : (items : List VariableItem) (names : Names) (at : ℕ) (t : Term) → is_name items names (terms.AllDifferent at t) ≡ false
name-AllDifferent items names at t = ap (is_name items names) (sym (terms.rolls-AllDifferent at t)) ∙ name-roll items names (Term-F.AllDifferent at t)

pub name-Question : (items : List VariableItem) (names : Names) (at : ℕ) (op : QuestionOp) (t : Term) → is_name items names (terms.Question at op t) ≡ false
name-Question items names at op t = ap (is_name items names) (sym (terms.rolls-Question at op t)) ∙ name-roll items names (Term-F.Question at op t)

pub name-Element : (items : List VariableItem) (names : Names) (at : ℕ) (t : Term) (ts : List Term) → is_name items names (terms.Element at t ts) ≡ false
name-Element items names at t ts = ap (is_name items names) (sym (terms.rolls-Element at t ts)) ∙ name-roll items names (Term-F.Element at t ts)

pub name-Fields : (items : List VariableItem) (names : Names) (at : ℕ) (t : Term) (fs : List FieldName) → is_name items names (terms.Fields at t fs) ≡ false
name-Fields items names at t fs = ap (is_name items names) (sym (terms.rolls-Fields at t fs)) ∙ name-roll items names (Term-F.Fields at t fs)

pub name-Record : (items : List VariableItem) (names : Names) (at : ℕ) (ts : List Term) → is_name items names (terms.Record at ts) ≡ false
name-Record items names at ts = ap (is_name items names) (sym (terms.rolls-Record at ts)) ∙ name-roll items names (Term-F.Record at ts)

pub name-Listed : (items : List VariableItem) (names : Names) (at : ℕ) (ts : List Term) → is_name items names (terms.Listed at ts) ≡ false
name-Listed items names at ts = ap (is_name items names) (sym (terms.rolls-Listed at ts)) ∙ name-roll items names (Term-F.Listed at ts)

pub name-Described : (items : List VariableItem) (names : Names) (at : ℕ) (t : Term) (gs : List GroupTerm) (c : Option Term) → is_name items names (terms.Described at t gs c) ≡ false
name-Described items names at t gs c = ap (is_name items names) (sym (terms.rolls-Described at t gs c)) ∙ name-roll items names (Term-F.Described at t gs c)

pub name-Array : (items : List VariableItem) (names : Names) (at : ℕ) (ts : List Term) → is_name items names (terms.Array at ts) ≡ false
name-Array items names at ts = ap (is_name items names) (sym (terms.rolls-Array at ts)) ∙ name-roll items names (Term-F.Array at ts)

pub name-KeyedArray : (items : List VariableItem) (names : Names) (at : ℕ) (ts us : List Term) → is_name items names (terms.KeyedArray at ts us) ≡ false
name-KeyedArray items names at ts us = ap (is_name items names) (sym (terms.rolls-KeyedArray at ts us)) ∙ name-roll items names (Term-F.KeyedArray at ts us)

pub ruleset name_terms = (name-Number, name-Named, name-Bracket, name-Negative, name-Chain, name-Related, name-Member, name-Equivalent, name-Implied, name-Or, name-And, name-Not, name-Aggregate, name-Call, name-AllDifferent, name-Question, name-Element, name-Fields, name-Record, name-Listed, name-Described, name-Array, name-KeyedArray)
