-- The place of each form of terms.
use Rattle.std.proofs.Common.{◌≡◌, ℕ, ℤ, List, Option, None, Some, refl, sym, ap, ◌∙◌}
use Rattle.opl_tree.specs.declared.expression.AggregateOp.{AggregateOp}
use Rattle.opl_tree.specs.declared.expression.CallOp.{CallOp}
use Rattle.opl_tree.specs.declared.expression.QuestionOp.{QuestionOp}
use Rattle.opl_tree.specs.declared.expression.Relation.{Relation}
use Rattle.opl_term.specs.declared.term.FieldName.{FieldName}
use Rattle.opl_term.specs.declared.term.GroupTerm.{GroupTerm}
use Rattle.opl_term.specs.declared.term.GroupTerm.TheOpen.{GroupTerm-F, SetTerm-F, Step-F, Term-F}
use Rattle.opl_term.specs.declared.term.GroupTerm.TheFolds.{fold-GroupTerm, fold-SetTerm, fold-roll-Term, map-Term}
use Rattle.opl_term.specs.declared.term.GroupTerm.TheViews.{roll-Term}
use Rattle.opl_term.specs.declared.term.SetTerm.{SetTerm}
use Rattle.opl_term.specs.declared.term.Step.{Step}
use Rattle.opl_term.specs.declared.term.Term.{Term}
use Rattle.opl_term.specs.declared.term.Term.TheVariants as terms
use Rattle.opl_meaning.specs.declared.variable.VariableItem.{VariableItem}
use Rattle.opl_meaning.specs.Runs.{Names}
use Rattle.opl_draft.specs.Forms.{form_place, place}
use Rattle.opl_draft.specs.Unrolled.{Part, StepPart, group_again, part_layer, part_of, place_layer, set_again, step_layer, step_part}

module _ (items : List VariableItem) (names : Names) where
  abbrev pub parts_of : Term-F GroupTerm SetTerm Step Term → Term-F GroupTerm SetTerm StepPart Part
  parts_of = map-Term GroupTerm SetTerm Step Term GroupTerm SetTerm StepPart Part
      (fold-GroupTerm GroupTerm SetTerm StepPart Part (group_again items names) (set_again items names) (step_layer items names) (part_layer items names))
      (fold-SetTerm GroupTerm SetTerm StepPart Part (group_again items names) (set_again items names) (step_layer items names) (part_layer items names))
      (step_part items names) (part_of items names)

  pub part-roll : (x : Term-F GroupTerm SetTerm Step Term) → part_of items names (roll-Term x) ≡ part_layer items names (parts_of x)
  unfolding part_of step_part
  part-roll x = fold-roll-Term GroupTerm SetTerm StepPart Part (group_again items names) (set_again items names) (step_layer items names) (part_layer items names) x

  place-form : (x : Term-F GroupTerm SetTerm Step Term) → place_layer (parts_of x) ≡ form_place items names x
  place-form (Term-F.Aggregate at op gs None t) = refl
  place-form (Term-F.Aggregate at op gs (Some c) t) = refl
  place-form (Term-F.Described at t gs None) = refl
  place-form (Term-F.Described at t gs (Some c)) = refl
  place-form y = refl

  pub place-roll : (x : Term-F GroupTerm SetTerm Step Term) → place items names (roll-Term x) ≡ form_place items names x
  place-roll x = ap (λ p. p.at) (part-roll x) ∙ place-form x

pub place-Number : (items : List VariableItem) (names : Names) (at : ℕ) (n : ℤ) → place items names (terms.Number at n) ≡ at
place-Number items names at n = ap (place items names) (sym (terms.rolls-Number at n)) ∙ place-roll items names (Term-F.Number at n)

pub place-Named : (items : List VariableItem) (names : Names) (at : ℕ) (name : List ℕ) → place items names (terms.Named at name) ≡ at
place-Named items names at name = ap (place items names) (sym (terms.rolls-Named at name)) ∙ place-roll items names (Term-F.Named at name)

pub place-Bracket : (items : List VariableItem) (names : Names) (at : ℕ) (t : Term) → place items names (terms.Bracket at t) ≡ place items names t
place-Bracket items names at t = ap (place items names) (sym (terms.rolls-Bracket at t)) ∙ place-roll items names (Term-F.Bracket at t)

pub place-Negative : (items : List VariableItem) (names : Names) (at : ℕ) (t : Term) → place items names (terms.Negative at t) ≡ at
place-Negative items names at t = ap (place items names) (sym (terms.rolls-Negative at t)) ∙ place-roll items names (Term-F.Negative at t)

pub place-Chain : (items : List VariableItem) (names : Names) (at : ℕ) (t : Term) (ss : List Step) → place items names (terms.Chain at t ss) ≡ at
place-Chain items names at t ss = ap (place items names) (sym (terms.rolls-Chain at t ss)) ∙ place-roll items names (Term-F.Chain at t ss)

pub place-Related : (items : List VariableItem) (names : Names) (at : ℕ) (t : Term) (r : Relation) (u : Term) → place items names (terms.Related at t r u) ≡ at
place-Related items names at t r u = ap (place items names) (sym (terms.rolls-Related at t r u)) ∙ place-roll items names (Term-F.Related at t r u)

pub place-Member : (items : List VariableItem) (names : Names) (at : ℕ) (t : Term) (s : SetTerm) → place items names (terms.Member at t s) ≡ at
place-Member items names at t s = ap (place items names) (sym (terms.rolls-Member at t s)) ∙ place-roll items names (Term-F.Member at t s)

pub place-Equivalent : (items : List VariableItem) (names : Names) (at : ℕ) (ts : List Term) → place items names (terms.Equivalent at ts) ≡ at
place-Equivalent items names at ts = ap (place items names) (sym (terms.rolls-Equivalent at ts)) ∙ place-roll items names (Term-F.Equivalent at ts)

pub place-Implied : (items : List VariableItem) (names : Names) (at : ℕ) (t : Term) (u : Term) → place items names (terms.Implied at t u) ≡ at
place-Implied items names at t u = ap (place items names) (sym (terms.rolls-Implied at t u)) ∙ place-roll items names (Term-F.Implied at t u)

pub place-Or : (items : List VariableItem) (names : Names) (at : ℕ) (ts : List Term) → place items names (terms.Or at ts) ≡ at
place-Or items names at ts = ap (place items names) (sym (terms.rolls-Or at ts)) ∙ place-roll items names (Term-F.Or at ts)

pub place-And : (items : List VariableItem) (names : Names) (at : ℕ) (ts : List Term) → place items names (terms.And at ts) ≡ at
place-And items names at ts = ap (place items names) (sym (terms.rolls-And at ts)) ∙ place-roll items names (Term-F.And at ts)

pub place-Not : (items : List VariableItem) (names : Names) (at : ℕ) (t : Term) → place items names (terms.Not at t) ≡ at
place-Not items names at t = ap (place items names) (sym (terms.rolls-Not at t)) ∙ place-roll items names (Term-F.Not at t)

pub place-Aggregate : (items : List VariableItem) (names : Names) (at : ℕ) (op : AggregateOp) (gs : List GroupTerm) (c : Option Term) (t : Term) → place items names (terms.Aggregate at op gs c t) ≡ at
place-Aggregate items names at op gs c t = ap (place items names) (sym (terms.rolls-Aggregate at op gs c t)) ∙ place-roll items names (Term-F.Aggregate at op gs c t)

pub place-Call : (items : List VariableItem) (names : Names) (at : ℕ) (op : CallOp) (t : Term) → place items names (terms.Call at op t) ≡ at
place-Call items names at op t = ap (place items names) (sym (terms.rolls-Call at op t)) ∙ place-roll items names (Term-F.Call at op t)

pub place-AllDifferent : (items : List VariableItem) (names : Names) (at : ℕ) (t : Term) → place items names (terms.AllDifferent at t) ≡ at
place-AllDifferent items names at t = ap (place items names) (sym (terms.rolls-AllDifferent at t)) ∙ place-roll items names (Term-F.AllDifferent at t)

pub place-Question : (items : List VariableItem) (names : Names) (at : ℕ) (op : QuestionOp) (t : Term) → place items names (terms.Question at op t) ≡ at
place-Question items names at op t = ap (place items names) (sym (terms.rolls-Question at op t)) ∙ place-roll items names (Term-F.Question at op t)

pub place-Element : (items : List VariableItem) (names : Names) (at : ℕ) (t : Term) (ts : List Term) → place items names (terms.Element at t ts) ≡ at
place-Element items names at t ts = ap (place items names) (sym (terms.rolls-Element at t ts)) ∙ place-roll items names (Term-F.Element at t ts)

pub place-Fields : (items : List VariableItem) (names : Names) (at : ℕ) (t : Term) (fs : List FieldName) → place items names (terms.Fields at t fs) ≡ at
place-Fields items names at t fs = ap (place items names) (sym (terms.rolls-Fields at t fs)) ∙ place-roll items names (Term-F.Fields at t fs)

pub place-Record : (items : List VariableItem) (names : Names) (at : ℕ) (ts : List Term) → place items names (terms.Record at ts) ≡ at
place-Record items names at ts = ap (place items names) (sym (terms.rolls-Record at ts)) ∙ place-roll items names (Term-F.Record at ts)

pub place-Listed : (items : List VariableItem) (names : Names) (at : ℕ) (ts : List Term) → place items names (terms.Listed at ts) ≡ at
place-Listed items names at ts = ap (place items names) (sym (terms.rolls-Listed at ts)) ∙ place-roll items names (Term-F.Listed at ts)

pub place-Described : (items : List VariableItem) (names : Names) (at : ℕ) (t : Term) (gs : List GroupTerm) (c : Option Term) → place items names (terms.Described at t gs c) ≡ at
place-Described items names at t gs c = ap (place items names) (sym (terms.rolls-Described at t gs c)) ∙ place-roll items names (Term-F.Described at t gs c)

pub place-Array : (items : List VariableItem) (names : Names) (at : ℕ) (ts : List Term) → place items names (terms.Array at ts) ≡ at
place-Array items names at ts = ap (place items names) (sym (terms.rolls-Array at ts)) ∙ place-roll items names (Term-F.Array at ts)

pub place-KeyedArray : (items : List VariableItem) (names : Names) (at : ℕ) (ts : List Term) (us : List Term) → place items names (terms.KeyedArray at ts us) ≡ at
place-KeyedArray items names at ts us = ap (place items names) (sym (terms.rolls-KeyedArray at ts us)) ∙ place-roll items names (Term-F.KeyedArray at ts us)

pub ruleset places = (place-Number, place-Named, place-Bracket, place-Negative, place-Chain, place-Related, place-Member, place-Equivalent, place-Implied, place-Or, place-And, place-Not, place-Aggregate, place-Call, place-AllDifferent, place-Question, place-Element, place-Fields, place-Record, place-Listed, place-Described, place-Array, place-KeyedArray)
