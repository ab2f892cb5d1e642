-- What each form of terms means, by what its parts mean.
use Rattle.std.proofs.Common.{◌≡◌, ℕ, ℤ, List, map, None, Some, refl, sym, ap, ◌∙◌}
use Rattle.opl_tree.specs.declared.expression.AggregateOp.{AggregateOp}
use Rattle.opl_tree.specs.declared.expression.CallOp.{CallOp}
use Rattle.opl_tree.specs.declared.expression.QuestionOp.{QuestionOp}
use Rattle.opl_tree.specs.declared.expression.Relation.{Relation}
use Rattle.opl_term.specs.declared.term.FieldName.{FieldName}
use Rattle.opl_term.specs.declared.term.GroupTerm.{GroupTerm}
use Rattle.opl_term.specs.declared.term.GroupTerm.TheVariants as groups
use Rattle.opl_term.specs.declared.term.GroupTerm.TheOpen.{GroupTerm-F, SetTerm-F, Step-F, Term-F}
use Rattle.opl_term.specs.declared.term.GroupTerm.TheFolds.{fold-roll-GroupTerm, fold-roll-SetTerm, fold-roll-Step, fold-roll-Term}
use Rattle.opl_term.specs.declared.term.Pattern.{Pattern}
use Rattle.opl_term.specs.declared.term.SetTerm.{SetTerm}
use Rattle.opl_term.specs.declared.term.SetTerm.TheVariants as sets
use Rattle.opl_term.specs.declared.term.Step.{Step}
use Rattle.opl_term.specs.declared.term.Step.TheVariants as steps
use Rattle.opl_term.specs.declared.term.Term.{Term}
use Rattle.opl_term.specs.declared.term.Term.TheVariants as terms
use Rattle.opl_term.specs.declared.term.GroupTerm.TheFolds.{map-Step}
use Rattle.opl_term.specs.declared.term.GroupTerm.TheViews.{roll-Step}
use Rattle.opl_eval.specs.declared.arithmetic.Operation.{Operation}
use Rattle.opl_eval.specs.Evaluation.{Environment, Found, Group, Meaning, meaning, step_meaning, set_meaning, group_meaning, term_layer, step_layer, set_layer, group_layer}

pub meaning-Number : (at : ℕ) (n : ℤ) → meaning (terms.Number at n) ≡ term_layer (Term-F.Number at n)
unfolding meaning step_meaning set_meaning group_meaning
meaning-Number at n = ap meaning (sym (terms.rolls-Number at n)) ∙ rw fold-roll-Term refl

pub meaning-Named : (at : ℕ) (name : List ℕ) → meaning (terms.Named at name) ≡ term_layer (Term-F.Named at name)
unfolding meaning step_meaning set_meaning group_meaning
meaning-Named at name = ap meaning (sym (terms.rolls-Named at name)) ∙ rw fold-roll-Term refl

pub meaning-Bracket : (at : ℕ) (t : Term) → meaning (terms.Bracket at t) ≡ term_layer (Term-F.Bracket at (meaning t))
unfolding meaning step_meaning set_meaning group_meaning
meaning-Bracket at t = ap meaning (sym (terms.rolls-Bracket at t)) ∙ rw fold-roll-Term refl

pub meaning-Negative : (at : ℕ) (t : Term) → meaning (terms.Negative at t) ≡ term_layer (Term-F.Negative at (meaning t))
unfolding meaning step_meaning set_meaning group_meaning
meaning-Negative at t = ap meaning (sym (terms.rolls-Negative at t)) ∙ rw fold-roll-Term refl

pub meaning-Chain : (at : ℕ) (t : Term) (ss : List Step) → meaning (terms.Chain at t ss) ≡ term_layer (Term-F.Chain at (meaning t) (map step_meaning ss))
unfolding meaning step_meaning set_meaning group_meaning
meaning-Chain at t ss = ap meaning (sym (terms.rolls-Chain at t ss)) ∙ rw fold-roll-Term refl

pub meaning-Related : (at : ℕ) (t : Term) (r : Relation) (u : Term) → meaning (terms.Related at t r u) ≡ term_layer (Term-F.Related at (meaning t) r (meaning u))
unfolding meaning step_meaning set_meaning group_meaning
meaning-Related at t r u = ap meaning (sym (terms.rolls-Related at t r u)) ∙ rw fold-roll-Term refl

pub meaning-Member : (at : ℕ) (t : Term) (s : SetTerm) → meaning (terms.Member at t s) ≡ term_layer (Term-F.Member at (meaning t) (set_meaning s))
unfolding meaning step_meaning set_meaning group_meaning
meaning-Member at t s = ap meaning (sym (terms.rolls-Member at t s)) ∙ rw fold-roll-Term refl

pub meaning-Equivalent : (at : ℕ) (ts : List Term) → meaning (terms.Equivalent at ts) ≡ term_layer (Term-F.Equivalent at (map meaning ts))
unfolding meaning step_meaning set_meaning group_meaning
meaning-Equivalent at ts = ap meaning (sym (terms.rolls-Equivalent at ts)) ∙ rw fold-roll-Term refl

pub meaning-Implied : (at : ℕ) (t : Term) (u : Term) → meaning (terms.Implied at t u) ≡ term_layer (Term-F.Implied at (meaning t) (meaning u))
unfolding meaning step_meaning set_meaning group_meaning
meaning-Implied at t u = ap meaning (sym (terms.rolls-Implied at t u)) ∙ rw fold-roll-Term refl

pub meaning-Or : (at : ℕ) (ts : List Term) → meaning (terms.Or at ts) ≡ term_layer (Term-F.Or at (map meaning ts))
unfolding meaning step_meaning set_meaning group_meaning
meaning-Or at ts = ap meaning (sym (terms.rolls-Or at ts)) ∙ rw fold-roll-Term refl

pub meaning-And : (at : ℕ) (ts : List Term) → meaning (terms.And at ts) ≡ term_layer (Term-F.And at (map meaning ts))
unfolding meaning step_meaning set_meaning group_meaning
meaning-And at ts = ap meaning (sym (terms.rolls-And at ts)) ∙ rw fold-roll-Term refl

pub meaning-Not : (at : ℕ) (t : Term) → meaning (terms.Not at t) ≡ term_layer (Term-F.Not at (meaning t))
unfolding meaning step_meaning set_meaning group_meaning
meaning-Not at t = ap meaning (sym (terms.rolls-Not at t)) ∙ rw fold-roll-Term refl

pub meaning-Aggregate : (at : ℕ) (op : AggregateOp) (gs : List GroupTerm) (t : Term) → meaning (terms.Aggregate at op gs None t) ≡ term_layer (Term-F.Aggregate at op (map group_meaning gs) None (meaning t))
unfolding meaning step_meaning set_meaning group_meaning
meaning-Aggregate at op gs t = ap meaning (sym (terms.rolls-Aggregate at op gs None t)) ∙ rw fold-roll-Term refl

pub meaning-Aggregate_where : (at : ℕ) (op : AggregateOp) (gs : List GroupTerm) (c : Term) (t : Term) → meaning (terms.Aggregate at op gs (Some c) t) ≡ term_layer (Term-F.Aggregate at op (map group_meaning gs) (Some (meaning c)) (meaning t))
unfolding meaning step_meaning set_meaning group_meaning
meaning-Aggregate_where at op gs c t = ap meaning (sym (terms.rolls-Aggregate at op gs (Some c) t)) ∙ rw fold-roll-Term refl

pub meaning-Call : (at : ℕ) (op : CallOp) (t : Term) → meaning (terms.Call at op t) ≡ term_layer (Term-F.Call at op (meaning t))
unfolding meaning step_meaning set_meaning group_meaning
meaning-Call at op t = ap meaning (sym (terms.rolls-Call at op t)) ∙ rw fold-roll-Term refl

pub meaning-AllDifferent : (at : ℕ) (t : Term) → meaning (terms.AllDifferent at t) ≡ term_layer (Term-F.AllDifferent at (meaning t))
unfolding meaning step_meaning set_meaning group_meaning
meaning-AllDifferent at t = ap meaning (sym (terms.rolls-AllDifferent at t)) ∙ rw fold-roll-Term refl

pub meaning-Question : (at : ℕ) (op : QuestionOp) (t : Term) → meaning (terms.Question at op t) ≡ term_layer (Term-F.Question at op (meaning t))
unfolding meaning step_meaning set_meaning group_meaning
meaning-Question at op t = ap meaning (sym (terms.rolls-Question at op t)) ∙ rw fold-roll-Term refl

pub meaning-Element : (at : ℕ) (t : Term) (ts : List Term) → meaning (terms.Element at t ts) ≡ term_layer (Term-F.Element at (meaning t) (map meaning ts))
unfolding meaning step_meaning set_meaning group_meaning
meaning-Element at t ts = ap meaning (sym (terms.rolls-Element at t ts)) ∙ rw fold-roll-Term refl

pub meaning-Fields : (at : ℕ) (t : Term) (names : List FieldName) → meaning (terms.Fields at t names) ≡ term_layer (Term-F.Fields at (meaning t) names)
unfolding meaning step_meaning set_meaning group_meaning
meaning-Fields at t names = ap meaning (sym (terms.rolls-Fields at t names)) ∙ rw fold-roll-Term refl

pub meaning-Record : (at : ℕ) (ts : List Term) → meaning (terms.Record at ts) ≡ term_layer (Term-F.Record at (map meaning ts))
unfolding meaning step_meaning set_meaning group_meaning
meaning-Record at ts = ap meaning (sym (terms.rolls-Record at ts)) ∙ rw fold-roll-Term refl

pub meaning-Listed : (at : ℕ) (ts : List Term) → meaning (terms.Listed at ts) ≡ term_layer (Term-F.Listed at (map meaning ts))
unfolding meaning step_meaning set_meaning group_meaning
meaning-Listed at ts = ap meaning (sym (terms.rolls-Listed at ts)) ∙ rw fold-roll-Term refl

pub meaning-Described : (at : ℕ) (t : Term) (gs : List GroupTerm) → meaning (terms.Described at t gs None) ≡ term_layer (Term-F.Described at (meaning t) (map group_meaning gs) None)
unfolding meaning step_meaning set_meaning group_meaning
meaning-Described at t gs = ap meaning (sym (terms.rolls-Described at t gs None)) ∙ rw fold-roll-Term refl

pub meaning-Described_where : (at : ℕ) (t : Term) (gs : List GroupTerm) (c : Term) → meaning (terms.Described at t gs (Some c)) ≡ term_layer (Term-F.Described at (meaning t) (map group_meaning gs) (Some (meaning c)))
unfolding meaning step_meaning set_meaning group_meaning
meaning-Described_where at t gs c = ap meaning (sym (terms.rolls-Described at t gs (Some c))) ∙ rw fold-roll-Term refl

pub meaning-Array : (at : ℕ) (ts : List Term) → meaning (terms.Array at ts) ≡ term_layer (Term-F.Array at (map meaning ts))
unfolding meaning step_meaning set_meaning group_meaning
meaning-Array at ts = ap meaning (sym (terms.rolls-Array at ts)) ∙ rw fold-roll-Term refl

pub meaning-KeyedArray : (at : ℕ) (ts : List Term) (us : List Term) → meaning (terms.KeyedArray at ts us) ≡ term_layer (Term-F.KeyedArray at (map meaning ts) (map meaning us))
unfolding meaning step_meaning set_meaning group_meaning
meaning-KeyedArray at ts us = ap meaning (sym (terms.rolls-KeyedArray at ts us)) ∙ rw fold-roll-Term refl

step_meaning-roll : (x : Step-F GroupTerm SetTerm Step Term) → step_meaning (roll-Step x) ≡ step_layer (map-Step GroupTerm SetTerm Step Term Group Meaning (Environment → Found Operation) Meaning group_meaning set_meaning step_meaning meaning x)
unfolding meaning step_meaning set_meaning group_meaning
step_meaning-roll x = fold-roll-Step Group Meaning (Environment → Found Operation) Meaning group_layer set_layer step_layer term_layer x

pub step_meaning-Plus : (t : Term) (env : Environment) → step_meaning (steps.Plus t) env ≡ step_layer (Step-F.Plus (meaning t)) env
unfolding meaning step_meaning set_meaning group_meaning
step_meaning-Plus t env = ap (λ s. step_meaning s env) (sym (steps.rolls-Plus t)) ∙ ap (λ f. f env) (step_meaning-roll (Step-F.Plus t))

pub step_meaning-Minus : (t : Term) (env : Environment) → step_meaning (steps.Minus t) env ≡ step_layer (Step-F.Minus (meaning t)) env
unfolding meaning step_meaning set_meaning group_meaning
step_meaning-Minus t env = ap (λ s. step_meaning s env) (sym (steps.rolls-Minus t)) ∙ ap (λ f. f env) (step_meaning-roll (Step-F.Minus t))

pub step_meaning-Times : (t : Term) (env : Environment) → step_meaning (steps.Times t) env ≡ step_layer (Step-F.Times (meaning t)) env
unfolding meaning step_meaning set_meaning group_meaning
step_meaning-Times t env = ap (λ s. step_meaning s env) (sym (steps.rolls-Times t)) ∙ ap (λ f. f env) (step_meaning-roll (Step-F.Times t))

pub step_meaning-Quotient : (t : Term) (env : Environment) → step_meaning (steps.Quotient t) env ≡ step_layer (Step-F.Quotient (meaning t)) env
unfolding meaning step_meaning set_meaning group_meaning
step_meaning-Quotient t env = ap (λ s. step_meaning s env) (sym (steps.rolls-Quotient t)) ∙ ap (λ f. f env) (step_meaning-roll (Step-F.Quotient t))

pub step_meaning-Remainder : (t : Term) (env : Environment) → step_meaning (steps.Remainder t) env ≡ step_layer (Step-F.Remainder (meaning t)) env
unfolding meaning step_meaning set_meaning group_meaning
step_meaning-Remainder t env = ap (λ s. step_meaning s env) (sym (steps.rolls-Remainder t)) ∙ ap (λ f. f env) (step_meaning-roll (Step-F.Remainder t))

pub set_meaning-Whole : (t : Term) → set_meaning (sets.Whole t) ≡ set_layer (SetTerm-F.Whole (meaning t))
unfolding meaning step_meaning set_meaning group_meaning
set_meaning-Whole t = ap set_meaning (sym (sets.rolls-Whole t)) ∙ rw fold-roll-SetTerm refl

pub set_meaning-Between : (t : Term) (u : Term) → set_meaning (sets.Between t u) ≡ set_layer (SetTerm-F.Between (meaning t) (meaning u))
unfolding meaning step_meaning set_meaning group_meaning
set_meaning-Between t u = ap set_meaning (sym (sets.rolls-Between t u)) ∙ rw fold-roll-SetTerm refl

pub group_meaning-Unordered : (ps : List Pattern) (s : SetTerm) → group_meaning (groups.Unordered ps s) ≡ group_layer (GroupTerm-F.Unordered ps (set_meaning s))
unfolding meaning step_meaning set_meaning group_meaning
group_meaning-Unordered ps s = ap group_meaning (sym (groups.rolls-Unordered ps s)) ∙ rw fold-roll-GroupTerm refl

pub group_meaning-Ordered : (ps : List Pattern) (s : SetTerm) → group_meaning (groups.Ordered ps s) ≡ group_layer (GroupTerm-F.Ordered ps (set_meaning s))
unfolding meaning step_meaning set_meaning group_meaning
group_meaning-Ordered ps s = ap group_meaning (sym (groups.rolls-Ordered ps s)) ∙ rw fold-roll-GroupTerm refl

-- what each form means
pub ruleset meanings = (meaning-Number, meaning-Named, meaning-Bracket, meaning-Negative, meaning-Chain, meaning-Related, meaning-Member, meaning-Equivalent, meaning-Implied, meaning-Or, meaning-And, meaning-Not, meaning-Aggregate, meaning-Aggregate_where, meaning-Call, meaning-AllDifferent, meaning-Question, meaning-Element, meaning-Fields, meaning-Record, meaning-Listed, meaning-Described, meaning-Described_where, meaning-Array, meaning-KeyedArray, step_meaning-Plus, step_meaning-Minus, step_meaning-Times, step_meaning-Quotient, step_meaning-Remainder, set_meaning-Whole, set_meaning-Between, group_meaning-Unordered, group_meaning-Ordered)
