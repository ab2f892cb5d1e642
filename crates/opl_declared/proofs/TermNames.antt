-- Which name each form of terms is, and what array stands behind it.
use Rattle.std.proofs.Common.{◌≡◌, ℕ, ℤ, List, Option, None, Some, refl, sym, ap, ◌∙◌}
use Rattle.opl_tree.specs.declared.expression.AggregateOp.{AggregateOp}
use Rattle.opl_tree.specs.declared.expression.CallOp.{CallOp}
use Rattle.opl_tree.specs.declared.expression.QuestionOp.{QuestionOp}
use Rattle.opl_tree.specs.declared.expression.Relation.{Relation}
use Rattle.opl_term.specs.declared.term.FieldName.{FieldName}
use Rattle.opl_term.specs.declared.term.GroupTerm.{GroupTerm}
use Rattle.opl_term.specs.declared.term.GroupTerm.TheOpen.{Term-F}
use Rattle.opl_term.specs.declared.term.GroupTerm.TheViews.{roll-Term}
use Rattle.opl_term.specs.declared.term.SetTerm.{SetTerm}
use Rattle.opl_term.specs.declared.term.Step.{Step}
use Rattle.opl_term.specs.declared.term.Term.{Term}
use Rattle.opl_term.specs.declared.term.Term.TheVariants as terms
use Rattle.opl_meaning.specs.declared.variable.VariableItem.{VariableItem}
use Rattle.opl_meaning.specs.Runs.{Names}
use Rattle.opl_eval.specs.Evaluation.{Environment, parameter_or}
use Rattle.opl_draft.specs.Drafts.{Cells}
use Rattle.opl_draft.specs.Forms.{array_in, cells_in, form_array, form_cells}
use Rattle.opl_draft.specs.Numbers.{array_or, cells_or, entries}
use Rattle.opl_draft.specs.Unrolled.{Part, StepPart, layer_array, layer_cells, named_array, named_cells, part_layer, part_of}
use Rattle.opl_declared.proofs.TermPlaces.{part-roll, parts_of}

module _ (items : List VariableItem) (names : Names) where
  array-form : (x : Term-F GroupTerm SetTerm Step Term) (env : Environment) → layer_array items names (parts_of items names x) env ≡ form_array items names x env
  array-form (Term-F.Aggregate at op gs None t) env = refl
  array-form (Term-F.Aggregate at op gs (Some c) t) env = refl
  array-form (Term-F.Described at t gs None) env = refl
  array-form (Term-F.Described at t gs (Some c)) env = refl
  array-form y env = refl

  pub array-roll : (x : Term-F GroupTerm SetTerm Step Term) (env : Environment) → array_in items names (roll-Term x) env ≡ form_array items names x env
  array-roll x env = ap (λ p. p.array env) (part-roll items names x) ∙ array-form x env

  cells-form : (x : Term-F GroupTerm SetTerm Step Term) (env : Environment) → layer_cells items names (parts_of items names x) env ≡ form_cells items names x env
  cells-form (Term-F.Aggregate at op gs None t) env = refl
  cells-form (Term-F.Aggregate at op gs (Some c) t) env = refl
  cells-form (Term-F.Described at t gs None) env = refl
  cells-form (Term-F.Described at t gs (Some c)) env = refl
  cells-form y env = refl

  pub cells-roll : (x : Term-F GroupTerm SetTerm Step Term) (env : Environment) → cells_in items names (roll-Term x) env ≡ form_cells items names x env
  cells-roll x env = ap (λ p. p.cells env) (part-roll items names x) ∙ cells-form x env

pub array-Number : (items : List VariableItem) (names : Names) (at : ℕ) (n : ℤ) (env : Environment) → array_in items names (terms.Number at n) env ≡ None
array-Number items names at n env = ap (λ t. array_in items names t env) (sym (terms.rolls-Number at n)) ∙ array-roll items names (Term-F.Number at n) env

pub array-Named : (items : List VariableItem) (names : Names) (at : ℕ) (name : List ℕ) (env : Environment) → array_in items names (terms.Named at name) env ≡ named_array (parameter_or None name env.parameters) (array_or None 0 name (entries env.items items))
array-Named items names at name env = ap (λ t. array_in items names t env) (sym (terms.rolls-Named at name)) ∙ array-roll items names (Term-F.Named at name) env

pub array-Bracket : (items : List VariableItem) (names : Names) (at : ℕ) (t : Term) (env : Environment) → array_in items names (terms.Bracket at t) env ≡ array_in items names t env
array-Bracket items names at t env = ap (λ t. array_in items names t env) (sym (terms.rolls-Bracket at t)) ∙ array-roll items names (Term-F.Bracket at t) env

pub array-Negative : (items : List VariableItem) (names : Names) (at : ℕ) (t : Term) (env : Environment) → array_in items names (terms.Negative at t) env ≡ None
array-Negative items names at t env = ap (λ t. array_in items names t env) (sym (terms.rolls-Negative at t)) ∙ array-roll items names (Term-F.Negative at t) env

pub array-Chain : (items : List VariableItem) (names : Names) (at : ℕ) (t : Term) (ss : List Step) (env : Environment) → array_in items names (terms.Chain at t ss) env ≡ None
array-Chain items names at t ss env = ap (λ t. array_in items names t env) (sym (terms.rolls-Chain at t ss)) ∙ array-roll items names (Term-F.Chain at t ss) env

pub array-Related : (items : List VariableItem) (names : Names) (at : ℕ) (t : Term) (r : Relation) (u : Term) (env : Environment) → array_in items names (terms.Related at t r u) env ≡ None
array-Related items names at t r u env = ap (λ t. array_in items names t env) (sym (terms.rolls-Related at t r u)) ∙ array-roll items names (Term-F.Related at t r u) env

pub array-Member : (items : List VariableItem) (names : Names) (at : ℕ) (t : Term) (s : SetTerm) (env : Environment) → array_in items names (terms.Member at t s) env ≡ None
array-Member items names at t s env = ap (λ t. array_in items names t env) (sym (terms.rolls-Member at t s)) ∙ array-roll items names (Term-F.Member at t s) env

pub array-Equivalent : (items : List VariableItem) (names : Names) (at : ℕ) (ts : List Term) (env : Environment) → array_in items names (terms.Equivalent at ts) env ≡ None
array-Equivalent items names at ts env = ap (λ t. array_in items names t env) (sym (terms.rolls-Equivalent at ts)) ∙ array-roll items names (Term-F.Equivalent at ts) env

pub array-Implied : (items : List VariableItem) (names : Names) (at : ℕ) (t : Term) (u : Term) (env : Environment) → array_in items names (terms.Implied at t u) env ≡ None
array-Implied items names at t u env = ap (λ t. array_in items names t env) (sym (terms.rolls-Implied at t u)) ∙ array-roll items names (Term-F.Implied at t u) env

pub array-Or : (items : List VariableItem) (names : Names) (at : ℕ) (ts : List Term) (env : Environment) → array_in items names (terms.Or at ts) env ≡ None
array-Or items names at ts env = ap (λ t. array_in items names t env) (sym (terms.rolls-Or at ts)) ∙ array-roll items names (Term-F.Or at ts) env

pub array-And : (items : List VariableItem) (names : Names) (at : ℕ) (ts : List Term) (env : Environment) → array_in items names (terms.And at ts) env ≡ None
array-And items names at ts env = ap (λ t. array_in items names t env) (sym (terms.rolls-And at ts)) ∙ array-roll items names (Term-F.And at ts) env

pub array-Not : (items : List VariableItem) (names : Names) (at : ℕ) (t : Term) (env : Environment) → array_in items names (terms.Not at t) env ≡ None
array-Not items names at t env = ap (λ t. array_in items names t env) (sym (terms.rolls-Not at t)) ∙ array-roll items names (Term-F.Not at t) env

pub array-Aggregate : (items : List VariableItem) (names : Names) (at : ℕ) (op : AggregateOp) (gs : List GroupTerm) (c : Option Term) (t : Term) (env : Environment) → array_in items names (terms.Aggregate at op gs c t) env ≡ None
array-Aggregate items names at op gs c t env = ap (λ t. array_in items names t env) (sym (terms.rolls-Aggregate at op gs c t)) ∙ array-roll items names (Term-F.Aggregate at op gs c t) env

pub array-Call : (items : List VariableItem) (names : Names) (at : ℕ) (op : CallOp) (t : Term) (env : Environment) → array_in items names (terms.Call at op t) env ≡ None
array-Call items names at op t env = ap (λ t. array_in items names t env) (sym (terms.rolls-Call at op t)) ∙ array-roll items names (Term-F.Call at op t) env

pub array-AllDifferent : (items : List VariableItem) (names : Names) (at : ℕ) (t : Term) (env : Environment) → array_in items names (terms.AllDifferent at t) env ≡ None
array-AllDifferent items names at t env = ap (λ t. array_in items names t env) (sym (terms.rolls-AllDifferent at t)) ∙ array-roll items names (Term-F.AllDifferent at t) env

pub array-Question : (items : List VariableItem) (names : Names) (at : ℕ) (op : QuestionOp) (t : Term) (env : Environment) → array_in items names (terms.Question at op t) env ≡ None
array-Question items names at op t env = ap (λ t. array_in items names t env) (sym (terms.rolls-Question at op t)) ∙ array-roll items names (Term-F.Question at op t) env

pub array-Element : (items : List VariableItem) (names : Names) (at : ℕ) (t : Term) (ts : List Term) (env : Environment) → array_in items names (terms.Element at t ts) env ≡ None
array-Element items names at t ts env = ap (λ t. array_in items names t env) (sym (terms.rolls-Element at t ts)) ∙ array-roll items names (Term-F.Element at t ts) env

pub array-Fields : (items : List VariableItem) (names : Names) (at : ℕ) (t : Term) (fs : List FieldName) (env : Environment) → array_in items names (terms.Fields at t fs) env ≡ None
array-Fields items names at t fs env = ap (λ t. array_in items names t env) (sym (terms.rolls-Fields at t fs)) ∙ array-roll items names (Term-F.Fields at t fs) env

pub array-Record : (items : List VariableItem) (names : Names) (at : ℕ) (ts : List Term) (env : Environment) → array_in items names (terms.Record at ts) env ≡ None
array-Record items names at ts env = ap (λ t. array_in items names t env) (sym (terms.rolls-Record at ts)) ∙ array-roll items names (Term-F.Record at ts) env

pub array-Listed : (items : List VariableItem) (names : Names) (at : ℕ) (ts : List Term) (env : Environment) → array_in items names (terms.Listed at ts) env ≡ None
array-Listed items names at ts env = ap (λ t. array_in items names t env) (sym (terms.rolls-Listed at ts)) ∙ array-roll items names (Term-F.Listed at ts) env

pub array-Described : (items : List VariableItem) (names : Names) (at : ℕ) (t : Term) (gs : List GroupTerm) (c : Option Term) (env : Environment) → array_in items names (terms.Described at t gs c) env ≡ None
array-Described items names at t gs c env = ap (λ t. array_in items names t env) (sym (terms.rolls-Described at t gs c)) ∙ array-roll items names (Term-F.Described at t gs c) env

pub array-Array : (items : List VariableItem) (names : Names) (at : ℕ) (ts : List Term) (env : Environment) → array_in items names (terms.Array at ts) env ≡ None
array-Array items names at ts env = ap (λ t. array_in items names t env) (sym (terms.rolls-Array at ts)) ∙ array-roll items names (Term-F.Array at ts) env

pub array-KeyedArray : (items : List VariableItem) (names : Names) (at : ℕ) (ts : List Term) (us : List Term) (env : Environment) → array_in items names (terms.KeyedArray at ts us) env ≡ None
array-KeyedArray items names at ts us env = ap (λ t. array_in items names t env) (sym (terms.rolls-KeyedArray at ts us)) ∙ array-roll items names (Term-F.KeyedArray at ts us) env

pub ruleset array_names = (array-Number, array-Named, array-Bracket, array-Negative, array-Chain, array-Related, array-Member, array-Equivalent, array-Implied, array-Or, array-And, array-Not, array-Aggregate, array-Call, array-AllDifferent, array-Question, array-Element, array-Fields, array-Record, array-Listed, array-Described, array-Array, array-KeyedArray)

pub cells-Number : (items : List VariableItem) (names : Names) (at : ℕ) (n : ℤ) (env : Environment) → cells_in items names (terms.Number at n) env ≡ None
cells-Number items names at n env = ap (λ t. cells_in items names t env) (sym (terms.rolls-Number at n)) ∙ cells-roll items names (Term-F.Number at n) env

pub cells-Named : (items : List VariableItem) (names : Names) (at : ℕ) (name : List ℕ) (env : Environment) → cells_in items names (terms.Named at name) env ≡ named_cells (parameter_or None name env.parameters) (cells_or None name (entries env.items items))
cells-Named items names at name env = ap (λ t. cells_in items names t env) (sym (terms.rolls-Named at name)) ∙ cells-roll items names (Term-F.Named at name) env

pub cells-Bracket : (items : List VariableItem) (names : Names) (at : ℕ) (t : Term) (env : Environment) → cells_in items names (terms.Bracket at t) env ≡ cells_in items names t env
cells-Bracket items names at t env = ap (λ t. cells_in items names t env) (sym (terms.rolls-Bracket at t)) ∙ cells-roll items names (Term-F.Bracket at t) env

pub cells-Negative : (items : List VariableItem) (names : Names) (at : ℕ) (t : Term) (env : Environment) → cells_in items names (terms.Negative at t) env ≡ None
cells-Negative items names at t env = ap (λ t. cells_in items names t env) (sym (terms.rolls-Negative at t)) ∙ cells-roll items names (Term-F.Negative at t) env

pub cells-Chain : (items : List VariableItem) (names : Names) (at : ℕ) (t : Term) (ss : List Step) (env : Environment) → cells_in items names (terms.Chain at t ss) env ≡ None
cells-Chain items names at t ss env = ap (λ t. cells_in items names t env) (sym (terms.rolls-Chain at t ss)) ∙ cells-roll items names (Term-F.Chain at t ss) env

pub cells-Related : (items : List VariableItem) (names : Names) (at : ℕ) (t : Term) (r : Relation) (u : Term) (env : Environment) → cells_in items names (terms.Related at t r u) env ≡ None
cells-Related items names at t r u env = ap (λ t. cells_in items names t env) (sym (terms.rolls-Related at t r u)) ∙ cells-roll items names (Term-F.Related at t r u) env

pub cells-Member : (items : List VariableItem) (names : Names) (at : ℕ) (t : Term) (s : SetTerm) (env : Environment) → cells_in items names (terms.Member at t s) env ≡ None
cells-Member items names at t s env = ap (λ t. cells_in items names t env) (sym (terms.rolls-Member at t s)) ∙ cells-roll items names (Term-F.Member at t s) env

pub cells-Equivalent : (items : List VariableItem) (names : Names) (at : ℕ) (ts : List Term) (env : Environment) → cells_in items names (terms.Equivalent at ts) env ≡ None
cells-Equivalent items names at ts env = ap (λ t. cells_in items names t env) (sym (terms.rolls-Equivalent at ts)) ∙ cells-roll items names (Term-F.Equivalent at ts) env

pub cells-Implied : (items : List VariableItem) (names : Names) (at : ℕ) (t : Term) (u : Term) (env : Environment) → cells_in items names (terms.Implied at t u) env ≡ None
cells-Implied items names at t u env = ap (λ t. cells_in items names t env) (sym (terms.rolls-Implied at t u)) ∙ cells-roll items names (Term-F.Implied at t u) env

pub cells-Or : (items : List VariableItem) (names : Names) (at : ℕ) (ts : List Term) (env : Environment) → cells_in items names (terms.Or at ts) env ≡ None
cells-Or items names at ts env = ap (λ t. cells_in items names t env) (sym (terms.rolls-Or at ts)) ∙ cells-roll items names (Term-F.Or at ts) env

pub cells-And : (items : List VariableItem) (names : Names) (at : ℕ) (ts : List Term) (env : Environment) → cells_in items names (terms.And at ts) env ≡ None
cells-And items names at ts env = ap (λ t. cells_in items names t env) (sym (terms.rolls-And at ts)) ∙ cells-roll items names (Term-F.And at ts) env

pub cells-Not : (items : List VariableItem) (names : Names) (at : ℕ) (t : Term) (env : Environment) → cells_in items names (terms.Not at t) env ≡ None
cells-Not items names at t env = ap (λ t. cells_in items names t env) (sym (terms.rolls-Not at t)) ∙ cells-roll items names (Term-F.Not at t) env

pub cells-Aggregate : (items : List VariableItem) (names : Names) (at : ℕ) (op : AggregateOp) (gs : List GroupTerm) (c : Option Term) (t : Term) (env : Environment) → cells_in items names (terms.Aggregate at op gs c t) env ≡ None
cells-Aggregate items names at op gs c t env = ap (λ t. cells_in items names t env) (sym (terms.rolls-Aggregate at op gs c t)) ∙ cells-roll items names (Term-F.Aggregate at op gs c t) env

pub cells-Call : (items : List VariableItem) (names : Names) (at : ℕ) (op : CallOp) (t : Term) (env : Environment) → cells_in items names (terms.Call at op t) env ≡ None
cells-Call items names at op t env = ap (λ t. cells_in items names t env) (sym (terms.rolls-Call at op t)) ∙ cells-roll items names (Term-F.Call at op t) env

pub cells-AllDifferent : (items : List VariableItem) (names : Names) (at : ℕ) (t : Term) (env : Environment) → cells_in items names (terms.AllDifferent at t) env ≡ None
cells-AllDifferent items names at t env = ap (λ t. cells_in items names t env) (sym (terms.rolls-AllDifferent at t)) ∙ cells-roll items names (Term-F.AllDifferent at t) env

pub cells-Question : (items : List VariableItem) (names : Names) (at : ℕ) (op : QuestionOp) (t : Term) (env : Environment) → cells_in items names (terms.Question at op t) env ≡ None
cells-Question items names at op t env = ap (λ t. cells_in items names t env) (sym (terms.rolls-Question at op t)) ∙ cells-roll items names (Term-F.Question at op t) env

pub cells-Element : (items : List VariableItem) (names : Names) (at : ℕ) (t : Term) (ts : List Term) (env : Environment) → cells_in items names (terms.Element at t ts) env ≡ None
cells-Element items names at t ts env = ap (λ t. cells_in items names t env) (sym (terms.rolls-Element at t ts)) ∙ cells-roll items names (Term-F.Element at t ts) env

pub cells-Fields : (items : List VariableItem) (names : Names) (at : ℕ) (t : Term) (fs : List FieldName) (env : Environment) → cells_in items names (terms.Fields at t fs) env ≡ None
cells-Fields items names at t fs env = ap (λ t. cells_in items names t env) (sym (terms.rolls-Fields at t fs)) ∙ cells-roll items names (Term-F.Fields at t fs) env

pub cells-Record : (items : List VariableItem) (names : Names) (at : ℕ) (ts : List Term) (env : Environment) → cells_in items names (terms.Record at ts) env ≡ None
cells-Record items names at ts env = ap (λ t. cells_in items names t env) (sym (terms.rolls-Record at ts)) ∙ cells-roll items names (Term-F.Record at ts) env

pub cells-Listed : (items : List VariableItem) (names : Names) (at : ℕ) (ts : List Term) (env : Environment) → cells_in items names (terms.Listed at ts) env ≡ None
cells-Listed items names at ts env = ap (λ t. cells_in items names t env) (sym (terms.rolls-Listed at ts)) ∙ cells-roll items names (Term-F.Listed at ts) env

pub cells-Described : (items : List VariableItem) (names : Names) (at : ℕ) (t : Term) (gs : List GroupTerm) (c : Option Term) (env : Environment) → cells_in items names (terms.Described at t gs c) env ≡ None
cells-Described items names at t gs c env = ap (λ t. cells_in items names t env) (sym (terms.rolls-Described at t gs c)) ∙ cells-roll items names (Term-F.Described at t gs c) env

pub cells-Array : (items : List VariableItem) (names : Names) (at : ℕ) (ts : List Term) (env : Environment) → cells_in items names (terms.Array at ts) env ≡ None
cells-Array items names at ts env = ap (λ t. cells_in items names t env) (sym (terms.rolls-Array at ts)) ∙ cells-roll items names (Term-F.Array at ts) env

pub cells-KeyedArray : (items : List VariableItem) (names : Names) (at : ℕ) (ts : List Term) (us : List Term) (env : Environment) → cells_in items names (terms.KeyedArray at ts us) env ≡ None
cells-KeyedArray items names at ts us env = ap (λ t. cells_in items names t env) (sym (terms.rolls-KeyedArray at ts us)) ∙ cells-roll items names (Term-F.KeyedArray at ts us) env

pub ruleset cells_names = (cells-Number, cells-Named, cells-Bracket, cells-Negative, cells-Chain, cells-Related, cells-Member, cells-Equivalent, cells-Implied, cells-Or, cells-And, cells-Not, cells-Aggregate, cells-Call, cells-AllDifferent, cells-Question, cells-Element, cells-Fields, cells-Record, cells-Listed, cells-Described, cells-Array, cells-KeyedArray)
