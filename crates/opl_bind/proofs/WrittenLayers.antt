-- What expressions are as initial values, form by form, and that they mean there what they mean anywhere.
use Rattle.std.proofs.Common.{◌≡◌, ◌⊎◌, inl, inr, ℕ, ℤ, true, false, List, [], ◌∷◌, length, map, Option, None, Some, Ok, Err, refl, sym, ap, subst, ◌∙◌}
use Rattle.std.specs.Prelude.{nat_eq}
use Rattle.std.proofs.lemmas.List.{length-map}
use Rattle.opl_tree.specs.declared.expression.AggregateOp.{AggregateOp}
use Rattle.opl_tree.specs.declared.expression.CallOp.{CallOp}
use Rattle.opl_tree.specs.declared.expression.QuestionOp.{QuestionOp}
use Rattle.opl_tree.specs.declared.expression.Relation.{Relation}
use Rattle.opl_term.specs.declared.term.FieldName.{FieldName}
use Rattle.opl_term.specs.declared.term.GroupTerm.{GroupTerm}
use Rattle.opl_term.specs.declared.term.GroupTerm.TheOpen.{GroupTerm-F, SetTerm-F, Step-F, Term-F}
use Rattle.opl_term.specs.declared.term.GroupTerm.TheFolds.{fold-GroupTerm, fold-SetTerm, fold-Step, fold-roll-GroupTerm, fold-roll-SetTerm, fold-roll-Step, fold-roll-Term, ind-Term, map-GroupTerm, map-SetTerm, map-Step, map-Term}
use Rattle.opl_term.specs.declared.term.GroupTerm.TheViews.{out-Term, roll-GroupTerm, roll-SetTerm, roll-Step, roll-Term, roll-out-Term}
use Rattle.opl_term.specs.declared.term.SetTerm.{SetTerm}
use Rattle.opl_term.specs.declared.term.Step.{Step}
use Rattle.opl_term.specs.declared.term.Term.{Term}
use Rattle.opl_term.specs.declared.term.Term.TheVariants as terms
use Rattle.opl_eval.specs.Evaluation.{Environment, Group, Meaning, group_layer, group_meaning, meaning, set_layer, set_meaning, step_layer, step_meaning, term_layer}
use Rattle.opl_eval.proofs.Weights.{weight-Listed, weight-Record, weight-at}
use Rattle.opl_given.specs.declared.fault.BindFault.{BindFault}
use Rattle.opl_given.specs.declared.form.Form.{Form}
use Rattle.opl_given.specs.Arrays.{Axis, values_of}
use Rattle.opl_given.specs.Faults.{provided, then}
use Rattle.opl_given.specs.Forms.{Known}
use Rattle.opl_given.specs.Values.{element_of, parts_of}
use Rattle.opl_bind.specs.Written.{Run, Written, at_layer, cells_layer, first_token, fit_layer, free_slots, gathered, group_means, has_cells, has_cells_layer, laid, opened, record_parts, set_means, set_parts, step_means, term_means, whole, written, written_layer}

-- ---- the other kinds of terms beside expressions

written_group : Known → GroupTerm → Group
written_group known = fold-GroupTerm Group Meaning Run Written group_means set_means step_means (written_layer known)

written_set : Known → SetTerm → Meaning
written_set known = fold-SetTerm Group Meaning Run Written group_means set_means step_means (written_layer known)

written_step : Known → Step → Run
written_step known = fold-Step Group Meaning Run Written group_means set_means step_means (written_layer known)

-- the parts of an expression, of a step, of a set and of a group as what they are there
abbrev in_term : Known → Term-F GroupTerm SetTerm Step Term → Term-F Group Meaning Run Written
in_term known x = map-Term GroupTerm SetTerm Step Term Group Meaning Run Written (written_group known) (written_set known) (written_step known) (written known) x

abbrev in_step : Known → Step-F GroupTerm SetTerm Step Term → Step-F Group Meaning Run Written
in_step known x = map-Step GroupTerm SetTerm Step Term Group Meaning Run Written (written_group known) (written_set known) (written_step known) (written known) x

abbrev in_set : Known → SetTerm-F GroupTerm SetTerm Step Term → SetTerm-F Group Meaning Run Written
in_set known x = map-SetTerm GroupTerm SetTerm Step Term Group Meaning Run Written (written_group known) (written_set known) (written_step known) (written known) x

abbrev in_group : Known → GroupTerm-F GroupTerm SetTerm Step Term → GroupTerm-F Group Meaning Run Written
in_group known x = map-GroupTerm GroupTerm SetTerm Step Term Group Meaning Run Written (written_group known) (written_set known) (written_step known) (written known) x

written-roll : (known : Known) (x : Term-F GroupTerm SetTerm Step Term) → written known (roll-Term x) ≡ written_layer known (in_term known x)
unfolding written written_group written_set written_step
written-roll known x = fold-roll-Term Group Meaning Run Written group_means set_means step_means (written_layer known) x

step-roll : (known : Known) (x : Step-F GroupTerm SetTerm Step Term) → written_step known (roll-Step x) ≡ step_means (in_step known x)
unfolding written written_group written_set written_step
step-roll known x = fold-roll-Step Group Meaning Run Written group_means set_means step_means (written_layer known) x

set-roll : (known : Known) (x : SetTerm-F GroupTerm SetTerm Step Term) → written_set known (roll-SetTerm x) ≡ set_means (in_set known x)
unfolding written written_group written_set written_step
set-roll known x = fold-roll-SetTerm Group Meaning Run Written group_means set_means step_means (written_layer known) x

group-roll : (known : Known) (x : GroupTerm-F GroupTerm SetTerm Step Term) → written_group known (roll-GroupTerm x) ≡ group_means (in_group known x)
unfolding written written_group written_set written_step
group-roll known x = fold-roll-GroupTerm Group Meaning Run Written group_means set_means step_means (written_layer known) x

-- ---- what they mean anywhere

abbrev term_there : Term-F GroupTerm SetTerm Step Term → Term-F Group Meaning Run Meaning
term_there x = map-Term GroupTerm SetTerm Step Term Group Meaning Run Meaning group_meaning set_meaning step_meaning meaning x

abbrev step_there : Step-F GroupTerm SetTerm Step Term → Step-F Group Meaning Run Meaning
step_there x = map-Step GroupTerm SetTerm Step Term Group Meaning Run Meaning group_meaning set_meaning step_meaning meaning x

abbrev set_there : SetTerm-F GroupTerm SetTerm Step Term → SetTerm-F Group Meaning Run Meaning
set_there x = map-SetTerm GroupTerm SetTerm Step Term Group Meaning Run Meaning group_meaning set_meaning step_meaning meaning x

abbrev group_there : GroupTerm-F GroupTerm SetTerm Step Term → GroupTerm-F Group Meaning Run Meaning
group_there x = map-GroupTerm GroupTerm SetTerm Step Term Group Meaning Run Meaning group_meaning set_meaning step_meaning meaning x

meaning-roll : (x : Term-F GroupTerm SetTerm Step Term) → meaning (roll-Term x) ≡ term_layer (term_there x)
unfolding meaning step_meaning set_meaning group_meaning
meaning-roll x = fold-roll-Term Group Meaning Run Meaning group_layer set_layer step_layer term_layer x

step_meaning-roll : (x : Step-F GroupTerm SetTerm Step Term) → step_meaning (roll-Step x) ≡ step_layer (step_there x)
unfolding meaning step_meaning set_meaning group_meaning
step_meaning-roll x = fold-roll-Step Group Meaning Run Meaning group_layer set_layer step_layer term_layer x

set_meaning-roll : (x : SetTerm-F GroupTerm SetTerm Step Term) → set_meaning (roll-SetTerm x) ≡ set_layer (set_there x)
unfolding meaning step_meaning set_meaning group_meaning
set_meaning-roll x = fold-roll-SetTerm Group Meaning Run Meaning group_layer set_layer step_layer term_layer x

group_meaning-roll : (x : GroupTerm-F GroupTerm SetTerm Step Term) → group_meaning (roll-GroupTerm x) ≡ group_layer (group_there x)
unfolding meaning step_meaning set_meaning group_meaning
group_meaning-roll x = fold-roll-GroupTerm Group Meaning Run Meaning group_layer set_layer step_layer term_layer x

-- ---- they mean the same

abbrev TermMeans : Known → Term → Type 0
TermMeans known t = (written known t).meaning ≡ meaning t

abbrev StepMeans : Known → Step → Type 0
StepMeans known t = written_step known t ≡ step_meaning t

abbrev SetMeans : Known → SetTerm → Type 0
SetMeans known t = written_set known t ≡ set_meaning t

abbrev GroupMeans : Known → GroupTerm → Type 0
GroupMeans known t = written_group known t ≡ group_meaning t

abbrev InTerm : Known → Type 0
InTerm known = (t : Term) × TermMeans known t

abbrev InStep : Known → Type 0
InStep known = (t : Step) × StepMeans known t

abbrev InSet : Known → Type 0
InSet known = (t : SetTerm) × SetMeans known t

abbrev InGroup : Known → Type 0
InGroup known = (t : GroupTerm) × GroupMeans known t

abbrev term_inner : (known : Known) → Term-F (InGroup known) (InSet known) (InStep known) (InTerm known) → Term-F GroupTerm SetTerm Step Term
term_inner known y = map-Term (InGroup known) (InSet known) (InStep known) (InTerm known) GroupTerm SetTerm Step Term (λ e. e.0) (λ e. e.0) (λ e. e.0) (λ e. e.0) y

abbrev step_inner : (known : Known) → Step-F (InGroup known) (InSet known) (InStep known) (InTerm known) → Step-F GroupTerm SetTerm Step Term
step_inner known y = map-Step (InGroup known) (InSet known) (InStep known) (InTerm known) GroupTerm SetTerm Step Term (λ e. e.0) (λ e. e.0) (λ e. e.0) (λ e. e.0) y

abbrev set_inner : (known : Known) → SetTerm-F (InGroup known) (InSet known) (InStep known) (InTerm known) → SetTerm-F GroupTerm SetTerm Step Term
set_inner known y = map-SetTerm (InGroup known) (InSet known) (InStep known) (InTerm known) GroupTerm SetTerm Step Term (λ e. e.0) (λ e. e.0) (λ e. e.0) (λ e. e.0) y

abbrev group_inner : (known : Known) → GroupTerm-F (InGroup known) (InSet known) (InStep known) (InTerm known) → GroupTerm-F GroupTerm SetTerm Step Term
group_inner known y = map-GroupTerm (InGroup known) (InSet known) (InStep known) (InTerm known) GroupTerm SetTerm Step Term (λ e. e.0) (λ e. e.0) (λ e. e.0) (λ e. e.0) y

terms_mean : (known : Known) (ts : List (InTerm known)) → map (λ w. w.meaning) (map (written known) (map (λ e. e.0) ts)) ≡ map meaning (map (λ e. e.0) ts)
terms_mean known [] = refl
terms_mean known (t ∷ ts) = λ i. t.1 i ∷ terms_mean known ts i

steps_mean : (known : Known) (ts : List (InStep known)) → map (λ o. o) (map (written_step known) (map (λ e. e.0) ts)) ≡ map step_meaning (map (λ e. e.0) ts)
steps_mean known [] = refl
steps_mean known (t ∷ ts) = λ i. t.1 i ∷ steps_mean known ts i

groups_mean : (known : Known) (ts : List (InGroup known)) → map (λ g. g) (map (written_group known) (map (λ e. e.0) ts)) ≡ map group_meaning (map (λ e. e.0) ts)
groups_mean known [] = refl
groups_mean known (t ∷ ts) = λ i. t.1 i ∷ groups_mean known ts i

-- the meanings of the parts of an expression, of a step, of a set and of a group that is written
abbrev term_here : Term-F Group Meaning Run Written → Term-F Group Meaning Run Meaning
term_here x = map-Term Group Meaning Run Written Group Meaning Run Meaning (λ g. g) (λ s. s) (λ o. o) (λ w. w.meaning) x

abbrev step_here : Step-F Group Meaning Run Written → Step-F Group Meaning Run Meaning
step_here x = map-Step Group Meaning Run Written Group Meaning Run Meaning (λ g. g) (λ s. s) (λ o. o) (λ w. w.meaning) x

abbrev set_here : SetTerm-F Group Meaning Run Written → SetTerm-F Group Meaning Run Meaning
set_here x = map-SetTerm Group Meaning Run Written Group Meaning Run Meaning (λ g. g) (λ s. s) (λ o. o) (λ w. w.meaning) x

abbrev group_here : GroupTerm-F Group Meaning Run Written → GroupTerm-F Group Meaning Run Meaning
group_here x = map-GroupTerm Group Meaning Run Written Group Meaning Run Meaning (λ g. g) (λ s. s) (λ o. o) (λ w. w.meaning) x

step_parts : (known : Known) (y : Step-F (InGroup known) (InSet known) (InStep known) (InTerm known)) → step_here (in_step known (step_inner known y)) ≡ step_there (step_inner known y)
step_parts known (Step-F.Plus t) = λ i. Step-F.Plus (t.1 i)
step_parts known (Step-F.Minus t) = λ i. Step-F.Minus (t.1 i)
step_parts known (Step-F.Times t) = λ i. Step-F.Times (t.1 i)
step_parts known (Step-F.Quotient t) = λ i. Step-F.Quotient (t.1 i)
step_parts known (Step-F.Remainder t) = λ i. Step-F.Remainder (t.1 i)

set_parts_mean : (known : Known) (y : SetTerm-F (InGroup known) (InSet known) (InStep known) (InTerm known)) → set_here (in_set known (set_inner known y)) ≡ set_there (set_inner known y)
set_parts_mean known (SetTerm-F.Whole t) = λ i. SetTerm-F.Whole (t.1 i)
set_parts_mean known (SetTerm-F.Between t u) = λ i. SetTerm-F.Between (t.1 i) (u.1 i)

group_parts : (known : Known) (y : GroupTerm-F (InGroup known) (InSet known) (InStep known) (InTerm known)) → group_here (in_group known (group_inner known y)) ≡ group_there (group_inner known y)
group_parts known (GroupTerm-F.Unordered ps s) = λ i. GroupTerm-F.Unordered ps (s.1 i)
group_parts known (GroupTerm-F.Ordered ps s) = λ i. GroupTerm-F.Ordered ps (s.1 i)

term_parts : (known : Known) (y : Term-F (InGroup known) (InSet known) (InStep known) (InTerm known)) → term_here (in_term known (term_inner known y)) ≡ term_there (term_inner known y)
term_parts known (Term-F.Number at n) = refl
term_parts known (Term-F.Named at name) = refl
term_parts known (Term-F.Bracket at t) = λ i. Term-F.Bracket at (t.1 i)
term_parts known (Term-F.Negative at t) = λ i. Term-F.Negative at (t.1 i)
term_parts known (Term-F.Chain at t ss) = λ i. Term-F.Chain at (t.1 i) (steps_mean known ss i)
term_parts known (Term-F.Related at t r u) = λ i. Term-F.Related at (t.1 i) r (u.1 i)
term_parts known (Term-F.Member at t s) = λ i. Term-F.Member at (t.1 i) (s.1 i)
term_parts known (Term-F.Equivalent at ts) = λ i. Term-F.Equivalent at (terms_mean known ts i)
term_parts known (Term-F.Implied at t u) = λ i. Term-F.Implied at (t.1 i) (u.1 i)
term_parts known (Term-F.Or at ts) = λ i. Term-F.Or at (terms_mean known ts i)
term_parts known (Term-F.And at ts) = λ i. Term-F.And at (terms_mean known ts i)
term_parts known (Term-F.Not at t) = λ i. Term-F.Not at (t.1 i)
term_parts known (Term-F.Aggregate at op gs None t) = λ i. Term-F.Aggregate at op (groups_mean known gs i) None (t.1 i)
term_parts known (Term-F.Aggregate at op gs (Some c) t) = λ i. Term-F.Aggregate at op (groups_mean known gs i) (Some (c.1 i)) (t.1 i)
term_parts known (Term-F.Call at op t) = λ i. Term-F.Call at op (t.1 i)
term_parts known (Term-F.AllDifferent at t) = λ i. Term-F.AllDifferent at (t.1 i)
term_parts known (Term-F.Question at op t) = λ i. Term-F.Question at op (t.1 i)
term_parts known (Term-F.Element at t ts) = λ i. Term-F.Element at (t.1 i) (terms_mean known ts i)
term_parts known (Term-F.Fields at t fs) = λ i. Term-F.Fields at (t.1 i) fs
term_parts known (Term-F.Record at ts) = λ i. Term-F.Record at (terms_mean known ts i)
term_parts known (Term-F.Listed at ts) = λ i. Term-F.Listed at (terms_mean known ts i)
term_parts known (Term-F.Described at t gs None) = λ i. Term-F.Described at (t.1 i) (groups_mean known gs i) None
term_parts known (Term-F.Described at t gs (Some c)) = λ i. Term-F.Described at (t.1 i) (groups_mean known gs i) (Some (c.1 i))
term_parts known (Term-F.Array at ts) = λ i. Term-F.Array at (terms_mean known ts i)
term_parts known (Term-F.KeyedArray at ts us) = λ i. Term-F.KeyedArray at (terms_mean known ts i) (terms_mean known us i)

term_case : (known : Known) (y : Term-F (InGroup known) (InSet known) (InStep known) (InTerm known)) → TermMeans known (roll-Term (term_inner known y))
term_case known y = ap (λ w. w.meaning) (written-roll known (term_inner known y)) ∙ ap term_layer (term_parts known y) ∙ sym (meaning-roll (term_inner known y))

step_case : (known : Known) (y : Step-F (InGroup known) (InSet known) (InStep known) (InTerm known)) → StepMeans known (roll-Step (step_inner known y))
step_case known y = step-roll known (step_inner known y) ∙ ap step_layer (step_parts known y) ∙ sym (step_meaning-roll (step_inner known y))

set_case : (known : Known) (y : SetTerm-F (InGroup known) (InSet known) (InStep known) (InTerm known)) → SetMeans known (roll-SetTerm (set_inner known y))
set_case known y = set-roll known (set_inner known y) ∙ ap set_layer (set_parts_mean known y) ∙ sym (set_meaning-roll (set_inner known y))

group_case : (known : Known) (y : GroupTerm-F (InGroup known) (InSet known) (InStep known) (InTerm known)) → GroupMeans known (roll-GroupTerm (group_inner known y))
group_case known y = group-roll known (group_inner known y) ∙ ap group_layer (group_parts known y) ∙ sym (group_meaning-roll (group_inner known y))

-- an expression means as an initial value what it means anywhere
pub written-meaning : (known : Known) (t : Term) → (written known t).meaning ≡ meaning t
written-meaning known = ind-Term (GroupMeans known) (SetMeans known) (StepMeans known) (TermMeans known)
    (λ x y is. subst (λ z. GroupMeans known (roll-GroupTerm z)) is (group_case known y))
    (λ x y is. subst (λ z. SetMeans known (roll-SetTerm z)) is (set_case known y))
    (λ x y is. subst (λ z. StepMeans known (roll-Step z)) is (step_case known y))
    (λ x y is. subst (λ z. TermMeans known (roll-Term z)) is (term_case known y))

-- ---- one layer

layer : (known : Known) (t : Term) (x : Term-F GroupTerm SetTerm Step Term) → roll-Term x ≡ t → written known t ≡ written_layer known (in_term known x)
layer known t x is = subst (λ u. written known u ≡ written_layer known (in_term known x)) is (written-roll known x)

fit_of : (known : Known) (t : Term) (x : Term-F GroupTerm SetTerm Step Term) (form : Form) (env : Environment) → roll-Term x ≡ t → (written known t).fit form env ≡ fit_layer known (at_layer (in_term known x)) (meaning t) (in_term known x) form env
fit_of known t x form env is =
    let e = layer known t x is in
    let m : term_means (in_term known x) ≡ meaning t = sym (ap (λ w. w.meaning) e) ∙ written-meaning known t in
    ap (λ w. w.fit form env) e ∙ ap (λ n. fit_layer known (at_layer (in_term known x)) n (in_term known x) form env) m

cells_of : (known : Known) (t : Term) (x : Term-F GroupTerm SetTerm Step Term) (wrong : BindFault) (axes : List Axis) (env : Environment) → roll-Term x ≡ t → (written known t).cells wrong axes env ≡ cells_layer (written known t).fit (in_term known x) wrong axes env
cells_of known t x wrong axes env is =
    let e = layer known t x is in
    ap (λ w. w.cells wrong axes env) e ∙ ap (λ f. cells_layer f (in_term known x) wrong axes env) (sym (ap (λ w. w.fit) e))

at_of : (known : Known) (t : Term) (x : Term-F GroupTerm SetTerm Step Term) → roll-Term x ≡ t → (written known t).at ≡ at_layer (in_term known x)
at_of known t x is = ap (λ w. w.at) (layer known t x is)

has_of : (known : Known) (t : Term) (x : Term-F GroupTerm SetTerm Step Term) → roll-Term x ≡ t → (written known t).has_cells ≡ has_cells_layer (in_term known x)
has_of known t x is = ap (λ w. w.has_cells) (layer known t x is)

-- ---- the place of the first token, and whether there are cells

pub first_token-Number : (at : ℕ) (n : ℤ) → first_token (terms.Number at n) ≡ at
unfolding first_token
first_token-Number at n = ap at_layer (terms.outs-Number at n)

pub first_token-Named : (at : ℕ) (name : List ℕ) → first_token (terms.Named at name) ≡ at
unfolding first_token
first_token-Named at name = ap at_layer (terms.outs-Named at name)

pub first_token-Bracket : (at : ℕ) (t : Term) → first_token (terms.Bracket at t) ≡ at
unfolding first_token
first_token-Bracket at t = ap at_layer (terms.outs-Bracket at t)

pub first_token-Negative : (at : ℕ) (t : Term) → first_token (terms.Negative at t) ≡ at
unfolding first_token
first_token-Negative at t = ap at_layer (terms.outs-Negative at t)

pub first_token-Chain : (at : ℕ) (t : Term) (ss : List Step) → first_token (terms.Chain at t ss) ≡ at
unfolding first_token
first_token-Chain at t ss = ap at_layer (terms.outs-Chain at t ss)

pub first_token-Related : (at : ℕ) (t : Term) (r : Relation) (u : Term) → first_token (terms.Related at t r u) ≡ at
unfolding first_token
first_token-Related at t r u = ap at_layer (terms.outs-Related at t r u)

pub first_token-Member : (at : ℕ) (t : Term) (s : SetTerm) → first_token (terms.Member at t s) ≡ at
unfolding first_token
first_token-Member at t s = ap at_layer (terms.outs-Member at t s)

pub first_token-Equivalent : (at : ℕ) (ts : List Term) → first_token (terms.Equivalent at ts) ≡ at
unfolding first_token
first_token-Equivalent at ts = ap at_layer (terms.outs-Equivalent at ts)

pub first_token-Implied : (at : ℕ) (t : Term) (u : Term) → first_token (terms.Implied at t u) ≡ at
unfolding first_token
first_token-Implied at t u = ap at_layer (terms.outs-Implied at t u)

pub first_token-Or : (at : ℕ) (ts : List Term) → first_token (terms.Or at ts) ≡ at
unfolding first_token
first_token-Or at ts = ap at_layer (terms.outs-Or at ts)

pub first_token-And : (at : ℕ) (ts : List Term) → first_token (terms.And at ts) ≡ at
unfolding first_token
first_token-And at ts = ap at_layer (terms.outs-And at ts)

pub first_token-Not : (at : ℕ) (t : Term) → first_token (terms.Not at t) ≡ at
unfolding first_token
first_token-Not at t = ap at_layer (terms.outs-Not at t)

pub first_token-Aggregate : (at : ℕ) (op : AggregateOp) (gs : List GroupTerm) (c : Option Term) (t : Term) → first_token (terms.Aggregate at op gs c t) ≡ at
unfolding first_token
first_token-Aggregate at op gs c t = ap at_layer (terms.outs-Aggregate at op gs c t)

pub first_token-Call : (at : ℕ) (op : CallOp) (t : Term) → first_token (terms.Call at op t) ≡ at
unfolding first_token
first_token-Call at op t = ap at_layer (terms.outs-Call at op t)

pub first_token-AllDifferent : (at : ℕ) (t : Term) → first_token (terms.AllDifferent at t) ≡ at
unfolding first_token
first_token-AllDifferent at t = ap at_layer (terms.outs-AllDifferent at t)

pub first_token-Question : (at : ℕ) (op : QuestionOp) (t : Term) → first_token (terms.Question at op t) ≡ at
unfolding first_token
first_token-Question at op t = ap at_layer (terms.outs-Question at op t)

pub first_token-Element : (at : ℕ) (t : Term) (ts : List Term) → first_token (terms.Element at t ts) ≡ at
unfolding first_token
first_token-Element at t ts = ap at_layer (terms.outs-Element at t ts)

pub first_token-Fields : (at : ℕ) (t : Term) (fs : List FieldName) → first_token (terms.Fields at t fs) ≡ at
unfolding first_token
first_token-Fields at t fs = ap at_layer (terms.outs-Fields at t fs)

pub first_token-Record : (at : ℕ) (ts : List Term) → first_token (terms.Record at ts) ≡ at
unfolding first_token
first_token-Record at ts = ap at_layer (terms.outs-Record at ts)

pub first_token-Listed : (at : ℕ) (ts : List Term) → first_token (terms.Listed at ts) ≡ at
unfolding first_token
first_token-Listed at ts = ap at_layer (terms.outs-Listed at ts)

pub first_token-Described : (at : ℕ) (t : Term) (gs : List GroupTerm) (c : Option Term) → first_token (terms.Described at t gs c) ≡ at
unfolding first_token
first_token-Described at t gs c = ap at_layer (terms.outs-Described at t gs c)

pub first_token-Array : (at : ℕ) (ts : List Term) → first_token (terms.Array at ts) ≡ at
unfolding first_token
first_token-Array at ts = ap at_layer (terms.outs-Array at ts)

pub first_token-KeyedArray : (at : ℕ) (ts : List Term) (us : List Term) → first_token (terms.KeyedArray at ts us) ≡ at
unfolding first_token
first_token-KeyedArray at ts us = ap at_layer (terms.outs-KeyedArray at ts us)

pub has_cells-Number : (at : ℕ) (n : ℤ) → has_cells (terms.Number at n) ≡ false
unfolding has_cells
has_cells-Number at n = ap has_cells_layer (terms.outs-Number at n)

pub has_cells-Named : (at : ℕ) (name : List ℕ) → has_cells (terms.Named at name) ≡ false
unfolding has_cells
has_cells-Named at name = ap has_cells_layer (terms.outs-Named at name)

pub has_cells-Bracket : (at : ℕ) (t : Term) → has_cells (terms.Bracket at t) ≡ false
unfolding has_cells
has_cells-Bracket at t = ap has_cells_layer (terms.outs-Bracket at t)

pub has_cells-Negative : (at : ℕ) (t : Term) → has_cells (terms.Negative at t) ≡ false
unfolding has_cells
has_cells-Negative at t = ap has_cells_layer (terms.outs-Negative at t)

pub has_cells-Chain : (at : ℕ) (t : Term) (ss : List Step) → has_cells (terms.Chain at t ss) ≡ false
unfolding has_cells
has_cells-Chain at t ss = ap has_cells_layer (terms.outs-Chain at t ss)

pub has_cells-Related : (at : ℕ) (t : Term) (r : Relation) (u : Term) → has_cells (terms.Related at t r u) ≡ false
unfolding has_cells
has_cells-Related at t r u = ap has_cells_layer (terms.outs-Related at t r u)

pub has_cells-Member : (at : ℕ) (t : Term) (s : SetTerm) → has_cells (terms.Member at t s) ≡ false
unfolding has_cells
has_cells-Member at t s = ap has_cells_layer (terms.outs-Member at t s)

pub has_cells-Equivalent : (at : ℕ) (ts : List Term) → has_cells (terms.Equivalent at ts) ≡ false
unfolding has_cells
has_cells-Equivalent at ts = ap has_cells_layer (terms.outs-Equivalent at ts)

pub has_cells-Implied : (at : ℕ) (t : Term) (u : Term) → has_cells (terms.Implied at t u) ≡ false
unfolding has_cells
has_cells-Implied at t u = ap has_cells_layer (terms.outs-Implied at t u)

pub has_cells-Or : (at : ℕ) (ts : List Term) → has_cells (terms.Or at ts) ≡ false
unfolding has_cells
has_cells-Or at ts = ap has_cells_layer (terms.outs-Or at ts)

pub has_cells-And : (at : ℕ) (ts : List Term) → has_cells (terms.And at ts) ≡ false
unfolding has_cells
has_cells-And at ts = ap has_cells_layer (terms.outs-And at ts)

pub has_cells-Not : (at : ℕ) (t : Term) → has_cells (terms.Not at t) ≡ false
unfolding has_cells
has_cells-Not at t = ap has_cells_layer (terms.outs-Not at t)

pub has_cells-Aggregate : (at : ℕ) (op : AggregateOp) (gs : List GroupTerm) (c : Option Term) (t : Term) → has_cells (terms.Aggregate at op gs c t) ≡ false
unfolding has_cells
has_cells-Aggregate at op gs c t = ap has_cells_layer (terms.outs-Aggregate at op gs c t)

pub has_cells-Call : (at : ℕ) (op : CallOp) (t : Term) → has_cells (terms.Call at op t) ≡ false
unfolding has_cells
has_cells-Call at op t = ap has_cells_layer (terms.outs-Call at op t)

pub has_cells-AllDifferent : (at : ℕ) (t : Term) → has_cells (terms.AllDifferent at t) ≡ false
unfolding has_cells
has_cells-AllDifferent at t = ap has_cells_layer (terms.outs-AllDifferent at t)

pub has_cells-Question : (at : ℕ) (op : QuestionOp) (t : Term) → has_cells (terms.Question at op t) ≡ false
unfolding has_cells
has_cells-Question at op t = ap has_cells_layer (terms.outs-Question at op t)

pub has_cells-Element : (at : ℕ) (t : Term) (ts : List Term) → has_cells (terms.Element at t ts) ≡ false
unfolding has_cells
has_cells-Element at t ts = ap has_cells_layer (terms.outs-Element at t ts)

pub has_cells-Fields : (at : ℕ) (t : Term) (fs : List FieldName) → has_cells (terms.Fields at t fs) ≡ false
unfolding has_cells
has_cells-Fields at t fs = ap has_cells_layer (terms.outs-Fields at t fs)

pub has_cells-Record : (at : ℕ) (ts : List Term) → has_cells (terms.Record at ts) ≡ false
unfolding has_cells
has_cells-Record at ts = ap has_cells_layer (terms.outs-Record at ts)

pub has_cells-Listed : (at : ℕ) (ts : List Term) → has_cells (terms.Listed at ts) ≡ false
unfolding has_cells
has_cells-Listed at ts = ap has_cells_layer (terms.outs-Listed at ts)

pub has_cells-Described : (at : ℕ) (t : Term) (gs : List GroupTerm) (c : Option Term) → has_cells (terms.Described at t gs c) ≡ false
unfolding has_cells
has_cells-Described at t gs c = ap has_cells_layer (terms.outs-Described at t gs c)

pub has_cells-Array : (at : ℕ) (ts : List Term) → has_cells (terms.Array at ts) ≡ true
unfolding has_cells
has_cells-Array at ts = ap has_cells_layer (terms.outs-Array at ts)

pub has_cells-KeyedArray : (at : ℕ) (ts : List Term) (us : List Term) → has_cells (terms.KeyedArray at ts us) ≡ true
unfolding has_cells
has_cells-KeyedArray at ts us = ap has_cells_layer (terms.outs-KeyedArray at ts us)

-- each expression is one of its forms
at-parts : (known : Known) (x : Term-F GroupTerm SetTerm Step Term) → at_layer (in_term known x) ≡ at_layer x
at-parts known (Term-F.Number at n) = refl
at-parts known (Term-F.Named at name) = refl
at-parts known (Term-F.Bracket at t) = refl
at-parts known (Term-F.Negative at t) = refl
at-parts known (Term-F.Chain at t ss) = refl
at-parts known (Term-F.Related at t r u) = refl
at-parts known (Term-F.Member at t s) = refl
at-parts known (Term-F.Equivalent at ts) = refl
at-parts known (Term-F.Implied at t u) = refl
at-parts known (Term-F.Or at ts) = refl
at-parts known (Term-F.And at ts) = refl
at-parts known (Term-F.Not at t) = refl
at-parts known (Term-F.Aggregate at op gs c t) = refl
at-parts known (Term-F.Call at op t) = refl
at-parts known (Term-F.AllDifferent at t) = refl
at-parts known (Term-F.Question at op t) = refl
at-parts known (Term-F.Element at t ts) = refl
at-parts known (Term-F.Fields at t fs) = refl
at-parts known (Term-F.Record at ts) = refl
at-parts known (Term-F.Listed at ts) = refl
at-parts known (Term-F.Described at t gs c) = refl
at-parts known (Term-F.Array at ts) = refl
at-parts known (Term-F.KeyedArray at ts us) = refl

has-parts : (known : Known) (x : Term-F GroupTerm SetTerm Step Term) → has_cells_layer (in_term known x) ≡ has_cells_layer x
has-parts known (Term-F.Number at n) = refl
has-parts known (Term-F.Named at name) = refl
has-parts known (Term-F.Bracket at t) = refl
has-parts known (Term-F.Negative at t) = refl
has-parts known (Term-F.Chain at t ss) = refl
has-parts known (Term-F.Related at t r u) = refl
has-parts known (Term-F.Member at t s) = refl
has-parts known (Term-F.Equivalent at ts) = refl
has-parts known (Term-F.Implied at t u) = refl
has-parts known (Term-F.Or at ts) = refl
has-parts known (Term-F.And at ts) = refl
has-parts known (Term-F.Not at t) = refl
has-parts known (Term-F.Aggregate at op gs c t) = refl
has-parts known (Term-F.Call at op t) = refl
has-parts known (Term-F.AllDifferent at t) = refl
has-parts known (Term-F.Question at op t) = refl
has-parts known (Term-F.Element at t ts) = refl
has-parts known (Term-F.Fields at t fs) = refl
has-parts known (Term-F.Record at ts) = refl
has-parts known (Term-F.Listed at ts) = refl
has-parts known (Term-F.Described at t gs c) = refl
has-parts known (Term-F.Array at ts) = refl
has-parts known (Term-F.KeyedArray at ts us) = refl

pub written-at : (known : Known) (t : Term) → (written known t).at ≡ first_token t
unfolding first_token
written-at known t = at_of known t (out-Term t) (roll-out-Term t) ∙ at-parts known (out-Term t)

pub written-has_cells : (known : Known) (t : Term) → (written known t).has_cells ≡ has_cells t
unfolding has_cells
written-has_cells known t = has_of known t (out-Term t) (roll-out-Term t) ∙ has-parts known (out-Term t)

-- ---- values

pub fit-Number : (known : Known) (at : ℕ) (n : ℤ) (form : Form) (env : Environment) → (written known (terms.Number at n)).fit form env ≡ whole known (first_token (terms.Number at n)) (meaning (terms.Number at n)) form env
fit-Number known at n form env = fit_of known (terms.Number at n) (Term-F.Number at n) form env (terms.rolls-Number at n) ∙ ap (λ k. whole known k (meaning (terms.Number at n)) form env) (sym (first_token-Number at n))

pub fit-Named : (known : Known) (at : ℕ) (name : List ℕ) (form : Form) (env : Environment) → (written known (terms.Named at name)).fit form env ≡ whole known (first_token (terms.Named at name)) (meaning (terms.Named at name)) form env
fit-Named known at name form env = fit_of known (terms.Named at name) (Term-F.Named at name) form env (terms.rolls-Named at name) ∙ ap (λ k. whole known k (meaning (terms.Named at name)) form env) (sym (first_token-Named at name))

pub fit-Bracket : (known : Known) (at : ℕ) (t : Term) (form : Form) (env : Environment) → (written known (terms.Bracket at t)).fit form env ≡ whole known (first_token (terms.Bracket at t)) (meaning (terms.Bracket at t)) form env
fit-Bracket known at t form env = fit_of known (terms.Bracket at t) (Term-F.Bracket at t) form env (terms.rolls-Bracket at t) ∙ ap (λ k. whole known k (meaning (terms.Bracket at t)) form env) (sym (first_token-Bracket at t))

pub fit-Negative : (known : Known) (at : ℕ) (t : Term) (form : Form) (env : Environment) → (written known (terms.Negative at t)).fit form env ≡ whole known (first_token (terms.Negative at t)) (meaning (terms.Negative at t)) form env
fit-Negative known at t form env = fit_of known (terms.Negative at t) (Term-F.Negative at t) form env (terms.rolls-Negative at t) ∙ ap (λ k. whole known k (meaning (terms.Negative at t)) form env) (sym (first_token-Negative at t))

pub fit-Chain : (known : Known) (at : ℕ) (t : Term) (ss : List Step) (form : Form) (env : Environment) → (written known (terms.Chain at t ss)).fit form env ≡ whole known (first_token (terms.Chain at t ss)) (meaning (terms.Chain at t ss)) form env
fit-Chain known at t ss form env = fit_of known (terms.Chain at t ss) (Term-F.Chain at t ss) form env (terms.rolls-Chain at t ss) ∙ ap (λ k. whole known k (meaning (terms.Chain at t ss)) form env) (sym (first_token-Chain at t ss))

pub fit-Related : (known : Known) (at : ℕ) (t : Term) (r : Relation) (u : Term) (form : Form) (env : Environment) → (written known (terms.Related at t r u)).fit form env ≡ whole known (first_token (terms.Related at t r u)) (meaning (terms.Related at t r u)) form env
fit-Related known at t r u form env = fit_of known (terms.Related at t r u) (Term-F.Related at t r u) form env (terms.rolls-Related at t r u) ∙ ap (λ k. whole known k (meaning (terms.Related at t r u)) form env) (sym (first_token-Related at t r u))

pub fit-Member : (known : Known) (at : ℕ) (t : Term) (s : SetTerm) (form : Form) (env : Environment) → (written known (terms.Member at t s)).fit form env ≡ whole known (first_token (terms.Member at t s)) (meaning (terms.Member at t s)) form env
fit-Member known at t s form env = fit_of known (terms.Member at t s) (Term-F.Member at t s) form env (terms.rolls-Member at t s) ∙ ap (λ k. whole known k (meaning (terms.Member at t s)) form env) (sym (first_token-Member at t s))

pub fit-Equivalent : (known : Known) (at : ℕ) (ts : List Term) (form : Form) (env : Environment) → (written known (terms.Equivalent at ts)).fit form env ≡ whole known (first_token (terms.Equivalent at ts)) (meaning (terms.Equivalent at ts)) form env
fit-Equivalent known at ts form env = fit_of known (terms.Equivalent at ts) (Term-F.Equivalent at ts) form env (terms.rolls-Equivalent at ts) ∙ ap (λ k. whole known k (meaning (terms.Equivalent at ts)) form env) (sym (first_token-Equivalent at ts))

pub fit-Implied : (known : Known) (at : ℕ) (t : Term) (u : Term) (form : Form) (env : Environment) → (written known (terms.Implied at t u)).fit form env ≡ whole known (first_token (terms.Implied at t u)) (meaning (terms.Implied at t u)) form env
fit-Implied known at t u form env = fit_of known (terms.Implied at t u) (Term-F.Implied at t u) form env (terms.rolls-Implied at t u) ∙ ap (λ k. whole known k (meaning (terms.Implied at t u)) form env) (sym (first_token-Implied at t u))

pub fit-Or : (known : Known) (at : ℕ) (ts : List Term) (form : Form) (env : Environment) → (written known (terms.Or at ts)).fit form env ≡ whole known (first_token (terms.Or at ts)) (meaning (terms.Or at ts)) form env
fit-Or known at ts form env = fit_of known (terms.Or at ts) (Term-F.Or at ts) form env (terms.rolls-Or at ts) ∙ ap (λ k. whole known k (meaning (terms.Or at ts)) form env) (sym (first_token-Or at ts))

pub fit-And : (known : Known) (at : ℕ) (ts : List Term) (form : Form) (env : Environment) → (written known (terms.And at ts)).fit form env ≡ whole known (first_token (terms.And at ts)) (meaning (terms.And at ts)) form env
fit-And known at ts form env = fit_of known (terms.And at ts) (Term-F.And at ts) form env (terms.rolls-And at ts) ∙ ap (λ k. whole known k (meaning (terms.And at ts)) form env) (sym (first_token-And at ts))

pub fit-Not : (known : Known) (at : ℕ) (t : Term) (form : Form) (env : Environment) → (written known (terms.Not at t)).fit form env ≡ whole known (first_token (terms.Not at t)) (meaning (terms.Not at t)) form env
fit-Not known at t form env = fit_of known (terms.Not at t) (Term-F.Not at t) form env (terms.rolls-Not at t) ∙ ap (λ k. whole known k (meaning (terms.Not at t)) form env) (sym (first_token-Not at t))

pub fit-Aggregate : (known : Known) (at : ℕ) (op : AggregateOp) (gs : List GroupTerm) (c : Option Term) (t : Term) (form : Form) (env : Environment) → (written known (terms.Aggregate at op gs c t)).fit form env ≡ whole known (first_token (terms.Aggregate at op gs c t)) (meaning (terms.Aggregate at op gs c t)) form env
fit-Aggregate known at op gs c t form env = fit_of known (terms.Aggregate at op gs c t) (Term-F.Aggregate at op gs c t) form env (terms.rolls-Aggregate at op gs c t) ∙ ap (λ k. whole known k (meaning (terms.Aggregate at op gs c t)) form env) (sym (first_token-Aggregate at op gs c t))

pub fit-Call : (known : Known) (at : ℕ) (op : CallOp) (t : Term) (form : Form) (env : Environment) → (written known (terms.Call at op t)).fit form env ≡ whole known (first_token (terms.Call at op t)) (meaning (terms.Call at op t)) form env
fit-Call known at op t form env = fit_of known (terms.Call at op t) (Term-F.Call at op t) form env (terms.rolls-Call at op t) ∙ ap (λ k. whole known k (meaning (terms.Call at op t)) form env) (sym (first_token-Call at op t))

pub fit-AllDifferent : (known : Known) (at : ℕ) (t : Term) (form : Form) (env : Environment) → (written known (terms.AllDifferent at t)).fit form env ≡ whole known (first_token (terms.AllDifferent at t)) (meaning (terms.AllDifferent at t)) form env
fit-AllDifferent known at t form env = fit_of known (terms.AllDifferent at t) (Term-F.AllDifferent at t) form env (terms.rolls-AllDifferent at t) ∙ ap (λ k. whole known k (meaning (terms.AllDifferent at t)) form env) (sym (first_token-AllDifferent at t))

pub fit-Question : (known : Known) (at : ℕ) (op : QuestionOp) (t : Term) (form : Form) (env : Environment) → (written known (terms.Question at op t)).fit form env ≡ whole known (first_token (terms.Question at op t)) (meaning (terms.Question at op t)) form env
fit-Question known at op t form env = fit_of known (terms.Question at op t) (Term-F.Question at op t) form env (terms.rolls-Question at op t) ∙ ap (λ k. whole known k (meaning (terms.Question at op t)) form env) (sym (first_token-Question at op t))

pub fit-Element : (known : Known) (at : ℕ) (t : Term) (ts : List Term) (form : Form) (env : Environment) → (written known (terms.Element at t ts)).fit form env ≡ whole known (first_token (terms.Element at t ts)) (meaning (terms.Element at t ts)) form env
fit-Element known at t ts form env = fit_of known (terms.Element at t ts) (Term-F.Element at t ts) form env (terms.rolls-Element at t ts) ∙ ap (λ k. whole known k (meaning (terms.Element at t ts)) form env) (sym (first_token-Element at t ts))

pub fit-Fields : (known : Known) (at : ℕ) (t : Term) (fs : List FieldName) (form : Form) (env : Environment) → (written known (terms.Fields at t fs)).fit form env ≡ whole known (first_token (terms.Fields at t fs)) (meaning (terms.Fields at t fs)) form env
fit-Fields known at t fs form env = fit_of known (terms.Fields at t fs) (Term-F.Fields at t fs) form env (terms.rolls-Fields at t fs) ∙ ap (λ k. whole known k (meaning (terms.Fields at t fs)) form env) (sym (first_token-Fields at t fs))

pub fit-Record : (known : Known) (at : ℕ) (ts : List Term) (form : Form) (env : Environment) → (written known (terms.Record at ts)).fit form env ≡ record_parts known (first_token (terms.Record at ts)) (meaning (terms.Record at ts)) (map (written known) ts) (parts_of known form) form env
fit-Record known at ts form env = fit_of known (terms.Record at ts) (Term-F.Record at ts) form env (terms.rolls-Record at ts) ∙ ap (λ k. record_parts known k (meaning (terms.Record at ts)) (map (written known) ts) (parts_of known form) form env) (sym (first_token-Record at ts))

pub fit-Listed : (known : Known) (at : ℕ) (ts : List Term) (form : Form) (env : Environment) → (written known (terms.Listed at ts)).fit form env ≡ set_parts known (first_token (terms.Listed at ts)) (meaning (terms.Listed at ts)) (map (written known) ts) (element_of form) form env
fit-Listed known at ts form env = fit_of known (terms.Listed at ts) (Term-F.Listed at ts) form env (terms.rolls-Listed at ts) ∙ ap (λ k. set_parts known k (meaning (terms.Listed at ts)) (map (written known) ts) (element_of form) form env) (sym (first_token-Listed at ts))

pub fit-Described : (known : Known) (at : ℕ) (t : Term) (gs : List GroupTerm) (c : Option Term) (form : Form) (env : Environment) → (written known (terms.Described at t gs c)).fit form env ≡ whole known (first_token (terms.Described at t gs c)) (meaning (terms.Described at t gs c)) form env
fit-Described known at t gs c form env = fit_of known (terms.Described at t gs c) (Term-F.Described at t gs c) form env (terms.rolls-Described at t gs c) ∙ ap (λ k. whole known k (meaning (terms.Described at t gs c)) form env) (sym (first_token-Described at t gs c))

pub fit-Array : (known : Known) (at : ℕ) (ts : List Term) (form : Form) (env : Environment) → (written known (terms.Array at ts)).fit form env ≡ whole known (first_token (terms.Array at ts)) (meaning (terms.Array at ts)) form env
fit-Array known at ts form env = fit_of known (terms.Array at ts) (Term-F.Array at ts) form env (terms.rolls-Array at ts) ∙ ap (λ k. whole known k (meaning (terms.Array at ts)) form env) (sym (first_token-Array at ts))

pub fit-KeyedArray : (known : Known) (at : ℕ) (ts : List Term) (us : List Term) (form : Form) (env : Environment) → (written known (terms.KeyedArray at ts us)).fit form env ≡ whole known (first_token (terms.KeyedArray at ts us)) (meaning (terms.KeyedArray at ts us)) form env
fit-KeyedArray known at ts us form env = fit_of known (terms.KeyedArray at ts us) (Term-F.KeyedArray at ts us) form env (terms.rolls-KeyedArray at ts us) ∙ ap (λ k. whole known k (meaning (terms.KeyedArray at ts us)) form env) (sym (first_token-KeyedArray at ts us))

-- ---- cells

none-parts : (known : Known) (t : Term) (x : Term-F GroupTerm SetTerm Step Term) (wrong : BindFault) (env : Environment) → cells_layer (written known t).fit (in_term known x) wrong [] env ≡ Ok ((written known t).fit ∷ [])
none-parts known t x wrong env = refl

pub cells-none : (known : Known) (t : Term) (wrong : BindFault) (env : Environment) → (written known t).cells wrong [] env ≡ Ok ((written known t).fit ∷ [])
cells-none known t wrong env = cells_of known t (out-Term t) wrong [] env (roll-out-Term t) ∙ none-parts known t (out-Term t) wrong env

pub cells-Number : (known : Known) (at : ℕ) (n : ℤ) (wrong : BindFault) (axis : Axis) (axes : List Axis) (env : Environment) → (written known (terms.Number at n)).cells wrong (axis ∷ axes) env ≡ Err wrong
cells-Number known at n wrong axis axes env = cells_of known (terms.Number at n) (Term-F.Number at n) wrong (axis ∷ axes) env (terms.rolls-Number at n)

pub cells-Named : (known : Known) (at : ℕ) (name : List ℕ) (wrong : BindFault) (axis : Axis) (axes : List Axis) (env : Environment) → (written known (terms.Named at name)).cells wrong (axis ∷ axes) env ≡ Err wrong
cells-Named known at name wrong axis axes env = cells_of known (terms.Named at name) (Term-F.Named at name) wrong (axis ∷ axes) env (terms.rolls-Named at name)

pub cells-Bracket : (known : Known) (at : ℕ) (t : Term) (wrong : BindFault) (axis : Axis) (axes : List Axis) (env : Environment) → (written known (terms.Bracket at t)).cells wrong (axis ∷ axes) env ≡ Err wrong
cells-Bracket known at t wrong axis axes env = cells_of known (terms.Bracket at t) (Term-F.Bracket at t) wrong (axis ∷ axes) env (terms.rolls-Bracket at t)

pub cells-Negative : (known : Known) (at : ℕ) (t : Term) (wrong : BindFault) (axis : Axis) (axes : List Axis) (env : Environment) → (written known (terms.Negative at t)).cells wrong (axis ∷ axes) env ≡ Err wrong
cells-Negative known at t wrong axis axes env = cells_of known (terms.Negative at t) (Term-F.Negative at t) wrong (axis ∷ axes) env (terms.rolls-Negative at t)

pub cells-Chain : (known : Known) (at : ℕ) (t : Term) (ss : List Step) (wrong : BindFault) (axis : Axis) (axes : List Axis) (env : Environment) → (written known (terms.Chain at t ss)).cells wrong (axis ∷ axes) env ≡ Err wrong
cells-Chain known at t ss wrong axis axes env = cells_of known (terms.Chain at t ss) (Term-F.Chain at t ss) wrong (axis ∷ axes) env (terms.rolls-Chain at t ss)

pub cells-Related : (known : Known) (at : ℕ) (t : Term) (r : Relation) (u : Term) (wrong : BindFault) (axis : Axis) (axes : List Axis) (env : Environment) → (written known (terms.Related at t r u)).cells wrong (axis ∷ axes) env ≡ Err wrong
cells-Related known at t r u wrong axis axes env = cells_of known (terms.Related at t r u) (Term-F.Related at t r u) wrong (axis ∷ axes) env (terms.rolls-Related at t r u)

pub cells-Member : (known : Known) (at : ℕ) (t : Term) (s : SetTerm) (wrong : BindFault) (axis : Axis) (axes : List Axis) (env : Environment) → (written known (terms.Member at t s)).cells wrong (axis ∷ axes) env ≡ Err wrong
cells-Member known at t s wrong axis axes env = cells_of known (terms.Member at t s) (Term-F.Member at t s) wrong (axis ∷ axes) env (terms.rolls-Member at t s)

pub cells-Equivalent : (known : Known) (at : ℕ) (ts : List Term) (wrong : BindFault) (axis : Axis) (axes : List Axis) (env : Environment) → (written known (terms.Equivalent at ts)).cells wrong (axis ∷ axes) env ≡ Err wrong
cells-Equivalent known at ts wrong axis axes env = cells_of known (terms.Equivalent at ts) (Term-F.Equivalent at ts) wrong (axis ∷ axes) env (terms.rolls-Equivalent at ts)

pub cells-Implied : (known : Known) (at : ℕ) (t : Term) (u : Term) (wrong : BindFault) (axis : Axis) (axes : List Axis) (env : Environment) → (written known (terms.Implied at t u)).cells wrong (axis ∷ axes) env ≡ Err wrong
cells-Implied known at t u wrong axis axes env = cells_of known (terms.Implied at t u) (Term-F.Implied at t u) wrong (axis ∷ axes) env (terms.rolls-Implied at t u)

pub cells-Or : (known : Known) (at : ℕ) (ts : List Term) (wrong : BindFault) (axis : Axis) (axes : List Axis) (env : Environment) → (written known (terms.Or at ts)).cells wrong (axis ∷ axes) env ≡ Err wrong
cells-Or known at ts wrong axis axes env = cells_of known (terms.Or at ts) (Term-F.Or at ts) wrong (axis ∷ axes) env (terms.rolls-Or at ts)

pub cells-And : (known : Known) (at : ℕ) (ts : List Term) (wrong : BindFault) (axis : Axis) (axes : List Axis) (env : Environment) → (written known (terms.And at ts)).cells wrong (axis ∷ axes) env ≡ Err wrong
cells-And known at ts wrong axis axes env = cells_of known (terms.And at ts) (Term-F.And at ts) wrong (axis ∷ axes) env (terms.rolls-And at ts)

pub cells-Not : (known : Known) (at : ℕ) (t : Term) (wrong : BindFault) (axis : Axis) (axes : List Axis) (env : Environment) → (written known (terms.Not at t)).cells wrong (axis ∷ axes) env ≡ Err wrong
cells-Not known at t wrong axis axes env = cells_of known (terms.Not at t) (Term-F.Not at t) wrong (axis ∷ axes) env (terms.rolls-Not at t)

pub cells-Aggregate : (known : Known) (at : ℕ) (op : AggregateOp) (gs : List GroupTerm) (c : Option Term) (t : Term) (wrong : BindFault) (axis : Axis) (axes : List Axis) (env : Environment) → (written known (terms.Aggregate at op gs c t)).cells wrong (axis ∷ axes) env ≡ Err wrong
cells-Aggregate known at op gs c t wrong axis axes env = cells_of known (terms.Aggregate at op gs c t) (Term-F.Aggregate at op gs c t) wrong (axis ∷ axes) env (terms.rolls-Aggregate at op gs c t)

pub cells-Call : (known : Known) (at : ℕ) (op : CallOp) (t : Term) (wrong : BindFault) (axis : Axis) (axes : List Axis) (env : Environment) → (written known (terms.Call at op t)).cells wrong (axis ∷ axes) env ≡ Err wrong
cells-Call known at op t wrong axis axes env = cells_of known (terms.Call at op t) (Term-F.Call at op t) wrong (axis ∷ axes) env (terms.rolls-Call at op t)

pub cells-AllDifferent : (known : Known) (at : ℕ) (t : Term) (wrong : BindFault) (axis : Axis) (axes : List Axis) (env : Environment) → (written known (terms.AllDifferent at t)).cells wrong (axis ∷ axes) env ≡ Err wrong
cells-AllDifferent known at t wrong axis axes env = cells_of known (terms.AllDifferent at t) (Term-F.AllDifferent at t) wrong (axis ∷ axes) env (terms.rolls-AllDifferent at t)

pub cells-Question : (known : Known) (at : ℕ) (op : QuestionOp) (t : Term) (wrong : BindFault) (axis : Axis) (axes : List Axis) (env : Environment) → (written known (terms.Question at op t)).cells wrong (axis ∷ axes) env ≡ Err wrong
cells-Question known at op t wrong axis axes env = cells_of known (terms.Question at op t) (Term-F.Question at op t) wrong (axis ∷ axes) env (terms.rolls-Question at op t)

pub cells-Element : (known : Known) (at : ℕ) (t : Term) (ts : List Term) (wrong : BindFault) (axis : Axis) (axes : List Axis) (env : Environment) → (written known (terms.Element at t ts)).cells wrong (axis ∷ axes) env ≡ Err wrong
cells-Element known at t ts wrong axis axes env = cells_of known (terms.Element at t ts) (Term-F.Element at t ts) wrong (axis ∷ axes) env (terms.rolls-Element at t ts)

pub cells-Fields : (known : Known) (at : ℕ) (t : Term) (fs : List FieldName) (wrong : BindFault) (axis : Axis) (axes : List Axis) (env : Environment) → (written known (terms.Fields at t fs)).cells wrong (axis ∷ axes) env ≡ Err wrong
cells-Fields known at t fs wrong axis axes env = cells_of known (terms.Fields at t fs) (Term-F.Fields at t fs) wrong (axis ∷ axes) env (terms.rolls-Fields at t fs)

pub cells-Record : (known : Known) (at : ℕ) (ts : List Term) (wrong : BindFault) (axis : Axis) (axes : List Axis) (env : Environment) → (written known (terms.Record at ts)).cells wrong (axis ∷ axes) env ≡ Err wrong
cells-Record known at ts wrong axis axes env = cells_of known (terms.Record at ts) (Term-F.Record at ts) wrong (axis ∷ axes) env (terms.rolls-Record at ts)

pub cells-Listed : (known : Known) (at : ℕ) (ts : List Term) (wrong : BindFault) (axis : Axis) (axes : List Axis) (env : Environment) → (written known (terms.Listed at ts)).cells wrong (axis ∷ axes) env ≡ Err wrong
cells-Listed known at ts wrong axis axes env = cells_of known (terms.Listed at ts) (Term-F.Listed at ts) wrong (axis ∷ axes) env (terms.rolls-Listed at ts)

pub cells-Described : (known : Known) (at : ℕ) (t : Term) (gs : List GroupTerm) (c : Option Term) (wrong : BindFault) (axis : Axis) (axes : List Axis) (env : Environment) → (written known (terms.Described at t gs c)).cells wrong (axis ∷ axes) env ≡ Err wrong
cells-Described known at t gs c wrong axis axes env = cells_of known (terms.Described at t gs c) (Term-F.Described at t gs c) wrong (axis ∷ axes) env (terms.rolls-Described at t gs c)

pub cells-Array : (known : Known) (at : ℕ) (ts : List Term) (wrong : BindFault) (axis : Axis) (axes : List Axis) (env : Environment) → (written known (terms.Array at ts)).cells wrong (axis ∷ axes) env ≡ provided (nat_eq (length ts) (length (values_of axis))) wrong (opened wrong axes env [] (map (written known) ts))
cells-Array known at ts wrong axis axes env = cells_of known (terms.Array at ts) (Term-F.Array at ts) wrong (axis ∷ axes) env (terms.rolls-Array at ts)
    ∙ ap (λ n. provided (nat_eq n (length (values_of axis))) wrong (opened wrong axes env [] (map (written known) ts))) (length-map ts (written known))

pub cells-KeyedArray : (known : Known) (at : ℕ) (ts : List Term) (us : List Term) (wrong : BindFault) (axis : Axis) (axes : List Axis) (env : Environment) → (written known (terms.KeyedArray at ts us)).cells wrong (axis ∷ axes) env ≡ provided (nat_eq (length ts) (length (values_of axis))) wrong (then (laid wrong axis axes env (free_slots (map (written known) ts)) (map (written known) ts) (map (written known) us)) (gathered wrong []))
cells-KeyedArray known at ts us wrong axis axes env = cells_of known (terms.KeyedArray at ts us) (Term-F.KeyedArray at ts us) wrong (axis ∷ axes) env (terms.rolls-KeyedArray at ts us)
    ∙ ap (λ n. provided (nat_eq n (length (values_of axis))) wrong (then (laid wrong axis axes env (free_slots (map (written known) ts)) (map (written known) ts) (map (written known) us)) (gathered wrong []))) (length-map ts (written known))

-- the places of first tokens
pub ruleset first_tokens = (first_token-Number, first_token-Named, first_token-Bracket, first_token-Negative, first_token-Chain, first_token-Related, first_token-Member, first_token-Equivalent, first_token-Implied, first_token-Or, first_token-And, first_token-Not, first_token-Aggregate, first_token-Call, first_token-AllDifferent, first_token-Question, first_token-Element, first_token-Fields, first_token-Record, first_token-Listed, first_token-Described, first_token-Array, first_token-KeyedArray)

-- which expressions have cells
pub ruleset cells_had = (has_cells-Number, has_cells-Named, has_cells-Bracket, has_cells-Negative, has_cells-Chain, has_cells-Related, has_cells-Member, has_cells-Equivalent, has_cells-Implied, has_cells-Or, has_cells-And, has_cells-Not, has_cells-Aggregate, has_cells-Call, has_cells-AllDifferent, has_cells-Question, has_cells-Element, has_cells-Fields, has_cells-Record, has_cells-Listed, has_cells-Described, has_cells-Array, has_cells-KeyedArray)

-- what expressions are as values, and how much there is to them
pub ruleset fits = (fit-Record, fit-Listed, weight-Record, weight-Listed)

pub ruleset weights_of_parts = (weight-at)

-- what expressions are as arrays
pub ruleset cells_written = (cells-none, cells-Array, cells-KeyedArray)

-- an expression of any other form than `[..]` and `#[..]#` is no array
pub ruleset no_cells = (cells-Number, cells-Named, cells-Bracket, cells-Negative, cells-Chain, cells-Related, cells-Member, cells-Equivalent, cells-Implied, cells-Or, cells-And, cells-Not, cells-Aggregate, cells-Call, cells-AllDifferent, cells-Question, cells-Element, cells-Fields, cells-Record, cells-Listed, cells-Described)

-- an expression of any other form than a record or a set that is written out is taken as a whole; the forms are those of three arms
abbrev IsWhole1 : Term → Type 0
IsWhole1 e = ((at : ℕ) × (n : ℤ) × (e ≡ terms.Number at n)) ⊎ (((at : ℕ) × (name : List ℕ) × (e ≡ terms.Named at name)) ⊎ (((at : ℕ) × (t : Term) × (e ≡ terms.Bracket at t)) ⊎ (((at : ℕ) × (t : Term) × (e ≡ terms.Negative at t)) ⊎ (((at : ℕ) × (t : Term) × (ss : List Step) × (e ≡ terms.Chain at t ss)) ⊎ (((at : ℕ) × (t : Term) × (r : Relation) × (u : Term) × (e ≡ terms.Related at t r u)) ⊎ ((at : ℕ) × (t : Term) × (s : SetTerm) × (e ≡ terms.Member at t s)))))))

abbrev IsWhole2 : Term → Type 0
IsWhole2 e = ((at : ℕ) × (ts : List Term) × (e ≡ terms.Equivalent at ts)) ⊎ (((at : ℕ) × (t : Term) × (u : Term) × (e ≡ terms.Implied at t u)) ⊎ (((at : ℕ) × (ts : List Term) × (e ≡ terms.Or at ts)) ⊎ (((at : ℕ) × (ts : List Term) × (e ≡ terms.And at ts)) ⊎ (((at : ℕ) × (t : Term) × (e ≡ terms.Not at t)) ⊎ (((at : ℕ) × (op : AggregateOp) × (gs : List GroupTerm) × (c : Option Term) × (t : Term) × (e ≡ terms.Aggregate at op gs c t)) ⊎ ((at : ℕ) × (op : CallOp) × (t : Term) × (e ≡ terms.Call at op t)))))))

abbrev IsWhole3 : Term → Type 0
IsWhole3 e = ((at : ℕ) × (t : Term) × (e ≡ terms.AllDifferent at t)) ⊎ (((at : ℕ) × (op : QuestionOp) × (t : Term) × (e ≡ terms.Question at op t)) ⊎ (((at : ℕ) × (t : Term) × (ts : List Term) × (e ≡ terms.Element at t ts)) ⊎ (((at : ℕ) × (t : Term) × (fs : List FieldName) × (e ≡ terms.Fields at t fs)) ⊎ (((at : ℕ) × (t : Term) × (gs : List GroupTerm) × (c : Option Term) × (e ≡ terms.Described at t gs c)) ⊎ (((at : ℕ) × (ts : List Term) × (e ≡ terms.Array at ts)) ⊎ (((at : ℕ) × (ts : List Term) × (us : List Term) × (e ≡ terms.KeyedArray at ts us))))))))

moved : (known : Known) (t u : Term) (form : Form) (env : Environment) → t ≡ u → (written known u).fit form env ≡ whole known (first_token u) (meaning u) form env → (written known t).fit form env ≡ whole known (first_token t) (meaning t) form env
moved known t u form env e h = subst (λ v. (written known v).fit form env ≡ whole known (first_token v) (meaning v) form env) (sym e) h

pub fit-whole-1 : (known : Known) (t : Term) (form : Form) (env : Environment) → IsWhole1 t → (written known t).fit form env ≡ whole known (first_token t) (meaning t) form env
fit-whole-1 known t form env (inl h) = moved known t (terms.Number h.0 h.1) form env h.2 (fit-Number known h.0 h.1 form env)
fit-whole-1 known t form env (inr (inl h)) = moved known t (terms.Named h.0 h.1) form env h.2 (fit-Named known h.0 h.1 form env)
fit-whole-1 known t form env (inr (inr (inl h))) = moved known t (terms.Bracket h.0 h.1) form env h.2 (fit-Bracket known h.0 h.1 form env)
fit-whole-1 known t form env (inr (inr (inr (inl h)))) = moved known t (terms.Negative h.0 h.1) form env h.2 (fit-Negative known h.0 h.1 form env)
fit-whole-1 known t form env (inr (inr (inr (inr (inl h))))) = moved known t (terms.Chain h.0 h.1 h.2) form env h.3 (fit-Chain known h.0 h.1 h.2 form env)
fit-whole-1 known t form env (inr (inr (inr (inr (inr (inl h)))))) = moved known t (terms.Related h.0 h.1 h.2 h.3) form env h.4 (fit-Related known h.0 h.1 h.2 h.3 form env)
fit-whole-1 known t form env (inr (inr (inr (inr (inr (inr h)))))) = moved known t (terms.Member h.0 h.1 h.2) form env h.3 (fit-Member known h.0 h.1 h.2 form env)

pub fit-whole-2 : (known : Known) (t : Term) (form : Form) (env : Environment) → IsWhole2 t → (written known t).fit form env ≡ whole known (first_token t) (meaning t) form env
fit-whole-2 known t form env (inl h) = moved known t (terms.Equivalent h.0 h.1) form env h.2 (fit-Equivalent known h.0 h.1 form env)
fit-whole-2 known t form env (inr (inl h)) = moved known t (terms.Implied h.0 h.1 h.2) form env h.3 (fit-Implied known h.0 h.1 h.2 form env)
fit-whole-2 known t form env (inr (inr (inl h))) = moved known t (terms.Or h.0 h.1) form env h.2 (fit-Or known h.0 h.1 form env)
fit-whole-2 known t form env (inr (inr (inr (inl h)))) = moved known t (terms.And h.0 h.1) form env h.2 (fit-And known h.0 h.1 form env)
fit-whole-2 known t form env (inr (inr (inr (inr (inl h))))) = moved known t (terms.Not h.0 h.1) form env h.2 (fit-Not known h.0 h.1 form env)
fit-whole-2 known t form env (inr (inr (inr (inr (inr (inl h)))))) = moved known t (terms.Aggregate h.0 h.1 h.2 h.3 h.4) form env h.5 (fit-Aggregate known h.0 h.1 h.2 h.3 h.4 form env)
fit-whole-2 known t form env (inr (inr (inr (inr (inr (inr h)))))) = moved known t (terms.Call h.0 h.1 h.2) form env h.3 (fit-Call known h.0 h.1 h.2 form env)

pub fit-whole-3 : (known : Known) (t : Term) (form : Form) (env : Environment) → IsWhole3 t → (written known t).fit form env ≡ whole known (first_token t) (meaning t) form env
fit-whole-3 known t form env (inl h) = moved known t (terms.AllDifferent h.0 h.1) form env h.2 (fit-AllDifferent known h.0 h.1 form env)
fit-whole-3 known t form env (inr (inl h)) = moved known t (terms.Question h.0 h.1 h.2) form env h.3 (fit-Question known h.0 h.1 h.2 form env)
fit-whole-3 known t form env (inr (inr (inl h))) = moved known t (terms.Element h.0 h.1 h.2) form env h.3 (fit-Element known h.0 h.1 h.2 form env)
fit-whole-3 known t form env (inr (inr (inr (inl h)))) = moved known t (terms.Fields h.0 h.1 h.2) form env h.3 (fit-Fields known h.0 h.1 h.2 form env)
fit-whole-3 known t form env (inr (inr (inr (inr (inl h))))) = moved known t (terms.Described h.0 h.1 h.2 h.3) form env h.4 (fit-Described known h.0 h.1 h.2 h.3 form env)
fit-whole-3 known t form env (inr (inr (inr (inr (inr (inl h)))))) = moved known t (terms.Array h.0 h.1) form env h.2 (fit-Array known h.0 h.1 form env)
fit-whole-3 known t form env (inr (inr (inr (inr (inr (inr h)))))) = moved known t (terms.KeyedArray h.0 h.1 h.2) form env h.3 (fit-KeyedArray known h.0 h.1 h.2 form env)

pub ruleset written_with_cells = (written-has_cells)
