-- The walk over each form of terms, by the walks over its parts.
use Rattle.std.proofs.Common.{◌≡◌, ℕ, ℤ, List, [], ◌∷◌, ◌++◌, map, reverse, Option, None, Some, sym, ap, ◌∙◌}
use Rattle.std.specs.Option.{option_map}
use Rattle.std.proofs.lemmas.List.{reverse-append}
use Rattle.opl_tree.specs.declared.declaration.DeclTree.{DeclTree}
use Rattle.opl_tree.specs.declared.expression.AggregateOp.{AggregateOp}
use Rattle.opl_tree.specs.declared.expression.CallOp.{CallOp}
use Rattle.opl_tree.specs.declared.expression.QuestionOp.{QuestionOp}
use Rattle.opl_tree.specs.declared.expression.Relation.{Relation}
use Rattle.opl_term.specs.declared.term.FieldName.{FieldName}
use Rattle.opl_term.specs.declared.term.GroupTerm.{GroupTerm}
use Rattle.opl_term.specs.declared.term.GroupTerm.TheVariants as groups_of
use Rattle.opl_term.specs.declared.term.GroupTerm.TheOpen.{GroupTerm-F, SetTerm-F, Step-F, Term-F}
use Rattle.opl_term.specs.declared.term.GroupTerm.TheFolds.{fold-roll-GroupTerm, fold-roll-SetTerm, fold-roll-Step, fold-roll-Term, map-GroupTerm, map-SetTerm, map-Step, map-Term}
use Rattle.opl_term.specs.declared.term.GroupTerm.TheViews.{roll-GroupTerm, roll-SetTerm, roll-Step, roll-Term}
use Rattle.opl_term.specs.declared.term.Pattern.{Pattern}
use Rattle.opl_term.specs.declared.term.SetTerm.{SetTerm}
use Rattle.opl_term.specs.declared.term.SetTerm.TheVariants as sets_of
use Rattle.opl_term.specs.declared.term.Step.{Step}
use Rattle.opl_term.specs.declared.term.Step.TheVariants as steps_of
use Rattle.opl_term.specs.declared.term.Term.{Term}
use Rattle.opl_term.specs.declared.term.Term.TheVariants as terms
use Rattle.opl_term.specs.Terms.{with_fields}
use Rattle.opl_fields.specs.Walk.{State, Pass, along, one, next, later, each, if_written, in_turn, note, group_layer, set_layer, step_layer, term_layer, walk, walk_step, walk_set, walk_group}

walk-roll : (ds : List DeclTree) (x : Term-F GroupTerm SetTerm Step Term) → walk ds (roll-Term x) ≡ term_layer ds (map-Term GroupTerm SetTerm Step Term Pass Pass Pass Pass (walk_group ds) (walk_set ds) (walk_step ds) (walk ds) x)
unfolding walk walk_step walk_set walk_group
walk-roll ds x = fold-roll-Term Pass Pass Pass Pass group_layer set_layer step_layer (term_layer ds) x

walk-is : (ds : List DeclTree) (t : Term) (x : Term-F GroupTerm SetTerm Step Term) (s : State) → roll-Term x ≡ t → walk ds t s ≡ term_layer ds (map-Term GroupTerm SetTerm Step Term Pass Pass Pass Pass (walk_group ds) (walk_set ds) (walk_step ds) (walk ds) x) s
walk-is ds t x s e = ap (λ u. walk ds u s) (sym e) ∙ ap (λ f. f s) (walk-roll ds x)

walk_step-roll : (ds : List DeclTree) (x : Step-F GroupTerm SetTerm Step Term) → walk_step ds (roll-Step x) ≡ step_layer (map-Step GroupTerm SetTerm Step Term Pass Pass Pass Pass (walk_group ds) (walk_set ds) (walk_step ds) (walk ds) x)
unfolding walk walk_step walk_set walk_group
walk_step-roll ds x = fold-roll-Step Pass Pass Pass Pass group_layer set_layer step_layer (term_layer ds) x

walk_step-is : (ds : List DeclTree) (t : Step) (x : Step-F GroupTerm SetTerm Step Term) (s : State) → roll-Step x ≡ t → walk_step ds t s ≡ step_layer (map-Step GroupTerm SetTerm Step Term Pass Pass Pass Pass (walk_group ds) (walk_set ds) (walk_step ds) (walk ds) x) s
walk_step-is ds t x s e = ap (λ u. walk_step ds u s) (sym e) ∙ ap (λ f. f s) (walk_step-roll ds x)

walk_set-roll : (ds : List DeclTree) (x : SetTerm-F GroupTerm SetTerm Step Term) → walk_set ds (roll-SetTerm x) ≡ set_layer (map-SetTerm GroupTerm SetTerm Step Term Pass Pass Pass Pass (walk_group ds) (walk_set ds) (walk_step ds) (walk ds) x)
unfolding walk walk_step walk_set walk_group
walk_set-roll ds x = fold-roll-SetTerm Pass Pass Pass Pass group_layer set_layer step_layer (term_layer ds) x

walk_set-is : (ds : List DeclTree) (t : SetTerm) (x : SetTerm-F GroupTerm SetTerm Step Term) (s : State) → roll-SetTerm x ≡ t → walk_set ds t s ≡ set_layer (map-SetTerm GroupTerm SetTerm Step Term Pass Pass Pass Pass (walk_group ds) (walk_set ds) (walk_step ds) (walk ds) x) s
walk_set-is ds t x s e = ap (λ u. walk_set ds u s) (sym e) ∙ ap (λ f. f s) (walk_set-roll ds x)

walk_group-roll : (ds : List DeclTree) (x : GroupTerm-F GroupTerm SetTerm Step Term) → walk_group ds (roll-GroupTerm x) ≡ group_layer (map-GroupTerm GroupTerm SetTerm Step Term Pass Pass Pass Pass (walk_group ds) (walk_set ds) (walk_step ds) (walk ds) x)
unfolding walk walk_step walk_set walk_group
walk_group-roll ds x = fold-roll-GroupTerm Pass Pass Pass Pass group_layer set_layer step_layer (term_layer ds) x

walk_group-is : (ds : List DeclTree) (t : GroupTerm) (x : GroupTerm-F GroupTerm SetTerm Step Term) (s : State) → roll-GroupTerm x ≡ t → walk_group ds t s ≡ group_layer (map-GroupTerm GroupTerm SetTerm Step Term Pass Pass Pass Pass (walk_group ds) (walk_set ds) (walk_step ds) (walk ds) x) s
walk_group-is ds t x s e = ap (λ u. walk_group ds u s) (sym e) ∙ ap (λ f. f s) (walk_group-roll ds x)

pub walk-Number : (ds : List DeclTree) (at : ℕ) (n : ℤ) (s : State) → walk ds (terms.Number at n) s ≡ one s
walk-Number ds at n s = walk-is ds (terms.Number at n) (Term-F.Number at n) s (terms.rolls-Number at n)

pub walk-Named : (ds : List DeclTree) (at : ℕ) (name : List ℕ) (s : State) → walk ds (terms.Named at name) s ≡ one s
walk-Named ds at name s = walk-is ds (terms.Named at name) (Term-F.Named at name) s (terms.rolls-Named at name)

pub walk-Bracket : (ds : List DeclTree) (at : ℕ) (t : Term) (s : State) → walk ds (terms.Bracket at t) s ≡ walk ds t (one s)
walk-Bracket ds at t s = walk-is ds (terms.Bracket at t) (Term-F.Bracket at t) s (terms.rolls-Bracket at t)

pub walk-Negative : (ds : List DeclTree) (at : ℕ) (t : Term) (s : State) → walk ds (terms.Negative at t) s ≡ walk ds t (one s)
walk-Negative ds at t s = walk-is ds (terms.Negative at t) (Term-F.Negative at t) s (terms.rolls-Negative at t)

pub walk-Chain : (ds : List DeclTree) (at : ℕ) (t : Term) (ss : List Step) (s : State) → walk ds (terms.Chain at t ss) s ≡ each (map (walk_step ds) ss) (walk ds t (one s))
walk-Chain ds at t ss s = walk-is ds (terms.Chain at t ss) (Term-F.Chain at t ss) s (terms.rolls-Chain at t ss)

pub walk-Related : (ds : List DeclTree) (at : ℕ) (t : Term) (r : Relation) (u : Term) (s : State) → walk ds (terms.Related at t r u) s ≡ walk ds u (walk ds t (one s))
walk-Related ds at t r u s = walk-is ds (terms.Related at t r u) (Term-F.Related at t r u) s (terms.rolls-Related at t r u)

pub walk-Member : (ds : List DeclTree) (at : ℕ) (t : Term) (over : SetTerm) (s : State) → walk ds (terms.Member at t over) s ≡ walk_set ds over (walk ds t (one s))
walk-Member ds at t over s = walk-is ds (terms.Member at t over) (Term-F.Member at t over) s (terms.rolls-Member at t over)

pub walk-Equivalent : (ds : List DeclTree) (at : ℕ) (ts : List Term) (s : State) → walk ds (terms.Equivalent at ts) s ≡ each (map (walk ds) ts) (one s)
walk-Equivalent ds at ts s = walk-is ds (terms.Equivalent at ts) (Term-F.Equivalent at ts) s (terms.rolls-Equivalent at ts)

pub walk-Implied : (ds : List DeclTree) (at : ℕ) (t : Term) (u : Term) (s : State) → walk ds (terms.Implied at t u) s ≡ walk ds u (walk ds t (one s))
walk-Implied ds at t u s = walk-is ds (terms.Implied at t u) (Term-F.Implied at t u) s (terms.rolls-Implied at t u)

pub walk-Or : (ds : List DeclTree) (at : ℕ) (ts : List Term) (s : State) → walk ds (terms.Or at ts) s ≡ each (map (walk ds) ts) (one s)
walk-Or ds at ts s = walk-is ds (terms.Or at ts) (Term-F.Or at ts) s (terms.rolls-Or at ts)

pub walk-And : (ds : List DeclTree) (at : ℕ) (ts : List Term) (s : State) → walk ds (terms.And at ts) s ≡ each (map (walk ds) ts) (one s)
walk-And ds at ts s = walk-is ds (terms.And at ts) (Term-F.And at ts) s (terms.rolls-And at ts)

pub walk-Not : (ds : List DeclTree) (at : ℕ) (t : Term) (s : State) → walk ds (terms.Not at t) s ≡ walk ds t (one s)
walk-Not ds at t s = walk-is ds (terms.Not at t) (Term-F.Not at t) s (terms.rolls-Not at t)

pub walk-Aggregate : (ds : List DeclTree) (at : ℕ) (op : AggregateOp) (gs : List GroupTerm) (c : Option Term) (t : Term) (s : State) → walk ds (terms.Aggregate at op gs c t) s ≡ walk ds t (if_written (option_map (walk ds) c) (each (map (walk_group ds) gs) (one s)))
walk-Aggregate ds at op gs None t s = walk-is ds (terms.Aggregate at op gs None t) (Term-F.Aggregate at op gs None t) s (terms.rolls-Aggregate at op gs None t)
walk-Aggregate ds at op gs (Some c) t s = walk-is ds (terms.Aggregate at op gs (Some c) t) (Term-F.Aggregate at op gs (Some c) t) s (terms.rolls-Aggregate at op gs (Some c) t)

pub walk-Call : (ds : List DeclTree) (at : ℕ) (op : CallOp) (t : Term) (s : State) → walk ds (terms.Call at op t) s ≡ walk ds t (one s)
walk-Call ds at op t s = walk-is ds (terms.Call at op t) (Term-F.Call at op t) s (terms.rolls-Call at op t)

pub walk-AllDifferent : (ds : List DeclTree) (at : ℕ) (t : Term) (s : State) → walk ds (terms.AllDifferent at t) s ≡ walk ds t (one s)
walk-AllDifferent ds at t s = walk-is ds (terms.AllDifferent at t) (Term-F.AllDifferent at t) s (terms.rolls-AllDifferent at t)

pub walk-Question : (ds : List DeclTree) (at : ℕ) (op : QuestionOp) (t : Term) (s : State) → walk ds (terms.Question at op t) s ≡ walk ds t (one s)
walk-Question ds at op t s = walk-is ds (terms.Question at op t) (Term-F.Question at op t) s (terms.rolls-Question at op t)

pub walk-Element : (ds : List DeclTree) (at : ℕ) (t : Term) (ts : List Term) (s : State) → walk ds (terms.Element at t ts) s ≡ each (map (walk ds) ts) (walk ds t (one s))
walk-Element ds at t ts s = walk-is ds (terms.Element at t ts) (Term-F.Element at t ts) s (terms.rolls-Element at t ts)

pub walk-Fields : (ds : List DeclTree) (at : ℕ) (t : Term) (names : List FieldName) (s : State) → walk ds (terms.Fields at t names) s ≡ along ds (walk ds t) (reverse names) s
walk-Fields ds at t names s = walk-is ds (terms.Fields at t names) (Term-F.Fields at t names) s (terms.rolls-Fields at t names)

-- a chain of fields with one more
pub walk-further : (ds : List DeclTree) (at : ℕ) (t : Term) (names : List FieldName) (f : FieldName) (s : State) →
    walk ds (with_fields at t (names ++ f ∷ [])) s ≡ note ds f.at f.text (next (later s.records)) (walk ds (with_fields at t names) (one s))
walk-further ds at t [] f s = walk-Fields ds at t (f ∷ []) s
walk-further ds at t (n ∷ ns) f s =
    walk-Fields ds at t (n ∷ (ns ++ f ∷ [])) s
    ∙ ap (λ l. along ds (walk ds t) l s) (reverse-append (n ∷ ns) (f ∷ []))
    ∙ ap (note ds f.at f.text (next (later s.records))) (sym (walk-Fields ds at t (n ∷ ns) (one s)))

pub walk-Record : (ds : List DeclTree) (at : ℕ) (ts : List Term) (s : State) → walk ds (terms.Record at ts) s ≡ each (map (walk ds) ts) (one s)
walk-Record ds at ts s = walk-is ds (terms.Record at ts) (Term-F.Record at ts) s (terms.rolls-Record at ts)

pub walk-Listed : (ds : List DeclTree) (at : ℕ) (ts : List Term) (s : State) → walk ds (terms.Listed at ts) s ≡ each (map (walk ds) ts) (one s)
walk-Listed ds at ts s = walk-is ds (terms.Listed at ts) (Term-F.Listed at ts) s (terms.rolls-Listed at ts)

pub walk-Described : (ds : List DeclTree) (at : ℕ) (t : Term) (gs : List GroupTerm) (c : Option Term) (s : State) → walk ds (terms.Described at t gs c) s ≡ if_written (option_map (walk ds) c) (each (map (walk_group ds) gs) (walk ds t (one s)))
walk-Described ds at t gs None s = walk-is ds (terms.Described at t gs None) (Term-F.Described at t gs None) s (terms.rolls-Described at t gs None)
walk-Described ds at t gs (Some c) s = walk-is ds (terms.Described at t gs (Some c)) (Term-F.Described at t gs (Some c)) s (terms.rolls-Described at t gs (Some c))

pub walk-Array : (ds : List DeclTree) (at : ℕ) (ts : List Term) (s : State) → walk ds (terms.Array at ts) s ≡ each (map (walk ds) ts) (one s)
walk-Array ds at ts s = walk-is ds (terms.Array at ts) (Term-F.Array at ts) s (terms.rolls-Array at ts)

pub walk-KeyedArray : (ds : List DeclTree) (at : ℕ) (keys : List Term) (cells : List Term) (s : State) → walk ds (terms.KeyedArray at keys cells) s ≡ in_turn (map (walk ds) keys) (map (walk ds) cells) (one s)
walk-KeyedArray ds at keys cells s = walk-is ds (terms.KeyedArray at keys cells) (Term-F.KeyedArray at keys cells) s (terms.rolls-KeyedArray at keys cells)

pub walk_step-Plus : (ds : List DeclTree) (t : Term) (s : State) → walk_step ds (steps_of.Plus t) s ≡ walk ds t s
walk_step-Plus ds t s = walk_step-is ds (steps_of.Plus t) (Step-F.Plus t) s (steps_of.rolls-Plus t)

pub walk_step-Minus : (ds : List DeclTree) (t : Term) (s : State) → walk_step ds (steps_of.Minus t) s ≡ walk ds t s
walk_step-Minus ds t s = walk_step-is ds (steps_of.Minus t) (Step-F.Minus t) s (steps_of.rolls-Minus t)

pub walk_step-Times : (ds : List DeclTree) (t : Term) (s : State) → walk_step ds (steps_of.Times t) s ≡ walk ds t s
walk_step-Times ds t s = walk_step-is ds (steps_of.Times t) (Step-F.Times t) s (steps_of.rolls-Times t)

pub walk_step-Quotient : (ds : List DeclTree) (t : Term) (s : State) → walk_step ds (steps_of.Quotient t) s ≡ walk ds t s
walk_step-Quotient ds t s = walk_step-is ds (steps_of.Quotient t) (Step-F.Quotient t) s (steps_of.rolls-Quotient t)

pub walk_step-Remainder : (ds : List DeclTree) (t : Term) (s : State) → walk_step ds (steps_of.Remainder t) s ≡ walk ds t s
walk_step-Remainder ds t s = walk_step-is ds (steps_of.Remainder t) (Step-F.Remainder t) s (steps_of.rolls-Remainder t)

pub walk_set-Whole : (ds : List DeclTree) (t : Term) (s : State) → walk_set ds (sets_of.Whole t) s ≡ walk ds t s
walk_set-Whole ds t s = walk_set-is ds (sets_of.Whole t) (SetTerm-F.Whole t) s (sets_of.rolls-Whole t)

pub walk_set-Between : (ds : List DeclTree) (t : Term) (u : Term) (s : State) → walk_set ds (sets_of.Between t u) s ≡ walk ds u (walk ds t s)
walk_set-Between ds t u s = walk_set-is ds (sets_of.Between t u) (SetTerm-F.Between t u) s (sets_of.rolls-Between t u)

pub walk_group-Unordered : (ds : List DeclTree) (ps : List Pattern) (over : SetTerm) (s : State) → walk_group ds (groups_of.Unordered ps over) s ≡ walk_set ds over s
walk_group-Unordered ds ps over s = walk_group-is ds (groups_of.Unordered ps over) (GroupTerm-F.Unordered ps over) s (groups_of.rolls-Unordered ps over)

pub walk_group-Ordered : (ds : List DeclTree) (ps : List Pattern) (over : SetTerm) (s : State) → walk_group ds (groups_of.Ordered ps over) s ≡ walk_set ds over s
walk_group-Ordered ds ps over s = walk_group-is ds (groups_of.Ordered ps over) (GroupTerm-F.Ordered ps over) s (groups_of.rolls-Ordered ps over)

pub ruleset walks = (walk-Number, walk-Named, walk-Bracket, walk-Negative, walk-Chain, walk-Related, walk-Member, walk-Equivalent, walk-Implied, walk-Or, walk-And, walk-Not, walk-Aggregate, walk-Call, walk-AllDifferent, walk-Question, walk-Element, walk-Fields, walk-Record, walk-Listed, walk-Described, walk-Array, walk-KeyedArray)

pub ruleset steps = (walk_step-Plus, walk_step-Minus, walk_step-Times, walk_step-Quotient, walk_step-Remainder)

pub ruleset sets = (walk_set-Whole, walk_set-Between)

pub ruleset groups = (walk_group-Unordered, walk_group-Ordered)
