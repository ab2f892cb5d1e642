-- What each form of expressions in which a decision variable is named comes to.
use Rattle.std.proofs.Common.{◌≡◌, ℕ, ℤ, List, [], map, Option, None, ap, sym, ◌∙◌}
use Rattle.opl_tree.specs.declared.expression.AggregateOp.{AggregateOp}
use Rattle.opl_term.specs.declared.term.GroupTerm.{GroupTerm}
use Rattle.opl_term.specs.declared.term.Step.{Step}
use Rattle.opl_term.specs.declared.term.Term.{Term}
use Rattle.opl_term.specs.declared.term.Term.TheVariants as terms
use Rattle.opl_value.specs.declared.value.Value.TheVariants as values
use Rattle.opl_eval.specs.Arithmetic.{then}
use Rattle.opl_eval.specs.Evaluation.{found, group_meaning, parameter_or}
use Rattle.opl_eval.specs.Visible.{parameter_of}
use Rattle.opl_meaning.specs.Runs.{Text}
use Rattle.opl_draft.specs.Drafts.{Draft, DraftStep, array_at, drafts_of, steps_of}
use Rattle.opl_draft.specs.Forms.{array_in, cells_in}
use Rattle.opl_draft.specs.Numbers.{variable_named}
use Rattle.opl_draft.specs.Unrolled.{named_draft}
use Rattle.opl_groups.specs.declared.scope.Scope.{Scope}
use Rattle.opl_groups.specs.Met.{met_under}
use Rattle.opl_groups.specs.Visits.{sees}
use Rattle.opl_nodes.specs.Contexts.{arrays}
use Rattle.opl_unfolding.specs.Laws.{BodiesByChoice}
use Rattle.opl_unfolding.specs.Unrolling.{HasDrafts, body_met, live_draft}
use Rattle.opl_unfolding.proofs.Forms.{drafts-of-forms}
use Rattle.opl_making.specs.declared.site.Site.{Site}
use Rattle.opl_making.specs.Sites.{draft, drafts, items, names, step_draft, step_drafts}
use Rattle.opl_making.proofs.ArrayNames.{parameters-within}
use Rattle.opl_held.specs.declared.connective.Connective.TheVariants.{Equivalent, Or, And}
use Rattle.opl_held.specs.declared.outcome.Outcome.TheVariants.{Fixed}
use Rattle.opl_held.specs.Gathered.{longer, met, nothing, start}
use Rattle.opl_held.specs.Outcomes.{changed, told}
use Rattle.opl_held.specs.Sourced.{bodies_behind, step_behind, terms_behind, worth_at}
use Rattle.opl_held.specs.Worth as spec
use Rattle.opl_held.specs.Worth.{indexed, stepped, worths}
use Rattle.opl_held.proofs.Drawn.{array-under}
use Rattle.opl_held.proofs.Gathering.{bodies-are, connected-is, each-is}

module _ (s : Site) (scope : Scope) (ns : List ℤ) (t : Term) where
  abbrev live : Term → Draft
  live u = live_draft (items s) (names s) u (sees scope)

  by-form : (u : Term) (d : Draft) → t ≡ u → live u ≡ d → worth_at s ns d ≡ worth_at s ns (live t)
  by-form u d h e = ap (worth_at s ns) (sym (ap live h ∙ e))

  of-forms : HasDrafts (items s) (names s) (sees scope)
  of-forms = drafts-of-forms (items s) (names s) (sees scope)

  pub live-Named : (at : ℕ) (name own : Text) → t ≡ terms.Named at name → own ≡ name →
      worth_at s ns (named_draft at (parameter_or None own (map parameter_of scope.parameters.now)) (variable_named own (items s))) ≡ worth_at s ns (live_draft (items s) (names s) t (sees scope))
  live-Named at name own h e =
      ap (λ own. worth_at s ns (named_draft at (parameter_or None own (map parameter_of scope.parameters.now)) (variable_named own (items s)))) e
      ∙ ap (λ ps. worth_at s ns (named_draft at (parameter_or None name ps) (variable_named name (items s)))) (sym (parameters-within (items s) name scope.environment.now scope.parameters.now))
      ∙ by-form (terms.Named at name) _ h (of-forms.named at name)

  pub live-Chain : (at : ℕ) (u v : Term) (ss rs : List Step) → t ≡ terms.Chain at u ss → v ≡ u → rs ≡ ss →
      worth_at s ns (Draft.chain at (draft s scope v) (steps_of (step_drafts s scope rs))) ≡ worth_at s ns (live_draft (items s) (names s) t (sees scope))
  live-Chain at u v ss rs h e f =
      ap (λ v. worth_at s ns (Draft.chain at (draft s scope v) (steps_of (step_drafts s scope rs)))) e
      ∙ ap (λ rs. worth_at s ns (Draft.chain at (draft s scope u) (steps_of (step_drafts s scope rs)))) f
      ∙ by-form (terms.Chain at u ss) _ h (of-forms.chain at u ss)

  pub live-Equivalent : (at : ℕ) (ts us : List Term) → t ≡ terms.Equivalent at ts → us ≡ ts →
      found (changed values.Bool) (terms_behind s scope ns (met Equivalent) (Fixed (start Equivalent)) us) ≡ worth_at s ns (live_draft (items s) (names s) t (sees scope))
  live-Equivalent at ts us h e =
      ap (λ us. found (changed values.Bool) (terms_behind s scope ns (met Equivalent) (Fixed (start Equivalent)) us)) e
      ∙ connected-is (arrays s.context.now) ns Equivalent (drafts s scope ts)
      ∙ by-form (terms.Equivalent at ts) (Draft.equivalent at (drafts_of (drafts s scope ts))) h (of-forms.equivalent at ts)

  pub live-Or : (at : ℕ) (ts us : List Term) → t ≡ terms.Or at ts → us ≡ ts →
      found (changed values.Bool) (terms_behind s scope ns (met Or) (Fixed (start Or)) us) ≡ worth_at s ns (live_draft (items s) (names s) t (sees scope))
  live-Or at ts us h e =
      ap (λ us. found (changed values.Bool) (terms_behind s scope ns (met Or) (Fixed (start Or)) us)) e
      ∙ connected-is (arrays s.context.now) ns Or (drafts s scope ts)
      ∙ by-form (terms.Or at ts) (Draft.one_of at (drafts_of (drafts s scope ts))) h (of-forms.one_of at ts)

  pub live-And : (at : ℕ) (ts us : List Term) → t ≡ terms.And at ts → us ≡ ts →
      found (changed values.Bool) (terms_behind s scope ns (met And) (Fixed (start And)) us) ≡ worth_at s ns (live_draft (items s) (names s) t (sees scope))
  live-And at ts us h e =
      ap (λ us. found (changed values.Bool) (terms_behind s scope ns (met And) (Fixed (start And)) us)) e
      ∙ connected-is (arrays s.context.now) ns And (drafts s scope ts)
      ∙ by-form (terms.And at ts) (Draft.all_of at (drafts_of (drafts s scope ts))) h (of-forms.all_of at ts)

  pub live-Aggregate : BodiesByChoice → (at : ℕ) (op : AggregateOp) (gs hs : List GroupTerm) (c : Option Term) (u v : Term) → t ≡ terms.Aggregate at op gs c u → hs ≡ gs → v ≡ u →
      then (bodies_behind s ns op at (Fixed (nothing op at)) v (met_under (map group_meaning hs) c (sees scope))) (λ s. found (changed values.Int) (told s)) ≡ worth_at s ns (live_draft (items s) (names s) t (sees scope))
  live-Aggregate law at op gs hs c u v h e f =
      ap (λ v. then (bodies_behind s ns op at (Fixed (nothing op at)) v (met_under (map group_meaning hs) c (sees scope))) (λ s. found (changed values.Int) (told s))) f
      ∙ ap (λ hs. then (bodies_behind s ns op at (Fixed (nothing op at)) u (met_under (map group_meaning hs) c (sees scope))) (λ s. found (changed values.Int) (told s))) e
      ∙ bodies-are (arrays s.context.now) ns op at (map (body_met (items s) (names s) u) (met_under (map group_meaning gs) c (sees scope)))
      ∙ ap (λ ds. worth_at s ns (Draft.aggregate at op (drafts_of ds))) (sym (law (items s) (names s) gs c u (sees scope)))
      ∙ by-form (terms.Aggregate at op gs c u) _ h (of-forms.aggregate at op gs c u)

  pub live-AllDifferent : (at : ℕ) (u v : Term) → t ≡ terms.AllDifferent at u → v ≡ u →
      worth_at s ns (Draft.different at (cells_in (items s) (names s) v (sees scope))) ≡ worth_at s ns (live_draft (items s) (names s) t (sees scope))
  live-AllDifferent at u v h e = ap (λ v. worth_at s ns (Draft.different at (cells_in (items s) (names s) v (sees scope)))) e ∙ by-form (terms.AllDifferent at u) _ h (of-forms.different at u)

  pub live-Element : (at : ℕ) (u v : Term) (ts us : List Term) → t ≡ terms.Element at u ts → v ≡ u → us ≡ ts →
      then (terms_behind s scope ns longer [] us) (indexed [] ns at (array_at (arrays s.context.now) [] (array_in (items s) (names s) v (sees scope)))) ≡ worth_at s ns (live_draft (items s) (names s) t (sees scope))
  live-Element at u v ts us h e f =
      let k : Option ℕ = array_in (items s) (names s) u (sees scope) in
      ap (λ v. then (terms_behind s scope ns longer [] us) (indexed [] ns at (array_at (arrays s.context.now) [] (array_in (items s) (names s) v (sees scope))))) e
      ∙ ap (λ us. then (terms_behind s scope ns longer [] us) (indexed [] ns at (array_at (arrays s.context.now) [] k))) f
      ∙ (λ i. then (each-is (arrays s.context.now) ns (drafts s scope ts) i) (indexed [] ns at (array-under (arrays s.context.now) ns k i)))
      ∙ by-form (terms.Element at u ts) (Draft.element at k (drafts_of (drafts s scope ts))) h (of-forms.element at u ts)

-- ---- steps

module _ (s : Site) (scope : Scope) (ns : List ℤ) (at : ℕ) (sum : spec.Sum) (t : Step) where
  pub step-is : (u : Step) (d : DraftStep) → t ≡ u → step_draft s scope u ≡ d → then (worth_at s ns d.operand) (λ o. stepped at d.sign sum o) ≡ step_behind s scope ns at sum t
  step-is u d h e = ap (λ d. then (worth_at s ns d.operand) (λ o. stepped at d.sign sum o)) (sym (ap (step_draft s scope) h ∙ e))
