-- What is made of each form of expressions in which a decision variable is named.
use Rattle.std.proofs.Common.{◌≡◌, ℕ, ◌+◌, ℤ, List, [], ◌∷◌, map, Option, None, Some, Ok, Err, refl, ap, sym, ◌∙◌}
use Rattle.opl_tree.specs.declared.expression.AggregateOp.{AggregateOp}
use Rattle.opl_tree.specs.declared.expression.CallOp.{CallOp}
use Rattle.opl_tree.specs.declared.expression.QuestionOp.{QuestionOp}
use Rattle.opl_tree.specs.declared.expression.Relation.{Relation}
use Rattle.opl_term.specs.declared.term.FieldName.{FieldName}
use Rattle.opl_term.specs.declared.term.GroupTerm.{GroupTerm}
use Rattle.opl_term.specs.declared.term.SetTerm.{SetTerm}
use Rattle.opl_term.specs.declared.term.Step.{Step}
use Rattle.opl_term.specs.declared.term.Term.{Term}
use Rattle.opl_term.specs.declared.term.Term.TheVariants as terms
use Rattle.opl_value.specs.declared.value.Value.TheVariants as values
use Rattle.opl_eval.specs.Evaluation.{group_meaning, parameter_or}
use Rattle.opl_eval.specs.Visible.{parameter_of}
use Rattle.opl_meaning.specs.Runs.{Text}
use Rattle.opl_draft.specs.Drafts.{Draft, drafts_of, steps_of}
use Rattle.opl_draft.specs.Forms.{array_in, cells_in}
use Rattle.opl_draft.specs.Numbers.{variable_named}
use Rattle.opl_draft.specs.Unrolled.{called, named_draft}
use Rattle.opl_form.specs.Made.{array_of, made_all}
use Rattle.opl_form.specs.Nodes as nodes
use Rattle.opl_form.specs.Nodes.{Made, next}
use Rattle.opl_form.specs.Parts.{Form}
use Rattle.opl_groups.specs.declared.scope.Scope.{Scope}
use Rattle.opl_groups.specs.Met.{met_under}
use Rattle.opl_groups.specs.Visits.{sees}
use Rattle.opl_nodes.specs.Contexts.{arrays, sets}
use Rattle.opl_unfolding.specs.Laws.{AggregatesByChoice, IsMadeOnto, MadeOnto}
use Rattle.opl_unfolding.specs.Onto.{onto}
use Rattle.opl_unfolding.specs.Unrolling.{HasDrafts, body_met, live_draft}
use Rattle.opl_unfolding.proofs.Forms.{drafts-of-forms}
use Rattle.opl_making.specs.declared.site.Site.{Site}
use Rattle.opl_making.specs.Sites.{draft, drafts, element_maker, first_maker, implied_maker, items, known, maker, names, nothing, operand_maker, step_drafts}
use Rattle.opl_making.proofs.ArrayNames.{parameters-within}

module _ (s : Site) (scope : Scope) (n : ℕ) (t : Term) where
  abbrev live : Term → Draft
  live u = live_draft (items s) (names s) u (sees scope)

  by-form : (u : Term) (d : Draft) → t ≡ u → live u ≡ d → maker s n d ≡ maker s n (live t)
  by-form u d h e = ap (maker s n) (sym (ap live h ∙ e))

  of-forms : HasDrafts (items s) (names s) (sees scope)
  of-forms = drafts-of-forms (items s) (names s) (sees scope)

  pub live-Number : (at : ℕ) (k : ℤ) → t ≡ terms.Number at k → maker s n (known at (values.Int k)) ≡ maker s n (live_draft (items s) (names s) t (sees scope))
  live-Number at k h = by-form (terms.Number at k) (known at (values.Int k)) h (of-forms.number at k)

  pub live-Named : (at : ℕ) (name own : Text) → t ≡ terms.Named at name → own ≡ name →
      maker s n (named_draft at (parameter_or None own (map parameter_of scope.parameters.now)) (variable_named own (items s))) ≡ maker s n (live_draft (items s) (names s) t (sees scope))
  live-Named at name own h e =
      ap (λ own. maker s n (named_draft at (parameter_or None own (map parameter_of scope.parameters.now)) (variable_named own (items s)))) e
      ∙ ap (λ ps. maker s n (named_draft at (parameter_or None name ps) (variable_named name (items s)))) (sym (parameters-within (items s) name scope.environment.now scope.parameters.now))
      ∙ by-form (terms.Named at name) _ h (of-forms.named at name)

  pub live-Bracket : (at : ℕ) (u v : Term) → t ≡ terms.Bracket at u → v ≡ u → maker s n (draft s scope v) ≡ maker s n (live_draft (items s) (names s) t (sees scope))
  live-Bracket at u v h e = ap (λ v. maker s n (draft s scope v)) e ∙ by-form (terms.Bracket at u) _ h (of-forms.bracket at u)

  pub live-Negative : (at : ℕ) (u v : Term) → t ≡ terms.Negative at u → v ≡ u → maker s n (Draft.negated at (draft s scope v)) ≡ maker s n (live_draft (items s) (names s) t (sees scope))
  live-Negative at u v h e = ap (λ v. maker s n (Draft.negated at (draft s scope v))) e ∙ by-form (terms.Negative at u) _ h (of-forms.negative at u)

  pub live-Chain : (at : ℕ) (u v : Term) (ss rs : List Step) → t ≡ terms.Chain at u ss → v ≡ u → rs ≡ ss →
      maker s n (Draft.chain at (draft s scope v) (steps_of (step_drafts s scope rs))) ≡ maker s n (live_draft (items s) (names s) t (sees scope))
  live-Chain at u v ss rs h e f =
      ap (λ v. maker s n (Draft.chain at (draft s scope v) (steps_of (step_drafts s scope rs)))) e
      ∙ ap (λ rs. maker s n (Draft.chain at (draft s scope u) (steps_of (step_drafts s scope rs)))) f
      ∙ by-form (terms.Chain at u ss) _ h (of-forms.chain at u ss)

  pub live-Related : (at : ℕ) (u v : Term) (r : Relation) (w x : Term) → t ≡ terms.Related at u r w → v ≡ u → x ≡ w →
      maker s n (Draft.related at r (draft s scope v) (draft s scope x)) ≡ maker s n (live_draft (items s) (names s) t (sees scope))
  live-Related at u v r w x h e f =
      ap (λ v. maker s n (Draft.related at r (draft s scope v) (draft s scope x))) e
      ∙ ap (λ x. maker s n (Draft.related at r (draft s scope u) (draft s scope x))) f
      ∙ by-form (terms.Related at u r w) _ h (of-forms.related at u r w)

  pub live-Equivalent : (at : ℕ) (ts us : List Term) → t ≡ terms.Equivalent at ts → us ≡ ts → first_maker s n (drafts s scope us) ≡ maker s n (live_draft (items s) (names s) t (sees scope))
  live-Equivalent at ts us h e =
      ap (λ us. first_maker s n (drafts s scope us)) e ∙ by-form (terms.Equivalent at ts) (Draft.equivalent at (drafts_of (drafts s scope ts))) h (of-forms.equivalent at ts)

  pub live-Implied : (at : ℕ) (u v w x : Term) → t ≡ terms.Implied at u w → v ≡ u → x ≡ w →
      next (maker s n (draft s scope v)) (λ g. implied_maker s n g (draft s scope x)) ≡ maker s n (live_draft (items s) (names s) t (sees scope))
  live-Implied at u v w x h e f =
      ap (λ v. next (maker s n (draft s scope v)) (λ g. implied_maker s n g (draft s scope x))) e
      ∙ ap (λ x. next (maker s n (draft s scope u)) (λ g. implied_maker s n g (draft s scope x))) f
      ∙ by-form (terms.Implied at u w) (Draft.implied at (draft s scope u) (draft s scope w)) h (of-forms.implied at u w)

  pub live-Or : MadeOnto → (at : ℕ) (ts us : List Term) → t ≡ terms.Or at ts → us ≡ ts →
      next (onto (maker s) n [] (drafts s scope us)) (λ gs. nodes.one_holds s.context.now.item n gs) ≡ maker s n (live_draft (items s) (names s) t (sees scope))
  live-Or law at ts us h e =
      ap (λ us. next (onto (maker s) n [] (drafts s scope us)) (λ gs. nodes.one_holds s.context.now.item n gs)) e
      ∙ ap (λ r. next r (λ gs. nodes.one_holds s.context.now.item n gs)) (sym (law (sets s.context.now) (arrays s.context.now) s.context.now.item n (drafts s scope ts)).all)
      ∙ by-form (terms.Or at ts) (Draft.one_of at (drafts_of (drafts s scope ts))) h (of-forms.one_of at ts)

  pub live-And : MadeOnto → (at : ℕ) (ts us : List Term) → t ≡ terms.And at ts → us ≡ ts →
      next (onto (maker s) n [] (drafts s scope us)) (λ gs. nodes.all_hold s.context.now.item n gs) ≡ maker s n (live_draft (items s) (names s) t (sees scope))
  live-And law at ts us h e =
      ap (λ us. next (onto (maker s) n [] (drafts s scope us)) (λ gs. nodes.all_hold s.context.now.item n gs)) e
      ∙ ap (λ r. next r (λ gs. nodes.all_hold s.context.now.item n gs)) (sym (law (sets s.context.now) (arrays s.context.now) s.context.now.item n (drafts s scope ts)).all)
      ∙ by-form (terms.And at ts) (Draft.all_of at (drafts_of (drafts s scope ts))) h (of-forms.all_of at ts)

  pub live-Not : (at : ℕ) (u v : Term) → t ≡ terms.Not at u → v ≡ u →
      next (maker s n (draft s scope v)) (λ g. nodes.opposite s.context.now.item n g) ≡ maker s n (live_draft (items s) (names s) t (sees scope))
  live-Not at u v h e =
      ap (λ v. next (maker s n (draft s scope v)) (λ g. nodes.opposite s.context.now.item n g)) e ∙ by-form (terms.Not at u) (Draft.opposite at (draft s scope u)) h (of-forms.opposite at u)

  pub live-Aggregate : AggregatesByChoice → (at : ℕ) (op : AggregateOp) (gs hs : List GroupTerm) (c : Option Term) (u v : Term) → t ≡ terms.Aggregate at op gs c u → hs ≡ gs → v ≡ u →
      next (onto (operand_maker s) n [] (map (body_met (items s) (names s) v) (met_under (map group_meaning hs) c (sees scope)))) (λ fs. nodes.aggregated (sets s.context.now) (arrays s.context.now) s.context.now.item op at n fs)
      ≡ maker s n (live_draft (items s) (names s) t (sees scope))
  live-Aggregate law at op gs hs c u v h e f =
      ap (λ v. next (onto (operand_maker s) n [] (map (body_met (items s) (names s) v) (met_under (map group_meaning hs) c (sees scope)))) (λ fs. nodes.aggregated (sets s.context.now) (arrays s.context.now) s.context.now.item op at n fs)) f
      ∙ ap (λ hs. next (onto (operand_maker s) n [] (map (body_met (items s) (names s) u) (met_under (map group_meaning hs) c (sees scope)))) (λ fs. nodes.aggregated (sets s.context.now) (arrays s.context.now) s.context.now.item op at n fs)) e
      ∙ sym (law (sets s.context.now) (arrays s.context.now) s.context.now.item n (items s) (names s) at op gs c u (sees scope))
      ∙ by-form (terms.Aggregate at op gs c u) _ h (of-forms.aggregate at op gs c u)

  pub live-Call : (at : ℕ) (op : CallOp) (u v : Term) → t ≡ terms.Call at op u → v ≡ u → maker s n (called op at (draft s scope v)) ≡ maker s n (live_draft (items s) (names s) t (sees scope))
  live-Call at op u v h e = ap (λ v. maker s n (called op at (draft s scope v))) e ∙ by-form (terms.Call at op u) _ h (of-forms.call at op u)

  pub live-AllDifferent : (at : ℕ) (u v : Term) → t ≡ terms.AllDifferent at u → v ≡ u →
      maker s n (Draft.different at (cells_in (items s) (names s) v (sees scope))) ≡ maker s n (live_draft (items s) (names s) t (sees scope))
  live-AllDifferent at u v h e =
      ap (λ v. maker s n (Draft.different at (cells_in (items s) (names s) v (sees scope)))) e ∙ by-form (terms.AllDifferent at u) _ h (of-forms.different at u)

  pub live-Element : MadeOnto → (at : ℕ) (u v : Term) (ts us : List Term) → t ≡ terms.Element at u ts → v ≡ u → us ≡ ts →
      next (onto (maker s) n [] (drafts s scope us)) (λ gs. element_maker s at n (array_in (items s) (names s) v (sees scope)) (drafts s scope us) gs) ≡ maker s n (live_draft (items s) (names s) t (sees scope))
  live-Element law at u v ts us h e f =
      let k : Option ℕ = array_in (items s) (names s) u (sees scope) in
      let made-by : IsMadeOnto (sets s.context.now) (arrays s.context.now) s.context.now.item n (drafts s scope ts) = law (sets s.context.now) (arrays s.context.now) s.context.now.item n (drafts s scope ts) in
      ap (λ v. next (onto (maker s) n [] (drafts s scope us)) (λ gs. element_maker s at n (array_in (items s) (names s) v (sees scope)) (drafts s scope us) gs)) e
      ∙ ap (λ us. next (onto (maker s) n [] (drafts s scope us)) (λ gs. element_maker s at n k (drafts s scope us) gs)) f
      ∙ ap (λ r. next r (λ gs. element_maker s at n k (drafts s scope ts) gs)) (sym made-by.all)
      ∙ ap (λ ps. next (made_all (sets s.context.now) (arrays s.context.now) s.context.now.item n (drafts_of (drafts s scope ts))) (λ gs. nodes.indexed (sets s.context.now) (arrays s.context.now) s.context.now.item at n k (array_of (arrays s.context.now) k) ps gs)) (sym made-by.places)
      ∙ by-form (terms.Element at u ts) (Draft.element at k (drafts_of (drafts s scope ts))) h (of-forms.element at u ts)

  -- ---- what typing lets no variable stand in

  pub live-Member : (at : ℕ) (u : Term) (over : SetTerm) → t ≡ terms.Member at u over → maker s n (nothing 0) ≡ maker s n (live_draft (items s) (names s) t (sees scope))
  live-Member at u over h = by-form (terms.Member at u over) _ h (of-forms.member at u over)

  pub live-Question : (at : ℕ) (op : QuestionOp) (u : Term) → t ≡ terms.Question at op u → maker s n (nothing 0) ≡ maker s n (live_draft (items s) (names s) t (sees scope))
  live-Question at op u h = by-form (terms.Question at op u) _ h (of-forms.question at op u)

  pub live-Fields : (at : ℕ) (u : Term) (fs : List FieldName) → t ≡ terms.Fields at u fs → maker s n (nothing 0) ≡ maker s n (live_draft (items s) (names s) t (sees scope))
  live-Fields at u fs h = by-form (terms.Fields at u fs) _ h (of-forms.fields at u fs)

  pub live-Record : (at : ℕ) (ts : List Term) → t ≡ terms.Record at ts → maker s n (nothing 0) ≡ maker s n (live_draft (items s) (names s) t (sees scope))
  live-Record at ts h = by-form (terms.Record at ts) _ h (of-forms.recorded at ts)

  pub live-Listed : (at : ℕ) (ts : List Term) → t ≡ terms.Listed at ts → maker s n (nothing 0) ≡ maker s n (live_draft (items s) (names s) t (sees scope))
  live-Listed at ts h = by-form (terms.Listed at ts) _ h (of-forms.listed at ts)

  pub live-Described : (at : ℕ) (u : Term) (gs : List GroupTerm) (c : Option Term) → t ≡ terms.Described at u gs c → maker s n (nothing 0) ≡ maker s n (live_draft (items s) (names s) t (sees scope))
  live-Described at u gs c h = by-form (terms.Described at u gs c) _ h (of-forms.described at u gs c)

  pub live-Array : (at : ℕ) (ts : List Term) → t ≡ terms.Array at ts → maker s n (nothing 0) ≡ maker s n (live_draft (items s) (names s) t (sees scope))
  live-Array at ts h = by-form (terms.Array at ts) _ h (of-forms.array at ts)

  pub live-KeyedArray : (at : ℕ) (ts us : List Term) → t ≡ terms.KeyedArray at ts us → maker s n (nothing 0) ≡ maker s n (live_draft (items s) (names s) t (sees scope))
  live-KeyedArray at ts us h = by-form (terms.KeyedArray at ts us) _ h (of-forms.keyed at ts us)
