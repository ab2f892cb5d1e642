-- The places of what expressions are unrolled to.
use Rattle.std.proofs.Common.{◌≡◌, ◌<◌, ℕ, ◌+◌, ℤ, true, false, List, [], ◌∷◌, ◌++◌, length, map, take, get_or, Option, None, Some, Ok, Err, refl, ap, sym, subst, ◌∙◌}
use Rattle.std.proofs.lemmas.List.{map-append, take_more}
use Rattle.opl_tree.specs.declared.expression.AggregateOp.{AggregateOp}
use Rattle.opl_tree.specs.declared.expression.CallOp.{CallOp}
use Rattle.opl_tree.specs.declared.expression.CallOp.TheVariants.{Absolute, Cardinality}
use Rattle.opl_tree.specs.declared.expression.QuestionOp.{QuestionOp}
use Rattle.opl_tree.specs.declared.expression.Relation.{Relation}
use Rattle.opl_term.specs.declared.term.FieldName.{FieldName}
use Rattle.opl_term.specs.declared.term.GroupTerm.{GroupTerm}
use Rattle.opl_term.specs.declared.term.SetTerm.{SetTerm}
use Rattle.opl_term.specs.declared.term.Step.{Step}
use Rattle.opl_term.specs.declared.term.Term.{Term}
use Rattle.opl_term.specs.declared.term.Term.TheVariants as terms
use Rattle.opl_value.specs.declared.value.IndexSpace.{IndexSpace}
use Rattle.opl_value.specs.declared.value.Value.{Value}
use Rattle.opl_eval.specs.Evaluation.{Environment, Found, eval, parameter_or}
use Rattle.opl_meaning.specs.declared.variable.VariableItem.{VariableItem}
use Rattle.opl_meaning.specs.Runs.{Names}
use Rattle.opl_draft.specs.Drafts.{Cells, Draft}
use Rattle.opl_draft.specs.Forms as terms_of
use Rattle.opl_draft.specs.Numbers.{Numbered, variable_named}
use Rattle.opl_draft.specs.Unrolled.{called, data_draft, is_mentioned, named_draft, plain_draft, unrolled}
use Rattle.opl_form.specs.Made.{made, place}
use Rattle.opl_form.specs.Nodes.{Made, as_operand, next}
use Rattle.opl_form.specs.Parts.{Form}
use Rattle.opl_form.specs.Measures.{all_nodes}
use Rattle.opl_unfolding.specs.Laws.{LiveDrafts, ValueDrafts}
use Rattle.opl_unfolding.specs.Onto.{Maker, onto, operand_made}
use Rattle.opl_unfolding.specs.Unrolling.{live_draft, value_draft}
use Rattle.opl_unfolding.proofs.Forms.{drafts-of-forms}
use Rattle.opl_making.specs.Places.{AreAt, place_or, term_drafts}
use Rattle.opl_making.proofs.Next.{next-out}

-- ---- forms of terms

place-name : (at : ℕ) (v : Option Value) (x : Option Numbered) → place_or at (named_draft at v x) ≡ at
place-name at (Some v) x = refl
place-name at None None = refl
place-name at None (Some x) = plain x.item.space
  where
    plain : (space : Option IndexSpace) → place_or at (plain_draft at x.item x.first space) ≡ at
    plain None = refl
    plain (Some space) = refl

place-call : (op : CallOp) (at : ℕ) (d : Draft) → place_or at (called op at d) ≡ at
place-call Absolute at d = refl
place-call Cardinality at d = refl

module _ (items : List VariableItem) (names : Names) (env : Environment) where
  pub place-Number : (at : ℕ) (n : ℤ) → place_or at (live_draft items names (terms.Number at n) env) ≡ at
  place-Number at n = ap (place_or at) ((drafts-of-forms items names env).number at n)

  pub place-Named : (at : ℕ) (name : List ℕ) → place_or at (live_draft items names (terms.Named at name) env) ≡ at
  place-Named at name = ap (place_or at) ((drafts-of-forms items names env).named at name) ∙ place-name at (parameter_or None name env.parameters) (variable_named name items)

  pub place-Negative : (at : ℕ) (t : Term) → place_or at (live_draft items names (terms.Negative at t) env) ≡ at
  place-Negative at t = ap (place_or at) ((drafts-of-forms items names env).negative at t)

  pub place-Chain : (at : ℕ) (t : Term) (ss : List Step) → place_or at (live_draft items names (terms.Chain at t ss) env) ≡ at
  place-Chain at t ss = ap (place_or at) ((drafts-of-forms items names env).chain at t ss)

  pub place-Related : (at : ℕ) (t : Term) (r : Relation) (u : Term) → place_or at (live_draft items names (terms.Related at t r u) env) ≡ at
  place-Related at t r u = ap (place_or at) ((drafts-of-forms items names env).related at t r u)

  pub place-Equivalent : (at : ℕ) (ts : List Term) → place_or at (live_draft items names (terms.Equivalent at ts) env) ≡ at
  place-Equivalent at ts = ap (place_or at) ((drafts-of-forms items names env).equivalent at ts)

  pub place-Implied : (at : ℕ) (t u : Term) → place_or at (live_draft items names (terms.Implied at t u) env) ≡ at
  place-Implied at t u = ap (place_or at) ((drafts-of-forms items names env).implied at t u)

  pub place-Or : (at : ℕ) (ts : List Term) → place_or at (live_draft items names (terms.Or at ts) env) ≡ at
  place-Or at ts = ap (place_or at) ((drafts-of-forms items names env).one_of at ts)

  pub place-And : (at : ℕ) (ts : List Term) → place_or at (live_draft items names (terms.And at ts) env) ≡ at
  place-And at ts = ap (place_or at) ((drafts-of-forms items names env).all_of at ts)

  pub place-Not : (at : ℕ) (t : Term) → place_or at (live_draft items names (terms.Not at t) env) ≡ at
  place-Not at t = ap (place_or at) ((drafts-of-forms items names env).opposite at t)

  pub place-Aggregate : (at : ℕ) (op : AggregateOp) (gs : List GroupTerm) (c : Option Term) (t : Term) → place_or at (live_draft items names (terms.Aggregate at op gs c t) env) ≡ at
  place-Aggregate at op gs c t = ap (place_or at) ((drafts-of-forms items names env).aggregate at op gs c t)

  pub place-Call : (at : ℕ) (op : CallOp) (t : Term) → place_or at (live_draft items names (terms.Call at op t) env) ≡ at
  place-Call at op t = ap (place_or at) ((drafts-of-forms items names env).call at op t) ∙ place-call op at (unrolled items names t env)

  pub place-AllDifferent : (at : ℕ) (t : Term) → place_or at (live_draft items names (terms.AllDifferent at t) env) ≡ at
  place-AllDifferent at t = ap (place_or at) ((drafts-of-forms items names env).different at t)

  pub place-Element : (at : ℕ) (t : Term) (ts : List Term) → place_or at (live_draft items names (terms.Element at t ts) env) ≡ at
  place-Element at t ts = ap (place_or at) ((drafts-of-forms items names env).element at t ts)

  pub place-Bracket : (k at : ℕ) (t : Term) → place_or k (live_draft items names (terms.Bracket at t) env) ≡ place_or k (unrolled items names t env)
  place-Bracket k at t = ap (place_or k) ((drafts-of-forms items names env).bracket at t)

  pub place-Member : (at : ℕ) (t : Term) (s : SetTerm) → place_or 0 (live_draft items names (terms.Member at t s) env) ≡ 0
  place-Member at t s = ap (place_or 0) ((drafts-of-forms items names env).member at t s)

  pub place-Question : (at : ℕ) (op : QuestionOp) (t : Term) → place_or 0 (live_draft items names (terms.Question at op t) env) ≡ 0
  place-Question at op t = ap (place_or 0) ((drafts-of-forms items names env).question at op t)

  pub place-Fields : (at : ℕ) (t : Term) (fs : List FieldName) → place_or 0 (live_draft items names (terms.Fields at t fs) env) ≡ 0
  place-Fields at t fs = ap (place_or 0) ((drafts-of-forms items names env).fields at t fs)

  pub place-Record : (at : ℕ) (ts : List Term) → place_or 0 (live_draft items names (terms.Record at ts) env) ≡ 0
  place-Record at ts = ap (place_or 0) ((drafts-of-forms items names env).recorded at ts)

  pub place-Listed : (at : ℕ) (ts : List Term) → place_or 0 (live_draft items names (terms.Listed at ts) env) ≡ 0
  place-Listed at ts = ap (place_or 0) ((drafts-of-forms items names env).listed at ts)

  pub place-Described : (at : ℕ) (t : Term) (gs : List GroupTerm) (c : Option Term) → place_or 0 (live_draft items names (terms.Described at t gs c) env) ≡ 0
  place-Described at t gs c = ap (place_or 0) ((drafts-of-forms items names env).described at t gs c)

  pub place-Array : (at : ℕ) (ts : List Term) → place_or 0 (live_draft items names (terms.Array at ts) env) ≡ 0
  place-Array at ts = ap (place_or 0) ((drafts-of-forms items names env).array at ts)

  pub place-KeyedArray : (at : ℕ) (ts us : List Term) → place_or 0 (live_draft items names (terms.KeyedArray at ts us) env) ≡ 0
  place-KeyedArray at ts us = ap (place_or 0) ((drafts-of-forms items names env).keyed at ts us)

pub ruleset live_places = (place-Number, place-Named, place-Negative, place-Chain, place-Related, place-Equivalent, place-Implied, place-Or, place-And, place-Not, place-Aggregate, place-Call, place-AllDifferent, place-Element, place-Bracket, place-Member, place-Question, place-Fields, place-Record, place-Listed, place-Described, place-Array, place-KeyedArray)

-- ---- terms

place-data : (at : ℕ) (r : Found Value) → place_or at (data_draft at r) ≡ at
place-data at (Ok v) = refl
place-data at (Err fault) = refl

pub place-value : ValueDrafts → (items : List VariableItem) (names : Names) (t : Term) (env : Environment) (k : ℕ) → is_mentioned items names t ≡ false → k ≡ terms_of.place items names t →
    place_or k (unrolled items names t env) ≡ k
place-value law items names t env k h e =
    ap (place_or k) (law items names t env h) ∙ ap (λ at. place_or k (data_draft at (eval t env))) (sym e) ∙ place-data k (eval t env)

pub place-live : LiveDrafts → (items : List VariableItem) (names : Names) (t : Term) (env : Environment) (k : ℕ) → is_mentioned items names t ≡ true → place_or k (live_draft items names t env) ≡ k →
    place_or k (unrolled items names t env) ≡ k
place-live law items names t env k h e = ap (place_or k) (law items names t env h) ∙ e

-- ---- lists

pub at-push : (ds : List Draft) (ats : List ℕ) (d : Draft) (at : ℕ) → AreAt ds ats → place_or at d ≡ at → AreAt (ds ++ d ∷ []) (ats ++ at ∷ [])
at-push [] [] d at h e = (e, tt)
at-push [] (b ∷ ats) d at h e = absurd h
at-push (c ∷ ds) [] d at h e = absurd h
at-push (c ∷ ds) (b ∷ ats) d at h e = (h.0, at-push ds ats d at h.1 e)

pub at-more : (f : Term → Draft) (xs : List Term) (i : ℕ) (x : Term) (ats : List ℕ) (at : ℕ) → i < length xs → x ≡ get_or xs i x → AreAt (map f (take i xs)) ats → place_or at (f x) ≡ at → AreAt (map f (take (i + 1) xs)) (ats ++ at ∷ [])
at-more f xs i x ats at more here h e =
    subst (λ (ds : List Draft). AreAt ds (ats ++ at ∷ []))
    (sym (ap (map f) (take_more xs i x more ∙ ap (λ y. take i xs ++ y ∷ []) (sym here)) ∙ map-append f (take i xs) (x ∷ [])))
    (at-push (map f (take i xs)) ats (f x) at h e)

-- ---- makers

module _ (sets : List (ℤ × ℤ)) (arrays : List Cells) (item : ℕ) where
  -- an operand at its place
  pub operand-at : (n at : ℕ) (d : Draft) → place_or at d ≡ at → as_operand item at n (made sets arrays item n d) ≡ operand_made sets arrays item n d
  operand-at n at (Draft.broken fault) e = refl
  operand-at n at d e = ap (λ k. as_operand item k n (made sets arrays item n d)) (sym e)

  -- what depends on the place of an operand that is made
  pub own-place : (X : Type 0) (m at : ℕ) (d : Draft) (F : ℕ → Form → Made X) → place_or at d ≡ at → next (operand_made sets arrays item m d) (F (place d)) ≡ next (operand_made sets arrays item m d) (F at)
  own-place X m at (Draft.broken fault) F e = refl
  own-place X m at d F e = ap (λ k. next (operand_made sets arrays item m d) (F k)) e

  one-place : (X : Type 0) (m at : ℕ) (d : Draft) (F : ℕ → Form → Made X) → place_or at d ≡ at → next (made sets arrays item m d) (F (place d)) ≡ next (made sets arrays item m d) (F at)
  one-place X m at (Draft.broken fault) F e = refl
  one-place X m at d F e = ap (λ k. next (made sets arrays item m d) (F k)) e

  -- what depends on the places of parts that are made
  pub own-places : (X : Type 0) (n : ℕ) (before : List Form) (ds : List Draft) (ats : List ℕ) (F : List ℕ → List Form → Made X) → AreAt ds ats →
      next (onto (made sets arrays item) n before ds) (F (map place ds)) ≡ next (onto (made sets arrays item) n before ds) (F ats)
  own-places X n before [] [] F h = refl
  own-places X n before [] (b ∷ ats) F h = absurd h
  own-places X n before (d ∷ ds) [] F h = absurd h
  own-places X n before (d ∷ ds) (b ∷ ats) F h =
      let m : Made Form = made sets arrays item (n + all_nodes before) d in
      let on : List Form → Made (List Form) = λ gs. onto (made sets arrays item) n gs ds in
      next-out m (λ g. on (before ++ g ∷ [])) (F (place d ∷ map place ds))
      ∙ like m (λ g. next (on (before ++ g ∷ [])) (F (place d ∷ map place ds))) (λ g. next (on (before ++ g ∷ [])) (F (place d ∷ ats)))
      (λ g. own-places X n (before ++ g ∷ []) ds ats (λ ps. F (place d ∷ ps)) h.1)
      ∙ one-place X (n + all_nodes before) b d (λ k g. next (on (before ++ g ∷ [])) (F (k ∷ ats))) h.0
      ∙ sym (next-out m (λ g. on (before ++ g ∷ [])) (F (b ∷ ats)))
    where
      like : (m : Made Form) (f g : Form → Made X) → ((x : Form) → f x ≡ g x) → next m f ≡ next m g
      like (Ok x) f g h = h x
      like (Err e) f g h = refl
