-- The part of each form of terms, by the parts of its parts.
use Rattle.std.proofs.Common.{◌≡◌, List, [], ◌∷◌, map, None, Some, refl, sym, ap, subst, ◌∙◌}
use Rattle.opl_term.specs.declared.term.GroupTerm.{GroupTerm}
use Rattle.opl_term.specs.declared.term.GroupTerm.TheOpen.{GroupTerm-F, SetTerm-F, Step-F, Term-F}
use Rattle.opl_term.specs.declared.term.GroupTerm.TheFolds.{fold-GroupTerm, fold-SetTerm, fold-roll-GroupTerm, fold-roll-SetTerm, fold-roll-Step, fold-roll-Term, map-GroupTerm, map-SetTerm, map-Step, map-Term, ind-GroupTerm, ind-Term}
use Rattle.opl_term.specs.declared.term.GroupTerm.TheViews.{roll-GroupTerm, roll-SetTerm, roll-Step, roll-Term}
use Rattle.opl_term.specs.declared.term.SetTerm.{SetTerm}
use Rattle.opl_term.specs.declared.term.Step.{Step}
use Rattle.opl_term.specs.declared.term.Term.{Term}
use Rattle.opl_meaning.specs.declared.variable.VariableItem.{VariableItem}
use Rattle.opl_meaning.specs.Runs.{Names}
use Rattle.opl_draft.specs.Unrolled.{Part, StepPart, again, group_again, is_mentioned, part_layer, part_of, part_with, set_again, step_again, step_layer, step_part}

module _ (items : List VariableItem) (names : Names) where
  abbrev pub part_group : GroupTerm → GroupTerm
  part_group = fold-GroupTerm GroupTerm SetTerm StepPart Part (group_again items names) (set_again items names) (step_layer items names) (part_layer items names)

  abbrev pub part_set : SetTerm → SetTerm
  part_set = fold-SetTerm GroupTerm SetTerm StepPart Part (group_again items names) (set_again items names) (step_layer items names) (part_layer items names)

  abbrev pub parts_of : Term-F GroupTerm SetTerm Step Term → Term-F GroupTerm SetTerm StepPart Part
  parts_of = map-Term GroupTerm SetTerm Step Term GroupTerm SetTerm StepPart Part part_group part_set (step_part items names) (part_of items names)

  abbrev pub step_parts : Step-F GroupTerm SetTerm Step Term → Step-F GroupTerm SetTerm StepPart Part
  step_parts = map-Step GroupTerm SetTerm Step Term GroupTerm SetTerm StepPart Part part_group part_set (step_part items names) (part_of items names)

  pub part-roll : (x : Term-F GroupTerm SetTerm Step Term) → part_of items names (roll-Term x) ≡ part_layer items names (parts_of x)
  unfolding part_of step_part
  part-roll x = fold-roll-Term GroupTerm SetTerm StepPart Part (group_again items names) (set_again items names) (step_layer items names) (part_layer items names) x

  group-roll : (x : GroupTerm-F GroupTerm SetTerm Step Term) → part_group (roll-GroupTerm x) ≡ group_again items names (map-GroupTerm GroupTerm SetTerm Step Term GroupTerm SetTerm StepPart Part part_group part_set (step_part items names) (part_of items names) x)
  unfolding part_of step_part
  group-roll x = fold-roll-GroupTerm GroupTerm SetTerm StepPart Part (group_again items names) (set_again items names) (step_layer items names) (part_layer items names) x

  set-roll : (x : SetTerm-F GroupTerm SetTerm Step Term) → part_set (roll-SetTerm x) ≡ set_again items names (map-SetTerm GroupTerm SetTerm Step Term GroupTerm SetTerm StepPart Part part_group part_set (step_part items names) (part_of items names) x)
  unfolding part_of step_part
  set-roll x = fold-roll-SetTerm GroupTerm SetTerm StepPart Part (group_again items names) (set_again items names) (step_layer items names) (part_layer items names) x

  pub step-roll : (x : Step-F GroupTerm SetTerm Step Term) → step_part items names (roll-Step x) ≡ step_layer items names (step_parts x)
  unfolding part_of step_part
  step-roll x = fold-roll-Step GroupTerm SetTerm StepPart Part (group_again items names) (set_again items names) (step_layer items names) (part_layer items names) x

  -- ---- the term of a part is the term

  abbrev InGroup : Type 0
  InGroup = (t : GroupTerm) × (part_group t ≡ t)

  abbrev InSet : Type 0
  InSet = (t : SetTerm) × (part_set t ≡ t)

  abbrev InStep : Type 0
  InStep = (t : Step) × ((step_part items names t).step ≡ t)

  abbrev InTerm : Type 0
  InTerm = (t : Term) × ((part_of items names t).term ≡ t)

  terms-back : (es : List InTerm) → map (λ p. p.term) (map (part_of items names) (map (λ e. e.0) es)) ≡ map (λ e. e.0) es
  terms-back [] = refl
  terms-back (e ∷ es) = λ i. e.1 i ∷ terms-back es i

  steps-back : (es : List InStep) → map (λ s. s.step) (map (step_part items names) (map (λ e. e.0) es)) ≡ map (λ e. e.0) es
  steps-back [] = refl
  steps-back (e ∷ es) = λ i. e.1 i ∷ steps-back es i

  groups-back : (es : List InGroup) → map (λ s. s) (map part_group (map (λ e. e.0) es)) ≡ map (λ e. e.0) es
  groups-back [] = refl
  groups-back (e ∷ es) = λ i. e.1 i ∷ groups-back es i

  abbrev term_inner : Term-F InGroup InSet InStep InTerm → Term-F GroupTerm SetTerm Step Term
  term_inner = map-Term InGroup InSet InStep InTerm GroupTerm SetTerm Step Term (λ e. e.0) (λ e. e.0) (λ e. e.0) (λ e. e.0)

  abbrev step_inner : Step-F InGroup InSet InStep InTerm → Step-F GroupTerm SetTerm Step Term
  step_inner = map-Step InGroup InSet InStep InTerm GroupTerm SetTerm Step Term (λ e. e.0) (λ e. e.0) (λ e. e.0) (λ e. e.0)

  abbrev set_inner : SetTerm-F InGroup InSet InStep InTerm → SetTerm-F GroupTerm SetTerm Step Term
  set_inner = map-SetTerm InGroup InSet InStep InTerm GroupTerm SetTerm Step Term (λ e. e.0) (λ e. e.0) (λ e. e.0) (λ e. e.0)

  abbrev group_inner : GroupTerm-F InGroup InSet InStep InTerm → GroupTerm-F GroupTerm SetTerm Step Term
  group_inner = map-GroupTerm InGroup InSet InStep InTerm GroupTerm SetTerm Step Term (λ e. e.0) (λ e. e.0) (λ e. e.0) (λ e. e.0)

  term-back : (y : Term-F InGroup InSet InStep InTerm) → again items names (parts_of (term_inner y)) ≡ roll-Term (term_inner y)
  term-back (Term-F.Number at n) = refl
  term-back (Term-F.Named at name) = refl
  term-back (Term-F.Bracket at t) = λ i. roll-Term (Term-F.Bracket at (t.1 i))
  term-back (Term-F.Negative at t) = λ i. roll-Term (Term-F.Negative at (t.1 i))
  term-back (Term-F.Chain at t ss) = λ i. roll-Term (Term-F.Chain at (t.1 i) (steps-back ss i))
  term-back (Term-F.Related at t r u) = λ i. roll-Term (Term-F.Related at (t.1 i) r (u.1 i))
  term-back (Term-F.Member at t s) = λ i. roll-Term (Term-F.Member at (t.1 i) (s.1 i))
  term-back (Term-F.Equivalent at ts) = λ i. roll-Term (Term-F.Equivalent at (terms-back ts i))
  term-back (Term-F.Implied at t u) = λ i. roll-Term (Term-F.Implied at (t.1 i) (u.1 i))
  term-back (Term-F.Or at ts) = λ i. roll-Term (Term-F.Or at (terms-back ts i))
  term-back (Term-F.And at ts) = λ i. roll-Term (Term-F.And at (terms-back ts i))
  term-back (Term-F.Not at t) = λ i. roll-Term (Term-F.Not at (t.1 i))
  term-back (Term-F.Aggregate at op gs None t) = λ i. roll-Term (Term-F.Aggregate at op (groups-back gs i) None (t.1 i))
  term-back (Term-F.Aggregate at op gs (Some c) t) = λ i. roll-Term (Term-F.Aggregate at op (groups-back gs i) (Some (c.1 i)) (t.1 i))
  term-back (Term-F.Call at op t) = λ i. roll-Term (Term-F.Call at op (t.1 i))
  term-back (Term-F.AllDifferent at t) = λ i. roll-Term (Term-F.AllDifferent at (t.1 i))
  term-back (Term-F.Question at op t) = λ i. roll-Term (Term-F.Question at op (t.1 i))
  term-back (Term-F.Element at t ts) = λ i. roll-Term (Term-F.Element at (t.1 i) (terms-back ts i))
  term-back (Term-F.Fields at t fs) = λ i. roll-Term (Term-F.Fields at (t.1 i) fs)
  term-back (Term-F.Record at ts) = λ i. roll-Term (Term-F.Record at (terms-back ts i))
  term-back (Term-F.Listed at ts) = λ i. roll-Term (Term-F.Listed at (terms-back ts i))
  term-back (Term-F.Described at t gs None) = λ i. roll-Term (Term-F.Described at (t.1 i) (groups-back gs i) None)
  term-back (Term-F.Described at t gs (Some c)) = λ i. roll-Term (Term-F.Described at (t.1 i) (groups-back gs i) (Some (c.1 i)))
  term-back (Term-F.Array at ts) = λ i. roll-Term (Term-F.Array at (terms-back ts i))
  term-back (Term-F.KeyedArray at ts us) = λ i. roll-Term (Term-F.KeyedArray at (terms-back ts i) (terms-back us i))

  step-back : (y : Step-F InGroup InSet InStep InTerm) → step_again items names (step_parts (step_inner y)) ≡ roll-Step (step_inner y)
  step-back (Step-F.Plus t) = λ i. roll-Step (Step-F.Plus (t.1 i))
  step-back (Step-F.Minus t) = λ i. roll-Step (Step-F.Minus (t.1 i))
  step-back (Step-F.Times t) = λ i. roll-Step (Step-F.Times (t.1 i))
  step-back (Step-F.Quotient t) = λ i. roll-Step (Step-F.Quotient (t.1 i))
  step-back (Step-F.Remainder t) = λ i. roll-Step (Step-F.Remainder (t.1 i))

  set-back : (y : SetTerm-F InGroup InSet InStep InTerm) → set_again items names (map-SetTerm GroupTerm SetTerm Step Term GroupTerm SetTerm StepPart Part part_group part_set (step_part items names) (part_of items names) (set_inner y)) ≡ roll-SetTerm (set_inner y)
  set-back (SetTerm-F.Whole t) = λ i. roll-SetTerm (SetTerm-F.Whole (t.1 i))
  set-back (SetTerm-F.Between t u) = λ i. roll-SetTerm (SetTerm-F.Between (t.1 i) (u.1 i))

  group-back : (y : GroupTerm-F InGroup InSet InStep InTerm) → group_again items names (map-GroupTerm GroupTerm SetTerm Step Term GroupTerm SetTerm StepPart Part part_group part_set (step_part items names) (part_of items names) (group_inner y)) ≡ roll-GroupTerm (group_inner y)
  group-back (GroupTerm-F.Unordered ps s) = λ i. roll-GroupTerm (GroupTerm-F.Unordered ps (s.1 i))
  group-back (GroupTerm-F.Ordered ps s) = λ i. roll-GroupTerm (GroupTerm-F.Ordered ps (s.1 i))

  pub part_group_is : (t : GroupTerm) → part_group t ≡ t
  part_group_is = ind-GroupTerm (λ t. part_group t ≡ t) (λ t. part_set t ≡ t) (λ t. (step_part items names t).step ≡ t) (λ t. (part_of items names t).term ≡ t)
      (λ x y is. group-roll x ∙ subst (λ z. group_again items names (map-GroupTerm GroupTerm SetTerm Step Term GroupTerm SetTerm StepPart Part part_group part_set (step_part items names) (part_of items names) z) ≡ roll-GroupTerm z) is (group-back y))
      (λ x y is. set-roll x ∙ subst (λ z. set_again items names (map-SetTerm GroupTerm SetTerm Step Term GroupTerm SetTerm StepPart Part part_group part_set (step_part items names) (part_of items names) z) ≡ roll-SetTerm z) is (set-back y))
      (λ x y is. ap (λ s. s.step) (step-roll x) ∙ subst (λ z. step_again items names (step_parts z) ≡ roll-Step z) is (step-back y))
      (λ x y is. ap (λ p. p.term) (part-roll x) ∙ subst (λ z. again items names (parts_of z) ≡ roll-Term z) is (term-back y))

  pub part_term : (t : Term) → (part_of items names t).term ≡ t
  part_term = ind-Term (λ t. part_group t ≡ t) (λ t. part_set t ≡ t) (λ t. (step_part items names t).step ≡ t) (λ t. (part_of items names t).term ≡ t)
      (λ x y is. group-roll x ∙ subst (λ z. group_again items names (map-GroupTerm GroupTerm SetTerm Step Term GroupTerm SetTerm StepPart Part part_group part_set (step_part items names) (part_of items names) z) ≡ roll-GroupTerm z) is (group-back y))
      (λ x y is. set-roll x ∙ subst (λ z. set_again items names (map-SetTerm GroupTerm SetTerm Step Term GroupTerm SetTerm StepPart Part part_group part_set (step_part items names) (part_of items names) z) ≡ roll-SetTerm z) is (set-back y))
      (λ x y is. ap (λ s. s.step) (step-roll x) ∙ subst (λ z. step_again items names (step_parts z) ≡ roll-Step z) is (step-back y))
      (λ x y is. ap (λ p. p.term) (part-roll x) ∙ subst (λ z. again items names (parts_of z) ≡ roll-Term z) is (term-back y))

  -- a part by its form
  pub part-form : (x : Term-F GroupTerm SetTerm Step Term) → part_of items names (roll-Term x) ≡ part_with items names (is_mentioned items names (roll-Term x)) (roll-Term x) (parts_of x)
  part-form x =
      let same : again items names (parts_of x) ≡ roll-Term x = ap (λ p. p.term) (sym (part-roll x)) ∙ part_term (roll-Term x) in
      part-roll x ∙ ap (λ t. part_with items names (is_mentioned items names t) t (parts_of x)) same
