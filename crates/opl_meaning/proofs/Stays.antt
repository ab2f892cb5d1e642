-- What names none of certain names comes to the same in environments that agree on all others.
use Rattle.std.proofs.Common.{◌≡◌, ◌||◌, Bool, false, cond, not, List, [], ◌∷◌, ◌++◌, map, None, Some, Ok, refl, sym, ap, subst, ◌∙◌}
use Rattle.std.specs.List.{list_all, list_any}
use Rattle.std.proofs.lemmas.Bool.{or_parts}
use Rattle.opl_term.specs.declared.term.GroupTerm.{GroupTerm}
use Rattle.opl_term.specs.declared.term.GroupTerm.TheOpen.{GroupTerm-F, SetTerm-F, Step-F, Term-F}
use Rattle.opl_term.specs.declared.term.GroupTerm.TheFolds.{fold-roll-GroupTerm, fold-roll-SetTerm, fold-roll-Step, fold-roll-Term, map-GroupTerm, map-SetTerm, map-Step, map-Term, ind-GroupTerm, ind-Term}
use Rattle.opl_term.specs.declared.term.GroupTerm.TheViews.{roll-GroupTerm, roll-SetTerm, roll-Step, roll-Term}
use Rattle.opl_term.specs.declared.term.SetTerm.{SetTerm}
use Rattle.opl_term.specs.declared.term.Step.{Step}
use Rattle.opl_term.specs.declared.term.Term.{Term}
use Rattle.opl_value.specs.declared.value.Value.{Value}
use Rattle.opl_value.specs.declared.value.Value.TheVariants as values
use Rattle.opl_value.specs.declared.value.Dimension.TheViews.{out-Value}
use Rattle.opl_value.specs.Sets.{first_occurrences}
use Rattle.opl_eval.specs.declared.arithmetic.Operation.{Operation}
use Rattle.opl_eval.specs.declared.arithmetic.Operation.TheVariants as operations
use Rattle.opl_eval.specs.Arithmetic.{then, run, negative}
use Rattle.opl_eval.specs.Compare.{number, relates, is_member}
use Rattle.opl_eval.specs.Evaluation.{Environment, Found, Group, Meaning, Parameter, aggregate, all, bodies, body_where, called, choices, declaration_of, different_layer, element, elements, equivalent, found, gathered, integer, is_true, item_named, latest_or, parameter_or, part_at, truth, unhidden, value_named, values_of, visible, visited, with_parameters, meaning, step_meaning, set_meaning, group_meaning, item_layer, value_layer, term_layer, step_layer, set_layer, group_layer}
use Rattle.opl_meaning.specs.Runs.{Names, Text, Use, any, any_mentioned, group_use, is_among, set_use, step_use, use_of, term_mentions, step_mentions, set_mentions, group_mentions}
use Rattle.opl_meaning.proofs.Uses.{use_of-roll, step_use-roll, set_use-roll, group_use-roll}

-- the same parameters and positions, and the same items of all names but these
pub record Agree (names : List Text) (a b : Environment) : Type 0 where
  pub parameters : a.parameters ≡ b.parameters
  pub position : a.position ≡ b.position
  pub items : (name : Text) → is_among names name ≡ false → latest_or None name a.items ≡ latest_or None name b.items

-- environments that agree do so with further parameters
agree-more : (names : List Text) (ps : List Parameter) (a b : Environment) → Agree names a b → Agree names (with_parameters ps a) (with_parameters ps b)
agree-more names ps a b g = record { parameters = λ i. g.parameters i ++ ps; position = g.position; items = g.items }

value-agrees : (names : List Text) (name : Text) (a b : Environment) → is_among names name ≡ false → Agree names a b → value_named name a ≡ value_named name b
unfolding value_named
value-agrees names name a b h g = λ i. visible (parameter_or None name (g.parameters i)) (g.items name h i)

item-agrees : (names : List Text) (name : Text) (a b : Environment) → is_among names name ≡ false → Agree names a b → item_named name a ≡ item_named name b
unfolding item_named
item-agrees names name a b h g = λ i. unhidden (parameter_or None name (g.parameters i)) (g.items name h i)

-- ---- one layer of each kind of term

abbrev pub meanings_of : Term-F GroupTerm SetTerm Step Term → Term-F Group Meaning (Environment → Found Operation) Meaning
meanings_of = map-Term GroupTerm SetTerm Step Term Group Meaning (Environment → Found Operation) Meaning group_meaning set_meaning step_meaning meaning

abbrev pub step_meanings : Step-F GroupTerm SetTerm Step Term → Step-F Group Meaning (Environment → Found Operation) Meaning
step_meanings = map-Step GroupTerm SetTerm Step Term Group Meaning (Environment → Found Operation) Meaning group_meaning set_meaning step_meaning meaning

abbrev set_meanings : SetTerm-F GroupTerm SetTerm Step Term → SetTerm-F Group Meaning (Environment → Found Operation) Meaning
set_meanings = map-SetTerm GroupTerm SetTerm Step Term Group Meaning (Environment → Found Operation) Meaning group_meaning set_meaning step_meaning meaning

abbrev group_meanings : GroupTerm-F GroupTerm SetTerm Step Term → GroupTerm-F Group Meaning (Environment → Found Operation) Meaning
group_meanings = map-GroupTerm GroupTerm SetTerm Step Term Group Meaning (Environment → Found Operation) Meaning group_meaning set_meaning step_meaning meaning

pub meaning-roll : (x : Term-F GroupTerm SetTerm Step Term) → meaning (roll-Term x) ≡ term_layer (meanings_of x)
unfolding meaning step_meaning set_meaning group_meaning
meaning-roll x = fold-roll-Term Group Meaning (Environment → Found Operation) Meaning group_layer set_layer step_layer term_layer x

pub step_meaning-roll : (x : Step-F GroupTerm SetTerm Step Term) → step_meaning (roll-Step x) ≡ step_layer (step_meanings x)
unfolding meaning step_meaning set_meaning group_meaning
step_meaning-roll x = fold-roll-Step Group Meaning (Environment → Found Operation) Meaning group_layer set_layer step_layer term_layer x

set_meaning-roll : (x : SetTerm-F GroupTerm SetTerm Step Term) → set_meaning (roll-SetTerm x) ≡ set_layer (set_meanings x)
unfolding meaning step_meaning set_meaning group_meaning
set_meaning-roll x = fold-roll-SetTerm Group Meaning (Environment → Found Operation) Meaning group_layer set_layer step_layer term_layer x

group_meaning-roll : (x : GroupTerm-F GroupTerm SetTerm Step Term) → group_meaning (roll-GroupTerm x) ≡ group_layer (group_meanings x)
unfolding meaning step_meaning set_meaning group_meaning
group_meaning-roll x = fold-roll-GroupTerm Group Meaning (Environment → Found Operation) Meaning group_layer set_layer step_layer term_layer x

module _ (names : Names) where
  abbrev pub uses_of : Term-F GroupTerm SetTerm Step Term → Term-F Bool Bool Bool Use
  uses_of = map-Term GroupTerm SetTerm Step Term Bool Bool Bool Use (group_use names) (set_use names) (step_use names) (use_of names)

  abbrev step_uses : Step-F GroupTerm SetTerm Step Term → Step-F Bool Bool Bool Use
  step_uses = map-Step GroupTerm SetTerm Step Term Bool Bool Bool Use (group_use names) (set_use names) (step_use names) (use_of names)

  abbrev set_uses : SetTerm-F GroupTerm SetTerm Step Term → SetTerm-F Bool Bool Bool Use
  set_uses = map-SetTerm GroupTerm SetTerm Step Term Bool Bool Bool Use (group_use names) (set_use names) (step_use names) (use_of names)

  abbrev group_uses : GroupTerm-F GroupTerm SetTerm Step Term → GroupTerm-F Bool Bool Bool Use
  group_uses = map-GroupTerm GroupTerm SetTerm Step Term Bool Bool Bool Use (group_use names) (set_use names) (step_use names) (use_of names)

  -- ---- what stays

  -- what is the same in all environments that agree
  abbrev pub Stays : Meaning → Type 0
  Stays m = (a b : Environment) → Agree names.all a b → (m.value a ≡ m.value b) × (m.item a ≡ m.item b)

  abbrev pub TermStays : Term → Type 0
  TermStays t = (use_of names t).is_mentioned ≡ false → Stays (meaning t)

  abbrev SetStays : SetTerm → Type 0
  SetStays s = set_use names s ≡ false → Stays (set_meaning s)

  abbrev pub GroupStays : GroupTerm → Type 0
  GroupStays g = group_use names g ≡ false → Stays (group_meaning g).over

  abbrev OperationStays : (Environment → Found Operation) → Type 0
  OperationStays o = (a b : Environment) → Agree names.all a b → o a ≡ o b

  abbrev StepStays : Step → Type 0
  StepStays s = step_use names s ≡ false → OperationStays (step_meaning s)

  abbrev InGroup : Type 0
  InGroup = (t : GroupTerm) × GroupStays t

  abbrev InSet : Type 0
  InSet = (t : SetTerm) × SetStays t

  abbrev InStep : Type 0
  InStep = (t : Step) × StepStays t

  abbrev InTerm : Type 0
  InTerm = (t : Term) × TermStays t

  abbrev term_inner : Term-F InGroup InSet InStep InTerm → Term-F GroupTerm SetTerm Step Term
  term_inner = map-Term InGroup InSet InStep InTerm GroupTerm SetTerm Step Term (λ e. e.0) (λ e. e.0) (λ e. e.0) (λ e. e.0)

  abbrev step_inner : Step-F InGroup InSet InStep InTerm → Step-F GroupTerm SetTerm Step Term
  step_inner = map-Step InGroup InSet InStep InTerm GroupTerm SetTerm Step Term (λ e. e.0) (λ e. e.0) (λ e. e.0) (λ e. e.0)

  abbrev set_inner : SetTerm-F InGroup InSet InStep InTerm → SetTerm-F GroupTerm SetTerm Step Term
  set_inner = map-SetTerm InGroup InSet InStep InTerm GroupTerm SetTerm Step Term (λ e. e.0) (λ e. e.0) (λ e. e.0) (λ e. e.0)

  abbrev group_inner : GroupTerm-F InGroup InSet InStep InTerm → GroupTerm-F GroupTerm SetTerm Step Term
  group_inner = map-GroupTerm InGroup InSet InStep InTerm GroupTerm SetTerm Step Term (λ e. e.0) (λ e. e.0) (λ e. e.0) (λ e. e.0)

  -- ---- lists of parts

  values-stay : (es : List InTerm) → any_mentioned (map (use_of names) (map (λ e. e.0) es)) ≡ false → (a b : Environment) → Agree names.all a b →
      values_of (map meaning (map (λ e. e.0) es)) a ≡ values_of (map meaning (map (λ e. e.0) es)) b
  values-stay [] h a b g = refl
  values-stay (e ∷ es) h a b g =
      let p = or_parts (use_of names e.0).is_mentioned (any_mentioned (map (use_of names) (map (λ e. e.0) es))) h in
      λ i. then ((e.1 p.0 a b g).0 i) (λ x. found (λ xs. x ∷ xs) (values-stay es p.1 a b g i))

  steps-stay : (es : List InStep) → any (map (step_use names) (map (λ e. e.0) es)) ≡ false → (a b : Environment) → Agree names.all a b →
      all (map (λ s. s a) (map step_meaning (map (λ e. e.0) es))) ≡ all (map (λ s. s b) (map step_meaning (map (λ e. e.0) es)))
  steps-stay [] h a b g = refl
  steps-stay (e ∷ es) h a b g =
      let p = or_parts (step_use names e.0) (any (map (step_use names) (map (λ e. e.0) es))) h in
      λ i. then (e.1 p.0 a b g i) (λ x. found (λ xs. x ∷ xs) (steps-stay es p.1 a b g i))

  visited-stays : (es : List InGroup) (inner : Environment → Found (List Value)) → any (map (group_use names) (map (λ e. e.0) es)) ≡ false →
      ((a b : Environment) → Agree names.all a b → inner a ≡ inner b) → (a b : Environment) → Agree names.all a b →
      visited (map group_meaning (map (λ e. e.0) es)) inner a ≡ visited (map group_meaning (map (λ e. e.0) es)) inner b
  visited-stays [] inner h k a b g = k a b g
  visited-stays (e ∷ es) inner h k a b g =
      let p = or_parts (group_use names e.0) (any (map (group_use names) (map (λ e. e.0) es))) h in
      let q = e.1 p.0 a b g in
      λ i. then (q.0 i) (λ v. gathered (map (λ ps. visited-stays es inner p.1 k (with_parameters ps a) (with_parameters ps b) (agree-more names.all ps a b g) i)
      (choices (group_meaning e.0) (elements (declaration_of (q.1 i)) v))))

  body-stays : (t : InTerm) → (use_of names t.0).is_mentioned ≡ false → (a b : Environment) → Agree names.all a b →
      body_where None (meaning t.0) a ≡ body_where None (meaning t.0) b
  body-stays t h a b g = λ i. found (λ v. v ∷ []) ((t.1 h a b g).0 i)

  where-stays : (c t : InTerm) → (use_of names c.0).is_mentioned ≡ false → (use_of names t.0).is_mentioned ≡ false → (a b : Environment) → Agree names.all a b →
      body_where (Some (meaning c.0)) (meaning t.0) a ≡ body_where (Some (meaning c.0)) (meaning t.0) b
  where-stays c t h k a b g =
      λ i. then ((c.1 h a b g).0 i) (λ holds. cond (is_true holds) (found (λ v. v ∷ []) ((t.1 k a b g).0 i)) (Ok []))

  bodies-stay : (es : List InGroup) (t : InTerm) → any (map (group_use names) (map (λ e. e.0) es)) ≡ false → (use_of names t.0).is_mentioned ≡ false →
      (a b : Environment) → Agree names.all a b →
      bodies (map group_meaning (map (λ e. e.0) es)) None (meaning t.0) a ≡ bodies (map group_meaning (map (λ e. e.0) es)) None (meaning t.0) b
  bodies-stay es t h k = visited-stays es (body_where None (meaning t.0)) h (body-stays t k)

  bodies_where-stay : (es : List InGroup) (c t : InTerm) → any (map (group_use names) (map (λ e. e.0) es)) ≡ false →
      (use_of names c.0).is_mentioned ≡ false → (use_of names t.0).is_mentioned ≡ false → (a b : Environment) → Agree names.all a b →
      bodies (map group_meaning (map (λ e. e.0) es)) (Some (meaning c.0)) (meaning t.0) a ≡ bodies (map group_meaning (map (λ e. e.0) es)) (Some (meaning c.0)) (meaning t.0) b
  bodies_where-stay es c t h j k = visited-stays es (body_where (Some (meaning c.0)) (meaning t.0)) h (where-stays c t j k)

  -- ---- each form

  value-stays : (y : Term-F InGroup InSet InStep InTerm) → term_mentions names.all (uses_of (term_inner y)) ≡ false → (a b : Environment) → Agree names.all a b →
      value_layer (meanings_of (term_inner y)) a ≡ value_layer (meanings_of (term_inner y)) b
  value-stays (Term-F.Number at n) h a b g = refl
  value-stays (Term-F.Named at name) h a b g = λ i. Ok (value-agrees names.all name a b h g i)
  value-stays (Term-F.Bracket at t) h a b g = (t.1 h a b g).0
  value-stays (Term-F.Negative at t) h a b g = λ i. then ((t.1 h a b g).0 i) (λ v. integer (negative at (number v)))
  value-stays (Term-F.Chain at t ss) h a b g =
      let p = or_parts (use_of names t.0).is_mentioned (any (map (step_use names) (map (λ e. e.0) ss))) h in
      λ i. then ((t.1 p.0 a b g).0 i) (λ v. then (steps-stay ss p.1 a b g i) (λ os. integer (run at (number v) os)))
  value-stays (Term-F.Related at t r u) h a b g =
      let p = or_parts (use_of names t.0).is_mentioned (use_of names u.0).is_mentioned h in
      λ i. then ((t.1 p.0 a b g).0 i) (λ v. then ((u.1 p.1 a b g).0 i) (λ w. Ok (values.Bool (relates r v w))))
  value-stays (Term-F.Member at t s) h a b g =
      let p = or_parts (use_of names t.0).is_mentioned (set_use names s.0) h in
      λ i. then ((t.1 p.0 a b g).0 i) (λ v. then ((s.1 p.1 a b g).0 i) (λ w. Ok (values.Bool (is_member v w))))
  value-stays (Term-F.Equivalent at ts) h a b g = λ i. truth (found equivalent (values-stay ts h a b g i))
  value-stays (Term-F.Implied at t u) h a b g =
      let p = or_parts (use_of names t.0).is_mentioned (use_of names u.0).is_mentioned h in
      λ i. then ((t.1 p.0 a b g).0 i) (λ v. then ((u.1 p.1 a b g).0 i) (λ w. Ok (values.Bool (not (is_true v) || is_true w))))
  value-stays (Term-F.Or at ts) h a b g = λ i. truth (found (list_any is_true) (values-stay ts h a b g i))
  value-stays (Term-F.And at ts) h a b g = λ i. truth (found (list_all is_true) (values-stay ts h a b g i))
  value-stays (Term-F.Not at t) h a b g = λ i. found (λ v. values.Bool (not (is_true v))) ((t.1 h a b g).0 i)
  value-stays (Term-F.Aggregate at op gs None t) h a b g =
      let p = or_parts (any (map (group_use names) (map (λ e. e.0) gs)) || false) (use_of names t.0).is_mentioned h in
      let q = or_parts (any (map (group_use names) (map (λ e. e.0) gs))) false p.0 in
      λ i. then (bodies-stay gs t q.0 p.1 a b g i) (λ vs. integer (aggregate op at (map number vs)))
  value-stays (Term-F.Aggregate at op gs (Some c) t) h a b g =
      let p = or_parts (any (map (group_use names) (map (λ e. e.0) gs)) || (use_of names c.0).is_mentioned) (use_of names t.0).is_mentioned h in
      let q = or_parts (any (map (group_use names) (map (λ e. e.0) gs))) (use_of names c.0).is_mentioned p.0 in
      λ i. then (bodies_where-stay gs c t q.0 q.1 p.1 a b g i) (λ vs. integer (aggregate op at (map number vs)))
  value-stays (Term-F.Call at op t) h a b g = λ i. then ((t.1 h a b g).0 i) (λ v. integer (called op at v))
  value-stays (Term-F.AllDifferent at t) h a b g = λ i. found (λ v. values.Bool (different_layer (out-Value v))) ((t.1 h a b g).0 i)
  value-stays (Term-F.Question at op t) h a b g = refl
  value-stays (Term-F.Element at t ts) h a b g =
      let p = or_parts (use_of names t.0).is_mentioned (any_mentioned (map (use_of names) (map (λ e. e.0) ts))) h in
      λ i. then (values-stay ts p.1 a b g i) (λ key. element at key ((t.1 p.0 a b g).1 i))
  value-stays (Term-F.Fields at t fs) h a b g = λ i. found (λ v. part_at (g.position i) v fs) ((t.1 h a b g).0 i)
  value-stays (Term-F.Record at ts) h a b g = λ i. found values.Record (values-stay ts h a b g i)
  value-stays (Term-F.Listed at ts) h a b g = λ i. found (λ vs. values.Set (first_occurrences vs)) (values-stay ts h a b g i)
  value-stays (Term-F.Described at t gs None) h a b g =
      let p = or_parts ((use_of names t.0).is_mentioned || any (map (group_use names) (map (λ e. e.0) gs))) false h in
      let q = or_parts (use_of names t.0).is_mentioned (any (map (group_use names) (map (λ e. e.0) gs))) p.0 in
      λ i. found (λ vs. values.Set (first_occurrences vs)) (bodies-stay gs t q.1 q.0 a b g i)
  value-stays (Term-F.Described at t gs (Some c)) h a b g =
      let p = or_parts ((use_of names t.0).is_mentioned || any (map (group_use names) (map (λ e. e.0) gs))) (use_of names c.0).is_mentioned h in
      let q = or_parts (use_of names t.0).is_mentioned (any (map (group_use names) (map (λ e. e.0) gs))) p.0 in
      λ i. found (λ vs. values.Set (first_occurrences vs)) (bodies_where-stay gs c t q.1 p.1 q.0 a b g i)
  value-stays (Term-F.Array at ts) h a b g = refl
  value-stays (Term-F.KeyedArray at ts us) h a b g = refl

  item-stays : (y : Term-F InGroup InSet InStep InTerm) → term_mentions names.all (uses_of (term_inner y)) ≡ false → (a b : Environment) → Agree names.all a b →
      item_layer (meanings_of (term_inner y)) a ≡ item_layer (meanings_of (term_inner y)) b
  item-stays (Term-F.Named at name) h a b g = item-agrees names.all name a b h g
  item-stays (Term-F.Bracket at t) h a b g = (t.1 h a b g).1
  item-stays (Term-F.Aggregate at op gs None t) h a b g = refl
  item-stays (Term-F.Aggregate at op gs (Some c) t) h a b g = refl
  item-stays (Term-F.Described at t gs None) h a b g = refl
  item-stays (Term-F.Described at t gs (Some c)) h a b g = refl
  item-stays y h a b g = refl

  step-stays : (y : Step-F InGroup InSet InStep InTerm) → step_mentions (step_uses (step_inner y)) ≡ false → OperationStays (step_layer (step_meanings (step_inner y)))
  step-stays (Step-F.Plus t) h a b g = λ i. found (λ v. operations.Plus (number v)) ((t.1 h a b g).0 i)
  step-stays (Step-F.Minus t) h a b g = λ i. found (λ v. operations.Minus (number v)) ((t.1 h a b g).0 i)
  step-stays (Step-F.Times t) h a b g = λ i. found (λ v. operations.Times (number v)) ((t.1 h a b g).0 i)
  step-stays (Step-F.Quotient t) h a b g = λ i. found (λ v. operations.Quotient (number v)) ((t.1 h a b g).0 i)
  step-stays (Step-F.Remainder t) h a b g = λ i. found (λ v. operations.Remainder (number v)) ((t.1 h a b g).0 i)

  set-stays : (y : SetTerm-F InGroup InSet InStep InTerm) → set_mentions (set_uses (set_inner y)) ≡ false → Stays (set_layer (set_meanings (set_inner y)))
  set-stays (SetTerm-F.Whole t) h a b g = t.1 h a b g
  set-stays (SetTerm-F.Between t u) h a b g =
      let p = or_parts (use_of names t.0).is_mentioned (use_of names u.0).is_mentioned h in
      (λ i. then ((t.1 p.0 a b g).0 i) (λ l. then ((u.1 p.1 a b g).0 i) (λ h. Ok (values.Range (number l) (number h)))), refl)

  group-stays : (y : GroupTerm-F InGroup InSet InStep InTerm) → group_mentions (group_uses (group_inner y)) ≡ false → Stays (group_layer (group_meanings (group_inner y))).over
  group-stays (GroupTerm-F.Unordered ps s) h = s.1 h
  group-stays (GroupTerm-F.Ordered ps s) h = s.1 h

  -- a term comes to the same where none of the names is named in it
  pub term_stays : (t : Term) → TermStays t
  term_stays = ind-Term GroupStays SetStays StepStays TermStays
      (λ x y is h. subst (λ m. Stays m.over) (sym (group_meaning-roll x))
      (subst (λ z. group_mentions (group_uses z) ≡ false → Stays (group_layer (group_meanings z)).over) is (group-stays y) (sym (group_use-roll names x) ∙ h)))
      (λ x y is h. subst Stays (sym (set_meaning-roll x))
      (subst (λ z. set_mentions (set_uses z) ≡ false → Stays (set_layer (set_meanings z))) is (set-stays y) (sym (set_use-roll names x) ∙ h)))
      (λ x y is h. subst OperationStays (sym (step_meaning-roll x))
      (subst (λ z. step_mentions (step_uses z) ≡ false → OperationStays (step_layer (step_meanings z))) is (step-stays y) (sym (step_use-roll names x) ∙ h)))
      (λ x y is h. subst Stays (sym (meaning-roll x))
      (subst (λ z. term_mentions names.all (uses_of z) ≡ false → Stays (term_layer (meanings_of z))) is (λ k a b g. (value-stays y k a b g, item-stays y k a b g)) (ap (λ u. u.is_mentioned) (sym (use_of-roll names x)) ∙ h)))

  -- the set of a group likewise
  pub group_stays : (g : GroupTerm) → GroupStays g
  group_stays = ind-GroupTerm GroupStays SetStays StepStays TermStays
      (λ x y is h. subst (λ m. Stays m.over) (sym (group_meaning-roll x))
      (subst (λ z. group_mentions (group_uses z) ≡ false → Stays (group_layer (group_meanings z)).over) is (group-stays y) (sym (group_use-roll names x) ∙ h)))
      (λ x y is h. subst Stays (sym (set_meaning-roll x))
      (subst (λ z. set_mentions (set_uses z) ≡ false → Stays (set_layer (set_meanings z))) is (set-stays y) (sym (set_use-roll names x) ∙ h)))
      (λ x y is h. subst OperationStays (sym (step_meaning-roll x))
      (subst (λ z. step_mentions (step_uses z) ≡ false → OperationStays (step_layer (step_meanings z))) is (step-stays y) (sym (step_use-roll names x) ∙ h)))
      (λ x y is h. subst Stays (sym (meaning-roll x))
      (subst (λ z. term_mentions names.all (uses_of z) ≡ false → Stays (term_layer (meanings_of z))) is (λ k a b g. (value-stays y k a b g, item-stays y k a b g)) (ap (λ u. u.is_mentioned) (sym (use_of-roll names x)) ∙ h)))
