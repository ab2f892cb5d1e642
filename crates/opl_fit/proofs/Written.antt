-- The numbers in values that the model itself gives lie within the ranges of their types.
use Rattle.std.proofs.Common.{◌≡◌, ◌&&◌, ℕ, suc, zero, Bool, true, List, [], ◌∷◌, ◌++◌, length, map, set, Option, None, Some, Ok, Err, refl, sym, ap, subst, ◌∙◌, append_assoc, append-nil}
use Rattle.std.specs.Prelude.{nat_eq}
use Rattle.std.specs.List.{AllByRecursion, list_all, list_any}
use Rattle.opl_tree.specs.declared.declaration.DimTree.{DimTree}
use Rattle.opl_term.specs.declared.term.GroupTerm.{GroupTerm}
use Rattle.opl_term.specs.declared.term.GroupTerm.TheOpen.{Term-F}
use Rattle.opl_term.specs.declared.term.GroupTerm.TheFolds.{fold-GroupTerm, fold-SetTerm, fold-Step, fold-Term, fold-roll-Term, ind-Term, map-Term}
use Rattle.opl_term.specs.declared.term.GroupTerm.TheViews.{roll-Term}
use Rattle.opl_term.specs.declared.term.SetTerm.{SetTerm}
use Rattle.opl_term.specs.declared.term.Step.{Step}
use Rattle.opl_term.specs.declared.term.Term.{Term}
use Rattle.opl_value.specs.declared.value.Value.{Value}
use Rattle.opl_value.specs.declared.value.Value.TheVariants as values
use Rattle.opl_value.specs.declared.value.Dimension.{Dimension}
use Rattle.opl_value.specs.declared.value.IndexSpace.{IndexSpace}
use Rattle.opl_value.specs.declared.value.Dimension.TheOpen.{Value-F}
use Rattle.opl_value.specs.declared.value.Dimension.TheViews.{out-Value}
use Rattle.opl_value.specs.Places.{lists, place_in, value_at}
use Rattle.opl_value.specs.Sets.{first_occurrences}
use Rattle.opl_eval.specs.Evaluation.{Environment, Group, Meaning}
use Rattle.opl_given.specs.declared.fault.BindFault.{BindFault}
use Rattle.opl_given.specs.declared.fault.BindFault.TheVariants as faults
use Rattle.opl_given.specs.declared.form.Form.{Form}
use Rattle.opl_given.specs.Arrays.{Axis, is_free, values_of}
use Rattle.opl_bind.specs.Dimensions.{evaluated}
use Rattle.opl_given.specs.Faults.{Bound, then}
use Rattle.opl_given.specs.Forms.{Known}
use Rattle.opl_given.specs.Inside.{each_inside, elements_inside, is_inside, parts_inside}
use Rattle.opl_given.specs.Values.{all_by_form, each_by_form, element_of, parts_of, set_of}
use Rattle.opl_bind.specs.Written.{Fit, Run, Written, cells_by_form, cells_layer, each_cell, fit_layer, free_slots, gathered, group_means, has_name, laid, listed_cells, opened, over, places_among, record_parts, set_means, term_means, at_layer, set_parts, slot_at, step_means, taken_cells, taken_layer, tested, under, whole, with_name, with_slot, written, written_cells, written_layer, written_value}
use Rattle.opl_given.proofs.CellLaws.{passed, same_ok, went, went_first}
use Rattle.opl_given.proofs.Insides.{is_inside-Record, is_inside-Set}
use Rattle.opl_bind.proofs.WrittenLengths.{either}
use Rattle.opl_fit.proofs.Given.{all-new, and_left, and_right}

-- ---- lists

pub all-joined : {A : Type 0} (P : A → Type 0) (xs ys : List A) → AllByRecursion P xs → AllByRecursion P ys → AllByRecursion P (xs ++ ys)
all-joined P [] ys h k = k
all-joined P (x ∷ xs) ys h k = (h.0, all-joined P xs ys h.1 k)

pub all-set : {A : Type 0} (P : A → Type 0) (xs : List A) (p : ℕ) (x : A) → AllByRecursion P xs → P x → AllByRecursion P (set xs p x)
all-set P [] p x h k = tt
all-set P (y ∷ xs) zero x h k = (k, h.1)
all-set P (y ∷ xs) (suc p) x h k = (h.0, all-set P xs p x h.1 k)

both : (a b : Bool) → a ≡ true → b ≡ true → (a && b) ≡ true
both a b p q = ap (λ x. x && b) p ∙ q

module _ (known : Known) where
  -- the numbers in a value lie within the ranges of a form
  abbrev pub Within : Form → Value → Type 0
  Within form v = is_inside known v form ≡ true

  abbrev Stays : (Form → Bound Value) → Type 0
  Stays e = (form : Form) (v : Value) → e form ≡ Ok v → Within form v

  abbrev FitStays : Fit → Type 0
  FitStays fit = (form : Form) (env : Environment) (v : Value) → fit form env ≡ Ok v → Within form v

  -- ---- one value

  whole-stays : (at : ℕ) (m : Meaning) → FitStays (whole known at m)
  whole-stays at m form env v h =
      let w = went (evaluated (m.value env)) _ v h in
      let p = passed (is_inside known w.0 form) (Ok w.0) (faults.Outside 0 at) v w.1 in
      subst (Within form) (same_ok w.0 v p.1) p.0

  each-stays : (before : List Value) (ps : List (Form → Bound Value)) (fs : List Form) (vs : List Value) → AllByRecursion Stays ps → each_by_form before ps fs ≡ Ok vs →
      (rest : List Value) × (vs ≡ before ++ rest) × (each_inside (map (is_inside known) rest) fs ≡ true)
  each-stays before [] fs vs s h = ([], sym (same_ok before vs h) ∙ sym (append-nil before), refl)
  each-stays before (p ∷ ps) [] vs s h = ([], sym (same_ok before vs h) ∙ sym (append-nil before), refl)
  each-stays before (p ∷ ps) (f ∷ fs) vs s h =
      let w = went_first (p f) (λ v. each_by_form (before ++ v ∷ []) ps fs) vs h in
      let r = each-stays (before ++ w.0 ∷ []) ps fs vs s.1 w.2 in
      (w.0 ∷ r.0, r.1 ∙ append_assoc before (w.0 ∷ []) r.0, both (is_inside known w.0 f) (each_inside (map (is_inside known) r.0) fs) (s.0 f w.0 w.1) r.2)

  all-stay : (before : List Value) (es : List (Form → Bound Value)) (form : Form) (vs : List Value) → AllByRecursion Stays es → all_by_form before es form ≡ Ok vs →
      (rest : List Value) × (vs ≡ before ++ rest) × AllByRecursion (Within form) rest
  all-stay before [] form vs s h = ([], sym (same_ok before vs h) ∙ sym (append-nil before), tt)
  all-stay before (e ∷ es) form vs s h =
      let w = went_first (e form) (λ v. all_by_form (before ++ v ∷ []) es form) vs h in
      let r = all-stay (before ++ w.0 ∷ []) es form vs s.1 w.2 in
      (w.0 ∷ r.0, r.1 ∙ append_assoc before (w.0 ∷ []) r.0, (s.0 form w.0 w.1, r.2))

  to_test : (form : Form) (vs : List Value) → AllByRecursion (Within form) vs → list_all (λ e. e form) (map (is_inside known) vs) ≡ true
  to_test form [] h = refl
  to_test form (v ∷ vs) h = both (is_inside known v form) (list_all (λ e. e form) (map (is_inside known) vs)) h.0 (to_test form vs h.1)

  from_test : (form : Form) (vs : List Value) → list_all (λ v. is_inside known v form) vs ≡ true → AllByRecursion (Within form) vs
  from_test form [] h = tt
  from_test form (v ∷ vs) h =
      (and_left (is_inside known v form) (list_all (λ w. is_inside known w form) vs) h, from_test form vs (and_right (is_inside known v form) (list_all (λ w. is_inside known w form) vs) h))

  -- ---- an expression: its value, and its cells

  record Good (w : Written) : Type 0 where
    fit : FitStays w.fit
    cells : (wrong : BindFault) (axes : List Axis) (env : Environment) (fits : List Fit) → w.cells wrong axes env ≡ Ok fits → AllByRecursion FitStays fits

  under-stay : (env : Environment) (ts : List Written) → AllByRecursion Good ts → AllByRecursion Stays (under env ts)
  under-stay env [] g = tt
  under-stay env (t ∷ ts) g = ((λ form v h. g.0.fit form env v h), under-stay env ts g.1)

  record-stays : (at : ℕ) (m : Meaning) (ts : List Written) (o : Option (List Form)) (form : Form) (env : Environment) (v : Value) → AllByRecursion Good ts → parts_of known form ≡ o →
      record_parts known at m ts o form env ≡ Ok v → Within form v
  record-stays at m ts None form env v g e h = whole-stays at m form env v h
  record-stays at m ts (Some fs) form env v g e h =
      let w = went_first (each_by_form [] (under env ts) fs) (λ vs. Ok (values.Record vs)) v h in
      let r = each-stays [] (under env ts) fs w.0 (under-stay env ts g) w.1 in
      subst (Within form) (same_ok (values.Record w.0) v w.2)
      (is_inside-Record known w.0 form ∙ ap (parts_inside (map (is_inside known) w.0)) e ∙ ap (λ vs. each_inside (map (is_inside known) vs) fs) r.1 ∙ r.2)

  set-stays : (at : ℕ) (m : Meaning) (ts : List Written) (o : Option Form) (form : Form) (env : Environment) (v : Value) → AllByRecursion Good ts → element_of form ≡ o →
      set_parts known at m ts o form env ≡ Ok v → Within form v
  set-stays at m ts None form env v g e h = whole-stays at m form env v h
  set-stays at m ts (Some f) form env v g e h =
      let w = went_first (all_by_form [] (under env ts) f) (λ vs. Ok (set_of vs)) v h in
      let r = all-stay [] (under env ts) f w.0 (under-stay env ts g) w.1 in
      let a = all-new (Within f) [] w.0 tt (subst (AllByRecursion (Within f)) (sym r.1) r.2) in
      subst (Within form) (same_ok (set_of w.0) v w.2)
      (is_inside-Set known (first_occurrences w.0) form ∙ ap (elements_inside (map (is_inside known) (first_occurrences w.0))) e ∙ to_test f (first_occurrences w.0) a)

  -- ---- the cells of `[..]` and `#[..]#`

  opened-stay : (wrong : BindFault) (axes : List Axis) (env : Environment) (before : List Fit) (ts : List Written) (fits : List Fit) → AllByRecursion Good ts → AllByRecursion FitStays before →
      opened wrong axes env before ts ≡ Ok fits → AllByRecursion FitStays fits
  opened-stay wrong axes env before [] fits g b h = subst (AllByRecursion FitStays) (same_ok before fits h) b
  opened-stay wrong axes env before (t ∷ ts) fits g b h =
      let w = went_first (t.cells wrong axes env) (λ more. opened wrong axes env (before ++ more) ts) fits h in
      opened-stay wrong axes env (before ++ w.0) ts fits g.1 (all-joined FitStays before w.0 b (g.0.cells wrong axes env w.0 w.1)) w.2

  abbrev SlotStays : Option (List Fit) → Type 0
  SlotStays None = Unit {0}
  SlotStays (Some fits) = AllByRecursion FitStays fits

  slots_with : (ss : List (Option (List Fit))) (p : Option ℕ) (fits : List Fit) → AllByRecursion FitStays fits → AllByRecursion SlotStays ss → AllByRecursion SlotStays (with_slot ss p fits)
  slots_with ss None fits f h = h
  slots_with ss (Some p) fits f h = all-set SlotStays ss p (Some fits) h f

  laid-stay : (wrong : BindFault) (axis : Axis) (axes : List Axis) (env : Environment) (ss : List (Option (List Fit))) (ks cs : List Written) (more : List (Option (List Fit))) → AllByRecursion Good cs →
      AllByRecursion SlotStays ss → laid wrong axis axes env ss ks cs ≡ Ok more → AllByRecursion SlotStays more
  laid-stay wrong axis axes env ss [] cs more g b h = subst (AllByRecursion SlotStays) (same_ok ss more h) b
  laid-stay wrong axis axes env ss (k ∷ ks) [] more g b h = subst (AllByRecursion SlotStays) (same_ok ss more h) b
  laid-stay wrong axis axes env ss (k ∷ ks) (c ∷ cs) more g b h =
      let w = went_first (evaluated (k.meaning.value env)) _ more h in
      let place = place_in w.0 (values_of axis) in
      let p = passed (is_free (slot_at ss place)) _ wrong more w.2 in
      let q = went_first (c.cells wrong axes env) (λ fits. laid wrong axis axes env (with_slot ss place fits) ks cs) more p.1 in
      laid-stay wrong axis axes env (with_slot ss place q.0) ks cs more g.1 (slots_with ss place q.0 (g.0.cells wrong axes env q.0 q.1) b) q.2

  free-stay : (ks : List Written) → AllByRecursion SlotStays (free_slots ks)
  free-stay [] = tt
  free-stay (k ∷ ks) = (tt, free-stay ks)

  gathered-stay : (wrong : BindFault) (before : List Fit) (ss : List (Option (List Fit))) (fits : List Fit) → AllByRecursion FitStays before → AllByRecursion SlotStays ss → gathered wrong before ss ≡ Ok fits → AllByRecursion FitStays fits
  gathered-stay wrong before [] fits b s h = subst (AllByRecursion FitStays) (same_ok before fits h) b
  gathered-stay wrong before (Some cells ∷ ss) fits b s h = gathered-stay wrong (before ++ cells) ss fits (all-joined FitStays before cells b s.0) s.1 h
  gathered-stay wrong before (None ∷ ss) fits b s h = absurd (cc)

  alone-stays : (fit : Fit) (fits : List Fit) → FitStays fit → (let x : Bound (List Fit) = Ok (fit ∷ []) in x) ≡ Ok fits → AllByRecursion FitStays fits
  alone-stays fit fits f h = subst (AllByRecursion FitStays) (same_ok (fit ∷ []) fits h) (f, tt)

  -- what an expression is, from what its layer is
  abbrev CellsStay : (BindFault → List Axis → Environment → Bound (List Fit)) → Type 0
  CellsStay cells = (wrong : BindFault) (axes : List Axis) (env : Environment) (fits : List Fit) → cells wrong axes env ≡ Ok fits → AllByRecursion FitStays fits

  array-stays : (fit : Fit) (p : ℕ) (ts : List Written) → FitStays fit → AllByRecursion Good ts → CellsStay (cells_layer {A = Group} {B = Meaning} {C = Run} fit (Term-F.Array p ts))
  array-stays fit p ts f g wrong [] env fits h = alone-stays fit fits f h
  array-stays fit p ts f g wrong (axis ∷ axes) env fits h =
      let w = passed (nat_eq (length ts) (length (values_of axis))) (opened wrong axes env [] ts) wrong fits h in
      opened-stay wrong axes env [] ts fits g tt w.1

  keyed-stays : (fit : Fit) (p : ℕ) (ks cs : List Written) → FitStays fit → AllByRecursion Good cs → CellsStay (cells_layer {A = Group} {B = Meaning} {C = Run} fit (Term-F.KeyedArray p ks cs))
  keyed-stays fit p ks cs f g wrong [] env fits h = alone-stays fit fits f h
  keyed-stays fit p ks cs f g wrong (axis ∷ axes) env fits h =
      let w = passed (nat_eq (length ks) (length (values_of axis))) _ wrong fits h in
      let s = went_first (laid wrong axis axes env (free_slots ks) ks cs) (gathered wrong []) fits w.1 in
      let l = laid-stay wrong axis axes env (free_slots ks) ks cs s.0 g (free-stay ks) s.1 in
      gathered-stay wrong [] s.0 fits tt l s.2

  -- an expression that is no array has one cell where no index set is left, and none else
  plain-stays : (x : Term-F Group Meaning Run Written) (fit : Fit) → FitStays fit → ((wrong : BindFault) (env : Environment) → cells_layer fit x wrong [] env ≡ Ok (fit ∷ [])) →
      ((wrong : BindFault) (axis : Axis) (axes : List Axis) (env : Environment) → cells_layer fit x wrong (axis ∷ axes) env ≡ Err wrong) → CellsStay (cells_layer fit x)
  plain-stays x fit f one none wrong [] env fits h = alone-stays fit fits f (sym (one wrong env) ∙ h)
  plain-stays x fit f one none wrong (axis ∷ axes) env fits h = absurd (let e = sym (none wrong axis axes env) ∙ h in cc)

  -- ---- one layer

  -- what is known of the parts of records, sets and arrays that are written out
  abbrev Inner : {A B C : Type 0} → Term-F A B C Written → Type 0
  Inner (Term-F.Record p ts) = AllByRecursion Good ts
  Inner (Term-F.Listed p ts) = AllByRecursion Good ts
  Inner (Term-F.Array p ts) = AllByRecursion Good ts
  Inner (Term-F.KeyedArray p ks cs) = AllByRecursion Good cs
  Inner t = Unit {0}

  plain-good : (x : Term-F Group Meaning Run Written) → FitStays (fit_layer known (at_layer x) (term_means x) x) →
      ((wrong : BindFault) (env : Environment) → cells_layer (fit_layer known (at_layer x) (term_means x) x) x wrong [] env ≡ Ok (fit_layer known (at_layer x) (term_means x) x ∷ [])) →
      ((wrong : BindFault) (axis : Axis) (axes : List Axis) (env : Environment) → cells_layer (fit_layer known (at_layer x) (term_means x) x) x wrong (axis ∷ axes) env ≡ Err wrong) → Good (written_layer known x)
  plain-good x f one none = record { fit = f; cells = plain-stays x (fit_layer known (at_layer x) (term_means x) x) f one none }

  layer-good : (x : Term-F Group Meaning Run Written) → Inner x → Good (written_layer known x)
  layer-good (Term-F.Number at n) i = plain-good (Term-F.Number at n) (whole-stays at (term_means (Term-F.Number at n))) (λ wrong env. refl) (λ wrong axis axes env. refl)
  layer-good (Term-F.Named at name) i = plain-good (Term-F.Named at name) (whole-stays at (term_means (Term-F.Named at name))) (λ wrong env. refl) (λ wrong axis axes env. refl)
  layer-good (Term-F.Bracket at t) i = plain-good (Term-F.Bracket at t) (whole-stays at (term_means (Term-F.Bracket at t))) (λ wrong env. refl) (λ wrong axis axes env. refl)
  layer-good (Term-F.Negative at t) i = plain-good (Term-F.Negative at t) (whole-stays at (term_means (Term-F.Negative at t))) (λ wrong env. refl) (λ wrong axis axes env. refl)
  layer-good (Term-F.Chain at t ss) i = plain-good (Term-F.Chain at t ss) (whole-stays at (term_means (Term-F.Chain at t ss))) (λ wrong env. refl) (λ wrong axis axes env. refl)
  layer-good (Term-F.Related at t r u) i = plain-good (Term-F.Related at t r u) (whole-stays at (term_means (Term-F.Related at t r u))) (λ wrong env. refl) (λ wrong axis axes env. refl)
  layer-good (Term-F.Member at t s) i = plain-good (Term-F.Member at t s) (whole-stays at (term_means (Term-F.Member at t s))) (λ wrong env. refl) (λ wrong axis axes env. refl)
  layer-good (Term-F.Equivalent at ts) i = plain-good (Term-F.Equivalent at ts) (whole-stays at (term_means (Term-F.Equivalent at ts))) (λ wrong env. refl) (λ wrong axis axes env. refl)
  layer-good (Term-F.Implied at t u) i = plain-good (Term-F.Implied at t u) (whole-stays at (term_means (Term-F.Implied at t u))) (λ wrong env. refl) (λ wrong axis axes env. refl)
  layer-good (Term-F.Or at ts) i = plain-good (Term-F.Or at ts) (whole-stays at (term_means (Term-F.Or at ts))) (λ wrong env. refl) (λ wrong axis axes env. refl)
  layer-good (Term-F.And at ts) i = plain-good (Term-F.And at ts) (whole-stays at (term_means (Term-F.And at ts))) (λ wrong env. refl) (λ wrong axis axes env. refl)
  layer-good (Term-F.Not at t) i = plain-good (Term-F.Not at t) (whole-stays at (term_means (Term-F.Not at t))) (λ wrong env. refl) (λ wrong axis axes env. refl)
  layer-good (Term-F.Aggregate at op gs c t) i = plain-good (Term-F.Aggregate at op gs c t) (whole-stays at (term_means (Term-F.Aggregate at op gs c t))) (λ wrong env. refl) (λ wrong axis axes env. refl)
  layer-good (Term-F.Call at op t) i = plain-good (Term-F.Call at op t) (whole-stays at (term_means (Term-F.Call at op t))) (λ wrong env. refl) (λ wrong axis axes env. refl)
  layer-good (Term-F.AllDifferent at t) i = plain-good (Term-F.AllDifferent at t) (whole-stays at (term_means (Term-F.AllDifferent at t))) (λ wrong env. refl) (λ wrong axis axes env. refl)
  layer-good (Term-F.Question at op t) i = plain-good (Term-F.Question at op t) (whole-stays at (term_means (Term-F.Question at op t))) (λ wrong env. refl) (λ wrong axis axes env. refl)
  layer-good (Term-F.Element at t ts) i = plain-good (Term-F.Element at t ts) (whole-stays at (term_means (Term-F.Element at t ts))) (λ wrong env. refl) (λ wrong axis axes env. refl)
  layer-good (Term-F.Fields at t fs) i = plain-good (Term-F.Fields at t fs) (whole-stays at (term_means (Term-F.Fields at t fs))) (λ wrong env. refl) (λ wrong axis axes env. refl)
  layer-good (Term-F.Record at ts) i = plain-good (Term-F.Record at ts) (λ form env v h. record-stays at (term_means (Term-F.Record at ts)) ts (parts_of known form) form env v i refl h) (λ wrong env. refl) (λ wrong axis axes env. refl)
  layer-good (Term-F.Listed at ts) i = plain-good (Term-F.Listed at ts) (λ form env v h. set-stays at (term_means (Term-F.Listed at ts)) ts (element_of form) form env v i refl h) (λ wrong env. refl) (λ wrong axis axes env. refl)
  layer-good (Term-F.Described at t gs c) i = plain-good (Term-F.Described at t gs c) (whole-stays at (term_means (Term-F.Described at t gs c))) (λ wrong env. refl) (λ wrong axis axes env. refl)
  layer-good (Term-F.Array at ts) i = record { fit = whole-stays at (term_means (Term-F.Array at ts)); cells = array-stays (fit_layer {A = Group} {B = Meaning} {C = Run} known at (term_means (Term-F.Array at ts)) (Term-F.Array at ts)) at ts (whole-stays at (term_means (Term-F.Array at ts))) i }
  layer-good (Term-F.KeyedArray at ks cs) i = record { fit = whole-stays at (term_means (Term-F.KeyedArray at ks cs)); cells = keyed-stays (fit_layer {A = Group} {B = Meaning} {C = Run} known at (term_means (Term-F.KeyedArray at ks cs)) (Term-F.KeyedArray at ks cs)) at ks cs (whole-stays at (term_means (Term-F.KeyedArray at ks cs))) i }

  -- ---- every expression

  abbrev as_term : Term → Written
  as_term = fold-Term Group Meaning Run Written group_means set_means step_means (written_layer known)

  abbrev in_term : Term-F GroupTerm SetTerm Step Term → Term-F Group Meaning Run Written
  in_term x = map-Term GroupTerm SetTerm Step Term Group Meaning Run Written
      (fold-GroupTerm Group Meaning Run Written group_means set_means step_means (written_layer known))
      (fold-SetTerm Group Meaning Run Written group_means set_means step_means (written_layer known))
      (fold-Step Group Meaning Run Written group_means set_means step_means (written_layer known))
      as_term x

  abbrev IsGood : Term → Type 0
  IsGood t = Good (as_term t)

  abbrev Any : {X : Type 0} → X → Type 0
  Any x = Unit {0}

  abbrev InTerm : Type 0
  InTerm = (t : Term) × IsGood t

  abbrev In : Type 0 → Type 0
  In X = (x : X) × Any x

  abbrev term_inner : Term-F (In GroupTerm) (In SetTerm) (In Step) InTerm → Term-F GroupTerm SetTerm Step Term
  term_inner y = map-Term (In GroupTerm) (In SetTerm) (In Step) InTerm GroupTerm SetTerm Step Term (λ e. e.0) (λ e. e.0) (λ e. e.0) (λ e. e.0) y

  all-good : (ts : List InTerm) → AllByRecursion Good (map as_term (map (λ e. e.0) ts))
  all-good [] = tt
  all-good (t ∷ ts) = (t.1, all-good ts)

  inner-good : (y : Term-F (In GroupTerm) (In SetTerm) (In Step) InTerm) → Inner (in_term (term_inner y))
  inner-good (Term-F.Number at n) = tt
  inner-good (Term-F.Named at name) = tt
  inner-good (Term-F.Bracket at t) = tt
  inner-good (Term-F.Negative at t) = tt
  inner-good (Term-F.Chain at t ss) = tt
  inner-good (Term-F.Related at t r u) = tt
  inner-good (Term-F.Member at t s) = tt
  inner-good (Term-F.Equivalent at ts) = tt
  inner-good (Term-F.Implied at t u) = tt
  inner-good (Term-F.Or at ts) = tt
  inner-good (Term-F.And at ts) = tt
  inner-good (Term-F.Not at t) = tt
  inner-good (Term-F.Aggregate at op gs c t) = tt
  inner-good (Term-F.Call at op t) = tt
  inner-good (Term-F.AllDifferent at t) = tt
  inner-good (Term-F.Question at op t) = tt
  inner-good (Term-F.Element at t ts) = tt
  inner-good (Term-F.Fields at t fs) = tt
  inner-good (Term-F.Record at ts) = all-good ts
  inner-good (Term-F.Listed at ts) = all-good ts
  inner-good (Term-F.Described at t gs c) = tt
  inner-good (Term-F.Array at ts) = all-good ts
  inner-good (Term-F.KeyedArray at ks cs) = all-good cs

  term_case : (y : Term-F (In GroupTerm) (In SetTerm) (In Step) InTerm) → IsGood (roll-Term (term_inner y))
  term_case y =
      subst Good (sym (fold-roll-Term Group Meaning Run Written group_means set_means step_means (written_layer known) (term_inner y)))
      (layer-good (in_term (term_inner y)) (inner-good y))

  each-good : (t : Term) → IsGood t
  each-good = ind-Term Any Any Any IsGood (λ x y is. tt) (λ x y is. tt) (λ x y is. tt) (λ x y is. subst (λ z. IsGood (roll-Term z)) is (term_case y))

  written-good : (t : Term) → Good (written known t)
  unfolding written
  written-good t = each-good t

  pub value-stays : (env : Environment) (form : Form) (t : Term) (v : Value) → written_value known env form t ≡ Ok v → Within form v
  unfolding written_value
  value-stays env form t v h = (written-good t).fit form env v h

  -- ---- the cells of an array

  abbrev AllWithin : Form → List Value → Type 0
  AllWithin form vs = AllByRecursion (Within form) vs

  over-stays : (form : Form) (next : Value → List Value → Bound (List Value)) (before vs more : List Value) → ((v : Value) (b m : List Value) → AllWithin form b → next v b ≡ Ok m → AllWithin form m) →
      AllWithin form before → over next before vs ≡ Ok more → AllWithin form more
  over-stays form next before [] more f b h = subst (AllWithin form) (same_ok before more h) b
  over-stays form next before (v ∷ vs) more f b h =
      let w = went_first (next v before) (λ m. over next m vs) more h in
      over-stays form next w.0 vs more f (f v before w.0 b w.1) w.2

  last-stays : (fit : Fit) (form : Form) (env : Environment) (before more : List Value) → FitStays fit → AllWithin form before → then (fit form env) (λ v. Ok (before ++ v ∷ [])) ≡ Ok more → AllWithin form more
  last-stays fit form env before more f b h =
      let w = went_first (fit form env) (λ v. Ok (before ++ v ∷ [])) more h in
      subst (AllWithin form) (same_ok (before ++ w.0 ∷ []) more w.2) (all-joined (Within form) before (w.0 ∷ []) b (f form env w.0 w.1, tt))

  each_cell-stays : (fit : Fit) (form : Form) (ts : List DimTree) (axes : List Axis) (env : Environment) (before more : List Value) → FitStays fit → AllWithin form before →
      each_cell fit form ts axes env before ≡ Ok more → AllWithin form more
  each_cell-stays fit form [] axes env before more f b h = last-stays fit form env before more f b h
  each_cell-stays fit form (t ∷ ts) [] env before more f b h = last-stays fit form env before more f b h
  each_cell-stays fit form (t ∷ ts) (axis ∷ axes) env before more f b h =
      over-stays form (λ v m. each_cell fit form ts axes (with_name t.name v env) m) before (values_of axis) more
      (λ v c m k e. each_cell-stays fit form ts axes (with_name t.name v env) c m f k e) b h

  run-stay : (env : Environment) (fits : List Fit) → AllByRecursion FitStays fits → AllByRecursion Stays (map (λ fit. λ f. fit f env) fits)
  run-stay env [] h = tt
  run-stay env (fit ∷ fits) h = ((λ form v e. h.0 form env v e), run-stay env fits h.1)

  listed-stays : (w : Written) (form : Form) (axes : List Axis) (env : Environment) (cells : List Value) → Good w → listed_cells w form axes env ≡ Ok cells → AllWithin form cells
  listed-stays w form axes env cells good h =
      let g = went_first (w.cells _ axes env) (λ fits. all_by_form [] (map (λ fit. λ f. fit f env) fits) form) cells h in
      let r = all-stay [] (map (λ fit. λ f. fit f env) g.0) form cells (run-stay env g.0 (good.cells _ axes env g.0 g.1)) g.2 in
      subst (AllWithin form) (sym r.1) r.2

  taken-stays : (at : ℕ) (form : Form) (axes : List Axis) (x : Value-F Dimension Value IndexSpace) (cells : List Value) → taken_layer known at form axes x ≡ Ok cells → AllWithin form cells
  taken-stays at form axes (Value-F.Int n) cells h = absurd (cc)
  taken-stays at form axes (Value-F.Bool b) cells h = absurd (cc)
  taken-stays at form axes (Value-F.Enum k p) cells h = absurd (cc)
  taken-stays at form axes (Value-F.Record vs) cells h = absurd (cc)
  taken-stays at form axes (Value-F.Set vs) cells h = absurd (cc)
  taken-stays at form axes (Value-F.Range l u) cells h = absurd (cc)
  taken-stays at form axes (Value-F.Names ns) cells h = absurd (cc)
  taken-stays at form axes (Value-F.Array space vs) cells h =
      let w = went_first (places_among _ (0 ∷ []) (map values_of axes) (lists space)) (λ places. tested known at form (map (value_at vs) places)) cells h in
      let t = passed (list_all (λ v. is_inside known v form) (map (value_at vs) w.0)) (Ok (map (value_at vs) w.0)) _ cells w.2 in
      subst (AllWithin form) (same_ok (map (value_at vs) w.0) cells t.1) (from_test form (map (value_at vs) w.0) t.0)

  by_form-stays : (w : Written) (form : Form) (ts : List DimTree) (axes : List Axis) (env : Environment) (cells : List Value) → Good w → cells_by_form known w form ts axes env ≡ Ok cells → AllWithin form cells
  by_form-stays w form ts axes env cells good h =
      either (list_any has_name ts) (each_cell w.fit form ts axes env []) _ cells (λ e. each_cell-stays w.fit form ts axes env [] cells good.fit tt e)
      (either w.has_cells (listed_cells w form axes env) (taken_cells known w form axes env) cells (listed-stays w form axes env cells good)
      (λ e. let g = went (evaluated (w.meaning.value env)) (λ v. taken_layer known w.at form axes (out-Value v)) cells e in taken-stays w.at form axes (out-Value g.0) cells g.1))
      h

  pub cells-stay : (env : Environment) (form : Form) (ts : List DimTree) (axes : List Axis) (t : Term) (cells : List Value) → written_cells known env form ts axes t ≡ Ok cells → AllWithin form cells
  unfolding written_cells
  cells-stay env form ts axes t cells h = by_form-stays (written known t) form ts axes env cells (written-good t) h
