-- The elements of the index sets of an item have the types of its indices.
use Rattle.std.proofs.Common.{◌≡◌, ℕ, suc, List, [], ◌∷◌, ◌++◌, length, Ok, refl, sym, ap, subst, ◌∙◌, append_assoc, append-nil}
use Rattle.opl_tree.specs.declared.declaration.DimTree.{DimTree}
use Rattle.opl_term.specs.Terms.{set_term}
use Rattle.opl_type_rules.specs.Types.{Sort, Sorts}
use Rattle.opl_type_rules.specs.Scope.{Scope, field_sorts}
use Rattle.opl_type_rules.specs.Forms.{form_set}
use Rattle.opl_typed.specs.Relation.{IsSetOf}
use Rattle.opl_typed_model.specs.Declares.{HaveIndices}
use Rattle.opl_value.specs.declared.value.Dimension.{Dimension}
use Rattle.opl_value.specs.declared.value.Dimension.TheOpen.{Value-F}
use Rattle.opl_value.specs.declared.value.Dimension.TheViews.{out-Value}
use Rattle.opl_value.specs.declared.value.IndexSpace.{IndexSpace}
use Rattle.opl_value.specs.declared.value.Value.{Value}
use Rattle.opl_value.specs.declared.value.Value.TheVariants as values
use Rattle.opl_value.specs.Places.{dimension_values}
use Rattle.opl_value.specs.Rising.{listed_dimension, rising_of}
use Rattle.opl_value.specs.Sets.{first_occurrences}
use Rattle.opl_value.proofs.Places.{values-Listed, values-Whole}
use Rattle.opl_eval.specs.Evaluation as evaluation
use Rattle.opl_eval.specs.Evaluation.{Environment, declaration_of, elements_layer, set_meaning}
use Rattle.opl_typed_values.specs.OfSort.{AllHaveSort, none_has}
use Rattle.opl_typed_values.specs.Positions.{SetStands}
use Rattle.opl_typed_values.specs.Visible.{AreOfTheirSorts}
use Rattle.opl_typed_values.proofs.Fitting.{new-have}
use Rattle.opl_typed_values.proofs.Sound.{elements-have}
use Rattle.opl_typed_values.proofs.Terms.{set-says}
use Rattle.opl_given.specs.Arrays.{Axis, values_of}
use Rattle.opl_given.specs.Axes.{axis_layer, axis_of_set, names_from}
use Rattle.opl_given.proofs.CellLaws.{same_ok, went_first}
use Rattle.opl_bind.specs.Dimensions.{Declared, axes_in, axis_in, evaluated, set_in}
use Rattle.opl_fit.proofs.WrittenCells.{evaluated-ok}
use Rattle.opl_bound_values.specs.Suits.{DimsStand}

-- ---- one index set

listed-values : (vs : List Value) → dimension_values (listed_dimension vs) ≡ vs
unfolding listed_dimension
listed-values vs = values-Listed vs (rising_of vs)

names-same : (d p : ℕ) (ns : List (List ℕ)) → names_from d p ns ≡ evaluation.names_from d p ns
names-same d p [] = refl
names-same d p (n ∷ ns) = ap (λ (vs : List Value). values.Enum d p ∷ vs) (names-same d (suc p) ns)

module _ (fields : ℕ → Sorts) (names : ℕ → ℕ) (s : Sort) where
  abbrev All : List Value → Type 0
  All vs = AllHaveSort fields names s vs

  listed-have : (vs : List Value) → All vs → All (dimension_values (listed_dimension (first_occurrences vs)))
  listed-have vs h = subst All (sym (listed-values (first_occurrences vs))) (new-have fields names s [] vs (none_has s) h)

  layer-have : (d : ℕ) (x : Value-F Dimension Value IndexSpace) → All (elements_layer d x) → All (values_of (axis_layer d x))
  layer-have d (Value-F.Set vs) h = listed-have vs h
  layer-have d (Value-F.Range low high) h = subst All (sym (values-Whole low high)) h
  layer-have d (Value-F.Names ns) h = listed-have (names_from d 0 ns) (subst All (sym (names-same d 0 ns)) h)
  layer-have d (Value-F.Int n) h = subst All (sym (values-Whole _ _)) (none_has s)
  layer-have d (Value-F.Bool b) h = subst All (sym (values-Whole _ _)) (none_has s)
  layer-have d (Value-F.Enum e p) h = subst All (sym (values-Whole _ _)) (none_has s)
  layer-have d (Value-F.Record vs) h = subst All (sym (values-Whole _ _)) (none_has s)
  layer-have d (Value-F.Array space vs) h = subst All (sym (values-Whole _ _)) (none_has s)

  axis-have : (d : ℕ) (v : Value) → All (evaluation.elements d v) → All (values_of (axis_of_set d v))
  unfolding axis_of_set
  axis-have d v h = layer-have d (out-Value v) h

-- ---- all of them

module _ (fields : ℕ → Sorts) (names : ℕ → ℕ) where
  -- as many index sets as types, each of its own
  abbrev pub AxesHave : List Sort → List Axis → Type 0
  AxesHave [] [] = Unit {0}
  AxesHave (i ∷ is) (axis ∷ axes) = AllHaveSort fields names i (values_of axis) × AxesHave is axes
  AxesHave is axes = ⊥

  pub axes-length : (is : List Sort) (axes : List Axis) → AxesHave is axes → length is ≡ length axes
  axes-length [] [] h = refl
  axes-length [] (a ∷ bs) h = absurd h
  axes-length (i ∷ is) [] h = absurd h
  axes-length (i ∷ is) (a ∷ bs) h = ap suc (axes-length is bs h.1)

module _ (names : ℕ → ℕ) (sc : Scope) (env : Environment) (of : AreOfTheirSorts names sc env) where
  one-have : (t : DimTree) (axis : Axis) (i : Sort) → SetStands env.position sc (form_set t.set) → IsSetOf sc (form_set t.set) i → axis_in env t ≡ Ok axis →
      AllHaveSort (field_sorts sc) names i (values_of axis)
  unfolding axis_in
  one-have t axis i c h e =
      let w = went_first (set_in env (set_term t.set)) _ axis e in
      let x = went_first (evaluated ((set_meaning (set_term t.set)).value env)) _ w.0 w.1 in
      let v = evaluated-ok ((set_meaning (set_term t.set)).value env) x.0 x.1 in
      let all = elements-have names sc env of (form_set t.set) (set_term t.set) i x.0 c (set-says t.set) h v in
      let d = same_ok _ w.0 x.2 in
      subst (λ (a : Axis). AllHaveSort (field_sorts sc) names i (values_of a)) (ap (λ (s : Declared). axis_of_set s.declaration s.value) d ∙ same_ok _ axis w.2)
      (axis-have (field_sorts sc) names i (declaration_of ((set_meaning (set_term t.set)).item env)) x.0 all)

  pub axes-have : (ts : List DimTree) (is : List Sort) (before axes : List Axis) → DimsStand env.position sc ts → HaveIndices sc ts is → axes_in env before ts ≡ Ok axes →
      (rest : List Axis) × (axes ≡ before ++ rest) × AxesHave (field_sorts sc) names is rest
  axes-have [] is before axes c h e = ([], sym (same_ok before axes e) ∙ sym (append-nil before), subst (λ (js : List Sort). AxesHave (field_sorts sc) names js []) (sym h) tt)
  axes-have (t ∷ ts) is before axes c h e =
      let w = went_first (axis_in env t) (λ axis. axes_in env (before ++ axis ∷ []) ts) axes e in
      let r = axes-have ts h.1 (before ++ w.0 ∷ []) axes c.1 h.3 w.2 in
      (w.0 ∷ r.0, r.1 ∙ append_assoc before (w.0 ∷ []) r.0, subst (λ (js : List Sort). AxesHave (field_sorts sc) names js (w.0 ∷ r.0)) (sym h.4) (one-have t w.0 h.0 c.0 h.2 w.1, r.2))

pub indices-length : (sc : Scope) (ts : List DimTree) (is : List Sort) → HaveIndices sc ts is → length ts ≡ length is
indices-length sc [] is h = ap length (sym h)
indices-length sc (t ∷ ts) is h = ap suc (indices-length sc ts h.1 h.3) ∙ ap length (sym h.4)
