-- All declarations: the values that binding gives have the forms of their types.
use Rattle.std.proofs.Common.{◌≡◌, ◌<◌, ◌^◌, ℕ, zero, suc, ◌+◌, List, [], ◌∷◌, ◌++◌, length, Option, None, Some, Ok, refl, sym, ap, subst, ◌∙◌, arith, length-append}
use Rattle.opl_tree.specs.declared.declaration.DataDeclTree.{DataDeclTree}
use Rattle.opl_tree.specs.declared.declaration.DeclTree.{DeclTree}
use Rattle.opl_tree.specs.declared.declaration.DeclTree.TheVariants as decls
use Rattle.opl_tree.specs.declared.declaration.ScheduleEnd.{ScheduleEnd}
use Rattle.opl_tree.specs.declared.declaration.ScheduleEnd.TheVariants as ends
use Rattle.opl_tree.specs.declared.declaration.BoundsTree.{BoundsTree}
use Rattle.opl_tree.specs.declared.declaration.VariableTypeTree.{VariableTypeTree}
use Rattle.opl_tree.specs.declared.declaration.VariableTypeTree.TheVariants as types
use Rattle.opl_type_rules.specs.Types.{Sort, Sorts}
use Rattle.opl_type_rules.specs.Types.Sort.{activity, unary, discrete}
use Rattle.opl_type_rules.specs.Types.Sorts.{no_sorts}
use Rattle.opl_type_rules.specs.Scope as scope
use Rattle.opl_type_rules.specs.Scope.{Scope, Text, Thing, empty_scope, field_sorts, lookup}
use Rattle.opl_type_rules.specs.Scope.Thing.{variable, activities, resource}
use Rattle.opl_declaration_types.specs.Declarations.{given as with_end, next, shaped}
use Rattle.opl_typed_model.specs.Declares.{AllDeclare, Declares, IsVariable}
use Rattle.opl_value.specs.declared.value.Value.{Value}
use Rattle.opl_eval.specs.Evaluation.{Environment}
use Rattle.opl_typed_values.specs.OfSort.{are_plain}
use Rattle.opl_typed_values.specs.Visible.{AreOfTheirSorts}
use Rattle.opl_given.specs.declared.assigned.Override.{Override}
use Rattle.opl_given.specs.Forms.{Known, fields_of, form_named, names_of, nothing_known, with_declaration}
use Rattle.opl_given.specs.Given.{Given, all_given}
use Rattle.opl_given.proofs.CellLaws.{same_ok, went_first}
use Rattle.opl_bind.specs.Bind.{Data, bound, item_value, no_data, with_decl, with_decls, with_ends, with_known}
use Rattle.opl_bind.specs.Dimensions.{number_in}
use Rattle.opl_fit.specs.Typed.{AreFormsOf, IsFormOf, no_form}
use Rattle.opl_fit.proofs.Items.{item-stands}
use Rattle.opl_bound_values.specs.Laws.{BoundNamesAreOfTheirSorts, BoundValuesFit, HasItsForm}
use Rattle.opl_bound_values.specs.Suits.{AllSuit, DeclSuits}
use Rattle.opl_bound_values.proofs.Agreement.{Agrees, N, decided-named, discrete-named, item-has-form, unary-named}
use Rattle.opl_bound_values.proofs.Enumerations.{enumeration-step}
use Rattle.opl_bound_values.proofs.KnownTypes.{fields-same, form-same, names-same}
use Rattle.opl_bound_values.proofs.Moves.{AllBelow, Below, all-below-more, below-more}
use Rattle.opl_bound_values.proofs.OneName.{same-names}
use Rattle.opl_bound_values.proofs.Steps.{data-step, fields-count, forms-count, known-environment, known-known, names-count, other-step, range-step, shaped-below, struct-step}

-- ---- the ends of the schedule

end-finds : (e : ScheduleEnd) (sc : Scope) (name : Text) → lookup (with_end e sc) name ≡ lookup sc name
unfolding lookup
end-finds ends.Origin sc name = refl
end-finds ends.Horizon sc name = refl

end-fields : (e : ScheduleEnd) (sc : Scope) → field_sorts (with_end e sc) ≡ field_sorts sc
unfolding field_sorts scope.fields
end-fields ends.Origin sc = refl
end-fields ends.Horizon sc = refl

names-none : (known : Known) (j : ℕ) → names_of (with_declaration [] [] known) j ≡ names_of known j
names-none known j = names-same known [] j

variable-below : (position : ℕ → ℕ) (k : ℕ) (sc inner : Scope) (d : Data) → Agrees position k sc d → (t : VariableTypeTree) (b : Option BoundsTree) (s : Sort) → IsVariable sc inner t b s → Below k s
variable-below position k sc inner d a (types.Int at) None s h = absurd h
variable-below position k sc inner d a (types.Int at) (Some b) s h = subst (Below k) (sym h.2) tt
variable-below position k sc inner d a (types.Named name) None s h = (a.types name.text s h.0).1
variable-below position k sc inner d a (types.Named name) (Some b) s h = absurd h

module _ (position : ℕ → ℕ) (k : ℕ) (sc : Scope) (d : Data) (a : Agrees position k sc d) where
  -- what says nothing of names and types
  schedule-step : (end : ScheduleEnd) (there : Scope) → there ≡ with_end end sc → Agrees position (suc k) there (with_known (with_declaration [] [] d.known) d)
  schedule-step end there h = subst (λ (z : Scope). Agrees position (suc k) z x) (sym h) (record {
    hides = ap (λ (z : Environment). z.parameters) v ∙ a.hides;
    placed = ap (λ (z : Environment). z.position) v ∙ a.placed;
    as_many = ap (λ (z : Known). length z.fields) is ∙ fields-count d.known [] [] ∙ ap suc a.as_many;
    as_many_names = ap (λ (z : Known). length z.enumerations) is ∙ names-count d.known [] [] ∙ ap suc a.as_many_names;
    as_many_forms = ap (λ (z : Known). length z.names) is ∙ forms-count d.known [] [] a.as_many_forms ∙ sym (ap (λ (z : Known). length z.forms) is);
    types = λ name s q. let r = a.types name s (sym (ap scope.type_of (end-finds end sc name)) ∙ q) in
        (subst (λ f. IsFormOf f s) (sym (ap (λ (z : Known). form_named z name) is ∙ form-same d.known [] [] name)) r.0, below-more k (suc k) (omega arith) s r.1);
    structs = λ j. subst (λ fs. AreFormsOf fs (field_sorts (with_end end sc) j)) (sym (ap (λ (z : Known). fields_of z j) is ∙ fields-same d.known [] j))
        (subst (λ (f : ℕ → Sorts). AreFormsOf (fields_of d.known j) (f j)) (sym F) (a.structs j));
    below = λ j. subst (AllBelow (suc k)) (sym (ap (λ f. f j) F)) (all-below-more k (suc k) (omega arith) (field_sorts sc j) (a.below j));
    things = λ name thing q. below-more k (suc k) (omega arith) (scope.sort_of thing) (a.things name thing (sym (end-finds end sc name) ∙ q));
    of = subst (λ (g : ℕ → ℕ). AreOfTheirSorts g (with_end end sc) x.environment) (sym same_counts) (subst (AreOfTheirSorts (N d.known) (with_end end sc)) (sym v) (same-names (N d.known) sc (with_end end sc) d.environment (end-finds end sc) F a.of));
  })
    where
      x : Data
      x = with_known (with_declaration [] [] d.known) d

      is : x.known ≡ with_declaration [] [] d.known
      is = known-known (with_declaration [] [] d.known) d

      v : x.environment ≡ d.environment
      v = known-environment (with_declaration [] [] d.known) d

      F : field_sorts (with_end end sc) ≡ field_sorts sc
      F = end-fields end sc

      same_counts : N x.known ≡ N d.known
      same_counts = λ i. λ j. ap length (ap (λ (z : Known). names_of z j) is ∙ names-none d.known j) i

  -- one declaration
  step : (given : Given) (os : List Override) (t : DeclTree) (there : Scope) (e : Data) → k < 2 ^ 32 → Declares k sc t there → DeclSuits position os sc t → with_decl given os t d ≡ Ok e → Agrees position (suc k) there e
  step given os (decls.Data t) there e small h c m = data-step position k sc d a given os t there e h c m
  step given os (decls.Range t) there e small h c m =
      let w = went_first (number_in d.environment t.low) _ e m in
      let u = went_first (number_in d.environment t.high) (λ high. Ok (with_ends t.name.text w.0 high d)) e w.2 in
      subst (Agrees position (suc k) there) (same_ok _ e u.2) (range-step position k sc d a t there w.0 u.0 h.3)
  step given os (decls.Enumeration t) there e small h c m = enumeration-step position k sc d a small given os t there e h m
  step given os (decls.Structure t) there e small h c m = subst (Agrees position (suc k) there) (same_ok _ e m) (struct-step position k sc d a t h.0 there small h.3 h.4)
  step given os (decls.Variable t) there e small h c m =
      subst (Agrees position (suc k) there) (same_ok _ e m)
      (other-step position k sc d a t.name.text (variable (shaped h.1 h.0)) there refl refl (shaped-below (suc k) h.1 h.0 (below-more k (suc k) (omega arith) h.0 (variable-below position k sc h.2 d a t.kind t.bounds h.0 h.5)))
      (λ o. decided-named (field_sorts sc) (N d.known) (variable (shaped h.1 h.0)) o refl) h.6)
  step given os (decls.Activity t) there e small h c m =
      subst (Agrees position (suc k) there) (same_ok _ e m)
      (other-step position k sc d a t.name.text (activities (shaped h.0 activity)) there refl refl (shaped-below (suc k) h.0 activity tt) (λ o. decided-named (field_sorts sc) (N d.known) (activities (shaped h.0 activity)) o refl) h.6)
  step given os (decls.Unary t) there e small h c m =
      subst (Agrees position (suc k) there) (same_ok _ e m)
      (other-step position k sc d a t.name.text (resource (shaped h.0 unary)) there refl refl (shaped-below (suc k) h.0 unary tt) (λ o. unary-named (field_sorts sc) (N d.known) h.0 o) h.4)
  step given os (decls.Discrete t) there e small h c m =
      subst (Agrees position (suc k) there) (same_ok _ e m)
      (other-step position k sc d a t.name.text (resource (shaped h.0 discrete)) there refl refl (shaped-below (suc k) h.0 discrete tt) (λ o. discrete-named (field_sorts sc) (N d.known) h.0 o) h.5)
  step given os (decls.Schedule t) there e small h c m = subst (Agrees position (suc k) there) (same_ok _ e m) (schedule-step t.end there h.2)

-- ---- all of them

next-is : (k : ℕ) → suc k < 2 ^ 32 → next k ≡ suc k
next-is k small = omega (arith, small)

module _ (position : ℕ → ℕ) (given : Given) (os : List Override) where
  all-step : (ds : List DeclTree) (k : ℕ) (sc inner : Scope) (d final : Data) → k + length ds < 2 ^ 32 → Agrees position k sc d → AllDeclare k sc ds inner → AllSuit position os k sc ds → with_decls given os ds d ≡ Ok final → Agrees position (k + length ds) inner final
  all-step [] k sc inner d final small a h c m =
      subst (λ (n : ℕ). Agrees position n inner final) (omega arith) (subst (λ (z : Scope). Agrees position k z final) (sym h) (subst (Agrees position k sc) (same_ok d final m) a))
  all-step (t ∷ ts) k sc inner d final small a h c m =
      let w = went_first (with_decl given os t d) (λ more. with_decls given os ts more) final m in
      let n = next-is k (omega (arith, small)) in
      let r = step position k sc d a given os t h.0 w.0 (omega (arith, small)) h.1 c.0 w.1 in
      subst (λ (i : ℕ). Agrees position i inner final) (omega arith)
      (all-step ts (suc k) h.0 inner w.0 final (omega (arith, small)) r (subst (λ (i : ℕ). AllDeclare i h.0 ts inner) n h.2) (subst (λ (i : ℕ). AllSuit position os i h.0 ts) n (c.1 h.0 h.1)) w.2)

  suits-before : (before after : List DeclTree) (k : ℕ) (sc : Scope) → AllSuit position os k sc (before ++ after) → AllSuit position os k sc before
  suits-before [] after k sc c = tt
  suits-before (b ∷ before) after k sc c = (c.0, λ z q. suits-before before after (next k) z (c.1 z q))

  -- the declarations before one, and it
  record Split (before : List DeclTree) (t : DataDeclTree) (k : ℕ) (sc : Scope) : Type 0 where
    here : Scope
    there : Scope
    first : AllDeclare k sc before here
    declares : Declares (k + length before) here (decls.Data t) there
    one : DeclSuits position os here (decls.Data t)

  split : (before after : List DeclTree) (t : DataDeclTree) (k : ℕ) (sc inner : Scope) → k + length (before ++ decls.Data t ∷ after) < 2 ^ 32 → AllDeclare k sc (before ++ decls.Data t ∷ after) inner → AllSuit position os k sc (before ++ decls.Data t ∷ after) → Split before t k sc
  split [] after t k sc inner small h c = record { here = sc; there = h.0; first = refl; declares = h.1; one = c.0 }
  split (b ∷ before) after t k sc inner small h c =
      let n = next-is k (let l = length-append before (decls.Data t ∷ after) in omega (arith, small, l)) in
      let r = split before after t (suc k) h.0 inner (omega (arith, small)) (subst (λ (i : ℕ). AllDeclare i h.0 (before ++ decls.Data t ∷ after) inner) n h.2) (subst (λ (i : ℕ). AllSuit position os i h.0 (before ++ decls.Data t ∷ after)) n (c.1 h.0 h.1)) in
      record {
        here = r.here;
        there = r.there;
        first = (h.0, h.1, subst (λ (i : ℕ). AllDeclare i h.0 before r.here) (sym n) r.first);
        declares = r.declares;
        one = r.one;
      }

-- ---- before any declaration

nothing-found : (name : Text) → lookup empty_scope name ≡ None
unfolding lookup
nothing-found name = refl

no-fields : (j : ℕ) → field_sorts empty_scope j ≡ no_sorts
unfolding field_sorts scope.fields
no-fields j = refl

nothing-of : (j : ℕ) → fields_of nothing_known j ≡ []
unfolding fields_of
nothing-of zero = refl
nothing-of (suc j) = refl

not-found : {P : Type 0} (name : Text) (thing : Thing) → lookup empty_scope name ≡ Some thing → P
not-found name thing e = absurd (let x = sym (nothing-found name) ∙ e in cc)

module _ (position : ℕ → ℕ) where
  start : Agrees position 0 empty_scope (no_data position)
  start = record {
    hides = refl;
    placed = refl;
    as_many = refl;
    as_many_names = refl;
    as_many_forms = refl;
    types = λ name s e. absurd (let x = sym (ap scope.type_of (nothing-found name)) ∙ e in cc);
    structs = λ j. subst (λ fs. AreFormsOf fs (field_sorts empty_scope j)) (sym (nothing-of j)) (subst (AreFormsOf []) (sym (no-fields j)) no_form);
    below = λ j. subst (AllBelow 0) (sym (no-fields j)) tt;
    things = λ name thing e. not-found name thing e;
    of = record {
      values = λ name thing e d st. not-found name thing e;
      arrays = λ name thing is s e d q st. not-found name thing e;
      indices = λ name thing s e d q. not-found name thing e;
      kinds = λ name thing e d. not-found name thing e;
      structs = λ j. ap are_plain (no-fields j);
    };
  }

  -- what is known of an item behind the declarations before it
  item-at : (given : Given) (os : List Override) (before after : List DeclTree) (t : DataDeclTree) (inner : Scope) (d : Data) (v : Value) → length (before ++ decls.Data t ∷ after) < 2 ^ 32 → AllDeclare 0 empty_scope (before ++ decls.Data t ∷ after) inner →
      AllSuit position os 0 empty_scope (before ++ decls.Data t ∷ after) → with_decls given os before (no_data position) ≡ Ok d → item_value given os t d ≡ Ok v → HasItsForm t d v
  item-at given os before after t inner d v small h c m e =
      let r = split position given os before after t 0 empty_scope inner (omega (arith, small)) h c in
      let l = length-append before (decls.Data t ∷ after) in
      let a = all-step position given os before 0 empty_scope r.here (no_data position) d (omega (arith, small, l)) start r.first (suits-before position given os before (decls.Data t ∷ after) 0 empty_scope c) m in
      item-has-form position (0 + length before) r.here d a given os t r.declares.0 r.declares.1 r.declares.2 v r.declares.3 r.declares.5 r.declares.6 r.one e

pub bound_values_fit : BoundValuesFit
unfolding bound
bound_values_fit position ds inner files os final small h c m =
    let w = went_first (all_given ds files) (λ given. with_decls given os ds (no_data position)) final m in (
      w.0,
      w.1,
      λ before after t e.
          let s = item-stands position w.0 os before after t final (λ d v. with_decls w.0 os before (no_data position) ≡ Ok d → HasItsForm t d v)
          (λ d v i b. item-at position w.0 os before after t inner d v (subst (λ (xs : List DeclTree). length xs < 2 ^ 32) e small) (subst (λ (xs : List DeclTree). AllDeclare 0 empty_scope xs inner) e h) (subst (AllSuit position os 0 empty_scope) e c) b i)
          (subst (λ (xs : List DeclTree). with_decls w.0 os xs (no_data position) ≡ Ok final) e w.2) in
          record { earlier = s.earlier; comes = s.comes; value = s.value; stands = s.stands; is = s.is s.comes },
    )

pub bound_names_are_of_their_sorts : BoundNamesAreOfTheirSorts
unfolding bound
bound_names_are_of_their_sorts position ds inner files os final small h c m =
    let w = went_first (all_given ds files) (λ given. with_decls given os ds (no_data position)) final m in
    (all-step position w.0 os ds 0 empty_scope inner (no_data position) final (omega (arith, small)) (start position) h c w.2).of
