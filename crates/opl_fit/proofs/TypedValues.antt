-- Values that the model writes have the forms of their types, as typing tells it.
use Rattle.std.proofs.Common.{◌≡◌, ◌&&◌, ℕ, ℤ, Bool, true, false, List, [], ◌∷◌, ◌++◌, length, map, cond, Some, Ok, refl, sym, ap, subst, ◌∙◌, append_assoc, append-nil}
use Rattle.std.specs.List.{list_any}
use Rattle.opl_type_rules.specs.Types.{Sort, Sorts, fits, fits_parts, is_storable, sorts_of}
use Rattle.opl_type_rules.specs.Types.Sort.{int, bool, enumeration, structure, row, set, empty_set, array, anything}
use Rattle.opl_type_rules.specs.Types.Sorts.{no_sorts, more_sorts}
use Rattle.opl_type_rules.specs.Scope.{Scope, field_sorts, fits_in}
use Rattle.opl_type_rules.specs.Forms as typed_forms
use Rattle.opl_type_rules.specs.Forms.{Forms, form_add}
use Rattle.opl_type_rules.specs.Forms.Form.{number, named, bracket, negative, arithmetic, absolute, related, member, connected, aggregate, cardinality, all_different, subscripted, field, tuple, listed, described, cells, keyed_cells, question}
use Rattle.opl_type_rules.specs.Forms.Forms.{no_forms, more_forms}
use Rattle.opl_type_rules.specs.Expressions.Need.{data_alone}
use Rattle.opl_typed.specs.Relation.{AreOne, Each, HasType, HaveTypes, IsData, Typed, is_data, set_of as set_sort}
use Rattle.opl_typed.proofs.Lawful as typed
use Rattle.opl_term.specs.Terms.{add_term, field_name}
use Rattle.opl_term.specs.declared.term.GroupTerm.{GroupTerm}
use Rattle.opl_term.specs.declared.term.GroupTerm.TheOpen.{Term-F}
use Rattle.opl_term.specs.declared.term.GroupTerm.TheViews.{out-Term}
use Rattle.opl_term.specs.declared.term.SetTerm.{SetTerm}
use Rattle.opl_term.specs.declared.term.Step.{Step}
use Rattle.opl_term.specs.declared.term.Term.{Term}
use Rattle.opl_term.specs.declared.term.Term.TheVariants as terms
use Rattle.opl_value.specs.declared.value.Value.{Value}
use Rattle.opl_value.specs.declared.value.Value.TheVariants as values
use Rattle.opl_value.specs.Order.{value_eq}
use Rattle.opl_value.specs.Sets.{first_occurrences, with_new}
use Rattle.opl_value.proofs.Sets.{sets_differ}
use Rattle.opl_eval.specs.Evaluation.{Environment, Meaning, eval, meaning}
use Rattle.opl_typed_values.specs.OfSort.{AllHaveSort, HasSort, HaveSorts, a_name, a_number, a_record, a_row, a_set, a_truth, are_plain, is_plain, more_have, more_parts, no_elements, no_parts, none_has}
use Rattle.opl_typed_values.specs.Positions.{AllStand, FieldsStand}
use Rattle.opl_typed_values.specs.Visible.{AreOfTheirSorts}
use Rattle.opl_typed_values.proofs.Fitting.{and_both, fitting-has}
use Rattle.opl_typed_values.proofs.Joining.{EachFits, each-fits, plain-all-known, plain-known}
use Rattle.opl_typed_values.proofs.Outside.{IsWhole, whole_layer}
use Rattle.opl_typed_values.proofs.Said.{AllSay, Says, described-whole, fields-whole}
use Rattle.opl_typed_values.proofs.Sound.{has}
use Rattle.opl_typed_values.proofs.Terms.{add-says}
use Rattle.opl_given.specs.declared.form.Form.{Form}
use Rattle.opl_given.specs.declared.form.Form.TheVariants as forms
use Rattle.opl_given.specs.declared.fault.BindFault.TheVariants as faults
use Rattle.opl_given.specs.Forms.{Known, fields_of, names_of}
use Rattle.opl_given.specs.Inside.{is_inside}
use Rattle.opl_given.specs.Values.{all_by_form, each_by_form, set_of}
use Rattle.opl_given.proofs.CellLaws.{passed, same_ok, went_first}
use Rattle.opl_given.proofs.Layers.{element_of-Set, parts_of-Struct}
use Rattle.opl_bind.specs.Dimensions.{evaluated}
use Rattle.opl_bind.specs.Written.{at_layer, first_token, fit_layer, record_parts, set_parts, term_means, under, whole, written, written_value}
use Rattle.opl_bind.proofs.WrittenLayers.{fit-Listed, fit-Record, written-meaning}
use Rattle.opl_fit.specs.Laws.{TypedValuesFit}
use Rattle.opl_fit.specs.OfKind.{AllHaveKind, EachHasKind, HasKind, name_kind, no_element_kind, no_part_kind, one_element_kind, one_part_kind, range_kind, set_kind, struct_kind, whole_kind}
use Rattle.opl_fit.specs.Typed.{AreFormsOf, IsFormOf, StructsAgree, no_form, of_names, of_numbers, of_range, of_records, of_sets, one_form}
use Rattle.opl_fit.proofs.OfKind.{kind-fits}
use Rattle.opl_fit.proofs.Written.{value-stays}
use Rattle.opl_fit.proofs.WrittenCells.{evaluated-ok, in_term, written-out}

-- ---- forms and types

true-both : (a b : Bool) → a ≡ true → b ≡ true → (a && b) ≡ true
true-both true b p q = q
true-both false b p q = absurd (cc)

pub form-plain : (f : Form) (s : Sort) → IsFormOf f s → is_plain s ≡ true
form-plain _ _ of_numbers = refl
form-plain _ _ (of_range low high) = refl
form-plain _ _ (of_names k) = refl
form-plain _ _ (of_records k) = refl
form-plain _ _ (of_sets f s h) = form-plain f s h

pub forms-plain : (fs : List Form) (ss : Sorts) → AreFormsOf fs ss → are_plain ss ≡ true
forms-plain _ _ no_form = refl
forms-plain _ _ (one_form f s fs ss h hs) = true-both (is_plain s) (are_plain ss) (form-plain f s h) (forms-plain fs ss hs)

no-array : (fields : ℕ → Sorts) (w : Sort) (is : Sorts) (s : Sort) → is_plain w ≡ true → fits fields w (array is s) ≡ true → ⊥
no-array fields int is s p h = absurd (cc)
no-array fields (enumeration k) is s p h = absurd (cc)
no-array fields (structure k) is s p h = absurd (cc)
no-array fields (set x) is s p h = absurd (cc)
no-array fields w is s p h = absurd (cc)

-- what fits such a type is no array, no activity and no resource
storable : (fields : ℕ → Sorts) (w a : Sort) → is_plain w ≡ true → fits fields w a ≡ true → is_storable a ≡ true
storable fields w int p h = refl
storable fields w bool p h = refl
storable fields w (enumeration k) p h = refl
storable fields w (structure k) p h = refl
storable fields w (row ss) p h = refl
storable fields w (set s) p h = refl
storable fields w empty_set p h = refl
storable fields w anything p h = refl
storable fields w (array is s) p h = absurd (no-array fields w is s p h)
storable fields int a p h = absurd (cc)
storable fields (enumeration k) a p h = absurd (cc)
storable fields (structure k) a p h = absurd (cc)
storable fields (set x) a p h = absurd (cc)
storable fields w a p h = absurd (cc)

number-form : (f : Form) (s : Sort) (known : Known) (n : ℤ) → IsFormOf f s → s ≡ int → HasKind known f (values.Int n)
number-form _ _ known n of_numbers e = whole_kind n
number-form _ _ known n (of_range low high) e = range_kind low high n
number-form _ _ known n (of_names k) e = absurd (cc)
number-form _ _ known n (of_records k) e = absurd (cc)
number-form _ _ known n (of_sets f s h) e = absurd (cc)

no-truth : (f : Form) (s : Sort) → IsFormOf f s → s ≡ bool → ⊥
no-truth _ _ of_numbers e = absurd (cc)
no-truth _ _ (of_range low high) e = absurd (cc)
no-truth _ _ (of_names k) e = absurd (cc)
no-truth _ _ (of_records k) e = absurd (cc)
no-truth _ _ (of_sets f s h) e = absurd (cc)

no-row : (f : Form) (s : Sort) (ss : Sorts) → IsFormOf f s → s ≡ row ss → ⊥
no-row _ _ ss of_numbers e = absurd (cc)
no-row _ _ ss (of_range low high) e = absurd (cc)
no-row _ _ ss (of_names k) e = absurd (cc)
no-row _ _ ss (of_records k) e = absurd (cc)
no-row _ _ ss (of_sets f s h) e = absurd (cc)

no-empty : (f : Form) (s : Sort) → IsFormOf f s → s ≡ empty_set → ⊥
no-empty _ _ of_numbers e = absurd (cc)
no-empty _ _ (of_range low high) e = absurd (cc)
no-empty _ _ (of_names k) e = absurd (cc)
no-empty _ _ (of_records k) e = absurd (cc)
no-empty _ _ (of_sets f s h) e = absurd (cc)

same_name : (k l : ℕ) → enumeration k ≡ enumeration l → k ≡ l
same_name k l e = cc

same_struct : (k l : ℕ) → structure k ≡ structure l → k ≡ l
same_struct k l e = cc

same_element : (s r : Sort) → set s ≡ set r → s ≡ r
same_element s r e = cc

names-form : (f : Form) (s : Sort) (l : ℕ) → IsFormOf f s → s ≡ enumeration l → f ≡ forms.Enumeration l
names-form _ _ l of_numbers e = absurd (cc)
names-form _ _ l (of_range low high) e = absurd (cc)
names-form _ _ l (of_names k) e = ap forms.Enumeration (same_name k l e)
names-form _ _ l (of_records k) e = absurd (cc)
names-form _ _ l (of_sets f s h) e = absurd (cc)

records-form : (f : Form) (s : Sort) (l : ℕ) → IsFormOf f s → s ≡ structure l → f ≡ forms.Struct l
records-form _ _ l of_numbers e = absurd (cc)
records-form _ _ l (of_range low high) e = absurd (cc)
records-form _ _ l (of_names k) e = absurd (cc)
records-form _ _ l (of_records k) e = ap forms.Struct (same_struct k l e)
records-form _ _ l (of_sets f s h) e = absurd (cc)

sets-form : (f : Form) (s r : Sort) → IsFormOf f s → s ≡ set r → (g : Form) × (f ≡ forms.Set g) × IsFormOf g r
sets-form _ _ r of_numbers e = absurd (cc)
sets-form _ _ r (of_range low high) e = absurd (cc)
sets-form _ _ r (of_names k) e = absurd (cc)
sets-form _ _ r (of_records k) e = absurd (cc)
sets-form _ _ r (of_sets f s h) e = (f, refl, subst (IsFormOf f) (same_element s r e) h)

none-forms : (fs : List Form) (ss : Sorts) → AreFormsOf fs ss → ss ≡ no_sorts → fs ≡ []
none-forms _ _ no_form e = refl
none-forms _ _ (one_form f s fs ss h hs) e = absurd (cc)

first_same : (s r : Sort) (ss rs : Sorts) → more_sorts s ss ≡ more_sorts r rs → (s ≡ r) × (ss ≡ rs)
first_same s r ss rs e = (cc, cc)

first-form : (fs : List Form) (ss : Sorts) (r : Sort) (rs : Sorts) → AreFormsOf fs ss → ss ≡ more_sorts r rs → (f : Form) × (gs : List Form) × (fs ≡ f ∷ gs) × IsFormOf f r × AreFormsOf gs rs
first-form _ _ r rs no_form e = absurd (cc)
first-form _ _ r rs (one_form f s fs ss h hs) e = let m = first_same s r ss rs e in (f, fs, refl, subst (IsFormOf f) m.0 h, subst (AreFormsOf fs) m.1 hs)

module _ (known : Known) (sc : Scope) (env : Environment) (visible : AreOfTheirSorts (λ k. length (names_of known k)) sc env) (agree : StructsAgree known sc) where
  abbrev Has : Sort → Value → Type 0
  Has s v = HasSort (field_sorts sc) (λ k. length (names_of known k)) s v

  abbrev Have : Sorts → List Value → Type 0
  Have ss vs = HaveSorts (field_sorts sc) (λ k. length (names_of known k)) ss vs

  abbrev Kind : Form → Value → Type 0
  Kind form v = HasKind known form v

  -- ---- from types to kinds

  mutual
    pub sort-kind : (f : Form) (s : Sort) (v : Value) → IsFormOf f s → Has s v → Kind f v
    sort-kind f _ _ i (a_number n) = number-form f int known n i refl
    sort-kind f _ _ i (a_truth b) = absurd (no-truth f bool i refl)
    sort-kind f _ _ i (a_name k p l) = subst (λ (g : Form). Kind g (values.Enum k p)) (sym (names-form f (enumeration k) k i refl)) (name_kind k p l)
    sort-kind f _ _ i (a_record k vs hs) =
        subst (λ (g : Form). Kind g (values.Record vs)) (sym (records-form f (structure k) k i refl)) (struct_kind k vs (sorts-kinds (fields_of known k) (field_sorts sc k) vs (agree k) hs))
    sort-kind f _ _ i (a_row ss vs hs) = absurd (no-row f (row ss) ss i refl)
    sort-kind f _ _ i (a_set s vs hs d) = let g = sets-form f (set s) s i refl in subst (λ (h : Form). Kind h (values.Set vs)) (sym g.1) (set_kind g.0 vs (all-kinds g.0 s vs g.2 hs) d)
    sort-kind f _ _ i no_elements = absurd (no-empty f empty_set i refl)

    sorts-kinds : (fs : List Form) (ss : Sorts) (vs : List Value) → AreFormsOf fs ss → Have ss vs → EachHasKind known fs vs
    sorts-kinds fs _ _ i no_parts = subst (λ (gs : List Form). EachHasKind known gs []) (sym (none-forms fs no_sorts i refl)) no_part_kind
    sorts-kinds fs _ _ i (more_parts s v ss vs h hs) =
        let g = first-form fs (more_sorts s ss) s ss i refl in
        subst (λ (gs : List Form). EachHasKind known gs (v ∷ vs)) (sym g.2) (one_part_kind g.0 v g.1 vs (sort-kind g.0 s v g.3 h) (sorts-kinds g.1 ss vs g.4 hs))

    all-kinds : (f : Form) (s : Sort) (vs : List Value) → IsFormOf f s → AllHaveSort (field_sorts sc) (λ k. length (names_of known k)) s vs → AllHaveKind known f vs
    all-kinds f s _ i (none_has _) = no_element_kind f
    all-kinds f s _ i (more_have _ v vs h hs) = one_element_kind f v vs (sort-kind f s v i h) (all-kinds f s vs i hs)

  -- ---- expressions that are evaluated as a whole

  layer-whole : (x : Term-F GroupTerm SetTerm Step Term) (at : ℕ) (m : Meaning) (form : Form) → whole_layer x ≡ true → fit_layer known at m (in_term known x) form env ≡ whole known at m form env
  layer-whole (Term-F.Record p ts) at m form h = absurd (cc)
  layer-whole (Term-F.Listed p ts) at m form h = absurd (cc)
  layer-whole x at m form h = refl

  whole-ok : (at : ℕ) (m : Meaning) (form : Form) (v : Value) → whole known at m form env ≡ Ok v → m.value env ≡ Ok v
  whole-ok at m form v h =
      let w = went_first (evaluated (m.value env)) _ v h in
      let p = passed (is_inside known w.0 form) (Ok w.0) (faults.Outside 0 at) v w.2 in
      evaluated-ok (m.value env) w.0 w.1 ∙ ap Ok (same_ok w.0 v p.1)

  whole-eval : (t : Term) (form : Form) (v : Value) → IsWhole t → (written known t).fit form env ≡ Ok v → eval t env ≡ Ok v
  whole-eval t form v w h =
      let x = in_term known (out-Term t) in
      let e = written-out known t in
      let f : fit_layer known (at_layer x) (term_means x) x form env ≡ Ok v = sym (ap (λ r. r.fit form env) e) ∙ h in
      let m : meaning t ≡ term_means x = sym (written-meaning known t) ∙ ap (λ r. r.meaning) e in
      ap (λ n. n.value env) m ∙ whole-ok (at_layer x) (term_means x) form v (sym (layer-whole (out-Term t) (at_layer x) (term_means x) form w) ∙ f)

  abbrev Fitting : Sort → Sort → Type 0
  Fitting want s = fits (field_sorts sc) want s ≡ true

  by-eval : (f : typed_forms.Form) (t : Term) (a : Typed) (form : Form) (want : Sort) (v : Value) → FieldsStand env.position sc f → Says f t → HasType sc f a → IsData a → IsFormOf form want → Fitting want a.sort → (written known t).fit form env ≡ Ok v → IsWhole t → Kind form v
  by-eval f t a form want v c is h given i g e w =
      let p = form-plain form want i in
      let d = has (λ k. length (names_of known k)) sc env visible f t a v c is h given (storable (field_sorts sc) want a.sort p g) (whole-eval t form v w e) in
      sort-kind form want v i (fitting-has (field_sorts sc) (λ k. length (names_of known k)) (λ k. plain-all-known (field_sorts sc k) (visible.structs k)) want a.sort v (plain-known want p) g d)

  -- ---- records and sets that are written out

  new-kinds : (f : Form) (found vs : List Value) → AllHaveKind known f found → AllHaveKind known f vs → AllHaveKind known f (with_new found vs)
  new-kinds f found _ k (no_element_kind _) = k
  new-kinds f found _ k (one_element_kind _ v vs h hs) = new-kinds f (cond (list_any (value_eq v) found) found (found ++ v ∷ [])) vs (by (list_any (value_eq v) found)) hs
    where
      pushed : (ws : List Value) → AllHaveKind known f ws → AllHaveKind known f (ws ++ v ∷ [])
      pushed _ (no_element_kind _) = one_element_kind f v [] h (no_element_kind f)
      pushed _ (one_element_kind _ w ws d ds) = one_element_kind f w (ws ++ v ∷ []) d (pushed ws ds)

      by : (b : Bool) → AllHaveKind known f (cond b found (found ++ v ∷ []))
      by true = k
      by false = pushed found k

  record-form : (form : Form) (want : Sort) (ss : Sorts) → IsFormOf form want → Fitting want (row ss) → (k : ℕ) × (form ≡ forms.Struct k) × (fits_parts (field_sorts sc) (Some (field_sorts sc k)) ss ≡ true)
  record-form _ _ ss of_numbers g = absurd (cc)
  record-form _ _ ss (of_range low high) g = absurd (cc)
  record-form _ _ ss (of_names k) g = absurd (cc)
  record-form _ _ ss (of_records k) g = (k, refl, g)
  record-form _ _ ss (of_sets f s h) g = absurd (cc)

  set-form : (form : Form) (want : Sort) (parts : List Typed) (s : Sort) → IsFormOf form want → AreOne sc anything parts s → Fitting want (set_sort parts s) → (f : Form) × (w : Sort) × (form ≡ forms.Set f) × IsFormOf f w × EachFits sc w parts
  set-form _ _ [] s of_numbers o g = absurd (cc)
  set-form _ _ (a ∷ parts) s of_numbers o g = absurd (cc)
  set-form _ _ [] s (of_range low high) o g = absurd (cc)
  set-form _ _ (a ∷ parts) s (of_range low high) o g = absurd (cc)
  set-form _ _ [] s (of_names k) o g = absurd (cc)
  set-form _ _ (a ∷ parts) s (of_names k) o g = absurd (cc)
  set-form _ _ [] s (of_records k) o g = absurd (cc)
  set-form _ _ (a ∷ parts) s (of_records k) o g = absurd (cc)
  set-form _ _ [] s (of_sets f w h) o g = (f, w, refl, h, tt)
  set-form _ _ (a ∷ parts) s (of_sets f w h) o g =
      (f, w, refl, h, (each-fits sc (λ k. forms-plain (fields_of known k) (field_sorts sc k) (agree k)) w (a ∷ parts) anything s (form-plain f w h) o g).1)

  abbrev Sorts_of : List Typed → Sorts
  Sorts_of parts = sorts_of (map (λ (x : Typed). x.sort) parts)

  mutual
    pub kind : (f : typed_forms.Form) (t : Term) (a : Typed) (form : Form) (want : Sort) (v : Value) → FieldsStand env.position sc f → Says f t → HasType sc f a → IsData a → IsFormOf form want → Fitting want a.sort → (written known t).fit form env ≡ Ok v → Kind form v
    kind (tuple at fs) t a form want v c is h given i g e =
        let r = record-form form want (Sorts_of h.0) i (subst (λ (x : Typed). Fitting want x.sort) h.4 g) in
        let k = r.0 in
        let m : record_parts known (first_token (terms.Record is.0 is.1)) (meaning (terms.Record is.0 is.1)) (map (written known) is.1) (Some (fields_of known k)) (forms.Struct k) env ≡ Ok v =
        sym (fit-Record known is.0 is.1 (forms.Struct k) env ∙ ap (λ o. record_parts known (first_token (terms.Record is.0 is.1)) (meaning (terms.Record is.0 is.1)) (map (written known) is.1) o (forms.Struct k) env) (parts_of-Struct known k))
        ∙ sym (ap (λ u. (written known u).fit (forms.Struct k) env) is.2) ∙ sym (ap (λ (x : Form). (written known t).fit x env) r.1) ∙ e in
        let w = went_first (each_by_form [] (under env (map (written known) is.1)) (fields_of known k)) (λ vs. Ok (values.Record vs)) v m in
        let q = parts-kinds fs is.1 h.0 (fields_of known k) (field_sorts sc k) [] w.0 c is.3 h.1 h.2 (agree k) r.2 w.1 in
        subst (λ (x : Form). Kind x v) (sym r.1) (subst (Kind (forms.Struct k)) (same_ok (values.Record w.0) v w.2) (struct_kind k w.0 (subst (EachHasKind known (fields_of known k)) (sym q.1) q.2)))
    kind (listed at fs) t a form want v c is h given i g e =
        let r = set-form form want h.0 h.1 i h.5 (subst (λ (x : Typed). Fitting want x.sort) h.6 g) in
        let f = r.0 in
        let m : set_parts known (first_token (terms.Listed is.0 is.1)) (meaning (terms.Listed is.0 is.1)) (map (written known) is.1) (Some f) (forms.Set f) env ≡ Ok v =
        sym (fit-Listed known is.0 is.1 (forms.Set f) env ∙ ap (λ o. set_parts known (first_token (terms.Listed is.0 is.1)) (meaning (terms.Listed is.0 is.1)) (map (written known) is.1) o (forms.Set f) env) (element_of-Set f))
        ∙ sym (ap (λ u. (written known u).fit (forms.Set f) env) is.2) ∙ sym (ap (λ (x : Form). (written known t).fit x env) r.2) ∙ e in
        let w = went_first (all_by_form [] (under env (map (written known) is.1)) f) (λ vs. Ok (set_of vs)) v m in
        let q = elements-kinds fs is.1 h.0 f r.1 [] w.0 c is.3 h.2 h.3 r.3 r.4 w.1 in
        let ks = subst (AllHaveKind known f) (sym q.1) q.2 in
        subst (λ (x : Form). Kind x v) (sym r.2) (subst (Kind (forms.Set f)) (same_ok (set_of w.0) v w.2) (set_kind f (first_occurrences w.0) (new-kinds f [] w.0 (no_element_kind f) ks) (sets_differ w.0)))
    kind (number at) t a form want v c is h given i g e = by-eval (number at) t a form want v c is h given i g e is.0
    kind (named name) t a form want v c is h given i g e =
        by-eval (named name) t a form want v c is h given i g e (ap (λ u. whole_layer (out-Term u)) is ∙ ap whole_layer (terms.outs-Named name.at name.text))
    kind (bracket at f) t a form want v c is h given i g e =
        by-eval (bracket at f) t a form want v c is h given i g e (ap (λ u. whole_layer (out-Term u)) is.2 ∙ ap whole_layer (terms.outs-Bracket is.0 is.1))
    kind (negative at f) t a form want v c is h given i g e = by-eval (negative at f) t a form want v c is h given i g e is.0
    kind (arithmetic at fs) t a form want v c is h given i g e = by-eval (arithmetic at fs) t a form want v c is h given i g e is.0
    kind (absolute at f) t a form want v c is h given i g e = by-eval (absolute at f) t a form want v c is h given i g e is.0
    kind (related at f relation r) t a form want v c is h given i g e = by-eval (related at f relation r) t a form want v c is h given i g e is.0
    kind (member at f over) t a form want v c is h given i g e = by-eval (member at f over) t a form want v c is h given i g e is.0
    kind (connected at fs) t a form want v c is h given i g e = by-eval (connected at fs) t a form want v c is h given i g e is.0
    kind (aggregate at p f) t a form want v c is h given i g e = by-eval (aggregate at p f) t a form want v c is h given i g e is.0
    kind (cardinality at f) t a form want v c is h given i g e = by-eval (cardinality at f) t a form want v c is h given i g e is.0
    kind (all_different at f) t a form want v c is h given i g e = by-eval (all_different at f) t a form want v c is h given i g e is.0
    kind (subscripted at f es) t a form want v c is h given i g e =
        by-eval (subscripted at f es) t a form want v c is h given i g e (ap (λ u. whole_layer (out-Term u)) is.3 ∙ ap whole_layer (terms.outs-Element is.0 is.1 is.2))
    kind (field at f name) t a form want v c is h given i g e =
        by-eval (field at f name) t a form want v c is h given i g e (subst (λ (u : Term). IsWhole u) (sym is.3) (fields-whole is.0 is.1 is.2 (field_name name)))
    kind (described at f p) t a form want v c is h given i g e =
        by-eval (described at f p) t a form want v c is h given i g e (subst (λ (u : Term). IsWhole u) (sym is.4) (described-whole is.0 is.1 is.2 is.3))
    kind (cells at fs) t a form want v c is h given i g e = absurd h
    kind (keyed_cells at ps) t a form want v c is h given i g e = absurd h
    kind (question at op f) t a form want v c is h given i g e = absurd (let k : is_data a ≡ false = ap is_data h.4 in cc)

    parts-kinds : (fs : Forms) (us : List Term) (parts : List Typed) (gs : List Form) (ss : Sorts) (before vs : List Value) → AllStand env.position sc fs → AllSay fs us → HaveTypes sc fs parts → Each IsData parts → AreFormsOf gs ss →
        fits_parts (field_sorts sc) (Some ss) (Sorts_of parts) ≡ true → each_by_form before (under env (map (written known) us)) gs ≡ Ok vs → (rest : List Value) × (vs ≡ before ++ rest) × EachHasKind known gs rest
    parts-kinds no_forms [] parts _ _ before vs c is h given no_form f e = ([], sym (same_ok before vs e) ∙ sym (append-nil before), no_part_kind)
    parts-kinds no_forms [] parts _ _ before vs c is h given (one_form g s gs ss i j) f e = absurd (let x = subst (λ (ps : List Typed). fits_parts (field_sorts sc) (Some (more_sorts s ss)) (Sorts_of ps) ≡ true) h f in cc)
    parts-kinds no_forms (u ∷ us) parts gs ss before vs c is h given i f e = absurd is
    parts-kinds (more_forms x xs) [] parts gs ss before vs c is h given i f e = absurd is
    parts-kinds (more_forms x xs) (u ∷ us) parts _ _ before vs c is h given no_form f e = absurd (let y = subst (λ (ps : List Typed). fits_parts (field_sorts sc) (Some no_sorts) (Sorts_of ps) ≡ true) h.4 f in cc)
    parts-kinds (more_forms x xs) (u ∷ us) parts _ _ before vs c is h given (one_form g s gs ss i j) f e =
        let d = subst (Each IsData) h.4 given in
        let y = and_both (fits (field_sorts sc) s h.0.sort) (fits_parts (field_sorts sc) (Some ss) (Sorts_of h.1)) (subst (λ (ps : List Typed). fits_parts (field_sorts sc) (Some (more_sorts s ss)) (Sorts_of ps) ≡ true) h.4 f) in
        let w = went_first ((written known u).fit g env) (λ v. each_by_form (before ++ v ∷ []) (under env (map (written known) us)) gs) vs e in
        let first = kind x u h.0 g s w.0 c.0 is.0 h.2 d.0 i y.0 w.1 in
        let r = parts-kinds xs us h.1 gs ss (before ++ w.0 ∷ []) vs c.1 is.1 h.3 d.1 j y.1 w.2 in
        (w.0 ∷ r.0, r.1 ∙ append_assoc before (w.0 ∷ []) r.0, one_part_kind g w.0 gs r.0 first r.2)

    elements-kinds : (fs : Forms) (us : List Term) (parts : List Typed) (g : Form) (want : Sort) (before vs : List Value) → AllStand env.position sc fs → AllSay fs us → HaveTypes sc fs parts → Each IsData parts → IsFormOf g want → EachFits sc want parts →
        all_by_form before (under env (map (written known) us)) g ≡ Ok vs → (rest : List Value) × (vs ≡ before ++ rest) × AllHaveKind known g rest
    elements-kinds no_forms [] parts g want before vs c is h given i f e = ([], sym (same_ok before vs e) ∙ sym (append-nil before), no_element_kind g)
    elements-kinds no_forms (u ∷ us) parts g want before vs c is h given i f e = absurd is
    elements-kinds (more_forms x xs) [] parts g want before vs c is h given i f e = absurd is
    elements-kinds (more_forms x xs) (u ∷ us) parts g want before vs c is h given i f e =
        let d = subst (Each IsData) h.4 given in
        let y = subst (EachFits sc want) h.4 f in
        let w = went_first ((written known u).fit g env) (λ v. all_by_form (before ++ v ∷ []) (under env (map (written known) us)) g) vs e in
        let first = kind x u h.0 g want w.0 c.0 is.0 h.2 d.0 i y.0 w.1 in
        let r = elements-kinds xs us h.1 g want (before ++ w.0 ∷ []) vs c.1 is.1 h.3 d.1 i y.1 w.2 in
        (w.0 ∷ r.0, r.1 ∙ append_assoc before (w.0 ∷ []) r.0, one_element_kind g w.0 r.0 first r.2)

value-fit : (known : Known) (env : Environment) (form : Form) (t : Term) (v : Value) → written_value known env form t ≡ Ok v → (written known t).fit form env ≡ Ok v
unfolding written_value
value-fit known env form t v h = h

pub typed_values_fit : TypedValuesFit
typed_values_fit known sc env e form want n v visible agree i c h k =
    let s = typed.sound sc (form_add e) data_alone (fits_in sc want) n h in
    kind-fits known form v (kind known sc env visible agree (form_add e) (add_term e) _ form want v c (add-says e) s.0 s.1 i s.2 (value-fit known env form (add_term e) v k)) (value-stays known env form (add_term e) v k)
