-- A value that has the form of a type is of the type.
use Rattle.std.proofs.Common.{◌≡◌, inl, inr, ℕ, ℤ, List, [], ◌∷◌, length, refl, sym, ap, subst, ◌∙◌}
use Rattle.std.specs.List.{AllByRecursion}
use Rattle.opl_type_rules.specs.Types.{Sort, Sorts}
use Rattle.opl_type_rules.specs.Types.Sort.{int, enumeration, structure, set}
use Rattle.opl_type_rules.specs.Types.Sorts.{no_sorts, more_sorts}
use Rattle.opl_value.specs.declared.value.Value.{Value}
use Rattle.opl_value.specs.declared.value.Value.TheVariants as values
use Rattle.opl_typed_values.specs.OfSort.{AllHaveSort, HasSort, HaveSorts, a_name, a_number, a_record, a_set, more_have, more_parts, no_parts, none_has}
use Rattle.opl_given.specs.declared.form.Form.{Form}
use Rattle.opl_given.specs.declared.form.Form.TheOpen.{Form-F}
use Rattle.opl_given.specs.declared.form.Form.TheVariants as forms
use Rattle.opl_given.specs.declared.form.Form.TheViews.{out-Form}
use Rattle.opl_given.specs.Forms.{Known, fields_of, names_of}
use Rattle.opl_fit.specs.Fits.{AllFit, EachFits, Fits, name, no_element, no_part, one_element, one_part, row, set as set_of, struct, whole, within}
use Rattle.opl_fit.specs.Laws.{TakesNumbers}
use Rattle.opl_fit.specs.Typed.{AreFormsOf, IsFormOf, no_form, of_names, of_numbers, of_range, of_records, of_sets, one_form}

-- ---- which form a form is

abbrev code_layer : {A : Type 0} → Form-F A → ℕ
code_layer Form-F.Nothing = 0
code_layer Form-F.Int = 1
code_layer (Form-F.Range low high) = 1
code_layer (Form-F.Enumeration k) = 2
code_layer (Form-F.Struct k) = 3
code_layer (Form-F.Record parts) = 4
code_layer (Form-F.Set element) = 5

abbrev code : Form → ℕ
code f = code_layer (out-Form f)

abbrev number_layer : {A : Type 0} → Form-F A → ℕ
number_layer (Form-F.Enumeration k) = k
number_layer (Form-F.Struct k) = k
number_layer f = 0

abbrev number : Form → ℕ
number f = number_layer (out-Form f)

abbrev element_layer : Form-F Form → Form
element_layer (Form-F.Set element) = element
element_layer f = forms.Nothing

abbrev element : Form → Form
element f = element_layer (out-Form f)

code-Int : code forms.Int ≡ 1
code-Int = ap code_layer forms.outs-Int

code-Range : (low high : ℤ) → code (forms.Range low high) ≡ 1
code-Range low high = ap code_layer (forms.outs-Range low high)

code-Enumeration : (k : ℕ) → code (forms.Enumeration k) ≡ 2
code-Enumeration k = ap code_layer (forms.outs-Enumeration k)

code-Struct : (k : ℕ) → code (forms.Struct k) ≡ 3
code-Struct k = ap code_layer (forms.outs-Struct k)

code-Record : (fs : List Form) → code (forms.Record fs) ≡ 4
code-Record fs = ap code_layer (forms.outs-Record fs)

code-Set : (f : Form) → code (forms.Set f) ≡ 5
code-Set f = ap code_layer (forms.outs-Set f)

-- ---- which type a form is of

int-of : (f : Form) (s : Sort) → IsFormOf f s → code f ≡ 1 → s ≡ int
int-of _ _ of_numbers e = refl
int-of _ _ (of_range low high) e = refl
int-of _ _ (of_names k) e = absurd (let d = sym (code-Enumeration k) ∙ e in cc)
int-of _ _ (of_records k) e = absurd (let d = sym (code-Struct k) ∙ e in cc)
int-of _ _ (of_sets f s h) e = absurd (let d = sym (code-Set f) ∙ e in cc)

names-of : (f : Form) (s : Sort) → IsFormOf f s → code f ≡ 2 → s ≡ enumeration (number f)
names-of _ _ of_numbers e = absurd (let d = sym code-Int ∙ e in cc)
names-of _ _ (of_range low high) e = absurd (let d = sym (code-Range low high) ∙ e in cc)
names-of _ _ (of_names k) e = ap enumeration (sym (ap number_layer (forms.outs-Enumeration k)))
names-of _ _ (of_records k) e = absurd (let d = sym (code-Struct k) ∙ e in cc)
names-of _ _ (of_sets f s h) e = absurd (let d = sym (code-Set f) ∙ e in cc)

records-of : (f : Form) (s : Sort) → IsFormOf f s → code f ≡ 3 → s ≡ structure (number f)
records-of _ _ of_numbers e = absurd (let d = sym code-Int ∙ e in cc)
records-of _ _ (of_range low high) e = absurd (let d = sym (code-Range low high) ∙ e in cc)
records-of _ _ (of_names k) e = absurd (let d = sym (code-Enumeration k) ∙ e in cc)
records-of _ _ (of_records k) e = ap structure (sym (ap number_layer (forms.outs-Struct k)))
records-of _ _ (of_sets f s h) e = absurd (let d = sym (code-Set f) ∙ e in cc)

no-rows-of : (f : Form) (s : Sort) → IsFormOf f s → code f ≡ 4 → ⊥
no-rows-of _ _ of_numbers e = absurd (let d = sym code-Int ∙ e in cc)
no-rows-of _ _ (of_range low high) e = absurd (let d = sym (code-Range low high) ∙ e in cc)
no-rows-of _ _ (of_names k) e = absurd (let d = sym (code-Enumeration k) ∙ e in cc)
no-rows-of _ _ (of_records k) e = absurd (let d = sym (code-Struct k) ∙ e in cc)
no-rows-of _ _ (of_sets f s h) e = absurd (let d = sym (code-Set f) ∙ e in cc)

sets-of : (f : Form) (s : Sort) → IsFormOf f s → code f ≡ 5 → (x : Sort) × (s ≡ set x) × IsFormOf (element f) x
sets-of _ _ of_numbers e = absurd (let d = sym code-Int ∙ e in cc)
sets-of _ _ (of_range low high) e = absurd (let d = sym (code-Range low high) ∙ e in cc)
sets-of _ _ (of_names k) e = absurd (let d = sym (code-Enumeration k) ∙ e in cc)
sets-of _ _ (of_records k) e = absurd (let d = sym (code-Struct k) ∙ e in cc)
sets-of _ _ (of_sets f s h) e = (s, refl, subst (λ (g : Form). IsFormOf g s) (sym (ap element_layer (forms.outs-Set f))) h)

none-of : (fs : List Form) (ss : Sorts) → AreFormsOf fs ss → fs ≡ [] → ss ≡ no_sorts
none-of _ _ no_form e = refl
none-of _ _ (one_form f s fs ss h hs) e = absurd (cc)

more_same : (f g : Form) (fs gs : List Form) → f ∷ fs ≡ g ∷ gs → (f ≡ g) × (fs ≡ gs)
more_same f g fs gs e = (cc, cc)

more-of : (fs : List Form) (ss : Sorts) (g : Form) (gs : List Form) → AreFormsOf fs ss → fs ≡ g ∷ gs → (r : Sort) × (rs : Sorts) × (ss ≡ more_sorts r rs) × IsFormOf g r × AreFormsOf gs rs
more-of _ _ g gs no_form e = absurd (cc)
more-of _ _ g gs (one_form f s fs ss h hs) e = let m = more_same f g fs gs e in (s, ss, refl, subst (λ (x : Form). IsFormOf x s) m.0 h, subst (λ (xs : List Form). AreFormsOf xs ss) m.1 hs)

-- a type of numbers takes numbers
pub takes-numbers : (f : Form) (s : Sort) → IsFormOf f s → s ≡ int → TakesNumbers f
takes-numbers _ _ of_numbers e = inl refl
takes-numbers _ _ (of_range low high) e = inr (low, high, refl)
takes-numbers _ _ (of_names k) e = absurd (cc)
takes-numbers _ _ (of_records k) e = absurd (cc)
takes-numbers _ _ (of_sets f s h) e = absurd (cc)

-- ---- from forms to types

module _ (known : Known) (fields : ℕ → Sorts) (agree : (k : ℕ) → AreFormsOf (fields_of known k) (fields k)) where
  abbrev Has : Sort → Value → Type 0
  Has s v = HasSort fields (λ k. length (names_of known k)) s v

  mutual
    pub form-has : (f : Form) (s : Sort) (v : Value) → IsFormOf f s → Fits known f v → Has s v
    form-has _ s _ i (whole n) = subst (λ (x : Sort). Has x (values.Int n)) (sym (int-of forms.Int s i code-Int)) (a_number n)
    form-has _ s _ i (within low high n l h) = subst (λ (x : Sort). Has x (values.Int n)) (sym (int-of (forms.Range low high) s i (code-Range low high))) (a_number n)
    form-has _ s _ i (name d p l) =
        subst (λ (x : Sort). Has x (values.Enum d p)) (sym (names-of (forms.Enumeration d) s i (code-Enumeration d) ∙ ap enumeration (ap number_layer (forms.outs-Enumeration d)))) (a_name d p l)
    form-has _ s _ i (struct d vs h) =
        subst (λ (x : Sort). Has x (values.Record vs)) (sym (records-of (forms.Struct d) s i (code-Struct d) ∙ ap structure (ap number_layer (forms.outs-Struct d)))) (a_record d vs (forms-have (fields_of known d) (fields d) vs (agree d) h))
    form-has _ s _ i (row fs vs h) = absurd (no-rows-of (forms.Record fs) s i (code-Record fs))
    form-has _ s _ i (set_of f vs h d) =
        let r = sets-of (forms.Set f) s i (code-Set f) in
        subst (λ (x : Sort). Has x (values.Set vs)) (sym r.1) (a_set r.0 vs (all-have f r.0 vs (subst (λ (g : Form). IsFormOf g r.0) (ap element_layer (forms.outs-Set f)) r.2) h) d)

    forms-have : (fs : List Form) (ss : Sorts) (vs : List Value) → AreFormsOf fs ss → EachFits known fs vs → HaveSorts fields (λ k. length (names_of known k)) ss vs
    forms-have _ ss _ i no_part = subst (λ (xs : Sorts). HaveSorts fields (λ k. length (names_of known k)) xs []) (sym (none-of [] ss i refl)) no_parts
    forms-have _ ss _ i (one_part f v fs vs h hs) =
        let r = more-of (f ∷ fs) ss f fs i refl in
        subst (λ (xs : Sorts). HaveSorts fields (λ k. length (names_of known k)) xs (v ∷ vs)) (sym r.2) (more_parts r.0 v r.1 vs (form-has f r.0 v r.3 h) (forms-have fs r.1 vs r.4 hs))

    all-have : (f : Form) (s : Sort) (vs : List Value) → IsFormOf f s → AllFit known f vs → AllHaveSort fields (λ k. length (names_of known k)) s vs
    all-have f s _ i (no_element _) = none_has s
    all-have f s _ i (one_element _ v vs h hs) = more_have s v vs (form-has f s v i h) (all-have f s vs i hs)

  -- cells one after the other
  pub cells-have : (f : Form) (s : Sort) (vs : List Value) → IsFormOf f s → AllByRecursion (Fits known f) vs → AllHaveSort fields (λ k. length (names_of known k)) s vs
  cells-have f s [] i h = none_has s
  cells-have f s (v ∷ vs) i h = more_have s v vs (form-has f s v i h.0) (cells-have f s vs i h.1)
