-- A value of the kind of its type whose numbers lie within their ranges fits it.
use Rattle.std.proofs.Common.{◌≡◌, ◌&&◌, true, List, map, sym, ap, ◌∙◌}
use Rattle.std.specs.Prelude.{int_le}
use Rattle.std.specs.List.{list_all}
use Rattle.opl_value.specs.declared.value.Value.{Value}
use Rattle.opl_given.specs.declared.form.Form.{Form}
use Rattle.opl_given.specs.declared.form.Form.TheVariants as forms
use Rattle.opl_given.specs.Forms.{Known, fields_of}
use Rattle.opl_given.specs.Inside.{each_inside, elements_inside, is_inside, parts_inside}
use Rattle.opl_given.proofs.Insides.{is_inside-Int, is_inside-Record, is_inside-Set}
use Rattle.opl_given.proofs.Layers.{element_of-Set, parts_of-Record, parts_of-Struct}
use Rattle.opl_given.proofs.Numbers.{within-Range-Int}
use Rattle.opl_fit.specs.Fits.{Fits, EachFits, AllFit, whole, within, name, struct, row, set, no_part, one_part, no_element, one_element}
use Rattle.opl_fit.specs.OfKind.{HasKind, EachHasKind, AllHaveKind, whole_kind, range_kind, name_kind, struct_kind, row_kind, set_kind, no_part_kind, one_part_kind, no_element_kind, one_element_kind}
use Rattle.opl_fit.proofs.Given.{and_left, and_right, at_most}

mutual
  pub kind-fits : (known : Known) (f : Form) (v : Value) → HasKind known f v → is_inside known v f ≡ true → Fits known f v
  kind-fits known _ _ (whole_kind n) h = whole n
  kind-fits known _ _ (range_kind low high n) h =
      let t : int_le low n && int_le n high ≡ true = sym (is_inside-Int known n (forms.Range low high) ∙ within-Range-Int low high n) ∙ h in
      within low high n (at_most low n (and_left (int_le low n) (int_le n high) t)) (at_most n high (and_right (int_le low n) (int_le n high) t))
  kind-fits known _ _ (name_kind d p l) h = name d p l
  kind-fits known _ _ (struct_kind d vs k) h =
      struct d vs (each-fits known (fields_of known d) vs k (sym (is_inside-Record known vs (forms.Struct d) ∙ ap (parts_inside (map (is_inside known) vs)) (parts_of-Struct known d)) ∙ h))
  kind-fits known _ _ (row_kind fs vs k) h =
      row fs vs (each-fits known fs vs k (sym (is_inside-Record known vs (forms.Record fs) ∙ ap (parts_inside (map (is_inside known) vs)) (parts_of-Record known fs)) ∙ h))
  kind-fits known _ _ (set_kind f vs k d) h =
      set f vs (all-fit known f vs k (sym (is_inside-Set known vs (forms.Set f) ∙ ap (elements_inside (map (is_inside known) vs)) (element_of-Set f)) ∙ h)) d

  each-fits : (known : Known) (fs : List Form) (vs : List Value) → EachHasKind known fs vs → each_inside (map (is_inside known) vs) fs ≡ true → EachFits known fs vs
  each-fits known _ _ no_part_kind h = no_part
  each-fits known _ _ (one_part_kind f v fs vs k ks) h =
      one_part f v fs vs (kind-fits known f v k (and_left (is_inside known v f) (each_inside (map (is_inside known) vs) fs) h))
      (each-fits known fs vs ks (and_right (is_inside known v f) (each_inside (map (is_inside known) vs) fs) h))

  all-fit : (known : Known) (f : Form) (vs : List Value) → AllHaveKind known f vs → list_all (λ e. e f) (map (is_inside known) vs) ≡ true → AllFit known f vs
  all-fit known _ _ (no_element_kind f) h = no_element f
  all-fit known _ _ (one_element_kind f v vs k ks) h =
      one_element f v vs (kind-fits known f v k (and_left (is_inside known v f) (list_all (λ e. e f) (map (is_inside known) vs)) h))
      (all-fit known f vs ks (and_right (is_inside known v f) (list_all (λ e. e f) (map (is_inside known) vs)) h))
