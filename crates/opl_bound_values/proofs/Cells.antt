-- The cells of an array that the model writes have the form of their type.
use Rattle.std.proofs.Common.{◌≡◌, ◌<◌, ◌||◌, ℕ, suc, ◌+◌, ◌*◌, Bool, true, false, cond, List, [], ◌∷◌, ◌++◌, length, map, Option, None, Some, Ok, Err, refl, sym, ap, subst, ◌∙◌, arith, mul_assoc}
use Rattle.std.specs.Prelude.{is_some, nat_eq}
use Rattle.std.specs.List.{AllByRecursion, flat_map, list_all, list_any}
use Rattle.std.proofs.Math.Nat.{mul-le-mul_right}
use Rattle.opl_tree.specs.declared.declaration.DimTree.{DimTree}
use Rattle.opl_tree.specs.declared.expression.NameTree.{NameTree}
use Rattle.opl_term.specs.declared.term.GroupTerm.{GroupTerm}
use Rattle.opl_term.specs.declared.term.GroupTerm.TheOpen.{Term-F}
use Rattle.opl_term.specs.declared.term.GroupTerm.TheViews.{out-Term}
use Rattle.opl_term.specs.declared.term.SetTerm.{SetTerm}
use Rattle.opl_term.specs.declared.term.Step.{Step}
use Rattle.opl_term.specs.declared.term.Term.{Term}
use Rattle.opl_term.specs.declared.term.Term.TheVariants as terms
use Rattle.opl_type_rules.specs.Types.{Sort, Sorts, all_same, fits, is_storable, same, sorts_of}
use Rattle.opl_type_rules.specs.Types.Sort.{int, enumeration, structure, set, array, anything}
use Rattle.opl_type_rules.specs.Scope.{Scope, field_sorts, fits_in, with_values}
use Rattle.opl_type_rules.specs.Scope as scope
use Rattle.opl_type_rules.specs.Scope.Thing.{value}
use Rattle.opl_type_rules.specs.Forms as typed_forms
use Rattle.opl_type_rules.specs.Forms.{Forms, Pairs}
use Rattle.opl_type_rules.specs.Forms.Form.{number, named, bracket, negative, arithmetic, absolute, related, member, connected, aggregate, cardinality, all_different, subscripted, field, tuple, listed, described, cells, keyed_cells, question}
use Rattle.opl_type_rules.specs.Forms.Forms.{no_forms, more_forms}
use Rattle.opl_type_rules.specs.Forms.Pairs.{no_pairs, more_pairs}
use Rattle.opl_type_rules.specs.Expressions.Need.{data_alone}
use Rattle.opl_declaration_types.specs.Declarations.{cells_left}
use Rattle.opl_typed_model.specs.Declares.{HasValue, HaveKeys, HaveValues, dim_names, named_sorts, with_one}
use Rattle.opl_typed_model.specs.Places.{Stands}
use Rattle.opl_value.specs.declared.value.Dimension.TheViews.{out-Value}
use Rattle.opl_value.specs.declared.value.Value.{Value}
use Rattle.opl_value.specs.declared.value.Value.TheVariants as values
use Rattle.opl_value.specs.Places.{elements, lists, place_in, value_at}
use Rattle.opl_value.proofs.Joint.{place_in-within}
use Rattle.opl_eval.specs.Evaluation.{Environment, Item, eval, meaning}
use Rattle.opl_eval.proofs.Meanings.{meaning-Bracket, meaning-Named}
use Rattle.opl_typed_values.specs.OfSort.{AllHaveSort, HasSort, IsArrayOf, is_plain, more_have, none_has}
use Rattle.opl_typed_values.specs.Positions.{AllStand, FieldsStand, PairsStand}
use Rattle.opl_typed_values.specs.Visible.{AreOfTheirSorts}
use Rattle.opl_typed_values.proofs.Choices.{fields-stay, item-value, one-more}
use Rattle.opl_typed_values.proofs.DataKinds.{array-name, data-decides, is_name, some-type}
use Rattle.opl_typed_values.proofs.Fitting.{and_both}
use Rattle.opl_typed_values.proofs.Outside.{IsWhole, same_ok as found_same, whole_layer}
use Rattle.opl_typed_values.proofs.Said.{AllSay, PairsSay, Says, described-whole, fields-whole}
use Rattle.opl_typed_values.proofs.Sound.{cell-has, item-has, with-values-stay}
use Rattle.opl_given.specs.declared.fault.BindFault.{BindFault}
use Rattle.opl_given.specs.declared.form.Form.{Form}
use Rattle.opl_given.specs.Arrays.{Axis, is_free, values_of}
use Rattle.opl_given.specs.Faults.{Bound}
use Rattle.opl_given.specs.Forms.{Known, fields_of, names_of}
use Rattle.opl_given.specs.Inside.{is_inside}
use Rattle.opl_given.specs.Values.{all_by_form}
use Rattle.opl_given.proofs.CellLaws.{passed, same_number, same_ok, went_first}
use Rattle.opl_bind.specs.Dimensions.{evaluated}
use Rattle.opl_bind.specs.Written.{Fit, Written, each_cell, free_slots, further, gathered, has_cells_layer, has_name, laid, listed_cells, matched, opened, over, placed, places_among, slot_at, taken_cells, taken_layer, tested, with_name, with_slot, written, written_cells, written_layer}
use Rattle.opl_bind.proofs.WrittenLayers.{cells-Array, cells-KeyedArray, cells-none, written-meaning}
use Rattle.opl_fit.specs.Fits.{Fits}
use Rattle.opl_fit.specs.OfKind.{HasKind}
use Rattle.opl_fit.specs.Typed.{AreFormsOf, IsFormOf, StructsAgree}
use Rattle.opl_fit.proofs.OfKind.{kind-fits}
use Rattle.opl_fit.proofs.TypedValues.{form-plain, kind, sort-kind}
use Rattle.opl_fit.proofs.Written.{all-joined, all-set, cells-stay}
use Rattle.opl_fit.proofs.WrittenCells.{evaluated-ok, in_term, written-out}
use Rattle.opl_bound_values.proofs.Dimensions.{AxesHave}

-- ---- expressions that are no `[..]` and no `#[..]#`

abbrev is_cells : typed_forms.Form → Bool
is_cells (cells at fs) = true
is_cells (keyed_cells at ps) = true
is_cells f = false

abbrev NoCells : Term → Type 0
NoCells t = has_cells_layer (out-Term t) ≡ false

whole-bare : (x : Term-F GroupTerm SetTerm Step Term) → whole_layer x ≡ true → has_cells_layer x ≡ false
whole-bare (Term-F.Array at ts) h = absurd (cc)
whole-bare (Term-F.KeyedArray at ks cs) h = absurd (cc)
whole-bare x h = refl

bare-whole : (t : Term) → IsWhole t → NoCells t
bare-whole t h = whole-bare (out-Term t) h

bare : (f : typed_forms.Form) (t : Term) → Says f t → is_cells f ≡ false → NoCells t
bare (number at) t is n = bare-whole t is.0
bare (named name) t is n = ap (λ u. has_cells_layer (out-Term u)) is ∙ ap has_cells_layer (terms.outs-Named name.at name.text)
bare (bracket at f) t is n = ap (λ u. has_cells_layer (out-Term u)) is.2 ∙ ap has_cells_layer (terms.outs-Bracket is.0 is.1)
bare (negative at f) t is n = bare-whole t is.0
bare (arithmetic at fs) t is n = bare-whole t is.0
bare (absolute at f) t is n = bare-whole t is.0
bare (related at f r g) t is n = bare-whole t is.0
bare (member at f over) t is n = bare-whole t is.0
bare (connected at fs) t is n = bare-whole t is.0
bare (aggregate at p f) t is n = bare-whole t is.0
bare (cardinality at f) t is n = bare-whole t is.0
bare (all_different at f) t is n = bare-whole t is.0
bare (subscripted at f es) t is n = ap (λ u. has_cells_layer (out-Term u)) is.3 ∙ ap has_cells_layer (terms.outs-Element is.0 is.1 is.2)
bare (field at f name) t is n = subst NoCells (sym is.3) (bare-whole _ (fields-whole is.0 is.1 is.2 _))
bare (tuple at fs) t is n = ap (λ u. has_cells_layer (out-Term u)) is.2 ∙ ap has_cells_layer (terms.outs-Record is.0 is.1)
bare (listed at fs) t is n = ap (λ u. has_cells_layer (out-Term u)) is.2 ∙ ap has_cells_layer (terms.outs-Listed is.0 is.1)
bare (described at f p) t is n = subst NoCells (sym is.4) (bare-whole _ (described-whole is.0 is.1 is.2 is.3))
bare (cells at fs) t is n = absurd (cc)
bare (keyed_cells at ps) t is n = absurd (cc)
bare (question at op f) t is n = bare-whole t is

-- such an expression has no cells over index sets
layer-wrong : (known : Known) (x : Term-F GroupTerm SetTerm Step Term) (wrong : BindFault) (axis : Axis) (axes : List Axis) (env : Environment) → has_cells_layer x ≡ false → (written_layer known (in_term known x)).cells wrong (axis ∷ axes) env ≡ Err wrong
layer-wrong known (Term-F.Array at ts) wrong axis axes env h = absurd (cc)
layer-wrong known (Term-F.KeyedArray at ks cs) wrong axis axes env h = absurd (cc)
layer-wrong known x wrong axis axes env h = refl

bare-wrong : (known : Known) (t : Term) (wrong : BindFault) (axis : Axis) (axes : List Axis) (env : Environment) → NoCells t → (written known t).cells wrong (axis ∷ axes) env ≡ Err wrong
bare-wrong known t wrong axis axes env h = ap (λ w. w.cells wrong (axis ∷ axes) env) (written-out known t) ∙ layer-wrong known (out-Term t) wrong axis axes env h

layer-has : (known : Known) (x : Term-F GroupTerm SetTerm Step Term) → has_cells_layer (in_term known x) ≡ has_cells_layer x
layer-has known (Term-F.Array at ts) = refl
layer-has known (Term-F.KeyedArray at ks cs) = refl
layer-has known x = refl

written-has : (known : Known) (t : Term) → (written known t).has_cells ≡ has_cells_layer (out-Term t)
written-has known t = ap (λ w. w.has_cells) (written-out known t) ∙ layer-has known (out-Term t)

-- ---- places among those of another array

abbrev Below : ℕ → List ℕ → Type 0
Below m ps = AllByRecursion (λ p. p < m) ps

below-joined : (m : ℕ) (ps qs : List ℕ) → Below m ps → Below m qs → Below m (ps ++ qs)
below-joined m [] qs h k = k
below-joined m (p ∷ ps) qs h k = (h.0, below-joined m ps qs h.1 k)

matched-below : (wrong : BindFault) (others : List Value) (before : List ℕ) (vs : List Value) (ps : List ℕ) → Below (length others) before → matched wrong others before vs ≡ Ok ps → Below (length others) ps
matched-below wrong others before [] ps b e = subst (Below (length others)) (same_ok before ps e) b
matched-below wrong others before (v ∷ vs) ps b e =
    let w = went_first (placed wrong (place_in v others)) (λ p. matched wrong others (before ++ p ∷ []) vs) ps e in
    matched-below wrong others (before ++ w.0 ∷ []) vs ps (below-joined (length others) before (w.0 ∷ []) b (place_in-within v others w.0 (found-place (place_in v others) w.0 w.1), tt)) w.2
  where
    found-place : (o : Option ℕ) (p : ℕ) → placed wrong o ≡ Ok p → o ≡ Some p
    found-place None p h = absurd (cc)
    found-place (Some q) p h = ap Some (same_ok q p h)

within-row : (n p m l : ℕ) → n < m → p < l → n * l + p < m * l
within-row n p m l h k = let r = mul-le-mul_right {m = suc n} {n = m} l h in omega (arith, k, r)

row-below : (n m l : ℕ) (ps : List ℕ) → n < m → Below l ps → Below (m * l) (map (λ p. n * l + p) ps)
row-below n m l [] h b = tt
row-below n m l (p ∷ ps) h b = (within-row n p m l h b.0, row-below n m l ps h b.1)

rows-below : (m l : ℕ) (ns ps : List ℕ) → Below m ns → Below l ps → Below (m * l) (flat_map (λ n. map (λ p. n * l + p) ps) ns)
rows-below m l [] ps h b = tt
rows-below m l (n ∷ ns) ps h b = below-joined (m * l) (map (λ p. n * l + p) ps) (flat_map (λ k. map (λ p. k * l + p) ps) ns) (row-below n m l ps h.0 b) (rows-below m l ns ps h.1 b)

among-below : (wrong : BindFault) (m : ℕ) (before : List ℕ) (ds os : List (List Value)) (ps : List ℕ) → Below m before → places_among wrong before ds os ≡ Ok ps → Below (m * elements os) ps
among-below wrong m before [] [] ps b e = subst (λ (k : ℕ). Below k ps) (omega arith) (subst (Below m) (same_ok before ps e) b)
among-below wrong m before [] (o ∷ os) ps b e = absurd (cc)
among-below wrong m before (d ∷ ds) [] ps b e = absurd (cc)
among-below wrong m before (d ∷ ds) (o ∷ os) ps b e =
    let w = went_first (further wrong before d o) (λ more. places_among wrong more ds os) ps e in
    let p = passed (nat_eq (length d) (length o)) _ wrong w.0 w.1 in
    let q = went_first (matched wrong o [] d) (λ ns. Ok (flat_map (λ n. map (λ p. n * length o + p) ns) before)) w.0 p.1 in
    let r = subst (Below (m * length o)) (same_ok _ w.0 q.2) (rows-below m (length o) before q.0 b (matched-below wrong o [] d q.0 tt q.1)) in
    subst (λ (k : ℕ). Below k ps) (mul_assoc m (length o) (elements os)) (among-below wrong (m * length o) w.0 ds os ps r w.2)

-- ---- types

same-plain : (s b : Sort) → is_plain s ≡ true → same s b ≡ true → s ≡ b
same-plain int int p h = refl
same-plain (enumeration k) (enumeration l) p h = ap enumeration (same_number k l h)
same-plain (structure k) (structure l) p h = ap structure (same_number k l h)
same-plain (set s) (set b) p h = ap set (same-plain s b p h)
same-plain int b p h = absurd (cc)
same-plain (enumeration k) b p h = absurd (cc)
same-plain (structure k) b p h = absurd (cc)
same-plain (set s) b p h = absurd (cc)
same-plain s b p h = absurd (cc)

-- what may stand where an array is declared is an array of the same elements, or ranges over `{}`
array-stands : (fields : ℕ → Sorts) (is : Sorts) (s x : Sort) → is_plain s ≡ true → fits fields (array is s) x ≡ true → (x ≡ anything → ⊥) → (js : Sorts) × (x ≡ array js s)
array-stands fields is s (array js b) p h n = let q = and_both (all_same is js) (same s b) h in (js, ap (array js) (sym (same-plain s b p q.1)))
array-stands fields is s anything p h n = absurd (n refl)
array-stands fields is s x p h n = absurd (cc)

name-item : (env : Environment) (f : typed_forms.Form) (t : Term) (i : Item) → is_name f ≡ true → Says f t → (meaning t).item env ≡ Some i → eval t env ≡ Ok i.value
name-item env (named name) t i n is e =
    let m = ap meaning is ∙ meaning-Named name.at name.text in
    ap (λ x. x.value env) m ∙ ap Ok (item-value env name.text i (sym (ap (λ x. x.item env) m) ∙ e))
name-item env (bracket at f) t i n is e =
    let m = ap meaning is.2 ∙ meaning-Bracket is.0 is.1 in
    ap (λ x. x.value env) m ∙ name-item env f is.1 i n is.3 (sym (ap (λ x. x.item env) m) ∙ e)
name-item env f t i n is e = absurd (cc)

plain-storable : (s : Sort) → is_plain s ≡ true → is_storable s ≡ true
plain-storable int h = refl
plain-storable (enumeration k) h = refl
plain-storable (structure k) h = refl
plain-storable (set s) h = refl
plain-storable s h = absurd (cc)

-- ---- cells without names of dimensions

abbrev N : Known → ℕ → ℕ
N known k = length (names_of known k)

module _ (known : Known) (form : Form) (s : Sort) (i : IsFormOf form s) where
  abbrev Kind : Value → Type 0
  Kind v = HasKind known form v

  abbrev Kinds : List Value → Type 0
  Kinds vs = AllByRecursion Kind vs

  module _ (sc : Scope) (env : Environment) (of : AreOfTheirSorts (N known) sc env) (agree : StructsAgree known sc) where
    abbrev FitKind : Fit → Type 0
    FitKind fit = (v : Value) → fit form env ≡ Ok v → Kind v

    abbrev FitKinds : List Fit → Type 0
    FitKinds fits = AllByRecursion FitKind fits

    pub alone-kind : (f : typed_forms.Form) (t : Term) → Stands sc data_alone (fits_in sc s) f → Says f t → FieldsStand env.position sc f → FitKind (written known t).fit
    alone-kind f t h is c v e = kind known sc env of agree f t h.0 form s v c is h.1 h.2 i h.3 e

    abbrev SlotKind : Option (List Fit) → Type 0
    SlotKind None = Unit {0}
    SlotKind (Some fits) = FitKinds fits

    slots-with : (ss : List (Option (List Fit))) (p : Option ℕ) (fits : List Fit) → FitKinds fits → AllByRecursion SlotKind ss → AllByRecursion SlotKind (with_slot ss p fits)
    slots-with ss None fits f h = h
    slots-with ss (Some p) fits f h = all-set SlotKind ss p (Some fits) h f

    slots-free : (ks : List Written) → AllByRecursion SlotKind (free_slots ks)
    slots-free [] = tt
    slots-free (k ∷ ks) = (tt, slots-free ks)

    gathered-kinds : (wrong : BindFault) (before : List Fit) (ss : List (Option (List Fit))) (fits : List Fit) → FitKinds before → AllByRecursion SlotKind ss → gathered wrong before ss ≡ Ok fits → FitKinds fits
    gathered-kinds wrong before [] fits b h e = subst FitKinds (same_ok before fits e) b
    gathered-kinds wrong before (Some found ∷ ss) fits b h e = gathered-kinds wrong (before ++ found) ss fits (all-joined FitKind before found b h.0) h.1 e
    gathered-kinds wrong before (None ∷ ss) fits b h e = absurd (cc)

    no-cells : (f : typed_forms.Form) (t : Term) (wrong : BindFault) (axis : Axis) (axes : List Axis) (fits : List Fit) → is_cells f ≡ false → Says f t → (written known t).cells wrong (axis ∷ axes) env ≡ Ok fits → FitKinds fits
    no-cells f t wrong axis axes fits n is e = absurd (let x = sym (bare-wrong known t wrong axis axes env (bare f t is n)) ∙ e in cc)

    mutual
      pub cells-kinds : (f : typed_forms.Form) (t : Term) (is : List Sort) (axes : List Axis) (wrong : BindFault) (fits : List Fit) → HasValue sc s is f → Says f t → FieldsStand env.position sc f → length is ≡ length axes →
          (written known t).cells wrong axes env ≡ Ok fits → FitKinds fits
      cells-kinds f t [] [] wrong fits h is c l e = subst FitKinds (same_ok ((written known t).fit ∷ []) fits (sym (cells-none known t wrong env) ∙ e)) (alone-kind f t h is c, tt)
      cells-kinds f t [] (axis ∷ axes) wrong fits h is c l e = absurd (omega (arith, l))
      cells-kinds f t (j ∷ js) [] wrong fits h is c l e = absurd (omega (arith, l))
      cells-kinds (cells at fs) t (j ∷ js) (axis ∷ axes) wrong fits h is c l e =
          let p = passed (nat_eq (length is.1) (length (values_of axis))) _ wrong fits (sym (cells-Array known is.0 is.1 wrong axis axes env) ∙ sym (ap (λ u. (written known u).cells wrong (axis ∷ axes) env) is.2) ∙ e) in
          opened-kinds fs is.1 js axes wrong [] fits h is.3 c (omega (arith, l)) tt p.1
      cells-kinds (keyed_cells at ps) t (j ∷ js) (axis ∷ axes) wrong fits h is c l e =
          let p = passed (nat_eq (length is.1) (length (values_of axis))) _ wrong fits (sym (cells-KeyedArray known is.0 is.1 is.2 wrong axis axes env) ∙ sym (ap (λ u. (written known u).cells wrong (axis ∷ axes) env) is.3) ∙ e) in
          let w = went_first (laid wrong axis axes env (free_slots (map (written known) is.1)) (map (written known) is.1) (map (written known) is.2)) (gathered wrong []) fits p.1 in
          gathered-kinds wrong [] w.0 fits tt (laid-kinds ps is.2 j js axis axes wrong (free_slots (map (written known) is.1)) (map (written known) is.1) w.0 h is.4 c (omega (arith, l)) (slots-free (map (written known) is.1)) w.1) w.2
      cells-kinds (number at) t (j ∷ js) (axis ∷ axes) wrong fits h is c l e = no-cells (number at) t wrong axis axes fits refl is e
      cells-kinds (named name) t (j ∷ js) (axis ∷ axes) wrong fits h is c l e = no-cells (named name) t wrong axis axes fits refl is e
      cells-kinds (bracket at f) t (j ∷ js) (axis ∷ axes) wrong fits h is c l e = no-cells (bracket at f) t wrong axis axes fits refl is e
      cells-kinds (negative at f) t (j ∷ js) (axis ∷ axes) wrong fits h is c l e = no-cells (negative at f) t wrong axis axes fits refl is e
      cells-kinds (arithmetic at fs) t (j ∷ js) (axis ∷ axes) wrong fits h is c l e = no-cells (arithmetic at fs) t wrong axis axes fits refl is e
      cells-kinds (absolute at f) t (j ∷ js) (axis ∷ axes) wrong fits h is c l e = no-cells (absolute at f) t wrong axis axes fits refl is e
      cells-kinds (related at f r g) t (j ∷ js) (axis ∷ axes) wrong fits h is c l e = no-cells (related at f r g) t wrong axis axes fits refl is e
      cells-kinds (member at f over) t (j ∷ js) (axis ∷ axes) wrong fits h is c l e = no-cells (member at f over) t wrong axis axes fits refl is e
      cells-kinds (connected at fs) t (j ∷ js) (axis ∷ axes) wrong fits h is c l e = no-cells (connected at fs) t wrong axis axes fits refl is e
      cells-kinds (aggregate at p f) t (j ∷ js) (axis ∷ axes) wrong fits h is c l e = no-cells (aggregate at p f) t wrong axis axes fits refl is e
      cells-kinds (cardinality at f) t (j ∷ js) (axis ∷ axes) wrong fits h is c l e = no-cells (cardinality at f) t wrong axis axes fits refl is e
      cells-kinds (all_different at f) t (j ∷ js) (axis ∷ axes) wrong fits h is c l e = no-cells (all_different at f) t wrong axis axes fits refl is e
      cells-kinds (subscripted at f es) t (j ∷ js) (axis ∷ axes) wrong fits h is c l e = no-cells (subscripted at f es) t wrong axis axes fits refl is e
      cells-kinds (field at f name) t (j ∷ js) (axis ∷ axes) wrong fits h is c l e = no-cells (field at f name) t wrong axis axes fits refl is e
      cells-kinds (tuple at fs) t (j ∷ js) (axis ∷ axes) wrong fits h is c l e = no-cells (tuple at fs) t wrong axis axes fits refl is e
      cells-kinds (listed at fs) t (j ∷ js) (axis ∷ axes) wrong fits h is c l e = no-cells (listed at fs) t wrong axis axes fits refl is e
      cells-kinds (described at f p) t (j ∷ js) (axis ∷ axes) wrong fits h is c l e = no-cells (described at f p) t wrong axis axes fits refl is e
      cells-kinds (question at op f) t (j ∷ js) (axis ∷ axes) wrong fits h is c l e = no-cells (question at op f) t wrong axis axes fits refl is e

      opened-kinds : (fs : Forms) (us : List Term) (is : List Sort) (axes : List Axis) (wrong : BindFault) (before fits : List Fit) → HaveValues sc s is fs → AllSay fs us → AllStand env.position sc fs → length is ≡ length axes → FitKinds before →
          opened wrong axes env before (map (written known) us) ≡ Ok fits → FitKinds fits
      opened-kinds no_forms [] is axes wrong before fits h says c l b e = subst FitKinds (same_ok before fits e) b
      opened-kinds no_forms (u ∷ us) is axes wrong before fits h says c l b e = absurd says
      opened-kinds (more_forms f fs) [] is axes wrong before fits h says c l b e = absurd says
      opened-kinds (more_forms f fs) (u ∷ us) is axes wrong before fits h says c l b e =
          let w = went_first ((written known u).cells wrong axes env) (λ more. opened wrong axes env (before ++ more) (map (written known) us)) fits e in
          opened-kinds fs us is axes wrong (before ++ w.0) fits h.1 says.1 c.1 l (all-joined FitKind before w.0 b (cells-kinds f u is axes wrong w.0 h.0 says.0 c.0 l w.1)) w.2

      laid-kinds : (ps : Pairs) (us : List Term) (j : Sort) (is : List Sort) (axis : Axis) (axes : List Axis) (wrong : BindFault) (ss : List (Option (List Fit))) (ks : List Written) (more : List (Option (List Fit))) → HaveKeys sc s j is ps → PairsSay ps us →
          PairsStand env.position sc ps → length is ≡ length axes → AllByRecursion SlotKind ss → laid wrong axis axes env ss ks (map (written known) us) ≡ Ok more → AllByRecursion SlotKind more
      laid-kinds ps us j is axis axes wrong ss [] more h says c l b e = subst (AllByRecursion SlotKind) (same_ok ss more e) b
      laid-kinds no_pairs [] j is axis axes wrong ss (k ∷ ks) more h says c l b e = subst (AllByRecursion SlotKind) (same_ok ss more e) b
      laid-kinds no_pairs (u ∷ us) j is axis axes wrong ss (k ∷ ks) more h says c l b e = absurd says
      laid-kinds (more_pairs key f ps) [] j is axis axes wrong ss (k ∷ ks) more h says c l b e = absurd says
      laid-kinds (more_pairs key f ps) (u ∷ us) j is axis axes wrong ss (k ∷ ks) more h says c l b e =
          let w = went_first (evaluated (k.meaning.value env)) _ more e in
          let place = place_in w.0 (values_of axis) in
          let p = passed (is_free (slot_at ss place)) _ wrong more w.2 in
          let q = went_first ((written known u).cells wrong axes env) (λ fits. laid wrong axis axes env (with_slot ss place fits) ks (map (written known) us)) more p.1 in
          laid-kinds ps us j is axis axes wrong (with_slot ss place q.0) ks more h.2 says.1 c.1 l (slots-with ss place q.0 (cells-kinds f u is axes wrong q.0 h.1 says.0 c.0 l q.1) b) q.2

    run-kinds : (before : List Value) (fits : List Fit) (vs : List Value) → FitKinds fits → Kinds before → all_by_form before (map (λ fit. λ g. fit g env) fits) form ≡ Ok vs → Kinds vs
    run-kinds before [] vs h b e = subst Kinds (same_ok before vs e) b
    run-kinds before (fit ∷ fits) vs h b e =
        let w = went_first (fit form env) (λ v. all_by_form (before ++ v ∷ []) (map (λ x. λ g. x g env) fits) form) vs e in
        run-kinds (before ++ w.0 ∷ []) fits vs h.1 (all-joined Kind before (w.0 ∷ []) b (h.0 w.0 w.1, tt)) w.2

    listed-kinds : (f : typed_forms.Form) (t : Term) (is : List Sort) (axes : List Axis) (vs : List Value) → HasValue sc s is f → Says f t → FieldsStand env.position sc f → length is ≡ length axes → listed_cells (written known t) form axes env ≡ Ok vs → Kinds vs
    listed-kinds f t is axes vs h says c l e =
        let w = went_first ((written known t).cells _ axes env) (λ fits. all_by_form [] (map (λ fit. λ g. fit g env) fits) form) vs e in
        run-kinds [] w.0 vs (cells-kinds f t is axes _ w.0 h says c l w.1) tt w.2

    -- ---- the cells of another array

    picked-kinds : (vs : List Value) (ps : List ℕ) → AllHaveSort (field_sorts sc) (N known) s vs → Below (length vs) ps → Kinds (map (value_at vs) ps)
    picked-kinds vs [] h b = tt
    picked-kinds vs (p ∷ ps) h b = (sort-kind known sc env of agree form s (value_at vs p) i (cell-has (N known) sc env of s vs p h b.0), picked-kinds vs ps h b.1)

    taken-layer-kinds : (at : ℕ) (axes : List Axis) (w : Value) (vs : List Value) → IsArrayOf (field_sorts sc) (N known) s w → taken_layer known at form axes (out-Value w) ≡ Ok vs → Kinds vs
    taken-layer-kinds at axes w vs a e =
        let x = sym (ap (λ u. taken_layer known at form axes (out-Value u)) a.is ∙ ap (taken_layer known at form axes) (values.outs-Array a.space a.cells)) ∙ e in
        let y = went_first (places_among _ (0 ∷ []) (map values_of axes) (lists a.space)) (λ places. tested known at form (map (value_at a.cells) places)) vs x in
        let t = passed (list_all (λ v. is_inside known v form) (map (value_at a.cells) y.0)) (Ok (map (value_at a.cells) y.0)) _ vs y.2 in
        let b = among-below _ 1 (0 ∷ []) (map values_of axes) (lists a.space) y.0 (omega arith, tt) y.1 in
        subst Kinds (same_ok (map (value_at a.cells) y.0) vs t.1) (picked-kinds a.cells y.0 a.each (subst (λ (n : ℕ). Below n y.0) (omega (arith, a.filled)) b))

    taken-kinds : (f : typed_forms.Form) (t : Term) (j : Sort) (js : List Sort) (axes : List Axis) (vs : List Value) → Stands sc data_alone (fits_in sc (array (sorts_of (j ∷ js)) s)) f → Says f t → taken_cells known (written known t) form axes env ≡ Ok vs → Kinds vs
    taken-kinds f t j js axes vs h says e =
        let p = form-plain form s i in
        let w = went_first (evaluated ((written known t).meaning.value env)) _ vs e in
        let v = evaluated-ok (eval t env) w.0 (ap (λ m. evaluated (m.value env)) (sym (written-meaning known t)) ∙ w.1) in
        let a = array-stands (field_sorts sc) (sorts_of (j ∷ js)) s h.0.sort p h.3 (some-type (N known) sc env of f h.0 h.1 h.2) in
        let n = array-name (N known) sc env of f h.0 a.0 s h.1 h.2 a.1 in
        let x = item-has (N known) sc env of f t h.0 a.0 s n says h.1 (data-decides h.0 h.2) a.1 (plain-storable s p) in
        taken-layer-kinds (written known t).at axes w.0 vs (subst (λ (u : Value). IsArrayOf (field_sorts sc) (N known) s u) (found_same x.0.value w.0 (sym (name-item env f t x.0 n says x.1) ∙ v)) x.2) w.2

    -- ---- an array without names of dimensions

    abbrev Unnamed : typed_forms.Form → Term → List Sort → List Axis → List Value → Type 0
    Unnamed f t is axes vs = cond (written known t).has_cells (listed_cells (written known t) form axes env) (taken_cells known (written known t) form axes env) ≡ Ok vs

    bare-kinds : (f : typed_forms.Form) (t : Term) (j : Sort) (js : List Sort) (axes : List Axis) (vs : List Value) → is_cells f ≡ false → Stands sc data_alone (fits_in sc (array (sorts_of (j ∷ js)) s)) f → Says f t → Unnamed f t (j ∷ js) axes vs → Kinds vs
    bare-kinds f t j js axes vs n h says e =
        taken-kinds f t j js axes vs h says (sym (ap (λ b. cond b (listed_cells (written known t) form axes env) (taken_cells known (written known t) form axes env)) (written-has known t ∙ bare f t says n)) ∙ e)

    pub unnamed-kinds : (f : typed_forms.Form) (t : Term) (j : Sort) (js : List Sort) (axes : List Axis) (vs : List Value) → HasValue sc s (j ∷ js) f → Says f t → FieldsStand env.position sc f → length (j ∷ js) ≡ length axes → Unnamed f t (j ∷ js) axes vs → Kinds vs
    unnamed-kinds (cells at fs) t j js axes vs h says c l e =
        let k = written-has known t ∙ ap (λ u. has_cells_layer (out-Term u)) says.2 ∙ ap has_cells_layer (terms.outs-Array says.0 says.1) in
        listed-kinds (cells at fs) t (j ∷ js) axes vs h says c l (sym (ap (λ b. cond b (listed_cells (written known t) form axes env) (taken_cells known (written known t) form axes env)) k) ∙ e)
    unnamed-kinds (keyed_cells at ps) t j js axes vs h says c l e =
        let k = written-has known t ∙ ap (λ u. has_cells_layer (out-Term u)) says.3 ∙ ap has_cells_layer (terms.outs-KeyedArray says.0 says.1 says.2) in
        listed-kinds (keyed_cells at ps) t (j ∷ js) axes vs h says c l (sym (ap (λ b. cond b (listed_cells (written known t) form axes env) (taken_cells known (written known t) form axes env)) k) ∙ e)
    unnamed-kinds (number at) t j js axes vs h says c l e = bare-kinds (number at) t j js axes vs refl h says e
    unnamed-kinds (named name) t j js axes vs h says c l e = bare-kinds (named name) t j js axes vs refl h says e
    unnamed-kinds (bracket at f) t j js axes vs h says c l e = bare-kinds (bracket at f) t j js axes vs refl h says e
    unnamed-kinds (negative at f) t j js axes vs h says c l e = bare-kinds (negative at f) t j js axes vs refl h says e
    unnamed-kinds (arithmetic at fs) t j js axes vs h says c l e = bare-kinds (arithmetic at fs) t j js axes vs refl h says e
    unnamed-kinds (absolute at f) t j js axes vs h says c l e = bare-kinds (absolute at f) t j js axes vs refl h says e
    unnamed-kinds (related at f r g) t j js axes vs h says c l e = bare-kinds (related at f r g) t j js axes vs refl h says e
    unnamed-kinds (member at f over) t j js axes vs h says c l e = bare-kinds (member at f over) t j js axes vs refl h says e
    unnamed-kinds (connected at fs) t j js axes vs h says c l e = bare-kinds (connected at fs) t j js axes vs refl h says e
    unnamed-kinds (aggregate at p f) t j js axes vs h says c l e = bare-kinds (aggregate at p f) t j js axes vs refl h says e
    unnamed-kinds (cardinality at f) t j js axes vs h says c l e = bare-kinds (cardinality at f) t j js axes vs refl h says e
    unnamed-kinds (all_different at f) t j js axes vs h says c l e = bare-kinds (all_different at f) t j js axes vs refl h says e
    unnamed-kinds (subscripted at f es) t j js axes vs h says c l e = bare-kinds (subscripted at f es) t j js axes vs refl h says e
    unnamed-kinds (field at f name) t j js axes vs h says c l e = bare-kinds (field at f name) t j js axes vs refl h says e
    unnamed-kinds (tuple at fs) t j js axes vs h says c l e = bare-kinds (tuple at fs) t j js axes vs refl h says e
    unnamed-kinds (listed at fs) t j js axes vs h says c l e = bare-kinds (listed at fs) t j js axes vs refl h says e
    unnamed-kinds (described at f p) t j js axes vs h says c l e = bare-kinds (described at f p) t j js axes vs refl h says e
    unnamed-kinds (question at op f) t j js axes vs h says c l e = bare-kinds (question at op f) t j js axes vs refl h says e

  -- ---- the expression for each key

  over-kinds : (fields : ℕ → Sorts) (j : Sort) (next : Value → List Value → Bound (List Value)) (before vs more : List Value) → AllHaveSort fields (N known) j vs →
      ((v : Value) (b m : List Value) → HasSort fields (N known) j v → Kinds b → next v b ≡ Ok m → Kinds m) → Kinds before → over next before vs ≡ Ok more → Kinds more
  over-kinds fields j next before _ more (none_has _) f b e = subst Kinds (same_ok before more e) b
  over-kinds fields j next before _ more (more_have _ v vs h hs) f b e =
      let w = went_first (next v before) (λ m. over next m vs) more e in
      over-kinds fields j next w.0 vs more hs f (f v before w.0 h b w.1) w.2

  -- what an expression comes to under the values of the names of dimensions
  abbrev FitsUnder : (ℕ → ℕ) → Scope → Fit → Type 0
  FitsUnder position inner fit = (env : Environment) → AreOfTheirSorts (N known) inner env → env.position ≡ position → (v : Value) → fit form env ≡ Ok v → Kind v

  each-kinds : (fit : Fit) (position : ℕ → ℕ) (ts : List DimTree) (is : List Sort) (axes : List Axis) (sc inner : Scope) (env : Environment) (before more : List Value) → FitsUnder position inner fit → AreOfTheirSorts (N known) sc env → env.position ≡ position →
      inner ≡ with_values (dim_names ts) (named_sorts ts is) sc → AxesHave (field_sorts sc) (N known) is axes → length ts ≡ length is → Kinds before → each_cell fit form ts axes env before ≡ Ok more → Kinds more
  each-kinds fit position [] is axes sc inner env before more f of p n a l b e =
      let w = went_first (fit form env) (λ v. Ok (before ++ v ∷ [])) more e in
      subst Kinds (same_ok (before ++ w.0 ∷ []) more w.2) (all-joined Kind before (w.0 ∷ []) b (f env (subst (λ (x : Scope). AreOfTheirSorts (N known) x env) (sym n) of) p w.0 w.1, tt))
  each-kinds fit position (t ∷ ts) [] axes sc inner env before more f of p n a l b e = absurd (omega (arith, l))
  each-kinds fit position (t ∷ ts) (j ∷ js) [] sc inner env before more f of p n a l b e = absurd a
  each-kinds fit position (t ∷ ts) (j ∷ js) (axis ∷ axes) sc inner env before more f of p n a l b e =
      over-kinds (field_sorts sc) j (λ v m. each_cell fit form ts axes (with_name t.name v env) m) before (values_of axis) more a.0
      (λ v c m h k d. by t.name refl v c m h k d (λ sc2 env2 of2 p2 n2 a2 d2. each-kinds fit position ts js axes sc2 inner env2 c m f of2 p2 n2 a2 (omega (arith, l)) k d2)) b e
    where
      by : (o : Option NameTree) → t.name ≡ o → (v : Value) (c m : List Value) → HasSort (field_sorts sc) (N known) j v → Kinds c → each_cell fit form ts axes (with_name o v env) c ≡ Ok m →
          ((sc2 : Scope) (env2 : Environment) → AreOfTheirSorts (N known) sc2 env2 → env2.position ≡ position → inner ≡ with_values (dim_names ts) (named_sorts ts js) sc2 → AxesHave (field_sorts sc2) (N known) js axes →
          each_cell fit form ts axes env2 c ≡ Ok m → Kinds m) → Kinds m
      by None o v c m h k d more = more sc env of p (n ∙ ap (λ (x : Option NameTree). with_values (with_one x (λ name. name) (dim_names ts)) (with_one x (λ name. j) (named_sorts ts js)) sc) o) a.1 d
      by (Some name) o v c m h k d more =
          more (scope.declared name.text (value j) sc) (with_name (Some name) v env) (one-more (N known) sc env name.text j v of h) p
          (n ∙ ap (λ (x : Option NameTree). with_values (with_one x (λ name. name) (dim_names ts)) (with_one x (λ name. j) (named_sorts ts js)) sc) o)
          (subst (λ g. AxesHave g (N known) js axes) (sym (fields-stay sc name.text j)) a.1) d

-- ---- whole arrays

no-names : (ts : List DimTree) → list_any has_name ts ≡ false → dim_names ts ≡ []
no-names [] h = refl
no-names (t ∷ ts) h = by t.name refl h (λ k. no-names ts k)
  where
    by : (o : Option NameTree) → t.name ≡ o → (is_some o || list_any has_name ts) ≡ false → (list_any has_name ts ≡ false → dim_names ts ≡ []) → with_one t.name (λ name. name) (dim_names ts) ≡ []
    by None e k more = ap (λ (x : Option NameTree). with_one x (λ name. name) (dim_names ts)) e ∙ more k
    by (Some name) e k more = absurd (cc)

some-names : (ts : List DimTree) (is : List Sort) → list_any has_name ts ≡ true → cells_left (dim_names ts) is ≡ []
some-names [] is h = absurd (cc)
some-names (t ∷ ts) is h = by t.name refl h (λ k. some-names ts is k)
  where
    by : (o : Option NameTree) → t.name ≡ o → (is_some o || list_any has_name ts) ≡ true → (list_any has_name ts ≡ true → cells_left (dim_names ts) is ≡ []) → cells_left (with_one t.name (λ name. name) (dim_names ts)) is ≡ []
    by None e k more = ap (λ (x : Option NameTree). cells_left (with_one x (λ name. name) (dim_names ts)) is) e ∙ more k
    by (Some name) e k more = ap (λ (x : Option NameTree). cells_left (with_one x (λ name. name) (dim_names ts)) is) e

kinds-fit : (known : Known) (form : Form) (vs : List Value) → AllByRecursion (HasKind known form) vs → AllByRecursion (λ v. is_inside known v form ≡ true) vs → AllByRecursion (Fits known form) vs
kinds-fit known form [] h k = tt
kinds-fit known form (v ∷ vs) h k = (kind-fits known form v h.0 k.0, kinds-fit known form vs h.1 k.1)

-- under these names the scope behind dimensions and that before them know the same structs
pub written-fit : (known : Known) (form : Form) (s : Sort) (sc inner : Scope) (env : Environment) (ts : List DimTree) (j : Sort) (js : List Sort) (axes : List Axis) (f : typed_forms.Form) (t : Term) (vs : List Value) →
    IsFormOf form s → AreOfTheirSorts (N known) sc env → StructsAgree known sc → inner ≡ with_values (dim_names ts) (named_sorts ts (j ∷ js)) sc → AxesHave (field_sorts sc) (N known) (j ∷ js) axes → length ts ≡ length (j ∷ js) → length (j ∷ js) ≡ length axes →
    HasValue inner s (cells_left (dim_names ts) (j ∷ js)) f → Says f t → FieldsStand env.position inner f → written_cells known env form ts axes t ≡ Ok vs → AllByRecursion (Fits known form) vs
unfolding written_cells
written-fit known form s sc inner env ts j js axes f t vs i of agree n a l m h says c e = kinds-fit known form vs (by (list_any has_name ts) refl e) (cells-stay known env form ts axes t vs e)
  where
    keeps : field_sorts inner ≡ field_sorts sc
    keeps = ap field_sorts n ∙ with-values-stay (dim_names ts) (named_sorts ts (j ∷ js)) sc

    agree2 : StructsAgree known inner
    agree2 = subst (λ (g : ℕ → Sorts). (k : ℕ) → AreFormsOf (fields_of known k) (g k)) (sym keeps) agree

    by : (b : Bool) → list_any has_name ts ≡ b → cond b (each_cell (written known t).fit form ts axes env []) (cond (written known t).has_cells (listed_cells (written known t) form axes env) (taken_cells known (written known t) form axes env)) ≡ Ok vs →
        AllByRecursion (HasKind known form) vs
    by true k d =
        let h2 = subst (λ (is : List Sort). HasValue inner s is f) (some-names ts (j ∷ js) k) h in
        each-kinds known form s i (written known t).fit env.position ts (j ∷ js) axes sc inner env [] vs
        (λ env2 of2 p v g. alone-kind known form s i inner env2 of2 agree2 f t h2 says (subst (λ (P : ℕ → ℕ). FieldsStand P inner f) (sym p) c) v g) of refl n a l tt d
    by false k d =
        let z = no-names ts k in
        let same : inner ≡ sc = n ∙ ap (λ (ns : List NameTree). with_values ns (named_sorts ts (j ∷ js)) sc) z in
        unnamed-kinds known form s i sc env of agree f t j js axes vs (subst (λ (x : Scope). HasValue x s (j ∷ js) f) same (subst (λ (ns : List NameTree). HasValue inner s (cells_left ns (j ∷ js)) f) z h)) says (subst (λ (x : Scope). FieldsStand env.position x f) same c) m d
