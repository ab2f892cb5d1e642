-- Want of memory is no fault of what data files give.
use Rattle.std.proofs.Common.{◌≡◌, ◌≢◌, ℕ, ◌+◌, ℤ, pos, Bool, true, false, ◌&&◌, cond, List, [], ◌∷◌, ◌++◌, length, map, set, Option, None, Some, Ok, Err, sym, subst}
use Rattle.std.specs.Prelude.{bytes_eq, int_le, is_some, nat_eq, slice_get}
use Rattle.std.specs.List.{list_all}
use Rattle.opl_tree.specs.declared.declaration.DeclTree.{DeclTree}
use Rattle.opl_tree.specs.declared.expression.NameTree.{NameTree}
use Rattle.opl_data.specs.declared.tree.DataTree.{DataTree}
use Rattle.opl_data.specs.declared.tree.DataItem.{DataItem}
use Rattle.opl_data.specs.declared.tree.DataPair.{DataPair}
use Rattle.opl_data.specs.declared.tree.DataValue.{DataValue}
use Rattle.opl_data.specs.declared.tree.DataValue.TheFolds.{fold-roll-DataValue, fold-DataPair, ind-DataValue, map-DataValue, map-DataPair}
use Rattle.opl_data.specs.declared.tree.DataValue.TheOpen.{DataValue-F, DataPair-F}
use Rattle.opl_data.specs.declared.tree.DataValue.TheViews.{out-DataValue, out-DataPair, roll-DataValue}
use Rattle.opl_value.specs.declared.value.Value.{Value}
use Rattle.opl_value.specs.declared.value.Value.TheVariants as values
use Rattle.opl_value.specs.Places.{place_of, value_at}
use Rattle.opl_eval.specs.declared.fault.EvalFault.TheVariants as evaluation_faults
use Rattle.opl_eval.proofs.NoMemory as evaluation
use Rattle.opl_given.specs.declared.assigned.Override.{Override}
use Rattle.opl_given.specs.declared.fault.BindFault.{BindFault}
use Rattle.opl_given.specs.declared.fault.BindFault.TheVariants as faults
use Rattle.opl_given.specs.declared.form.Form.{Form}
use Rattle.opl_given.specs.declared.form.Form.TheOpen.{Form-F}
use Rattle.opl_given.specs.declared.form.Form.TheViews.{out-Form}
use Rattle.opl_given.specs.Arrays.{Axis, put, is_free, key_place, lay, filled, free, listed, keyed, cells_layer, cells_of, opened, flat, elements_in, values_of}
use Rattle.opl_given.specs.Assigned.{placed, assigned, all_assigned, is_assigned, is_within, overridden}
use Rattle.opl_given.specs.Enumerations.{name_layer, name_of, with_new, different_names, names_layer, names_in, given_names}
use Rattle.opl_given.specs.Faults.{Bound, then, found, provided}
use Rattle.opl_given.specs.Forms.{Known, names_of}
use Rattle.opl_given.specs.Given.{Given, GivenValue, awaited, nothing_given, with_value, give, give_items, give_files, all_given}
use Rattle.opl_given.specs.Items.{lists_of, array_over, given_or_assigned, single_value, given_array, array_value}
use Rattle.opl_given.specs.Names.{Text, position}
use Rattle.opl_given.specs.Values as reads
use Rattle.opl_given.specs.Values.{value_in, first_token, each_by_form, all_by_form, split, record_in, parts_of, element_of, set_of}

-- a fault other than want of memory, in an expression too
abbrev pub IsReal : BindFault → Type 0
IsReal (faults.Given name) = Unit {0}
IsReal (faults.Twice name) = Unit {0}
IsReal (faults.Missing name) = Unit {0}
IsReal (faults.Shape file at) = Unit {0}
IsReal (faults.Outside file at) = Unit {0}
IsReal (faults.Override name) = Unit {0}
IsReal (faults.Eval fault) = evaluation.IsReal fault
IsReal faults.OutOfMemory = ⊥

-- a fault of an expression, other than want of memory
abbrev pub IsEvaluated : BindFault → Type 0
IsEvaluated (faults.Eval fault) = evaluation.IsReal fault
IsEvaluated fault = ⊥

-- what is found is so, or the fault is
unfoldable pub Comes : {A : Type 0} → (BindFault → Type 0) → (A → Type 0) → Bound A → Type 0
Comes E P (Ok a) = P a
Comes E P (Err e) = E e

-- whatever is found, or a fault other than want of memory
abbrev pub Real : {A : Type 0} → Bound A → Type 0
Real {A} b = Comes IsReal (λ (a : A). Unit {0}) b

-- whatever is found, or a fault of an expression, other than want of memory
abbrev pub Evaluated : {A : Type 0} → Bound A → Type 0
Evaluated {A} b = Comes IsEvaluated (λ (a : A). Unit {0}) b

pub comes_ok : {A : Type 0} (E : BindFault → Type 0) (P : A → Type 0) (a : A) → P a → Comes E P (Ok a)
unfolding Comes
comes_ok E P a h = h

pub comes_err : {A : Type 0} (E : BindFault → Type 0) (P : A → Type 0) (e : BindFault) → E e → Comes E P (Err e)
unfolding Comes
comes_err E P e h = h

pub real_ok : {A : Type 0} (a : A) → Real (Ok a)
unfolding Comes
real_ok a = tt

pub real_err : (A : Type 0) (e : BindFault) → IsReal e → Real {A = A} (Err e)
unfolding Comes
real_err A e h = h

pub real_fault : {A : Type 0} (b : Bound A) (e : BindFault) → Real b → b ≡ Err e → IsReal e
unfolding Comes
real_fault {A} b e h is = subst (λ c. Real {A = A} c) is h

pub real_never : {A : Type 0} (b : Bound A) → Real b → b ≢ Err faults.OutOfMemory
real_never b h is = real_fault b faults.OutOfMemory h is

pub real_never_evaluating : {A : Type 0} (b : Bound A) → Real b → b ≢ Err (faults.Eval evaluation_faults.OutOfMemory)
real_never_evaluating b h is = real_fault b (faults.Eval evaluation_faults.OutOfMemory) h is

is_real : (e : BindFault) → IsEvaluated e → IsReal e
is_real (faults.Given name) h = absurd h
is_real (faults.Twice name) h = absurd h
is_real (faults.Missing name) h = absurd h
is_real (faults.Shape file at) h = absurd h
is_real (faults.Outside file at) h = absurd h
is_real (faults.Override name) h = absurd h
is_real (faults.Eval fault) h = h
is_real faults.OutOfMemory h = absurd h

pub real_evaluated : {A : Type 0} (b : Bound A) → Evaluated b → Real b
unfolding Comes
real_evaluated (Ok a) h = tt
real_evaluated (Err e) h = is_real e h

-- ---- one after another

pub comes_then : {A B : Type 0} (E : BindFault → Type 0) (P : A → Type 0) (Q : B → Type 0) (b : Bound A) (f : A → Bound B) → Comes E P b → ((a : A) → P a → Comes E Q (f a)) → Comes E Q (then b f)
unfolding Comes
comes_then E P Q (Ok a) f h g = g a h
comes_then E P Q (Err e) f h g = h

pub real_then : {A B : Type 0} (b : Bound A) (f : A → Bound B) → Real b → ((a : A) → Real (f a)) → Real (then b f)
unfolding Comes
real_then (Ok a) f h g = g a
real_then (Err e) f h g = h

pub evaluated_then : {A B : Type 0} (b : Bound A) (f : A → Bound B) → Evaluated b → ((a : A) → Evaluated (f a)) → Evaluated (then b f)
unfolding Comes
evaluated_then (Ok a) f h g = g a
evaluated_then (Err e) f h g = h

pub evaluated_ok : {A : Type 0} (a : A) → Evaluated (Ok a)
unfolding Comes
evaluated_ok a = tt

pub real_found : {A B : Type 0} (f : A → B) (b : Bound A) → Real b → Real (found f b)
real_found f b h = real_then b (λ a. Ok (f a)) h (λ a. real_ok (f a))

pub comes_cond : {A : Type 0} (E : BindFault → Type 0) (P : A → Type 0) (t : Bool) (x y : Bound A) → Comes E P x → Comes E P y → Comes E P (cond t x y)
comes_cond E P true x y h g = h
comes_cond E P false x y h g = g

pub real_cond : {A : Type 0} (t : Bool) (x y : Bound A) → Real x → Real y → Real (cond t x y)
real_cond true x y h g = h
real_cond false x y h g = g

pub real_provided : {A : Type 0} (t : Bool) (e : BindFault) (next : Bound A) → IsReal e → Real next → Real (provided t e next)
real_provided {A} t e next h g = real_cond t next (Err e) g (real_err A e h)

-- ---- what data files give

real_give : (awaiting : List Text) (file : ℕ) (given : Given) (item : DataItem) → Real (give awaiting file given item)
real_give awaiting file given item =
    real_provided (is_some (position item.name.text awaiting)) (faults.Given item.name.text) _ tt
    (real_cond (is_some (position item.name.text given.names)) (Err (faults.Twice item.name.text)) (Ok (with_value given file item)) (real_err Given (faults.Twice item.name.text) tt) (real_ok (with_value given file item)))

real_give_items : (awaiting : List Text) (file : ℕ) (given : Given) (items : List DataItem) → Real (give_items awaiting file given items)
real_give_items awaiting file given [] = real_ok given
real_give_items awaiting file given (i ∷ is) = real_then (give awaiting file given i) (λ more. give_items awaiting file more is) (real_give awaiting file given i) (λ more. real_give_items awaiting file more is)

real_give_files : (awaiting : List Text) (file : ℕ) (given : Given) (fs : List DataTree) → Real (give_files awaiting file given fs)
real_give_files awaiting file given [] = real_ok given
real_give_files awaiting file given (f ∷ fs) =
    real_then (give_items awaiting file given f.items) (λ more. give_files awaiting (file + 1) more fs) (real_give_items awaiting file given f.items) (λ more. real_give_files awaiting (file + 1) more fs)

pub real_all_given : (ts : List DeclTree) (files : List DataTree) → Real (all_given ts files)
unfolding all_given
real_all_given ts files = real_give_files (awaited [] ts) 1 nothing_given files

-- ---- values by the forms of their types

-- by no form want of memory
abbrev pub FitReal : (Form → Bound Value) → Type 0
FitReal p = (form : Form) → Real (p form)

abbrev pub FitsReal : List (Form → Bound Value) → Type 0
FitsReal [] = Unit {0}
FitsReal (p ∷ ps) = FitReal p × FitsReal ps

pub real_each_by_form : (before : List Value) (ps : List (Form → Bound Value)) (fs : List Form) → FitsReal ps → Real (each_by_form before ps fs)
real_each_by_form before [] fs h = real_ok before
real_each_by_form before (p ∷ ps) [] h = real_ok before
real_each_by_form before (p ∷ ps) (f ∷ fs) h = real_then (p f) (λ v. each_by_form (before ++ v ∷ []) ps fs) (h.0 f) (λ v. real_each_by_form (before ++ v ∷ []) ps fs h.1)

pub real_all_by_form : (before : List Value) (es : List (Form → Bound Value)) (form : Form) → FitsReal es → Real (all_by_form before es form)
real_all_by_form before [] form h = real_ok before
real_all_by_form before (e ∷ es) form h = real_then (e form) (λ v. all_by_form (before ++ v ∷ []) es form) (h.0 form) (λ v. real_all_by_form (before ++ v ∷ []) es form h.1)

real_number_layer : (file at : ℕ) (n : ℤ) (form : Form-F Form) → Real (reads.number_layer file at n form)
real_number_layer file at n Form-F.Int = real_ok (values.Int n)
real_number_layer file at n (Form-F.Range low high) = real_cond (int_le low n && int_le n high) (Ok (values.Int n)) (Err (faults.Outside file at)) (real_ok (values.Int n)) (real_err Value (faults.Outside file at) tt)
real_number_layer file at n form = real_err Value (faults.Shape file at) tt

real_number : (file at : ℕ) (n : ℤ) (form : Form) → Real (reads.number_in file at n form)
unfolding reads.number_in
real_number file at n form = real_number_layer file at n (out-Form form)

real_name_at : (file at declaration : ℕ) (place : Option ℕ) → Real (reads.name_at file at declaration place)
real_name_at file at declaration (Some place) = real_ok (values.Enum declaration place)
real_name_at file at declaration None = real_err Value (faults.Shape file at) tt

real_name_layer : (known : Known) (file : ℕ) (name : NameTree) (form : Form-F Form) → Real (reads.name_layer known file name form)
real_name_layer known file name (Form-F.Enumeration declaration) = real_name_at file name.at declaration (position name.text (names_of known declaration))
real_name_layer known file name form = real_err Value (faults.Shape file name.at) tt

real_name : (known : Known) (file : ℕ) (name : NameTree) (form : Form) → Real (reads.name_in known file name form)
unfolding reads.name_in
real_name known file name form = real_name_layer known file name (out-Form form)

real_split : (file at count : ℕ) (forms : Option (List Form)) → Real (split file at count forms)
real_split file at count None = real_err reads.Split (faults.Shape file at) tt
real_split file at count (Some []) = real_err reads.Split (faults.Shape file at) tt
real_split file at count (Some (f ∷ fs)) = real_cond (nat_eq count (length fs)) (Ok _) (Err (faults.Shape file at)) (real_ok _) (real_err reads.Split (faults.Shape file at) tt)

real_record : (forms : Bound reads.Split) (head : Form → Bound Value) (rest : List (Form → Bound Value)) → Real forms → FitReal head → FitsReal rest → Real (record_in forms head rest)
real_record forms head rest h p ps =
    real_then forms _ h (λ fs. real_then (head fs.first) _ (p fs.first) (λ v. real_found values.Record (each_by_form (v ∷ []) rest fs.others) (real_each_by_form (v ∷ []) rest fs.others ps)))

real_set : (file at : ℕ) (elements : List (Form → Bound Value)) (form : Option Form) → FitsReal elements → Real (reads.set_in file at elements form)
real_set file at elements (Some form) h = real_found set_of (all_by_form [] elements form) (real_all_by_form [] elements form h)
real_set file at elements None h = real_err Value (faults.Shape file at) tt

abbrev InValue : Known → ℕ → Type 0
InValue known file = (v : DataValue) × FitReal (value_in known file v)

abbrev InPair : Type 0
InPair = DataPair × Unit {0}

abbrev value_inner : (known : Known) (file : ℕ) → DataValue-F (InValue known file) InPair → DataValue-F DataValue DataPair
value_inner known file = map-DataValue (InValue known file) InPair DataValue DataPair (λ e. e.0) (λ e. e.0)

abbrev pair_inner : (known : Known) (file : ℕ) → DataPair-F (InValue known file) InPair → DataPair-F DataValue DataPair
pair_inner known file = map-DataPair (InValue known file) InPair DataValue DataPair (λ e. e.0) (λ e. e.0)

-- one layer
abbrev value_here : Known → ℕ → DataValue-F DataValue DataPair → Form → Bound Value
value_here known file x = reads.value_layer known file (map-DataValue DataValue DataPair (Form → Bound Value) ℕ (value_in known file) (fold-DataPair (Form → Bound Value) ℕ (reads.value_layer known file) (λ pair. pair.at)) x)

value-roll : (known : Known) (file : ℕ) (x : DataValue-F DataValue DataPair) → value_in known file (roll-DataValue x) ≡ value_here known file x
unfolding value_in
value-roll known file x = fold-roll-DataValue (Form → Bound Value) ℕ (reads.value_layer known file) (λ pair. pair.at) x

real_parts : (known : Known) (file : ℕ) (es : List (InValue known file)) → FitsReal (map (value_in known file) (map (λ e. e.0) es))
real_parts known file [] = tt
real_parts known file (e ∷ es) = (e.1, real_parts known file es)

real_value_layer : (known : Known) (file : ℕ) (y : DataValue-F (InValue known file) InPair) → FitReal (value_here known file (value_inner known file y))
real_value_layer known file (DataValue-F.Number at is_negative n) form = real_number file at (reads.signed is_negative n) form
real_value_layer known file (DataValue-F.Named name) form = real_name known file name form
real_value_layer known file (DataValue-F.Record at head rest) form =
    real_record _ (value_in known file head.0) (map (value_in known file) (map (λ e. e.0) rest)) (real_split file at _ (parts_of known form)) head.1 (real_parts known file rest)
real_value_layer known file (DataValue-F.Set at elements) form =
    real_set file at (map (value_in known file) (map (λ e. e.0) elements)) (element_of form) (real_parts known file elements)
real_value_layer known file (DataValue-F.Array at elements) form = real_err Value (faults.Shape file at) tt
real_value_layer known file (DataValue-F.KeyedArray at pairs) form = real_err Value (faults.Shape file at) tt

-- no value of a data file is want of memory
pub real_value_in : (known : Known) (file : ℕ) (v : DataValue) → FitReal (value_in known file v)
real_value_in known file = ind-DataValue (λ v. FitReal (value_in known file v)) (λ p. Unit {0})
    (λ x y is. subst (λ r. FitReal r) (sym (value-roll known file x)) (subst (λ z. FitReal (value_here known file z)) is (real_value_layer known file y)))
    (λ x y is. tt)

real_values_in : (known : Known) (file : ℕ) (vs : List DataValue) → FitsReal (map (value_in known file) vs)
real_values_in known file [] = tt
real_values_in known file (v ∷ vs) = (real_value_in known file v, real_values_in known file vs)

-- ---- arrays of data files

module _ (known : Known) (wrong : BindFault) (h : IsReal wrong) where
  real_put : {C : Type 0} (slots : List (Option C)) (place : Option ℕ) (cell : C) → Real (put wrong slots place cell)
  real_put {C} slots (Some place) cell =
      real_cond (is_free (slice_get slots place)) (Ok (set slots place (Some cell))) (Err wrong) (real_ok (set slots place (Some cell))) (real_err (List (Option C)) wrong h)
  real_put {C} slots None cell = real_err (List (Option C)) wrong h

  real_lay : (axis : Axis) (slots : List (Option DataValue)) (ps : List DataPair) → Real (lay known wrong axis slots ps)
  real_lay axis slots [] = real_ok slots
  real_lay axis slots (p ∷ ps) =
      real_then (put wrong slots (key_place known axis (out-DataPair p).key) (out-DataPair p).value) (λ laid. lay known wrong axis laid ps)
      (real_put slots (key_place known axis (out-DataPair p).key) (out-DataPair p).value) (λ laid. real_lay axis laid ps)

  real_filled : {C : Type 0} (before : List C) (slots : List (Option C)) → Real (filled wrong before slots)
  real_filled before [] = real_ok before
  real_filled before (Some cell ∷ slots) = real_filled (before ++ cell ∷ []) slots
  real_filled {C} before (None ∷ slots) = real_err (List C) wrong h

  real_listed : (axis : Axis) (parts : List DataValue) → Real (listed wrong axis parts)
  real_listed axis parts = real_cond (nat_eq (length parts) (length (values_of axis))) (Ok parts) (Err wrong) (real_ok parts) (real_err (List DataValue) wrong h)

  real_keyed : (axis : Axis) (pairs : List DataPair) → Real (keyed known wrong axis pairs)
  real_keyed axis pairs =
      real_cond (nat_eq (length pairs) (length (values_of axis))) (then (lay known wrong axis (free pairs) pairs) (filled wrong [])) (Err wrong)
      (real_then (lay known wrong axis (free pairs) pairs) (filled wrong []) (real_lay axis (free pairs) pairs) (λ slots. real_filled [] slots)) (real_err (List DataValue) wrong h)

  real_cells_layer : (axis : Axis) (v : DataValue-F DataValue DataPair) → Real (cells_layer known wrong axis v)
  real_cells_layer axis (DataValue-F.Array at parts) = real_listed axis parts
  real_cells_layer axis (DataValue-F.KeyedArray at pairs) = real_keyed axis pairs
  real_cells_layer axis v = real_err (List DataValue) wrong h

  real_cells_of : (axis : Axis) (v : DataValue) → Real (cells_of known wrong axis v)
  unfolding cells_of
  real_cells_of axis v = real_cells_layer axis (out-DataValue v)

  real_opened : (axis : Axis) (before vs : List DataValue) → Real (opened known wrong axis before vs)
  real_opened axis before [] = real_ok before
  real_opened axis before (v ∷ vs) = real_then (cells_of known wrong axis v) (λ cells. opened known wrong axis (before ++ cells) vs) (real_cells_of axis v) (λ cells. real_opened axis (before ++ cells) vs)

  real_flat : (axes : List Axis) (vs : List DataValue) → Real (flat known wrong axes vs)
  real_flat [] vs = real_ok vs
  real_flat (a ∷ others) vs = real_then (opened known wrong a [] vs) (flat known wrong others) (real_opened a [] vs) (λ cells. real_flat others cells)

  pub real_elements_in : (file : ℕ) (axes : List Axis) (form : Form) (v : DataValue) → Real (elements_in known file wrong axes form v)
  real_elements_in file axes form v =
      real_then (flat known wrong axes (v ∷ [])) (λ cells. all_by_form [] (map (value_in known file) cells) form) (real_flat axes (v ∷ []))
      (λ cells. real_all_by_form [] (map (value_in known file) cells) form (real_values_in known file cells))

-- ---- enumerations

module _ (wrong : BindFault) (h : IsReal wrong) where
  real_name_of_layer : (v : DataValue-F DataValue DataPair) → Real (name_layer wrong v)
  real_name_of_layer (DataValue-F.Named name) = real_ok name.text
  real_name_of_layer v = real_err Text wrong h

  real_name_of : (v : DataValue) → Real (name_of wrong v)
  unfolding name_of
  real_name_of v = real_name_of_layer (out-DataValue v)

  real_with_new : (before : List Text) (name : Text) → Real (with_new wrong before name)
  real_with_new before name = real_cond (is_some (position name before)) (Err wrong) (Ok (before ++ name ∷ [])) (real_err (List Text) wrong h) (real_ok (before ++ name ∷ []))

  real_different : (before : List Text) (vs : List DataValue) → Real (different_names wrong before vs)
  real_different before [] = real_ok before
  real_different before (v ∷ vs) =
      real_then (name_of wrong v) _ (real_name_of v) (λ name. real_then (with_new wrong before name) (λ names. different_names wrong names vs) (real_with_new before name) (λ names. real_different names vs))

  real_names_layer : (v : DataValue-F DataValue DataPair) → Real (names_layer wrong v)
  real_names_layer (DataValue-F.Set at elements) = real_different [] elements
  real_names_layer v = real_err (List Text) wrong h

  real_names_in : (v : DataValue) → Real (names_in wrong v)
  unfolding names_in
  real_names_in v = real_names_layer (out-DataValue v)

pub real_given_names : (file : ℕ) (v : DataValue) → Real (given_names file v)
real_given_names file v = real_names_in (faults.Shape file (first_token v)) tt v

-- ---- values that are assigned

real_placed : (name : Text) (cells : List Value) (place : Option ℕ) (n : ℤ) → Real (placed name cells place n)
real_placed name cells (Some place) n = real_ok (set cells place (values.Int n))
real_placed name cells None n = real_err (List Value) (faults.Override name) tt

real_all_assigned : (name : Text) (lists : List (List Value)) (cells : List Value) (os : List Override) → Real (all_assigned name lists cells os)
real_all_assigned name lists cells [] = real_ok cells
real_all_assigned name lists cells (o ∷ os) =
    real_cond (bytes_eq name o.name) (then (assigned name lists cells o) (λ more. all_assigned name lists more os)) (all_assigned name lists cells os)
    (real_then (assigned name lists cells o) (λ more. all_assigned name lists more os) (real_placed name cells (place_of lists (map values.Int o.index)) o.value) (λ more. real_all_assigned name lists more os))
    (real_all_assigned name lists cells os)

pub real_overridden : (name : Text) (form : Form) (lists : List (List Value)) (cells : List Value) (os : List Override) → Real (overridden name form lists cells os)
unfolding overridden
real_overridden name form lists cells os =
    real_cond (is_assigned name os) _ (Ok cells)
    (real_then (all_assigned name lists cells os) _ (real_all_assigned name lists cells os)
    (λ more. real_cond (list_all (is_within form) more) (Ok more) (Err (faults.Override name)) (real_ok more) (real_err (List Value) (faults.Override name) tt)))
    (real_ok cells)

-- ---- items that data files give

real_given_or_assigned : (known : Known) (form : Form) (name : Text) (os : List Override) (g : Option GivenValue) → Real (given_or_assigned known form name os g)
real_given_or_assigned known form name os (Some g) = real_value_in known g.file g.value form
real_given_or_assigned known form name os None = real_provided (is_assigned name os) (faults.Missing name) (Ok (values.Int (pos 0))) tt (real_ok (values.Int (pos 0)))

pub real_single_value : (known : Known) (form : Form) (name : Text) (os : List Override) (g : Option GivenValue) → Real (single_value known form name os g)
real_single_value known form name os g =
    real_then (given_or_assigned known form name os g) _ (real_given_or_assigned known form name os g)
    (λ v. real_then (overridden name form [] (v ∷ []) os) (λ cells. Ok (value_at cells 0)) (real_overridden name form [] (v ∷ []) os) (λ cells. real_ok (value_at cells 0)))

real_given_array : (known : Known) (form : Form) (name : Text) (os : List Override) (g : GivenValue) (axes : List Axis) → Real (given_array known form name os g axes)
real_given_array known form name os g axes =
    real_then (elements_in known g.file (faults.Shape g.file (first_token g.value)) axes form g.value) _
    (real_elements_in known (faults.Shape g.file (first_token g.value)) tt g.file axes form g.value)
    (λ cells. real_found (array_over axes) (overridden name form (lists_of axes) cells os) (real_overridden name form (lists_of axes) cells os))

pub real_array_value : (known : Known) (form : Form) (name : Text) (os : List Override) (axes : Bound (List Axis)) (g : Option GivenValue) → Real axes → Real (array_value known form name os axes g)
real_array_value known form name os axes (Some g) h = real_then axes (given_array known form name os g) h (λ a. real_given_array known form name os g a)
real_array_value known form name os axes None h = real_err Value (faults.Missing name) tt
