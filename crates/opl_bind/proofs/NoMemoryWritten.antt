-- Want of memory is no fault of the values that a model itself gives.
use Rattle.std.proofs.Common.{◌≡◌, ℕ, zero, suc, ◌+◌, ◌*◌, List, [], ◌∷◌, ◌++◌, length, map, set, Option, None, Some, Ok, Err, sym, subst}
use Rattle.std.specs.Prelude.{nat_eq}
use Rattle.std.specs.List.{flat_map, list_all, list_any}
use Rattle.opl_tree.specs.declared.declaration.DimTree.{DimTree}
use Rattle.opl_term.specs.declared.term.GroupTerm.{GroupTerm}
use Rattle.opl_term.specs.declared.term.SetTerm.{SetTerm}
use Rattle.opl_term.specs.declared.term.Step.{Step}
use Rattle.opl_term.specs.declared.term.Term.{Term}
use Rattle.opl_term.specs.declared.term.GroupTerm.TheFolds.{fold-GroupTerm, fold-SetTerm, fold-Step, fold-roll-Term, ind-Term, map-Term}
use Rattle.opl_term.specs.declared.term.GroupTerm.TheOpen.{Term-F}
use Rattle.opl_term.specs.declared.term.GroupTerm.TheViews.{roll-Term}
use Rattle.opl_value.specs.declared.value.Value.{Value}
use Rattle.opl_value.specs.declared.value.Value.TheVariants as values
use Rattle.opl_value.specs.declared.value.IndexSpace.{IndexSpace}
use Rattle.opl_value.specs.declared.value.Dimension.TheOpen.{Value-F}
use Rattle.opl_value.specs.declared.value.Dimension.TheViews.{out-Value}
use Rattle.opl_value.specs.Places.{lists, place_in, value_at}
use Rattle.opl_eval.specs.Evaluation.{Environment, Group, Meaning}
use Rattle.opl_eval.proofs.NoMemory as evaluation
use Rattle.opl_given.specs.declared.fault.BindFault.{BindFault}
use Rattle.opl_given.specs.declared.fault.BindFault.TheVariants.{Outside, Shape}
use Rattle.opl_given.specs.declared.form.Form.{Form}
use Rattle.opl_given.specs.Arrays.{Axis, is_free, values_of}
use Rattle.opl_bind.specs.Dimensions.{evaluated}
use Rattle.opl_given.specs.Faults.{Bound, then}
use Rattle.opl_given.specs.Forms.{Known}
use Rattle.opl_given.specs.Inside.{is_inside}
use Rattle.opl_given.specs.Values.{parts_of, element_of, each_by_form, all_by_form, set_of}
use Rattle.opl_bind.specs.Written.{Fit, Run, Written, whole, under, record_parts, set_parts, fit_layer, slot_at, with_slot, opened, laid, free_slots, gathered, cells_layer, at_layer, term_means, step_means, set_means, group_means, written_layer, written, written_value, with_name, over, each_cell, placed, matched, further, places_among, taken_layer, has_name, listed_cells, taken_cells, cells_by_form, written_cells}
use Rattle.opl_bind.proofs.WrittenLayers.{written-meaning}
use Rattle.opl_given.proofs.NoMemory.{IsReal, Comes, Real, FitsReal, comes_ok, comes_err, comes_then, comes_cond, real_ok, real_err, real_then, real_found, real_cond, real_provided, real_each_by_form, real_all_by_form}
use Rattle.opl_bind.proofs.NoMemoryDimensions.{real_found_evaluating}

-- ---- the parts of an expression as initial values

module _ (known : Known) where
  abbrev term_writes : Term-F GroupTerm SetTerm Step Term → Term-F Group Meaning Run Written
  term_writes = map-Term GroupTerm SetTerm Step Term Group Meaning Run Written
      (fold-GroupTerm Group Meaning Run Written group_means set_means step_means (written_layer known))
      (fold-SetTerm Group Meaning Run Written group_means set_means step_means (written_layer known))
      (fold-Step Group Meaning Run Written group_means set_means step_means (written_layer known)) (written known)

  written-rolled : (x : Term-F GroupTerm SetTerm Step Term) → written known (roll-Term x) ≡ written_layer known (term_writes x)
  unfolding written
  written-rolled x = fold-roll-Term Group Meaning Run Written group_means set_means step_means (written_layer known) x

  real_written_meaning : (t : Term) → evaluation.AlwaysReal (written known t).meaning.value
  real_written_meaning t = subst (λ m. evaluation.AlwaysReal m.value) (sym (written-meaning known t)) (evaluation.real_meaning t)

-- ---- values by forms, and cells

abbrev pub RealFit : Fit → Type 0
RealFit fit = (form : Form) (env : Environment) → Real (fit form env)

abbrev pub RealFits : List Fit → Type 0
RealFits [] = Unit {0}
RealFits (f ∷ fs) = RealFit f × RealFits fs

-- the cells are there, each without want of memory, or there is a fault other than want of memory
abbrev pub RealCells : (BindFault → List Axis → Environment → Bound (List Fit)) → Type 0
RealCells cells = (wrong : BindFault) (axes : List Axis) (env : Environment) → IsReal wrong → Comes IsReal RealFits (cells wrong axes env)

pub record RealWritten (w : Written) : Type 0 where
  pub means : evaluation.AlwaysReal w.meaning.value
  pub fits : RealFit w.fit
  pub fills : RealCells w.cells

abbrev RealWrittens : List Written → Type 0
RealWrittens [] = Unit {0}
RealWrittens (w ∷ ws) = RealWritten w × RealWrittens ws

abbrev RealSlots : List (Option (List Fit)) → Type 0
RealSlots [] = Unit {0}
RealSlots (None ∷ slots) = RealSlots slots
RealSlots (Some fs ∷ slots) = RealFits fs × RealSlots slots

fits_append : (fs gs : List Fit) → RealFits fs → RealFits gs → RealFits (fs ++ gs)
fits_append [] gs h g = g
fits_append (f ∷ fs) gs h g = (h.0, fits_append fs gs h.1 g)

slots_set : (slots : List (Option (List Fit))) (p : ℕ) (fs : List Fit) → RealSlots slots → RealFits fs → RealSlots (set slots p (Some fs))
slots_set [] p fs h g = tt
slots_set (None ∷ slots) zero fs h g = (g, h)
slots_set (None ∷ slots) (suc p) fs h g = slots_set slots p fs h g
slots_set (Some old ∷ slots) zero fs h g = (g, h.1)
slots_set (Some old ∷ slots) (suc p) fs h g = (h.0, slots_set slots p fs h.1 g)

slots_with : (slots : List (Option (List Fit))) (place : Option ℕ) (fs : List Fit) → RealSlots slots → RealFits fs → RealSlots (with_slot slots place fs)
slots_with slots (Some p) fs h g = slots_set slots p fs h g
slots_with slots None fs h g = h

slots_free : (ks : List Written) → RealSlots (free_slots ks)
slots_free [] = tt
slots_free (k ∷ ks) = slots_free ks

module _ (wrong : BindFault) (h : IsReal wrong) where
  real_gathered : (before : List Fit) (slots : List (Option (List Fit))) → RealFits before → RealSlots slots → Comes IsReal RealFits (gathered wrong before slots)
  real_gathered before [] b s = comes_ok IsReal RealFits before b
  real_gathered before (None ∷ slots) b s = comes_err IsReal RealFits wrong h
  real_gathered before (Some fs ∷ slots) b s = real_gathered (before ++ fs) slots (fits_append before fs b s.0) s.1

  real_opened : (axes : List Axis) (env : Environment) (before : List Fit) (ts : List Written) → RealFits before → RealWrittens ts → Comes IsReal RealFits (opened wrong axes env before ts)
  real_opened axes env before [] b w = comes_ok IsReal RealFits before b
  real_opened axes env before (t ∷ ts) b w =
      comes_then IsReal RealFits RealFits (t.cells wrong axes env) (λ fits. opened wrong axes env (before ++ fits) ts) (w.0.fills wrong axes env h)
      (λ fits f. real_opened axes env (before ++ fits) ts (fits_append before fits b f) w.1)

  real_laid : (axis : Axis) (axes : List Axis) (env : Environment) (slots : List (Option (List Fit))) (ks cs : List Written) → RealSlots slots → RealWrittens ks → RealWrittens cs →
      Comes IsReal RealSlots (laid wrong axis axes env slots ks cs)
  real_laid axis axes env slots [] cs s k c = comes_ok IsReal RealSlots slots s
  real_laid axis axes env slots (k1 ∷ ks) [] s k c = comes_ok IsReal RealSlots slots s
  real_laid axis axes env slots (k1 ∷ ks) (c1 ∷ cs) s k c =
      comes_then IsReal (λ v. Unit {0}) RealSlots (evaluated (k1.meaning.value env)) _ (real_found_evaluating (k1.meaning.value env) (k.0.means env))
      (λ v u. comes_cond IsReal RealSlots (is_free (slot_at slots (place_in v (values_of axis)))) _ (Err wrong)
      (comes_then IsReal RealFits RealSlots (c1.cells wrong axes env) _ (c.0.fills wrong axes env h)
      (λ fits f. real_laid axis axes env (with_slot slots (place_in v (values_of axis)) fits) ks cs (slots_with slots (place_in v (values_of axis)) fits s f) k.1 c.1))
      (comes_err IsReal RealSlots wrong h))

-- ---- one layer

real_whole : (known : Known) (at : ℕ) (m : Meaning) → evaluation.AlwaysReal m.value → RealFit (whole known at m)
real_whole known at m h form env = real_then (evaluated (m.value env)) _ (real_found_evaluating (m.value env) (h env)) (λ v. real_provided (is_inside known v form) (Outside 0 at) (Ok v) tt (real_ok v))

real_under : (env : Environment) (ts : List Written) → RealWrittens ts → FitsReal (under env ts)
real_under env [] w = tt
real_under env (t ∷ ts) w = ((λ form. w.0.fits form env), real_under env ts w.1)

real_record_parts : (known : Known) (at : ℕ) (m : Meaning) (ts : List Written) (forms : Option (List Form)) → evaluation.AlwaysReal m.value → RealWrittens ts → RealFit (record_parts known at m ts forms)
real_record_parts known at m ts (Some forms) h w form env = real_found values.Record (each_by_form [] (under env ts) forms) (real_each_by_form [] (under env ts) forms (real_under env ts w))
real_record_parts known at m ts None h w form env = real_whole known at m h form env

real_set_parts : (known : Known) (at : ℕ) (m : Meaning) (ts : List Written) (element : Option Form) → evaluation.AlwaysReal m.value → RealWrittens ts → RealFit (set_parts known at m ts element)
real_set_parts known at m ts (Some element) h w form env = real_found set_of (all_by_form [] (under env ts) element) (real_all_by_form [] (under env ts) element (real_under env ts w))
real_set_parts known at m ts None h w form env = real_whole known at m h form env

module _ (known : Known) where
  abbrev InTerm : Type 0
  InTerm = (t : Term) × RealWritten (written known t)

  abbrev InGroup : Type 0
  InGroup = GroupTerm × Unit {0}

  abbrev InSet : Type 0
  InSet = SetTerm × Unit {0}

  abbrev InStep : Type 0
  InStep = Step × Unit {0}

  abbrev real_inner : Term-F InGroup InSet InStep InTerm → Term-F GroupTerm SetTerm Step Term
  real_inner = map-Term InGroup InSet InStep InTerm GroupTerm SetTerm Step Term (λ e. e.0) (λ e. e.0) (λ e. e.0) (λ e. e.0)

  real_writtens : (es : List InTerm) → RealWrittens (map (written known) (map (λ e. e.0) es))
  real_writtens [] = tt
  real_writtens (e ∷ es) = (e.1, real_writtens es)

  real_fit_layer : (at : ℕ) (m : Meaning) (y : Term-F InGroup InSet InStep InTerm) → evaluation.AlwaysReal m.value → RealFit (fit_layer known at m (term_writes known (real_inner y)))
  real_fit_layer at m (Term-F.Record p ts) h form env = real_record_parts known at m (map (written known) (map (λ e. e.0) ts)) (parts_of known form) h (real_writtens ts) form env
  real_fit_layer at m (Term-F.Listed p ts) h form env = real_set_parts known at m (map (written known) (map (λ e. e.0) ts)) (element_of form) h (real_writtens ts) form env
  real_fit_layer at m t h form env = real_whole known at m h form env

  real_cells_layer : (fit : Fit) (y : Term-F InGroup InSet InStep InTerm) → RealFit fit → RealCells (cells_layer fit (term_writes known (real_inner y)))
  real_cells_layer fit y h wrong [] env w = comes_ok IsReal RealFits (fit ∷ []) (h, tt)
  real_cells_layer fit (Term-F.Array p ts) h wrong (axis ∷ axes) env w =
      comes_cond IsReal RealFits (nat_eq (length (map (written known) (map (λ e. e.0) ts))) (length (values_of axis))) _ (Err wrong)
      (real_opened wrong w axes env [] (map (written known) (map (λ e. e.0) ts)) tt (real_writtens ts)) (comes_err IsReal RealFits wrong w)
  real_cells_layer fit (Term-F.KeyedArray p ks cs) h wrong (axis ∷ axes) env w =
      let keys = map (written known) (map (λ e. e.0) ks) in
      let cells = map (written known) (map (λ e. e.0) cs) in
      comes_cond IsReal RealFits (nat_eq (length keys) (length (values_of axis))) _ (Err wrong)
      (comes_then IsReal RealSlots RealFits (laid wrong axis axes env (free_slots keys) keys cells) (gathered wrong [])
      (real_laid wrong w axis axes env (free_slots keys) keys cells (slots_free keys) (real_writtens ks) (real_writtens cs))
      (λ slots s. real_gathered wrong w [] slots tt s))
      (comes_err IsReal RealFits wrong w)
  real_cells_layer fit t h wrong (axis ∷ axes) env w = comes_err IsReal RealFits wrong w

  real_layer : (y : Term-F InGroup InSet InStep InTerm) → evaluation.AlwaysReal (term_means (term_writes known (real_inner y))).value → RealWritten (written_layer known (term_writes known (real_inner y)))
  real_layer y h = record {
    means = h;
    fits = real_fit_layer (at_layer (term_writes known (real_inner y))) (term_means (term_writes known (real_inner y))) y h;
    fills = real_cells_layer (fit_layer known (at_layer (term_writes known (real_inner y))) (term_means (term_writes known (real_inner y))) (term_writes known (real_inner y))) y
        (real_fit_layer (at_layer (term_writes known (real_inner y))) (term_means (term_writes known (real_inner y))) y h);
  }

  real_means : (x : Term-F GroupTerm SetTerm Step Term) → evaluation.AlwaysReal (term_means (term_writes known x)).value
  real_means x = subst (λ w. evaluation.AlwaysReal w.meaning.value) (written-rolled known x) (real_written_meaning known (roll-Term x))

  -- no initial value is want of memory
  pub real_written : (t : Term) → RealWritten (written known t)
  real_written = ind-Term (λ g. Unit {0}) (λ s. Unit {0}) (λ s. Unit {0}) (λ t. RealWritten (written known t)) (λ x y is. tt) (λ x y is. tt) (λ x y is. tt)
      (λ x y is. subst RealWritten (sym (written-rolled known x)) (subst (λ z. evaluation.AlwaysReal (term_means (term_writes known z)).value → RealWritten (written_layer known (term_writes known z))) is (real_layer y) (real_means x)))

pub real_written_value : (known : Known) (env : Environment) (form : Form) (t : Term) → Real (written_value known env form t)
unfolding written_value
real_written_value known env form t = (real_written known t).fits form env

-- ---- arrays

real_over : (next : Value → List Value → Bound (List Value)) (before vs : List Value) → ((v : Value) (more : List Value) → Real (next v more)) → Real (over next before vs)
real_over next before [] h = real_ok before
real_over next before (v ∷ vs) h = real_then (next v before) (λ more. over next more vs) (h v before) (λ more. real_over next more vs h)

real_last : (fit : Fit) (form : Form) (env : Environment) (before : List Value) → RealFit fit → Real (then (fit form env) (λ v. Ok (before ++ v ∷ [])))
real_last fit form env before h = real_then (fit form env) (λ v. Ok (before ++ v ∷ [])) (h form env) (λ v. real_ok (before ++ v ∷ []))

real_each_cell : (fit : Fit) (form : Form) (ts : List DimTree) (axes : List Axis) (env : Environment) (before : List Value) → RealFit fit → Real (each_cell fit form ts axes env before)
real_each_cell fit form [] axes env before h = real_last fit form env before h
real_each_cell fit form (t ∷ ts) [] env before h = real_last fit form env before h
real_each_cell fit form (t ∷ ts) (a ∷ others) env before h =
    real_over (λ v more. each_cell fit form ts others (with_name t.name v env) more) before (values_of a) (λ v more. real_each_cell fit form ts others (with_name t.name v env) more h)

module _ (wrong : BindFault) (h : IsReal wrong) where
  real_place : (p : Option ℕ) → Real (placed wrong p)
  real_place (Some p) = real_ok p
  real_place None = real_err ℕ wrong h

  real_matched : (others : List Value) (before : List ℕ) (vs : List Value) → Real (matched wrong others before vs)
  real_matched others before [] = real_ok before
  real_matched others before (v ∷ vs) = real_then (placed wrong (place_in v others)) (λ p. matched wrong others (before ++ p ∷ []) vs) (real_place (place_in v others)) (λ p. real_matched others (before ++ p ∷ []) vs)

  real_further : (before : List ℕ) (d o : List Value) → Real (further wrong before d o)
  real_further before d o =
      real_provided (nat_eq (length d) (length o)) wrong _ h
      (real_then (matched wrong o [] d) (λ ps. Ok (flat_map (λ n. map (λ p. n * length o + p) ps) before)) (real_matched o [] d) (λ ps. real_ok (flat_map (λ n. map (λ p. n * length o + p) ps) before)))

  real_places_among : (before : List ℕ) (ds os : List (List Value)) → Real (places_among wrong before ds os)
  real_places_among before [] [] = real_ok before
  real_places_among before [] (o ∷ os) = real_err (List ℕ) wrong h
  real_places_among before (d ∷ ds) [] = real_err (List ℕ) wrong h
  real_places_among before (d ∷ ds) (o ∷ os) =
      real_then (further wrong before d o) (λ more. places_among wrong more ds os) (real_further before d o) (λ more. real_places_among more ds os)

real_taken_layer : {A : Type 0} (known : Known) (at : ℕ) (form : Form) (axes : List Axis) (v : Value-F A Value IndexSpace) → Real (taken_layer known at form axes v)
real_taken_layer known at form axes (Value-F.Array space cells) =
    real_then (places_among (Shape 0 at) (0 ∷ []) (map values_of axes) (lists space)) _ (real_places_among (Shape 0 at) tt (0 ∷ []) (map values_of axes) (lists space))
    (λ places. real_provided (list_all (λ v. is_inside known v form) (map (value_at cells) places)) (Outside 0 at) (Ok (map (value_at cells) places)) tt (real_ok (map (value_at cells) places)))
real_taken_layer known at form axes v = real_err (List Value) (Shape 0 at) tt

real_taken : (known : Known) (w : Written) (form : Form) (axes : List Axis) (env : Environment) → RealWritten w → Real (taken_cells known w form axes env)
real_taken known w form axes env h =
    real_then (evaluated (w.meaning.value env)) _ (real_found_evaluating (w.meaning.value env) (h.means env)) (λ v. real_taken_layer known w.at form axes (out-Value v))

fits_under : (env : Environment) (fs : List Fit) → RealFits fs → FitsReal (map (λ fit. λ f. fit f env) fs)
fits_under env [] h = tt
fits_under env (f ∷ fs) h = ((λ form. h.0 form env), fits_under env fs h.1)

real_listed : (w : Written) (form : Form) (axes : List Axis) (env : Environment) → RealWritten w → Real (listed_cells w form axes env)
real_listed w form axes env h =
    comes_then IsReal RealFits (λ vs. Unit {0}) (w.cells (Shape 0 w.at) axes env) (λ fits. all_by_form [] (map (λ fit. λ f. fit f env) fits) form) (h.fills (Shape 0 w.at) axes env tt)
    (λ fits f. real_all_by_form [] (map (λ fit. λ f. fit f env) fits) form (fits_under env fits f))

real_cells_by_form : (known : Known) (w : Written) (form : Form) (ts : List DimTree) (axes : List Axis) (env : Environment) → RealWritten w → Real (cells_by_form known w form ts axes env)
real_cells_by_form known w form ts axes env h =
    real_cond (list_any has_name ts) (each_cell w.fit form ts axes env []) _ (real_each_cell w.fit form ts axes env [] h.fits)
    (real_cond w.has_cells (listed_cells w form axes env) (taken_cells known w form axes env) (real_listed w form axes env h) (real_taken known w form axes env h))

-- no cells that are written are want of memory
pub real_written_cells : (known : Known) (env : Environment) (form : Form) (ts : List DimTree) (axes : List Axis) (t : Term) → Real (written_cells known env form ts axes t)
unfolding written_cells
real_written_cells known env form ts axes t = real_cells_by_form known (written known t) form ts axes env (real_written known t)
