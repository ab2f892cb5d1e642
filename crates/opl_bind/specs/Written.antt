-- Values that the model itself gives: the expressions of initial values, of one value or of an array.
use Rattle.std.specs.Prelude.{ℕ, Bool, true, false, ◌+◌, ◌*◌, cond, is_some, List, [], ◌∷◌, ◌++◌, length, map, nat_eq, set, slice_get, Option, Some, None, Ok, Err}
use Rattle.std.specs.List.{flat_map, list_all, list_any}
use Rattle.opl_tree.specs.declared.declaration.DimTree.{DimTree}
use Rattle.opl_tree.specs.declared.expression.NameTree.{NameTree}
use Rattle.opl_term.specs.declared.term.Term.{Term}
use Rattle.opl_term.specs.declared.term.GroupTerm.TheOpen.{GroupTerm-F, SetTerm-F, Step-F, Term-F}
use Rattle.opl_term.specs.declared.term.GroupTerm.TheFolds.{fold-Term, map-GroupTerm, map-SetTerm, map-Step, map-Term}
use Rattle.opl_term.specs.declared.term.GroupTerm.TheViews.{out-Term}
use Rattle.opl_value.specs.declared.value.Value.{Value}
use Rattle.opl_value.specs.declared.value.Value.TheVariants as values
use Rattle.opl_value.specs.declared.value.IndexSpace.{IndexSpace}
use Rattle.opl_value.specs.declared.value.Dimension.TheOpen.{Value-F}
use Rattle.opl_value.specs.declared.value.Dimension.TheViews.{out-Value}
use Rattle.opl_value.specs.Places.{lists, place_in, value_at}
use Rattle.opl_eval.specs.declared.arithmetic.Operation.{Operation}
use Rattle.opl_eval.specs.Evaluation.{Environment, Found, Group, Meaning, group_layer, set_layer, step_layer, term_layer, with_parameters}
use Rattle.opl_given.specs.declared.fault.BindFault.{BindFault}
use Rattle.opl_given.specs.declared.fault.BindFault.TheVariants.{Outside, Shape}
use Rattle.opl_given.specs.declared.form.Form.{Form}
use Rattle.opl_given.specs.Arrays.{Axis, is_free, values_of}
use Rattle.opl_bind.specs.Dimensions.{evaluated}
use Rattle.opl_given.specs.Faults.{Bound, then, found, provided}
use Rattle.opl_given.specs.Forms.{Known}
use Rattle.opl_given.specs.Inside.{is_inside}
use Rattle.opl_given.specs.Values.{parts_of, element_of, each_by_form, all_by_form, set_of}

-- ---- what an expression is as an initial value

-- the value that it is by the form of a type
abbrev pub Fit : Type 0
Fit = Form → Environment → Bound Value

-- an expression: what it means, the place of its first token, the value that it is by a form, whether it is `[..]` or `#[..]#`, and
-- its cells over index sets, in index order, or the fault of the whole array's shape
pub record Written : Type 0 where
  pub meaning : Meaning
  pub at : ℕ
  pub fit : Fit
  pub has_cells : Bool
  pub cells : BindFault → List Axis → Environment → Bound (List Fit)

-- ---- one value

-- evaluated as a whole, then tested
abbrev pub whole : Known → ℕ → Meaning → Fit
whole known at m form env = then (evaluated (m.value env)) (λ v. provided (is_inside known v form) (Outside 0 at) (Ok v))

-- parts under an environment
abbrev pub under : Environment → List Written → List (Form → Bound Value)
under env ts = map (λ t. λ form. t.fit form env) ts

-- a record that is written out, part by part
abbrev pub record_parts : Known → ℕ → Meaning → List Written → Option (List Form) → Fit
record_parts known at m ts (Some forms) form env = found values.Record (each_by_form [] (under env ts) forms)
record_parts known at m ts None form env = whole known at m form env

-- a set that is written out, element by element
abbrev pub set_parts : Known → ℕ → Meaning → List Written → Option Form → Fit
set_parts known at m ts (Some element) form env = found set_of (all_by_form [] (under env ts) element)
set_parts known at m ts None form env = whole known at m form env

abbrev pub fit_layer : {A B C : Type 0} → Known → ℕ → Meaning → Term-F A B C Written → Fit
fit_layer known at m (Term-F.Record p ts) form = record_parts known at m ts (parts_of known form) form
fit_layer known at m (Term-F.Listed p ts) form = set_parts known at m ts (element_of form) form
fit_layer known at m t form = whole known at m form

-- ---- the cells of `[..]` and `#[..]#`, depth first

-- what stands at a place
abbrev pub slot_at : {C : Type 0} → List (Option C) → Option ℕ → Option (Option C)
slot_at slots (Some place) = slice_get slots place
slot_at slots None = None

-- the cells at their place
abbrev pub with_slot : {C : Type 0} → List (Option C) → Option ℕ → C → List (Option C)
with_slot slots (Some place) cell = set slots place (Some cell)
with_slot slots None cell = slots

-- the cells of all these, one list behind the other
abbrev pub opened : BindFault → List Axis → Environment → List Fit → List Written → Bound (List Fit)
opened wrong axes env before [] = Ok before
opened wrong axes env before (t ∷ ts) = then (t.cells wrong axes env) (λ fits. opened wrong axes env (before ++ fits) ts)

-- the cells of each pair at the place of its key, where none are yet: the key is evaluated and looked up before its cell is opened
abbrev pub laid : BindFault → Axis → List Axis → Environment → List (Option (List Fit)) → List Written → List Written → Bound (List (Option (List Fit)))
laid wrong axis axes env slots (k ∷ ks) (c ∷ cs) =
    then (evaluated (k.meaning.value env)) (λ v.
    provided (is_free (slot_at slots (place_in v (values_of axis)))) wrong
    (then (c.cells wrong axes env) (λ fits. laid wrong axis axes env (with_slot slots (place_in v (values_of axis)) fits) ks cs)))
laid wrong axis axes env slots ks cs = Ok slots

-- as many free places as there are keys
abbrev pub free_slots : List Written → List (Option (List Fit))
free_slots ks = map (λ k. None) ks

-- the cells at all places in their order, where none is missing, behind those before
abbrev pub gathered : {C : Type 0} → BindFault → List C → List (Option (List C)) → Bound (List C)
gathered wrong before [] = Ok before
gathered wrong before (Some cells ∷ slots) = gathered wrong (before ++ cells) slots
gathered wrong before (None ∷ slots) = Err wrong

-- `[..]` has as many cells as the index set has elements; `#[..]#` has one for each key, in any order
abbrev pub cells_layer : {A B C : Type 0} → Fit → Term-F A B C Written → BindFault → List Axis → Environment → Bound (List Fit)
cells_layer fit t wrong [] env = Ok (fit ∷ [])
cells_layer fit (Term-F.Array p ts) wrong (axis ∷ axes) env =
    provided (nat_eq (length ts) (length (values_of axis))) wrong (opened wrong axes env [] ts)
cells_layer fit (Term-F.KeyedArray p ks cs) wrong (axis ∷ axes) env =
    provided (nat_eq (length ks) (length (values_of axis))) wrong
    (then (laid wrong axis axes env (free_slots ks) ks cs) (gathered wrong []))
cells_layer fit t wrong (axis ∷ axes) env = Err wrong

abbrev pub has_cells_layer : {A B C D : Type 0} → Term-F A B C D → Bool
has_cells_layer (Term-F.Array p ts) = true
has_cells_layer (Term-F.KeyedArray p ks cs) = true
has_cells_layer t = false

-- whether an expression is `[..]` or `#[..]#`
unfoldable pub has_cells : Term → Bool
has_cells t = has_cells_layer (out-Term t)

-- ---- one layer

-- the place of an expression's first token
abbrev pub at_layer : {A B C D : Type 0} → Term-F A B C D → ℕ
at_layer (Term-F.Number at n) = at
at_layer (Term-F.Named at name) = at
at_layer (Term-F.Bracket at t) = at
at_layer (Term-F.Negative at t) = at
at_layer (Term-F.Chain at first steps) = at
at_layer (Term-F.Related at left relation right) = at
at_layer (Term-F.Member at t over) = at
at_layer (Term-F.Equivalent at ts) = at
at_layer (Term-F.Implied at premise conclusion) = at
at_layer (Term-F.Or at ts) = at
at_layer (Term-F.And at ts) = at
at_layer (Term-F.Not at t) = at
at_layer (Term-F.Aggregate at op groups condition body) = at
at_layer (Term-F.Call at op t) = at
at_layer (Term-F.AllDifferent at t) = at
at_layer (Term-F.Question at op t) = at
at_layer (Term-F.Element at base subscripts) = at
at_layer (Term-F.Fields at t fs) = at
at_layer (Term-F.Record at ts) = at
at_layer (Term-F.Listed at ts) = at
at_layer (Term-F.Described at t groups condition) = at
at_layer (Term-F.Array at ts) = at
at_layer (Term-F.KeyedArray at keys cells) = at

-- the place of the first token of a term as it stands in the model
unfoldable pub first_token : Term → ℕ
first_token t = at_layer (out-Term t)

abbrev pub Run : Type 0
Run = Environment → Found Operation

-- what an expression, a step, a set and a group mean, from what their parts mean
abbrev pub term_means : Term-F Group Meaning Run Written → Meaning
term_means t = term_layer (map-Term Group Meaning Run Written Group Meaning Run Meaning (λ g. g) (λ s. s) (λ o. o) (λ w. w.meaning) t)

abbrev pub step_means : Step-F Group Meaning Run Written → Run
step_means t = step_layer (map-Step Group Meaning Run Written Group Meaning Run Meaning (λ g. g) (λ s. s) (λ o. o) (λ w. w.meaning) t)

abbrev pub set_means : SetTerm-F Group Meaning Run Written → Meaning
set_means t = set_layer (map-SetTerm Group Meaning Run Written Group Meaning Run Meaning (λ g. g) (λ s. s) (λ o. o) (λ w. w.meaning) t)

abbrev pub group_means : GroupTerm-F Group Meaning Run Written → Group
group_means t = group_layer (map-GroupTerm Group Meaning Run Written Group Meaning Run Meaning (λ g. g) (λ s. s) (λ o. o) (λ w. w.meaning) t)

abbrev pub written_layer : Known → Term-F Group Meaning Run Written → Written
written_layer known t = record {
  meaning = term_means t;
  at = at_layer t;
  fit = fit_layer known (at_layer t) (term_means t) t;
  has_cells = has_cells_layer t;
  cells = cells_layer (fit_layer known (at_layer t) (term_means t) t) t;
}

-- what an expression is as an initial value
unfoldable pub written : Known → Term → Written
written known = fold-Term Group Meaning Run Written group_means set_means step_means (written_layer known)

-- the value of an item without dimensions
unfoldable pub written_value : Known → Environment → Form → Term → Bound Value
written_value known env form t = (written known t).fit form env

-- ---- arrays

-- what the name of a dimension stands for, if it has one
abbrev pub with_name : Option NameTree → Value → Environment → Environment
with_name (Some name) v env = with_parameters (record { name = name.text; value = v } ∷ []) env
with_name None v env = env

-- one value after another, behind what was found before
abbrev pub over : (Value → List Value → Bound (List Value)) → List Value → List Value → Bound (List Value)
over next before [] = Ok before
over next before (v ∷ vs) = then (next v before) (λ more. over next more vs)

-- the expression for each key, in index order
abbrev pub each_cell : Fit → Form → List DimTree → List Axis → Environment → List Value → Bound (List Value)
each_cell fit form (t ∷ ts) (axis ∷ axes) env before = over (λ v more. each_cell fit form ts axes (with_name t.name v env) more) before (values_of axis)
each_cell fit form ts axes env before = then (fit form env) (λ v. Ok (before ++ v ∷ []))

-- a place that must be there
abbrev pub placed : BindFault → Option ℕ → Bound ℕ
placed wrong (Some p) = Ok p
placed wrong None = Err wrong

-- the places of values among those of another index set
abbrev pub matched : BindFault → List Value → List ℕ → List Value → Bound (List ℕ)
matched wrong others before [] = Ok before
matched wrong others before (v ∷ vs) = then (placed wrong (place_in v others)) (λ p. matched wrong others (before ++ p ∷ []) vs)

-- the places with those of one more dimension behind them
abbrev pub further : BindFault → List ℕ → List Value → List Value → Bound (List ℕ)
further wrong before d o =
    provided (nat_eq (length d) (length o)) wrong
    (then (matched wrong o [] d) (λ ps. Ok (flat_map (λ n. map (λ p. n * length o + p) ps) before)))

-- the places of keys among those of another array, whose index sets have the same elements, in any order
abbrev pub places_among : BindFault → List ℕ → List (List Value) → List (List Value) → Bound (List ℕ)
places_among wrong before [] [] = Ok before
places_among wrong before (d ∷ ds) (o ∷ os) = then (further wrong before d o) (λ more. places_among wrong more ds os)
places_among wrong before ds os = Err wrong

-- cells of which each is inside
abbrev pub tested : Known → ℕ → Form → List Value → Bound (List Value)
tested known at form cells = provided (list_all (λ v. is_inside known v form) cells) (Outside 0 at) (Ok cells)

-- the cells of another array, by their keys
abbrev pub taken_layer : {A : Type 0} → Known → ℕ → Form → List Axis → Value-F A Value IndexSpace → Bound (List Value)
taken_layer known at form axes (Value-F.Array space cells) =
    then (places_among (Shape 0 at) (0 ∷ []) (map values_of axes) (lists space)) (λ places. tested known at form (map (value_at cells) places))
taken_layer known at form axes v = Err (Shape 0 at)

abbrev pub has_name : DimTree → Bool
has_name t = is_some t.name

-- the elements of `[..]` or `#[..]#`: the shape of the whole comes before any element
abbrev pub listed_cells : Written → Form → List Axis → Environment → Bound (List Value)
listed_cells w form axes env =
    then (w.cells (Shape 0 w.at) axes env) (λ fits. all_by_form [] (map (λ fit. λ f. fit f env) fits) form)

abbrev pub taken_cells : Known → Written → Form → List Axis → Environment → Bound (List Value)
taken_cells known w form axes env = then (evaluated (w.meaning.value env)) (λ v. taken_layer known w.at form axes (out-Value v))

abbrev pub cells_by_form : Known → Written → Form → List DimTree → List Axis → Environment → Bound (List Value)
cells_by_form known w form ts axes env =
    cond (list_any has_name ts) (each_cell w.fit form ts axes env [])
    (cond w.has_cells (listed_cells w form axes env) (taken_cells known w form axes env))

-- the cells of an array, in index order: where a dimension has a name, the expression for each key; else those that are written out,
-- or those of another array
unfoldable pub written_cells : Known → Environment → Form → List DimTree → List Axis → Term → Bound (List Value)
written_cells known env form ts axes t = cells_by_form known (written known t) form ts axes env
