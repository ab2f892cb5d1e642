-- Laws of the values of data.
use Rattle.std.specs.Prelude.{◌≡◌, ◌≤◌, ◌<◌, ◌⊎◌, ℕ, ℤ, ◌+ℤ◌, ◌*ℤ◌, ◌≤ℤ◌, pos, unsigned_abs, true, List, ◌∷◌, ◌++◌, length, Some, Ok, false}
use Rattle.std.specs.List.{list_any, slice_get}
use Rattle.opl_tree.specs.declared.declaration.DataDeclTree.{DataDeclTree}
use Rattle.opl_tree.specs.declared.declaration.DeclTree.{DeclTree}
use Rattle.opl_tree.specs.declared.declaration.DeclTree.TheVariants as decls
use Rattle.opl_tree.specs.declared.declaration.DimTree.{DimTree}
use Rattle.opl_tree.specs.declared.declaration.InitialTree.TheVariants as initials
use Rattle.opl_term.specs.declared.term.Term.{Term}
use Rattle.opl_term.specs.Terms.{add_term}
use Rattle.opl_tree.specs.declared.expression.AddTree.{AddTree}
use Rattle.opl_type_rules.specs.Types.{Sort}
use Rattle.opl_type_rules.specs.Scope.{Scope, and_then, fits_in}
use Rattle.opl_type_rules.specs.Forms.{form_add}
use Rattle.opl_type_rules.specs.Expressions.{Node, typing, used}
use Rattle.opl_type_rules.specs.Expressions.Need.{data_alone}
use Rattle.opl_typed_values.specs.Positions.{FieldsStand}
use Rattle.opl_typed_values.specs.Visible.{AreOfTheirSorts}
use Rattle.opl_data.specs.declared.tree.DataTree.{DataTree}
use Rattle.opl_data.specs.declared.tree.DataValue.{DataValue}
use Rattle.opl_value.specs.declared.value.Value.{Value}
use Rattle.opl_value.specs.Places.{place_in, place_of}
use Rattle.opl_eval.specs.Evaluation.{Environment, eval}
use Rattle.opl_eval.specs.Arithmetic.{quotient, remainder}
use Rattle.opl_given.specs.declared.assigned.Override.{Override}
use Rattle.opl_given.specs.declared.fault.BindFault.{BindFault}
use Rattle.opl_given.specs.declared.form.Form.{Form}
use Rattle.opl_given.specs.declared.form.Form.TheVariants as forms
use Rattle.opl_given.specs.Arrays.{Axis, elements_in, values_of}
use Rattle.opl_given.specs.Assigned.{is_assigned}
use Rattle.opl_given.specs.Forms.{Known, form_of, names_of}
use Rattle.opl_given.specs.Given.{Given, all_given}
use Rattle.opl_given.specs.Items.{lists_of}
use Rattle.opl_given.specs.Values.{value_in}
use Rattle.opl_bind.specs.Bind.{Data, bound}
use Rattle.opl_bind.specs.Written.{has_name, written_cells, written_value}
use Rattle.opl_fit.specs.Declared.{ItemIs, Stands}
use Rattle.opl_fit.specs.Fits.{Fits}
use Rattle.opl_fit.specs.Keys.{IsKeyIn, Says, SaysWritten}
use Rattle.opl_fit.specs.OfKind.{HasKind}
use Rattle.opl_fit.specs.Typed.{IsFormOf, StructsAgree}

-- ---- the forms of values

-- a type whose values are numbers
abbrev pub TakesNumbers : Form → Type 0
TakesNumbers form = (form ≡ forms.Int) ⊎ ((low : ℤ) × (high : ℤ) × (form ≡ forms.Range low high))

-- where numbers are assigned to an item only if its type takes them, its value fits its type
abbrev pub ItemFits : List Override → DataDeclTree → Data → Value → Type 0
ItemFits os t d v =
    (is_assigned t.name.text os ≡ true → TakesNumbers (form_of t.kind d.known)) → ItemIs (Fits d.known (form_of t.kind d.known)) d t.dims v

-- each item whose value a data file gives, or is assigned, has a value of the form of its type
abbrev pub GivenValuesFit : Type 0
GivenValuesFit = (position : ℕ → ℕ) (before after : List DeclTree) (t : DataDeclTree) (at : ℕ) (files : List DataTree) (os : List Override) (final : Data) →
    t.initial ≡ initials.External at → bound position (before ++ decls.Data t ∷ after) files os ≡ Ok final →
    (given : Given) × (all_given (before ++ decls.Data t ∷ after) files ≡ Ok given) × Stands position given os before t final (ItemFits os t)

-- a value of the kind of its type, as typing tells it, fits the type
abbrev pub FitsByKind : Known → Form → Value → Type 0
FitsByKind known form v = HasKind known form v → Fits known form v

abbrev pub ItemFitsByKind : DataDeclTree → Data → Value → Type 0
ItemFitsByKind t d v = ItemIs (FitsByKind d.known (form_of t.kind d.known)) d t.dims v

-- each item whose value the model itself gives has a value of the form of its type, where it is of the kind of the type
abbrev pub WrittenValuesFit : Type 0
WrittenValuesFit = (position : ℕ → ℕ) (before after : List DeclTree) (t : DataDeclTree) (e : AddTree) (files : List DataTree) (os : List Override) (final : Data) →
    t.initial ≡ initials.Written e → bound position (before ++ decls.Data t ∷ after) files os ≡ Ok final →
    (given : Given) × (all_given (before ++ decls.Data t ∷ after) files ≡ Ok given) × Stands position given os before t final (ItemFitsByKind t)

-- a value that the model writes for a type without dimensions has the form of the type, where typing takes its expression as data of that type, the visible names have values of their types, and
-- the fields of which the value is made have their positions
abbrev pub TypedValuesFit : Type 0
TypedValuesFit =
    (known : Known) (sc : Scope) (env : Environment) (e : AddTree) (form : Form) (want : Sort) (n : Node) (v : Value) →
    AreOfTheirSorts (λ k. length (names_of known k)) sc env → StructsAgree known sc → IsFormOf form want → FieldsStand env.position sc (form_add e) →
    and_then (typing sc (form_add e)) (used data_alone (fits_in sc want)) ≡ Ok n → written_value known env form (add_term e) ≡ Ok v → Fits known form v

-- ---- the cells of arrays

-- of an array that a data file gives, the cell at a key's place is what the array says for the key
abbrev pub CellsStandByTheirKeys : Type 0
CellsStandByTheirKeys =
    (known : Known) (file : ℕ) (wrong : BindFault) (axes : List Axis) (form : Form) (value : DataValue) (cells : List Value) (key : List Value) (cell : DataValue) →
    elements_in known file wrong axes form value ≡ Ok cells → Says known axes value key cell →
    (place : ℕ) × (v : Value) × (place_of (lists_of axes) key ≡ Some place) × (slice_get cells place ≡ Some v) × (value_in known file cell form ≡ Ok v)

-- of an array that the model writes as `[..]` and `#[..]#`, over any number of index sets without names, the cell at a key's place is the value of the expression that stands for the key
abbrev pub WrittenCellsStandByTheirKeys : Type 0
WrittenCellsStandByTheirKeys =
    (known : Known) (env : Environment) (form : Form) (ts : List DimTree) (axis : Axis) (axes : List Axis) (t : Term) (cells : List Value) (key : List Value) (cell : Term) →
    list_any has_name ts ≡ false → written_cells known env form ts (axis ∷ axes) t ≡ Ok cells → SaysWritten env (axis ∷ axes) t key cell →
    (place : ℕ) × (v : Value) × (place_of (lists_of (axis ∷ axes)) key ≡ Some place) × (slice_get cells place ≡ Some v) × (written_value known env form cell ≡ Ok v)

-- each key in such an array has a value, which is an element of its index set
abbrev pub WrittenKeysAreElements : Type 0
WrittenKeysAreElements =
    (known : Known) (env : Environment) (form : Form) (ts : List DimTree) (axes : List Axis) (t : Term) (cells : List Value) (axis : Axis) (key : Term) →
    list_any has_name ts ≡ false → written_cells known env form ts axes t ≡ Ok cells → IsKeyIn axis key axes t →
    (v : Value) × (place : ℕ) × (eval key env ≡ Ok v) × (place_in v (values_of axis) ≡ Some place)

-- ---- numbers

-- a remainder has the sign of the number that is divided, unless it is 0
abbrev pub HasSignOf : ℤ → ℤ → Type 0
HasSignOf r a = ((pos 0 ≤ℤ a) × (pos 0 ≤ℤ r)) ⊎ ((a ≤ℤ pos 0) × (r ≤ℤ pos 0))

-- a quotient is cut off towards 0: what it leaves is nearer to 0 than the divisor and has the sign of the number that is divided, and times the divisor it is no
-- further from 0 than that number
pub record IsCutOff (a b q r : ℤ) : Type 0 where
  pub whole : a ≡ b *ℤ q +ℤ r
  pub near : unsigned_abs r < unsigned_abs b
  pub towards_zero : unsigned_abs (b *ℤ q) ≤ unsigned_abs a
  pub sign : HasSignOf r a

abbrev pub QuotientsAreCutOff : Type 0
QuotientsAreCutOff = (at : ℕ) (a b q r : ℤ) → quotient at a b ≡ Ok q → remainder at a b ≡ Ok r → IsCutOff a b q r
