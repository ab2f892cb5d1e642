-- The index sets of arrays.
use Rattle.std.specs.Prelude.{ℕ, suc, ℤ, pos, List, [], ◌∷◌, ◌++◌, map}
use Rattle.opl_value.specs.declared.value.Value.{Value}
use Rattle.opl_value.specs.declared.value.Value.TheVariants as values
use Rattle.opl_value.specs.declared.value.Dimension.TheOpen.{Value-F}
use Rattle.opl_value.specs.declared.value.Dimension.TheViews.{out-Value}
use Rattle.opl_value.specs.declared.value.Dimension.TheFolds.{fold-Value}
use Rattle.opl_value.specs.declared.value.Dimension.TheVariants as dimensions
use Rattle.opl_value.specs.Rising.{listed_dimension}
use Rattle.opl_value.specs.Sets.{first_occurrences}
use Rattle.opl_given.specs.declared.form.Form.{Form}
use Rattle.opl_given.specs.declared.form.Form.TheVariants as forms
use Rattle.opl_given.specs.declared.form.Form.TheOpen.{Form-F}
use Rattle.opl_given.specs.declared.form.Form.TheViews.{out-Form}
use Rattle.opl_given.specs.Arrays.{Axis}

-- ---- the form of the elements of a set, read off all of them

abbrev pub parts_layer : Form-F Form → List Form
parts_layer (Form-F.Record parts) = parts
parts_layer form = []

-- the forms of a record's parts, as far as they are known
unfoldable pub parts_known : Form → List Form
parts_known form = parts_layer (out-Form form)

abbrev pub element_layer : Form-F Form → Form
element_layer (Form-F.Set element) = element
element_layer form = forms.Nothing

-- the form of a set's elements, as far as it is known
unfoldable pub element_known : Form → Form
element_known form = element_layer (out-Form form)

-- what each part adds to what is known of its form, behind those before
abbrev pub parts_learnt : List Form → List (Form → Form) → List Form → List Form
parts_learnt before [] fs = before
parts_learnt before (p ∷ ps) [] = parts_learnt (before ++ p forms.Nothing ∷ []) ps []
parts_learnt before (p ∷ ps) (f ∷ fs) = parts_learnt (before ++ p f ∷ []) ps fs

-- what all elements add to what is known of their form
abbrev pub elements_learnt : List (Form → Form) → Form → Form
elements_learnt [] form = form
elements_learnt (e ∷ es) form = elements_learnt es (e form)

abbrev pub learnt_layer : {A C : Type 0} → Value-F A (Form → Form) C → Form → Form
learnt_layer (Value-F.Int n) form = forms.Int
learnt_layer (Value-F.Enum declaration position) form = forms.Enumeration declaration
learnt_layer (Value-F.Record parts) form = forms.Record (parts_learnt [] parts (parts_known form))
learnt_layer (Value-F.Set elements) form = forms.Set (elements_learnt elements (element_known form))
learnt_layer value form = form

-- what a value adds to what is known of the form of its like
unfoldable pub learnt : Value → Form → Form
learnt = fold-Value (Form → Form) (Form → Form) (Form → Form) (λ d form. form) learnt_layer (λ space form. form)

-- ---- index sets

-- the names of an enumeration as values, from a position on
abbrev pub names_from : ℕ → ℕ → List (List ℕ) → List Value
names_from declaration p [] = []
names_from declaration p (n ∷ ns) = values.Enum declaration p ∷ names_from declaration (suc p) ns

-- the elements of a set in its order, and the names of an enumeration in theirs
abbrev pub listed : List Value → Axis
listed elements = record { dimension = listed_dimension (first_occurrences elements); form = elements_learnt (map learnt elements) forms.Nothing }

abbrev pub named : ℕ → List (List ℕ) → Axis
named declaration names = record { dimension = listed_dimension (first_occurrences (names_from declaration 0 names)); form = forms.Enumeration declaration }

-- the whole numbers from the first to the second
abbrev pub between : ℤ → ℤ → Axis
between low high = record { dimension = dimensions.Whole low high; form = forms.Int }

abbrev pub no_elements : Axis
no_elements = record { dimension = dimensions.Whole (pos 1) (pos 0); form = forms.Nothing }

-- a set in its order, a range in rising order, an enumeration in its order
abbrev pub axis_layer : {A C : Type 0} → ℕ → Value-F A Value C → Axis
axis_layer declaration (Value-F.Set elements) = listed elements
axis_layer declaration (Value-F.Range low high) = between low high
axis_layer declaration (Value-F.Names names) = named declaration names
axis_layer declaration value = no_elements

-- the index set that a set is, or the enumeration of this declaration
unfoldable pub axis_of_set : ℕ → Value → Axis
axis_of_set declaration set = axis_layer declaration (out-Value set)
