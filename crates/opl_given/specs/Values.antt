-- Values of data files, read by the form of their type.
use Rattle.std.specs.Prelude.{ℕ, ℤ, neg_ℤ, Bool, true, false, ◌&&◌, cond, List, [], ◌∷◌, ◌++◌, length, int_le, nat_eq, Option, Some, None, Ok, Err}
use Rattle.std.specs.Borrow.{Bor}
use Rattle.opl_tree.specs.declared.expression.NameTree.{NameTree}
use Rattle.opl_data.specs.declared.tree.DataValue.{DataValue}
use Rattle.opl_data.specs.declared.tree.DataValue.TheOpen.{DataValue-F}
use Rattle.opl_data.specs.declared.tree.DataValue.TheViews.{out-DataValue}
use Rattle.opl_data.specs.declared.tree.DataValue.TheFolds.{fold-DataValue}
use Rattle.opl_value.specs.declared.value.Value.{Value}
use Rattle.opl_value.specs.declared.value.Value.TheVariants as values
use Rattle.opl_value.specs.Sets.{first_occurrences}
use Rattle.opl_given.specs.declared.fault.BindFault.TheVariants.{Shape, Outside}
use Rattle.opl_given.specs.declared.form.Form.{Form}
use Rattle.opl_given.specs.declared.form.Form.TheOpen.{Form-F}
use Rattle.opl_given.specs.declared.form.Form.TheViews.{out-Form}
use Rattle.opl_given.specs.Faults.{Bound, then, found}
use Rattle.opl_given.specs.Forms.{Known, names_of, fields_of}
use Rattle.opl_given.specs.Names.{position}

-- ---- what a form says of each kind of value

-- the number as it is written, with or without `-`
abbrev pub signed : Bool → ℤ → ℤ
signed true n = neg_ℤ n
signed false n = n

-- a number
abbrev pub number_layer : ℕ → ℕ → ℤ → Form-F Form → Bound Value
number_layer file at n Form-F.Int = Ok (values.Int n)
number_layer file at n (Form-F.Range low high) = cond (int_le low n && int_le n high) (Ok (values.Int n)) (Err (Outside file at))
number_layer file at n form = Err (Shape file at)

unfoldable pub number_in : ℕ → ℕ → ℤ → Form → Bound Value
number_in file at n form = number_layer file at n (out-Form form)

-- a name of an enumeration
abbrev pub name_at : ℕ → ℕ → ℕ → Option ℕ → Bound Value
name_at file at declaration (Some place) = Ok (values.Enum declaration place)
name_at file at declaration None = Err (Shape file at)

abbrev pub name_layer : Known → ℕ → NameTree → Form-F Form → Bound Value
name_layer known file name (Form-F.Enumeration declaration) = name_at file name.at declaration (position name.text (names_of known declaration))
name_layer known file name form = Err (Shape file name.at)

unfoldable pub name_in : Known → ℕ → NameTree → Form → Bound Value
name_in known file name form = name_layer known file name (out-Form form)

-- the forms of the parts of a record
abbrev pub parts_layer : Known → Form-F Form → Option (List Form)
parts_layer known (Form-F.Struct declaration) = Some (fields_of known declaration)
parts_layer known (Form-F.Record forms) = Some forms
parts_layer known form = None

unfoldable pub parts_of : Known → Form → Option (List Form)
parts_of known form = parts_layer known (out-Form form)

-- the form of the elements of a set
abbrev pub element_layer : Form-F Form → Option Form
element_layer (Form-F.Set element) = Some element
element_layer form = None

unfoldable pub element_of : Form → Option Form
element_of form = element_layer (out-Form form)

-- what a view of a form gives
abbrev pub seen : {A : Type 0} → Option (Bor A) → Option A
seen (Some b) = Some b.now
seen None = None

-- ---- values

-- each part by its form, behind those found before
abbrev pub each_by_form : List Value → List (Form → Bound Value) → List Form → Bound (List Value)
each_by_form before (p ∷ ps) (f ∷ fs) = then (p f) (λ v. each_by_form (before ++ v ∷ []) ps fs)
each_by_form before ps fs = Ok before

-- each element by the one form, behind those found before
abbrev pub all_by_form : List Value → List (Form → Bound Value) → Form → Bound (List Value)
all_by_form before [] form = Ok before
all_by_form before (e ∷ es) form = then (e form) (λ v. all_by_form (before ++ v ∷ []) es form)

-- the forms of a record's first part and of so many others
pub record Split : Type 0 where
  pub first : Form
  pub others : List Form

abbrev pub split : ℕ → ℕ → ℕ → Option (List Form) → Bound Split
split file at count (Some (f ∷ fs)) = cond (nat_eq count (length fs)) (Ok (record { first = f; others = fs })) (Err (Shape file at))
split file at count forms = Err (Shape file at)

-- a record of as many parts as there are forms
abbrev pub record_in : Bound Split → (Form → Bound Value) → List (Form → Bound Value) → Bound Value
record_in forms head rest = then forms (λ fs. then (head fs.first) (λ v. found values.Record (each_by_form (v ∷ []) rest fs.others)))

-- a set, without later copies
abbrev pub set_of : List Value → Value
set_of elements = values.Set (first_occurrences elements)

abbrev pub set_in : ℕ → ℕ → List (Form → Bound Value) → Option Form → Bound Value
set_in file at elements (Some form) = found set_of (all_by_form [] elements form)
set_in file at elements None = Err (Shape file at)

abbrev pub value_layer : Known → ℕ → DataValue-F (Form → Bound Value) ℕ → Form → Bound Value
value_layer known file (DataValue-F.Number at is_negative n) form = number_in file at (signed is_negative n) form
value_layer known file (DataValue-F.Named name) form = name_in known file name form
value_layer known file (DataValue-F.Record at head rest) form = record_in (split file at (length rest) (parts_of known form)) head rest
value_layer known file (DataValue-F.Set at elements) form = set_in file at elements (element_of form)
value_layer known file (DataValue-F.Array at elements) form = Err (Shape file at)
value_layer known file (DataValue-F.KeyedArray at pairs) form = Err (Shape file at)

-- the value that a data file's value is by the form of its type, in a file of this number
unfoldable pub value_in : Known → ℕ → DataValue → Form → Bound Value
value_in known file = fold-DataValue (Form → Bound Value) ℕ (value_layer known file) (λ pair. pair.at)

-- the value that a key is, if it is one of that form
abbrev pub ok : {A : Type 0} → Bound A → Option A
ok (Ok a) = Some a
ok (Err fault) = None

abbrev pub key_in : Known → DataValue → Form → Option Value
key_in known key form = ok (value_in known 0 key form)

-- the place of the first token of a value
abbrev pub first_token_layer : {A B : Type 0} → DataValue-F A B → ℕ
first_token_layer (DataValue-F.Number at is_negative n) = at
first_token_layer (DataValue-F.Named name) = name.at
first_token_layer (DataValue-F.Record at head rest) = at
first_token_layer (DataValue-F.Set at elements) = at
first_token_layer (DataValue-F.Array at elements) = at
first_token_layer (DataValue-F.KeyedArray at pairs) = at

unfoldable pub first_token : DataValue → ℕ
first_token v = first_token_layer (out-DataValue v)
