-- What each form says of values, one layer at a time.
use Rattle.std.proofs.Common.{◌≡◌, ℕ, ℤ, Bool, cond, ◌&&◌, List, length, map, None, Some, Ok, Err, refl, ap, ◌∙◌, sym}
use Rattle.std.specs.Prelude.{int_le}
use Rattle.std.specs.List.{slice_get}
use Rattle.std.specs.Option.{option_map}
use Rattle.std.proofs.lemmas.List.{length-map}
use Rattle.std.proofs.lemmas.Option.{slice_get-map}
use Rattle.opl_tree.specs.declared.expression.NameTree.{NameTree}
use Rattle.opl_data.specs.declared.tree.DataPair.{DataPair}
use Rattle.opl_data.specs.declared.tree.DataValue.{DataValue}
use Rattle.opl_data.specs.declared.tree.DataValue.TheVariants as data_values
use Rattle.opl_data.specs.declared.tree.DataValue.TheFolds.{fold-roll-DataValue}
use Rattle.opl_value.specs.declared.value.Value.TheVariants as values
use Rattle.opl_given.specs.declared.fault.BindFault.TheVariants.{Shape, Outside}
use Rattle.opl_given.specs.declared.form.Form.{Form}
use Rattle.opl_given.specs.declared.form.Form.TheVariants as forms
use Rattle.opl_given.specs.declared.types.Types.{Types}
use Rattle.opl_given.specs.Forms.{Known, names_of, fields_of, or_none}
use Rattle.opl_given.specs.Names.{position}
use Rattle.opl_given.specs.Readings.{known_of, texts_of}
use Rattle.opl_given.specs.Values.{number_layer, number_in, name_layer, name_at, name_in, parts_layer, parts_of, element_layer, element_of, signed, split, record_in, set_in, value_in}

pub names_of-known : (types : Types) (k : ℕ) → names_of (known_of types) k ≡ or_none (option_map texts_of (slice_get types.enumerations k))
unfolding names_of known_of
names_of-known types k = ap or_none (slice_get-map texts_of types.enumerations k)

pub fields_of-known : (types : Types) (k : ℕ) → fields_of (known_of types) k ≡ or_none (slice_get types.fields k)
unfolding fields_of known_of
fields_of-known types k = refl

pub ruleset known = (names_of-known, fields_of-known)

pub number_in-Nothing : (file : ℕ) (at : ℕ) (n : ℤ) → number_in file at n forms.Nothing ≡ Err (Shape file at)
unfolding number_in
number_in-Nothing file at n = ap (number_layer file at n) forms.outs-Nothing

pub number_in-Int : (file : ℕ) (at : ℕ) (n : ℤ) → number_in file at n forms.Int ≡ Ok (values.Int n)
unfolding number_in
number_in-Int file at n = ap (number_layer file at n) forms.outs-Int

pub number_in-Range : (file : ℕ) (at : ℕ) (n : ℤ) (low : ℤ) (high : ℤ) → number_in file at n (forms.Range low high) ≡ cond (int_le low n && int_le n high) (Ok (values.Int n)) (Err (Outside file at))
unfolding number_in
number_in-Range file at n low high = ap (number_layer file at n) (forms.outs-Range low high)

pub number_in-Enumeration : (file : ℕ) (at : ℕ) (n : ℤ) (declaration : ℕ) → number_in file at n (forms.Enumeration declaration) ≡ Err (Shape file at)
unfolding number_in
number_in-Enumeration file at n declaration = ap (number_layer file at n) (forms.outs-Enumeration declaration)

pub number_in-Struct : (file : ℕ) (at : ℕ) (n : ℤ) (declaration : ℕ) → number_in file at n (forms.Struct declaration) ≡ Err (Shape file at)
unfolding number_in
number_in-Struct file at n declaration = ap (number_layer file at n) (forms.outs-Struct declaration)

pub number_in-Record : (file : ℕ) (at : ℕ) (n : ℤ) (parts : List Form) → number_in file at n (forms.Record parts) ≡ Err (Shape file at)
unfolding number_in
number_in-Record file at n parts = ap (number_layer file at n) (forms.outs-Record parts)

pub number_in-Set : (file : ℕ) (at : ℕ) (n : ℤ) (element : Form) → number_in file at n (forms.Set element) ≡ Err (Shape file at)
unfolding number_in
number_in-Set file at n element = ap (number_layer file at n) (forms.outs-Set element)

pub name_in-Nothing : (known : Known) (file : ℕ) (name : NameTree) → name_in known file name forms.Nothing ≡ Err (Shape file name.at)
unfolding name_in
name_in-Nothing known file name = ap (name_layer known file name) forms.outs-Nothing

pub name_in-Int : (known : Known) (file : ℕ) (name : NameTree) → name_in known file name forms.Int ≡ Err (Shape file name.at)
unfolding name_in
name_in-Int known file name = ap (name_layer known file name) forms.outs-Int

pub name_in-Range : (known : Known) (file : ℕ) (name : NameTree) (low : ℤ) (high : ℤ) → name_in known file name (forms.Range low high) ≡ Err (Shape file name.at)
unfolding name_in
name_in-Range known file name low high = ap (name_layer known file name) (forms.outs-Range low high)

pub name_in-Enumeration : (known : Known) (file : ℕ) (name : NameTree) (declaration : ℕ) → name_in known file name (forms.Enumeration declaration) ≡ name_at file name.at declaration (position name.text (names_of known declaration))
unfolding name_in
name_in-Enumeration known file name declaration = ap (name_layer known file name) (forms.outs-Enumeration declaration)

pub name_in-Struct : (known : Known) (file : ℕ) (name : NameTree) (declaration : ℕ) → name_in known file name (forms.Struct declaration) ≡ Err (Shape file name.at)
unfolding name_in
name_in-Struct known file name declaration = ap (name_layer known file name) (forms.outs-Struct declaration)

pub name_in-Record : (known : Known) (file : ℕ) (name : NameTree) (parts : List Form) → name_in known file name (forms.Record parts) ≡ Err (Shape file name.at)
unfolding name_in
name_in-Record known file name parts = ap (name_layer known file name) (forms.outs-Record parts)

pub name_in-Set : (known : Known) (file : ℕ) (name : NameTree) (element : Form) → name_in known file name (forms.Set element) ≡ Err (Shape file name.at)
unfolding name_in
name_in-Set known file name element = ap (name_layer known file name) (forms.outs-Set element)

pub parts_of-Nothing : (known : Known) → parts_of known forms.Nothing ≡ None
unfolding parts_of
parts_of-Nothing known = ap (parts_layer known) forms.outs-Nothing

pub parts_of-Int : (known : Known) → parts_of known forms.Int ≡ None
unfolding parts_of
parts_of-Int known = ap (parts_layer known) forms.outs-Int

pub parts_of-Range : (known : Known) (low : ℤ) (high : ℤ) → parts_of known (forms.Range low high) ≡ None
unfolding parts_of
parts_of-Range known low high = ap (parts_layer known) (forms.outs-Range low high)

pub parts_of-Enumeration : (known : Known) (declaration : ℕ) → parts_of known (forms.Enumeration declaration) ≡ None
unfolding parts_of
parts_of-Enumeration known declaration = ap (parts_layer known) (forms.outs-Enumeration declaration)

pub parts_of-Struct : (known : Known) (declaration : ℕ) → parts_of known (forms.Struct declaration) ≡ Some (fields_of known declaration)
unfolding parts_of
parts_of-Struct known declaration = ap (parts_layer known) (forms.outs-Struct declaration)

pub parts_of-Record : (known : Known) (parts : List Form) → parts_of known (forms.Record parts) ≡ Some parts
unfolding parts_of
parts_of-Record known parts = ap (parts_layer known) (forms.outs-Record parts)

pub parts_of-Set : (known : Known) (element : Form) → parts_of known (forms.Set element) ≡ None
unfolding parts_of
parts_of-Set known element = ap (parts_layer known) (forms.outs-Set element)

pub element_of-Nothing : element_of forms.Nothing ≡ None
unfolding element_of
element_of-Nothing = ap element_layer forms.outs-Nothing

pub element_of-Int : element_of forms.Int ≡ None
unfolding element_of
element_of-Int = ap element_layer forms.outs-Int

pub element_of-Range : (low : ℤ) (high : ℤ) → element_of (forms.Range low high) ≡ None
unfolding element_of
element_of-Range low high = ap element_layer (forms.outs-Range low high)

pub element_of-Enumeration : (declaration : ℕ) → element_of (forms.Enumeration declaration) ≡ None
unfolding element_of
element_of-Enumeration declaration = ap element_layer (forms.outs-Enumeration declaration)

pub element_of-Struct : (declaration : ℕ) → element_of (forms.Struct declaration) ≡ None
unfolding element_of
element_of-Struct declaration = ap element_layer (forms.outs-Struct declaration)

pub element_of-Record : (parts : List Form) → element_of (forms.Record parts) ≡ None
unfolding element_of
element_of-Record parts = ap element_layer (forms.outs-Record parts)

pub element_of-Set : (element : Form) → element_of (forms.Set element) ≡ Some element
unfolding element_of
element_of-Set element = ap element_layer (forms.outs-Set element)

pub value_in-Number : (known : Known) (file : ℕ) (at : ℕ) (is_negative : Bool) (n : ℤ) (form : Form) → value_in known file (data_values.Number at is_negative n) form ≡ number_in file at (signed is_negative n) form
unfolding value_in
value_in-Number known file at is_negative n form = ap (λ v. value_in known file v form) (sym (data_values.rolls-Number at is_negative n)) ∙ rw fold-roll-DataValue refl

pub value_in-Named : (known : Known) (file : ℕ) (name : NameTree) (form : Form) → value_in known file (data_values.Named name) form ≡ name_in known file name form
unfolding value_in
value_in-Named known file name form = ap (λ v. value_in known file v form) (sym (data_values.rolls-Named name)) ∙ rw fold-roll-DataValue refl

pub value_in-Record : (known : Known) (file : ℕ) (at : ℕ) (head : DataValue) (rest : List DataValue) (form : Form) → value_in known file (data_values.Record at head rest) form ≡ record_in (split file at (length rest) (parts_of known form)) (value_in known file head) (map (value_in known file) rest)
unfolding value_in
value_in-Record known file at head rest form =
    ap (λ v. value_in known file v form) (sym (data_values.rolls-Record at head rest))
    ∙ rw fold-roll-DataValue (ap (λ n. record_in (split file at n (parts_of known form)) (value_in known file head) (map (value_in known file) rest)) (length-map rest (value_in known file)))

pub value_in-Set : (known : Known) (file : ℕ) (at : ℕ) (elements : List DataValue) (form : Form) → value_in known file (data_values.Set at elements) form ≡ set_in file at (map (value_in known file) elements) (element_of form)
unfolding value_in
value_in-Set known file at elements form = ap (λ v. value_in known file v form) (sym (data_values.rolls-Set at elements)) ∙ rw fold-roll-DataValue refl

pub value_in-Array : (known : Known) (file : ℕ) (at : ℕ) (elements : List DataValue) (form : Form) → value_in known file (data_values.Array at elements) form ≡ Err (Shape file at)
unfolding value_in
value_in-Array known file at elements form = ap (λ v. value_in known file v form) (sym (data_values.rolls-Array at elements)) ∙ rw fold-roll-DataValue refl

pub value_in-KeyedArray : (known : Known) (file : ℕ) (at : ℕ) (pairs : List DataPair) (form : Form) → value_in known file (data_values.KeyedArray at pairs) form ≡ Err (Shape file at)
unfolding value_in
value_in-KeyedArray known file at pairs form = ap (λ v. value_in known file v form) (sym (data_values.rolls-KeyedArray at pairs)) ∙ rw fold-roll-DataValue refl

-- what forms say
pub ruleset forms_say = (number_in-Nothing, number_in-Int, number_in-Range, number_in-Enumeration, number_in-Struct, number_in-Record, number_in-Set, name_in-Nothing, name_in-Int, name_in-Range, name_in-Enumeration, name_in-Struct, name_in-Record, name_in-Set, parts_of-Nothing, parts_of-Int, parts_of-Range, parts_of-Enumeration, parts_of-Struct, parts_of-Record, parts_of-Set, element_of-Nothing, element_of-Int, element_of-Range, element_of-Enumeration, element_of-Struct, element_of-Record, element_of-Set)

-- what values are
pub ruleset values_are = (value_in-Number, value_in-Named, value_in-Record, value_in-Set, value_in-Array, value_in-KeyedArray)
