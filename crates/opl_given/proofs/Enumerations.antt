-- What the variants of a data file's values come to.
use Rattle.std.proofs.Common.{◌≡◌, ℕ, ℤ, Bool, List, [], ap, Ok, Err}
use Rattle.opl_tree.specs.declared.expression.NameTree.{NameTree}
use Rattle.opl_data.specs.declared.tree.DataPair.{DataPair}
use Rattle.opl_data.specs.declared.tree.DataValue.{DataValue}
use Rattle.opl_data.specs.declared.tree.DataValue.TheVariants as data_values
use Rattle.opl_given.specs.declared.fault.BindFault.{BindFault}
use Rattle.opl_given.specs.Enumerations.{name_layer, name_of, different_names, names_layer, names_in}
use Rattle.opl_given.specs.Values.{first_token_layer, first_token}

pub first_token-Number : (at : ℕ) (is_negative : Bool) (n : ℤ) → first_token (data_values.Number at is_negative n) ≡ at
unfolding first_token
first_token-Number at is_negative n = ap first_token_layer (data_values.outs-Number at is_negative n)

pub first_token-Named : (name : NameTree) → first_token (data_values.Named name) ≡ name.at
unfolding first_token
first_token-Named name = ap first_token_layer (data_values.outs-Named name)

pub first_token-Record : (at : ℕ) (head : DataValue) (rest : List DataValue) → first_token (data_values.Record at head rest) ≡ at
unfolding first_token
first_token-Record at head rest = ap first_token_layer (data_values.outs-Record at head rest)

pub first_token-Set : (at : ℕ) (elements : List DataValue) → first_token (data_values.Set at elements) ≡ at
unfolding first_token
first_token-Set at elements = ap first_token_layer (data_values.outs-Set at elements)

pub first_token-Array : (at : ℕ) (parts : List DataValue) → first_token (data_values.Array at parts) ≡ at
unfolding first_token
first_token-Array at parts = ap first_token_layer (data_values.outs-Array at parts)

pub first_token-KeyedArray : (at : ℕ) (pairs : List DataPair) → first_token (data_values.KeyedArray at pairs) ≡ at
unfolding first_token
first_token-KeyedArray at pairs = ap first_token_layer (data_values.outs-KeyedArray at pairs)

pub name_of-Number : (wrong : BindFault) (at : ℕ) (is_negative : Bool) (n : ℤ) → name_of wrong (data_values.Number at is_negative n) ≡ Err wrong
unfolding name_of
name_of-Number wrong at is_negative n = ap (name_layer wrong) (data_values.outs-Number at is_negative n)

pub name_of-Named : (wrong : BindFault) (name : NameTree) → name_of wrong (data_values.Named name) ≡ Ok name.text
unfolding name_of
name_of-Named wrong name = ap (name_layer wrong) (data_values.outs-Named name)

pub name_of-Record : (wrong : BindFault) (at : ℕ) (head : DataValue) (rest : List DataValue) → name_of wrong (data_values.Record at head rest) ≡ Err wrong
unfolding name_of
name_of-Record wrong at head rest = ap (name_layer wrong) (data_values.outs-Record at head rest)

pub name_of-Set : (wrong : BindFault) (at : ℕ) (elements : List DataValue) → name_of wrong (data_values.Set at elements) ≡ Err wrong
unfolding name_of
name_of-Set wrong at elements = ap (name_layer wrong) (data_values.outs-Set at elements)

pub name_of-Array : (wrong : BindFault) (at : ℕ) (parts : List DataValue) → name_of wrong (data_values.Array at parts) ≡ Err wrong
unfolding name_of
name_of-Array wrong at parts = ap (name_layer wrong) (data_values.outs-Array at parts)

pub name_of-KeyedArray : (wrong : BindFault) (at : ℕ) (pairs : List DataPair) → name_of wrong (data_values.KeyedArray at pairs) ≡ Err wrong
unfolding name_of
name_of-KeyedArray wrong at pairs = ap (name_layer wrong) (data_values.outs-KeyedArray at pairs)

pub names_in-Number : (wrong : BindFault) (at : ℕ) (is_negative : Bool) (n : ℤ) → names_in wrong (data_values.Number at is_negative n) ≡ Err wrong
unfolding names_in
names_in-Number wrong at is_negative n = ap (names_layer wrong) (data_values.outs-Number at is_negative n)

pub names_in-Named : (wrong : BindFault) (name : NameTree) → names_in wrong (data_values.Named name) ≡ Err wrong
unfolding names_in
names_in-Named wrong name = ap (names_layer wrong) (data_values.outs-Named name)

pub names_in-Record : (wrong : BindFault) (at : ℕ) (head : DataValue) (rest : List DataValue) → names_in wrong (data_values.Record at head rest) ≡ Err wrong
unfolding names_in
names_in-Record wrong at head rest = ap (names_layer wrong) (data_values.outs-Record at head rest)

pub names_in-Set : (wrong : BindFault) (at : ℕ) (elements : List DataValue) → names_in wrong (data_values.Set at elements) ≡ different_names wrong [] elements
unfolding names_in
names_in-Set wrong at elements = ap (names_layer wrong) (data_values.outs-Set at elements)

pub names_in-Array : (wrong : BindFault) (at : ℕ) (parts : List DataValue) → names_in wrong (data_values.Array at parts) ≡ Err wrong
unfolding names_in
names_in-Array wrong at parts = ap (names_layer wrong) (data_values.outs-Array at parts)

pub names_in-KeyedArray : (wrong : BindFault) (at : ℕ) (pairs : List DataPair) → names_in wrong (data_values.KeyedArray at pairs) ≡ Err wrong
unfolding names_in
names_in-KeyedArray wrong at pairs = ap (names_layer wrong) (data_values.outs-KeyedArray at pairs)

pub ruleset variants = (first_token-Number, first_token-Named, first_token-Record, first_token-Set, first_token-Array, first_token-KeyedArray, name_of-Number, name_of-Named, name_of-Record, name_of-Set, name_of-Array, name_of-KeyedArray, names_in-Number, names_in-Named, names_in-Record, names_in-Set, names_in-Array, names_in-KeyedArray)
