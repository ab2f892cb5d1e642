-- Cells at their places, as the program keeps them.
use Rattle.std.proofs.Common.{◌≡◌, ℕ, Bool, List, ◌++◌, set, Bor, Option, Some, Err, ap}
use Rattle.std.specs.List.{slice_get}
use Rattle.std.specs.Option.{option_map}
use Rattle.std.proofs.lemmas.List.{map-append, map-set}
use Rattle.std.proofs.lemmas.Option.{slice_get-map}
use Rattle.opl_tree.specs.declared.expression.NameTree.{NameTree}
use Rattle.std.specs.Prelude.{ℤ}
use Rattle.opl_data.specs.declared.tree.DataPair.{DataPair}
use Rattle.opl_data.specs.declared.tree.DataValue.{DataValue}
use Rattle.opl_data.specs.declared.tree.DataValue.TheVariants as data_values
use Rattle.opl_given.specs.declared.fault.BindFault.{BindFault}
use Rattle.opl_given.specs.Arrays.{Axis, cells_layer, cells_of, listed, keyed}
use Rattle.opl_given.specs.Forms.{Known}
use Rattle.opl_given.specs.Readings.{lent, laid}
use Rattle.opl_given.specs.Values.{seen}

pub slot_seen : {A : Type 0} (slots : List (Option (Bor A))) (p : ℕ) → slice_get (laid slots) p ≡ option_map seen (slice_get slots p)
slot_seen slots p = slice_get-map seen slots p

pub slot_set : {A : Type 0} (slots : List (Option (Bor A))) (p : ℕ) (cell : Bor A) → laid (set slots p (Some cell)) ≡ set (laid slots) p (Some cell.now)
slot_set slots p cell = map-set seen slots p (Some cell)

pub lent-append : {A : Type 0} (xs ys : List (Bor A)) → lent (xs ++ ys) ≡ lent xs ++ lent ys
lent-append xs ys = map-append (λ b. b.now) xs ys

pub ruleset slots = (slot_seen, slot_set, lent-append)

pub cells_of-Number : (known : Known) (wrong : BindFault) (axis : Axis) (at : ℕ) (is_negative : Bool) (n : ℤ) → cells_of known wrong axis (data_values.Number at is_negative n) ≡ Err wrong
unfolding cells_of
cells_of-Number known wrong axis at is_negative n = ap (cells_layer known wrong axis) (data_values.outs-Number at is_negative n)

pub cells_of-Named : (known : Known) (wrong : BindFault) (axis : Axis) (name : NameTree) → cells_of known wrong axis (data_values.Named name) ≡ Err wrong
unfolding cells_of
cells_of-Named known wrong axis name = ap (cells_layer known wrong axis) (data_values.outs-Named name)

pub cells_of-Record : (known : Known) (wrong : BindFault) (axis : Axis) (at : ℕ) (head : DataValue) (rest : List DataValue) → cells_of known wrong axis (data_values.Record at head rest) ≡ Err wrong
unfolding cells_of
cells_of-Record known wrong axis at head rest = ap (cells_layer known wrong axis) (data_values.outs-Record at head rest)

pub cells_of-Set : (known : Known) (wrong : BindFault) (axis : Axis) (at : ℕ) (elements : List DataValue) → cells_of known wrong axis (data_values.Set at elements) ≡ Err wrong
unfolding cells_of
cells_of-Set known wrong axis at elements = ap (cells_layer known wrong axis) (data_values.outs-Set at elements)

pub cells_of-Array : (known : Known) (wrong : BindFault) (axis : Axis) (at : ℕ) (parts : List DataValue) → cells_of known wrong axis (data_values.Array at parts) ≡ listed wrong axis parts
unfolding cells_of
cells_of-Array known wrong axis at parts = ap (cells_layer known wrong axis) (data_values.outs-Array at parts)

pub cells_of-KeyedArray : (known : Known) (wrong : BindFault) (axis : Axis) (at : ℕ) (pairs : List DataPair) → cells_of known wrong axis (data_values.KeyedArray at pairs) ≡ keyed known wrong axis pairs
unfolding cells_of
cells_of-KeyedArray known wrong axis at pairs = ap (cells_layer known wrong axis) (data_values.outs-KeyedArray at pairs)

pub ruleset cells = (cells_of-Number, cells_of-Named, cells_of-Record, cells_of-Set, cells_of-Array, cells_of-KeyedArray)
