-- What an array says for a key, in a data file and in the model.
use Rattle.std.specs.Prelude.{◌≡◌, ◌⊎◌, ℕ, List, [], ◌∷◌, Ok, Some}
use Rattle.std.specs.List.{slice_get}
use Rattle.opl_data.specs.declared.tree.DataPair.{DataPair}
use Rattle.opl_data.specs.declared.tree.DataValue.{DataValue}
use Rattle.opl_data.specs.declared.tree.DataValue.TheOpen.{DataValue-F}
use Rattle.opl_data.specs.declared.tree.DataValue.TheViews.{out-DataValue, out-DataPair}
use Rattle.opl_term.specs.declared.term.Term.{Term}
use Rattle.opl_term.specs.declared.term.GroupTerm.TheOpen.{Term-F}
use Rattle.opl_term.specs.declared.term.GroupTerm.TheViews.{out-Term}
use Rattle.opl_value.specs.declared.value.Value.{Value}
use Rattle.opl_value.specs.Places.{place_in}
use Rattle.opl_eval.specs.Evaluation.{Environment, eval}
use Rattle.opl_given.specs.Arrays.{Axis, values_of}
use Rattle.opl_given.specs.Forms.{Known}
use Rattle.opl_given.specs.Values.{key_in}

-- ---- in a data file

-- one of these pairs has this key and this value
pub record HasPair (known : Known) (axis : Axis) (pairs : List DataPair) (key : Value) (part : DataValue) : Type 0 where
  pub number : ℕ
  pub pair : DataPair
  pub stands : slice_get pairs number ≡ Some pair
  pub key_is : key_in known (out-DataPair pair).key axis.form ≡ Some key
  pub value_is : (out-DataPair pair).value ≡ part

-- this value stands at the place of the key in the index set
pub record HasPart {A : Type 0} (axis : Axis) (parts : List A) (key : Value) (part : A) : Type 0 where
  pub place : ℕ
  pub place_is : place_in key (values_of axis) ≡ Some place
  pub stands : slice_get parts place ≡ Some part

-- of `[..]` the part at the key's place, of `#[..]#` the value behind the key
abbrev pub part_layer : Known → Axis → DataValue-F DataValue DataPair → Value → DataValue → Type 0
part_layer known axis (DataValue-F.Array at parts) key part = HasPart axis parts key part
part_layer known axis (DataValue-F.KeyedArray at pairs) key part = HasPair known axis pairs key part
part_layer known axis value key part = ⊥

-- what stands for a key with an element of each index set
abbrev pub Says : Known → List Axis → DataValue → List Value → DataValue → Type 0
Says known [] value [] cell = value ≡ cell
Says known (axis ∷ axes) value (v ∷ key) cell = (part : DataValue) × part_layer known axis (out-DataValue value) v part × Says known axes part key cell
Says known axes value key cell = ⊥

-- ---- in the model

-- one of these keys is evaluated to this value, and this expression stands behind it
pub record HasCell (env : Environment) (keys cells : List Term) (key : Value) (part : Term) : Type 0 where
  pub number : ℕ
  pub expression : Term
  pub stands : slice_get keys number ≡ Some expression
  pub key_is : eval expression env ≡ Ok key
  pub behind : slice_get cells number ≡ Some part

-- of `[..]` the part at the key's place, of `#[..]#` the expression behind the key
abbrev pub written_part_layer : {A B C : Type 0} → Environment → Axis → Term-F A B C Term → Value → Term → Type 0
written_part_layer env axis (Term-F.Array at parts) key part = HasPart axis parts key part
written_part_layer env axis (Term-F.KeyedArray at keys cells) key part = HasCell env keys cells key part
written_part_layer env axis t key part = ⊥

-- the expression that stands for a key with an element of each index set
abbrev pub SaysWritten : Environment → List Axis → Term → List Value → Term → Type 0
SaysWritten env [] t [] cell = t ≡ cell
SaysWritten env (axis ∷ axes) t (v ∷ key) cell = (part : Term) × written_part_layer env axis (out-Term t) v part × SaysWritten env axes part key cell
SaysWritten env axes t key cell = ⊥

-- one of the keys of a `#[..]#`, with something behind it
abbrev pub key_layer : {A B C : Type 0} → Term-F A B C Term → Term → Type 0
key_layer (Term-F.KeyedArray at keys cells) key = (number : ℕ) × (cell : Term) × (slice_get keys number ≡ Some key) × (slice_get cells number ≡ Some cell)
key_layer t key = ⊥

-- a part of `[..]`, or behind a key of `#[..]#`
abbrev pub inner_layer : {A B C : Type 0} → Term-F A B C Term → Term → Type 0
inner_layer (Term-F.Array at parts) part = (number : ℕ) × (slice_get parts number ≡ Some part)
inner_layer (Term-F.KeyedArray at keys cells) part = (number : ℕ) × (key : Term) × (slice_get keys number ≡ Some key) × (slice_get cells number ≡ Some part)
inner_layer t part = ⊥

-- a key that stands somewhere in an array over these index sets, in a `#[..]#` over this one of them
abbrev pub IsKeyIn : Axis → Term → List Axis → Term → Type 0
IsKeyIn axis key [] t = ⊥
IsKeyIn axis key (outer ∷ axes) t = ((axis ≡ outer) × key_layer (out-Term t) key) ⊎ ((part : Term) × inner_layer (out-Term t) part × IsKeyIn axis key axes part)
