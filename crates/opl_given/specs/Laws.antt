-- Laws of the values of data files.
use Rattle.std.specs.Prelude.{◌≡◌, ℕ, List, length, map, Ok}
use Rattle.opl_data.specs.declared.tree.DataValue.{DataValue}
use Rattle.opl_value.specs.declared.value.Value.{Value}
use Rattle.opl_value.specs.Places.{elements}
use Rattle.opl_given.specs.declared.fault.BindFault.{BindFault}
use Rattle.opl_given.specs.declared.form.Form.{Form}
use Rattle.opl_given.specs.Arrays.{Axis, elements_in, values_of}
use Rattle.opl_given.specs.Forms.{Known}

-- an array that is given has as many cells as its index space has keys
abbrev pub CellsFillTheSpace : Type 0
CellsFillTheSpace = (known : Known) (file : ℕ) (wrong : BindFault) (axes : List Axis) (form : Form) (value : DataValue) (cells : List Value) →
    elements_in known file wrong axes form value ≡ Ok cells → length cells ≡ elements (map values_of axes)
