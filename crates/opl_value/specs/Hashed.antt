-- What a value gives a hasher.
use Rattle.std.specs.Prelude.{List, [], ◌∷◌, ◌++◌}
use Rattle.std.specs.Hash as fed
use Rattle.std.specs.Hash.{HashWrites}
use Rattle.opl_value.specs.declared.value.Value.{Value}
use Rattle.opl_value.specs.declared.value.Dimension.TheOpen.{Value-F}
use Rattle.opl_value.specs.declared.value.Dimension.TheFolds.{fold-Value}

-- one list of writes after another
abbrev pub joined : List HashWrites → HashWrites
joined [] = []
joined (w ∷ ws) = w ++ joined ws

-- the variant's number, and the parts of what may be an element of a set; of an enumeration's names and of an array the number alone
abbrev pub writes_layer : Value-F HashWrites HashWrites HashWrites → HashWrites
writes_layer (Value-F.Int n) = fed.u8 0 ++ fed.i128 n
writes_layer (Value-F.Bool b) = fed.u8 1 ++ fed.bool b
writes_layer (Value-F.Enum declaration position) = fed.u8 2 ++ fed.u32 declaration ++ fed.u32 position
writes_layer (Value-F.Record parts) = fed.u8 3 ++ joined parts
writes_layer (Value-F.Set elements) = fed.u8 4 ++ joined elements
writes_layer (Value-F.Range low high) = fed.u8 5 ++ fed.i128 low ++ fed.i128 high
writes_layer (Value-F.Names names) = fed.u8 6
writes_layer (Value-F.Array space elements) = fed.u8 7

unfoldable pub value_writes : Value → HashWrites
value_writes = fold-Value HashWrites HashWrites HashWrites (λ d. []) writes_layer (λ s. [])
