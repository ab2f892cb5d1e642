-- What each value gives a hasher.
use Rattle.std.proofs.Common.{◌≡◌, ℕ, ℤ, Bool, List, ◌++◌, map, refl, ap, ◌∙◌, sym}
use Rattle.std.specs.Hash as fed
use Rattle.opl_value.specs.declared.value.Value.{Value}
use Rattle.opl_value.specs.declared.value.Value.TheVariants as values
use Rattle.opl_value.specs.declared.value.IndexSpace.{IndexSpace}
use Rattle.opl_value.specs.declared.value.Dimension.TheFolds.{fold-roll-Value}
use Rattle.opl_value.specs.Hashed.{joined, value_writes}

pub writes-Int : (n : ℤ) → value_writes (values.Int n) ≡ fed.u8 0 ++ fed.i128 n
unfolding value_writes
writes-Int n = ap value_writes (sym (values.rolls-Int n)) ∙ rw fold-roll-Value refl

pub writes-Bool : (b : Bool) → value_writes (values.Bool b) ≡ fed.u8 1 ++ fed.bool b
unfolding value_writes
writes-Bool b = ap value_writes (sym (values.rolls-Bool b)) ∙ rw fold-roll-Value refl

pub writes-Enum : (d p : ℕ) → value_writes (values.Enum d p) ≡ fed.u8 2 ++ fed.u32 d ++ fed.u32 p
unfolding value_writes
writes-Enum d p = ap value_writes (sym (values.rolls-Enum d p)) ∙ rw fold-roll-Value refl

pub writes-Record : (parts : List Value) → value_writes (values.Record parts) ≡ fed.u8 3 ++ joined (map value_writes parts)
unfolding value_writes
writes-Record parts = ap value_writes (sym (values.rolls-Record parts)) ∙ rw fold-roll-Value refl

pub writes-Set : (elements : List Value) → value_writes (values.Set elements) ≡ fed.u8 4 ++ joined (map value_writes elements)
unfolding value_writes
writes-Set elements = ap value_writes (sym (values.rolls-Set elements)) ∙ rw fold-roll-Value refl

pub writes-Range : (low high : ℤ) → value_writes (values.Range low high) ≡ fed.u8 5 ++ fed.i128 low ++ fed.i128 high
unfolding value_writes
writes-Range low high = ap value_writes (sym (values.rolls-Range low high)) ∙ rw fold-roll-Value refl

pub writes-Names : (names : List (List ℕ)) → value_writes (values.Names names) ≡ fed.u8 6
unfolding value_writes
writes-Names names = ap value_writes (sym (values.rolls-Names names)) ∙ rw fold-roll-Value refl

pub writes-Array : (space : IndexSpace) (elements : List Value) → value_writes (values.Array space elements) ≡ fed.u8 7
unfolding value_writes
writes-Array space elements = ap value_writes (sym (values.rolls-Array space elements)) ∙ rw fold-roll-Value refl

-- each of these
pub ruleset writes = (writes-Int, writes-Bool, writes-Enum, writes-Record, writes-Set, writes-Range, writes-Names, writes-Array)
