use Rattle.std.proofs.Common.{◌≡◌, ◌++◌, length}
use Rattle.std.specs.Vec.Iter.{into_iter_items, into_iter_len}
use Rattle.opl_numbers.proofs.Rows.{AreSoFar}
use Rattle.opl_numbers.proofs.row.as_numbers.Given as goal

-- the numbers of the parts so far, and the parts still to come
abbrev pub invariant-loop-part : goal.invariant-loop-part
invariant-loop-part l = record {
  so_far : AreSoFar l.yielded l.numbers;
  whole : l.yielded ++ into_iter_items l.part-iterator ≡ into_iter_items l.initial.part-iterator;
  len : into_iter_len l.part-iterator ≡ length (into_iter_items l.part-iterator);
}
