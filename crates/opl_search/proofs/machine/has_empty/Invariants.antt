use Rattle.std.proofs.Common.{◌≡◌, false, take}
use Rattle.std.specs.Prelude.{int_lt}
use Rattle.std.specs.List.{list_any}
use Rattle.opl_search.proofs.machine.has_empty.Given as goal

abbrev pub invariant-loop-lo : goal.invariant-loop-lo
invariant-loop-lo l = list_any (λ p. int_lt p.1 p.0) (take l.lo-index l.ends) ≡ false
