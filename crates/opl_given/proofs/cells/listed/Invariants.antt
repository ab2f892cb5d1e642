use Rattle.std.proofs.Common.{◌≡◌, ◌++◌, drop}
use Rattle.opl_given.specs.Readings.{lent}
use Rattle.opl_given.proofs.cells.listed.Given as goal

abbrev pub invariant-loop-part : goal.invariant-loop-part
invariant-loop-part l = l.parts ≡ lent l.cells ++ drop l.part-index l.parts
