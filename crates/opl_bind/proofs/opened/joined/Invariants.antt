use Rattle.std.proofs.Common.{◌≡◌, ◌++◌, drop}
use Rattle.opl_given.specs.Readings.{lent}
use Rattle.opl_bind.proofs.opened.joined.Given as goal

abbrev pub invariant-loop-cell : goal.invariant-loop-cell
invariant-loop-cell l = lent l.fn.before ++ lent l.cells ≡ lent l.all ++ lent (drop l.cell-index l.cells)
