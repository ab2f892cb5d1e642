use Rattle.std.proofs.Common.{◌≡◌, [], drop}
use Rattle.opl_given.specs.Given as spec
use Rattle.opl_given.specs.Readings.{texts_of}
use Rattle.opl_given.proofs.given.awaited.Given as goal

abbrev pub invariant-loop-t : goal.invariant-loop-t
invariant-loop-t l = spec.awaited [] l.ts ≡ spec.awaited (texts_of l.names) (drop l.t-index l.ts)
