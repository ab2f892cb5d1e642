use Rattle.std.proofs.Common.{take}
use Rattle.opl_all_different.specs.Reading.{AreSeen, HaveParts}
use Rattle.opl_all_different.proofs.constructor.parts_of.Given as goal

abbrev pub invariant-loop-e : goal.invariant-loop-e
invariant-loop-e l = HaveParts l.core (take l.e-index l.es) l.parts × AreSeen l.seen l.parts
