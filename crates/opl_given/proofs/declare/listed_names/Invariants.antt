use Rattle.std.proofs.Common.{◌≡◌, [], ◌∷◌, drop}
use Rattle.opl_given.specs.Readings.{texts_of}
use Rattle.opl_given.specs.Forms as spec
use Rattle.opl_given.proofs.declare.listed_names.Given as goal

abbrev pub invariant-loop-t : goal.invariant-loop-t
invariant-loop-t l = spec.listed_names [] (l.first ∷ l.rest) ≡ spec.listed_names (texts_of l.names) (drop l.t-index l.rest)
