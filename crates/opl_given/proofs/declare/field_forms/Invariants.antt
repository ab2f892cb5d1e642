use Rattle.std.proofs.Common.{◌≡◌, [], ◌∷◌, drop}
use Rattle.opl_given.specs.Readings.{known_of}
use Rattle.opl_given.specs.Forms as spec
use Rattle.opl_given.proofs.declare.field_forms.Given as goal

abbrev pub invariant-loop-t : goal.invariant-loop-t
invariant-loop-t l =
    spec.field_forms [] (l.first ∷ l.rest) (known_of l.types) ≡ spec.field_forms l.forms (drop l.t-index l.rest) (known_of l.types)
