use Rattle.std.proofs.Common.{◌≡◌, ◌∷◌, [], IfOk, ℕ, ◌+◌, ◌-◌, ◌*◌, ◌<◌, ◌≤◌, length}
use Rattle.opl_given.specs.Faults.{Does}
use Rattle.opl_given.specs.Forms as spec
use Rattle.opl_given.specs.Readings.{known_of, texts_of}
use Rattle.opl_given.proofs.declare.+form_of.Given as goal

abbrev pub decreases-form_of : goal.decreases-form_of
decreases-form_of l = goal.size-form_of l
