use Rattle.std.proofs.Common.{◌≡◌, ◌++◌, map, drop}
use Rattle.opl_given.specs.Readings.{texts_of}
use Rattle.opl_bind.proofs.model.DataValues.enumerations.Given as goal

abbrev pub invariant-loop-names : goal.invariant-loop-names
invariant-loop-names l =
    map texts_of l.self.types.enumerations ≡ map (λ names. map (λ name. name.now) names) l.all ++ map texts_of (drop l.names-index l.self.types.enumerations)
