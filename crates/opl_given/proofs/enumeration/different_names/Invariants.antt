use Rattle.std.proofs.Common.{◌≡◌, [], drop}
use Rattle.opl_given.specs.Readings.{texts_of}
use Rattle.opl_given.specs.declared.fault.BindFault.TheVariants.{Shape}
use Rattle.opl_given.specs.Enumerations as spec
use Rattle.opl_given.proofs.enumeration.different_names.Given as goal

abbrev pub invariant-loop-value : goal.invariant-loop-value
invariant-loop-value l =
    spec.different_names (Shape l.source.file l.source.at) [] l.values
    ≡ spec.different_names (Shape l.source.file l.source.at) (texts_of l.names) (drop l.value-index l.values)
