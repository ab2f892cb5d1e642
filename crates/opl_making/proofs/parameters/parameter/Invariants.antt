use Rattle.std.proofs.Common.{◌≡◌, drop, map, None}
use Rattle.std.specs.Option.{option_copied}
use Rattle.opl_eval.specs.Evaluation.{parameter_or}
use Rattle.opl_eval.specs.Visible.{parameter_of}
use Rattle.opl_making.proofs.parameters.parameter.Given as goal

abbrev pub invariant-loop-parameter : goal.invariant-loop-parameter
invariant-loop-parameter l = parameter_or None l.name (map parameter_of l.parameters) ≡ parameter_or (option_copied l.found) l.name (map parameter_of (drop l.parameter-index l.parameters))
