use Rattle.std.proofs.Common.{◌≡◌, Option, drop}
use Rattle.std.specs.Option.{option_copied}
use Rattle.opl_value.specs.declared.value.Value.{Value}
use Rattle.opl_eval.specs.Evaluation.{bound_parts, parameter_or}
use Rattle.opl_eval.specs.Turns.{or_before}
use Rattle.opl_eval.proofs.visible.named_part.Given as goal

abbrev pub invariant-loop-own : goal.invariant-loop-own
invariant-loop-own l =
    (before : Option Value) → parameter_or before l.name (bound_parts l.names l.parts) ≡ parameter_or (or_before (option_copied l.found) before) l.name (bound_parts (drop l.own-index l.names) l.left)
