use Rattle.std.proofs.Common.{◌≡◌, take, true}
use Rattle.opl_value.specs.declared.value.Dimension.TheViews.{out-Value}
use Rattle.opl_form.specs.Parts as parts
use Rattle.opl_form.specs.Parts.{key_layer}
use Rattle.opl_grounding.proofs.indices.all_alike.Given as goal

abbrev pub invariant-loop-value : goal.invariant-loop-value
invariant-loop-value l = parts.all_alike (key_layer (out-Value l.first)) (take l.value-index l.values) ≡ true
