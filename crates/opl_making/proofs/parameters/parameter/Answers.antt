use Rattle.std.proofs.Common.{map, sym, ◌∙◌}
use Rattle.std.specs.Option.{option_copied}
use Rattle.std.proofs.lemmas.List.{at_drop_all}
use Rattle.opl_eval.specs.Evaluation.{parameter_or}
use Rattle.opl_eval.specs.Visible.{parameter_of}
use Rattle.opl_making.proofs.parameters.parameter.Goals as goal

pub returns : goal.returns
returns c = sym (c.loop-parameter.invariant ∙ at_drop_all (λ ps. parameter_or (option_copied c.loop-parameter.found) c.args.name.now (map parameter_of ps)) c.args.parameters.now c.loop-parameter.parameter-index c.loop-parameter-test.false)
