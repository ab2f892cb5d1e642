use Rattle.std.proofs.Common.{ap, ◌∙◌}
use Rattle.opl_eval.specs.Evaluation.{declared}
use Rattle.opl_eval.specs.Visible.{seen}
use Rattle.opl_given.specs.Readings.{known_of}
use Rattle.opl_bind.proofs.Answering.{does_more}
use Rattle.opl_bind.proofs.Data.{ends-kept}
use Rattle.opl_bind.proofs.model.DataValues.add_ends.Goals as goal

pub returns : goal.returns
returns c =
    does_more _ _ c.range_type.result
    (λ r p. ends-kept (known_of c.args.self.now.types) (known_of c.range_type.new.types) (seen c.args.self.now.environment) (seen c.declare.new.self) c.args.name.now c.args.low.now c.args.high.now
    p (c.in_ok-declare.ensures ∙ ap (λ v. declared c.args.name.now v 0 (seen c.args.self.now.environment)) c.range_value.ensures.value))
    c.range_type.ensures
