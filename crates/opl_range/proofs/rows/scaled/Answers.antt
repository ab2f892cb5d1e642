use Rattle.std.proofs.Common.{ap, ◌∙◌}
use mir.Syntax.{w128}
use Rattle.std.proofs.lemmas.Int.{to_z-of_z}
use Rattle.opl_domain.specs.Span.{point}
use Rattle.opl_domain.specs.Arithmetic.{span_mul}
use Rattle.opl_range.proofs.Ends.{mul_point}
use Rattle.opl_range.proofs.rows.scaled.Goals as goal

pub returns : goal.returns
returns c =
    c.mul.ensures ∙ ap (λ a. span_mul a c.args.a) (c.point.ensures ∙ ap point (to_z-of_z w128 c.args.k c.ranges.k)) ∙ mul_point c.args.k c.args.a
