use Rattle.std.proofs.Common.{None, ap, map}
use Rattle.opl_eval.specs.Evaluation.{parameter_or}
use Rattle.opl_eval.specs.Visible.{parameter_of}
use Rattle.opl_draft.specs.Numbers.{variable_named}
use Rattle.opl_draft.specs.Unrolled.{named_draft}
use Rattle.opl_making.specs.Sites.{items, known, maker}
use Rattle.opl_making.proofs.Next.{makes-same}
use Rattle.opl_maker.proofs.names.named_part.Goals as goal

pub returns-in-Some : goal.returns-in-Some
returns-in-Some c =
    makes-same c.args.site.context.now (maker c.args.site c.args.before (known c.args.at c.in-Some.value.now))
    (maker c.args.site c.args.before (named_draft c.args.at (parameter_or None c.args.name.now (map parameter_of c.args.scope.parameters.now)) (variable_named c.args.name.now (items c.args.site)))) c.copied_part.result
    (ap (λ p. maker c.args.site c.args.before (named_draft c.args.at p (variable_named c.args.name.now (items c.args.site)))) c.in-Some.ensures) c.copied_part.ensures

pub returns-in-None : goal.returns-in-None
returns-in-None c =
    makes-same c.args.site.context.now (maker c.args.site c.args.before (named_draft c.args.at None (variable_named c.args.name.now (items c.args.site))))
    (maker c.args.site c.args.before (named_draft c.args.at (parameter_or None c.args.name.now (map parameter_of c.args.scope.parameters.now)) (variable_named c.args.name.now (items c.args.site)))) c.declared_part.result
    (ap (λ p. maker c.args.site c.args.before (named_draft c.args.at p (variable_named c.args.name.now (items c.args.site)))) c.in-None.ensures) c.declared_part.ensures
