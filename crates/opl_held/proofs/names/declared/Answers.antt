use Rattle.std.proofs.Common.{None, subst}
use Rattle.opl_eval.specs.Visible.{Gives}
use Rattle.opl_draft.specs.Unrolled.{named_draft}
use Rattle.opl_nodes.specs.Contexts.{arrays}
use Rattle.opl_held.specs.Sourced.{worth_at}
use Rattle.opl_held.proofs.names.declared.Goals as goal

pub returns-in-Some : goal.returns-in-Some
returns-in-Some c at =
    subst (λ x. Gives (λ part. part) (worth_at c.args.site c.args.values.now (named_draft at None x)) c.single.result) c.in-Some.ensures (c.single.ensures (arrays c.args.site.context.now) at)
