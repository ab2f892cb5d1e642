use Rattle.std.proofs.Common.{subst}
use Rattle.opl_eval.specs.Visible.{Gives}
use Rattle.opl_draft.specs.Numbers.{variable_named}
use Rattle.opl_draft.specs.Unrolled.{named_draft}
use Rattle.opl_making.specs.Sites.{items}
use Rattle.opl_held.specs.Sourced.{worth_at}
use Rattle.opl_held.proofs.names.named.Goals as goal

pub returns-in-None : goal.returns-in-None
returns-in-None c at =
    subst (λ p. Gives (λ part. part) (worth_at c.args.site c.args.values.now (named_draft at p (variable_named c.args.name.now (items c.args.site)))) c.declared.result) c.in-None.ensures (c.declared.ensures at)
