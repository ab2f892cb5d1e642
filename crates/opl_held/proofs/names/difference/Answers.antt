use Rattle.std.proofs.Common.{subst, sym}
use Rattle.opl_eval.specs.Visible.{Gives}
use Rattle.opl_draft.specs.Drafts.{Draft}
use Rattle.opl_groups.specs.Visits.{sees}
use Rattle.opl_held.specs.Sourced.{worth_at}
use Rattle.opl_held.proofs.names.difference.Goals as goal

pub returns-in-Some : goal.returns-in-Some
returns-in-Some c at =
    subst (λ a. Gives (λ part. part) (worth_at c.args.site c.args.values.now (Draft.different at a)) c.named_difference.result) (sym (c.in-Some.ensures.cells (sees c.args.scope))) (c.named_difference.ensures at)
