use Rattle.std.proofs.Common.{rules}
use Rattle.opl_eval.specs.Turns.{left}
use Rattle.opl_groups.specs.Visits.{sees_under}
use Rattle.opl_groups.proofs.Leads.{over-fault, over-made}
use Rattle.opl_groups.proofs.choices.lead_over.Goals as goal

pub returns-in_err-set : goal.returns-in_err-set
returns-in_err-set c =
    let h = over-fault c.args.is_ordered c.args.patterns.now c.args.over.now c.args.later (sees_under c.args.scope c.args.turns.now) c.in_err-set.field-0.0 c.in_err-set.ensures.value in
    search rules

pub returns : goal.returns
returns c = λ inner.
    over-made c.args.is_ordered c.args.patterns.now c.args.over.now (inner c.args.later) (sees_under c.args.scope c.args.turns.now) c.in_ok-set.set c.in_ok-set.declaration (left c.in_ok-elements.elements)
    c.in_ok-set.ensures.value c.in_ok-set.ensures.declaration c.in_ok-elements.ensures
