use Rattle.std.proofs.Common.{None, Some, ap, sym, ◌∙◌}
use Rattle.opl_eval.specs.LatestPlaces.{entry_at}
use Rattle.opl_eval.proofs.Items.{item-at}
use Rattle.opl_eval.proofs.environment.Environment.item.Goals as goal

pub returns-in-Some : goal.returns-in-Some
returns-in-Some c = ap (λ i. Some i) c.lent.ensures ∙ sym (item-at c.args.self.now c.args.place (Some c.in-Some.entry.now) (sym (c.in-Some.ensures ∙ ap (entry_at (Some c.args.place)) c.as_slice.ensures)))

pub returns-in-None : goal.returns-in-None
returns-in-None c = sym (item-at c.args.self.now c.args.place None (sym (c.in-None.ensures ∙ ap (entry_at (Some c.args.place)) c.as_slice.ensures)))
