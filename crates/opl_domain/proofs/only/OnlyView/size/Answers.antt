use Rattle.std.proofs.Common.{sym, ap, ◌∙◌, length}
use Rattle.opl_domain.proofs.Sets.{only_there, within_only, only_at_here}
use Rattle.opl_domain.proofs.only.OnlyView.size.Goals as goal

pub size-requires : goal.size-requires
size-requires g c = within_only _ _ _ _ c.requires

pub returns-then-x-self : goal.returns-then-x-self
returns-then-x-self g c = sym (ap length (only_at_here _ _ _ _ c.requires c.if-x-self.true))

pub returns-else-x-self : goal.returns-else-x-self
returns-else-x-self g c = c.size.ensures ∙ sym (ap length (only_there _ _ _ _ c.if-x-self.false))
