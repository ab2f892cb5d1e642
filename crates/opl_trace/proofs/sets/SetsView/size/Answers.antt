use Rattle.std.proofs.Common.{◌∙◌, ap, length}
use Rattle.opl_trace.proofs.StoredSets.{read_is}
use Rattle.opl_trace.proofs.sets.SetsView.size.Goals as goal

pub returns : goal.returns
returns c = c.size.ensures ∙ ap length (read_is _ _ _ _ c.self.view_is c.requires c.index.ensures)
