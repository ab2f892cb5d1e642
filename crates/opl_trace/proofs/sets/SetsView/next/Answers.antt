use Rattle.std.specs.Prelude.{FitsSigned}
use mir.Syntax.{w64}
use Rattle.opl_trace.proofs.StoredSets.{read_is, told_next}
use Rattle.opl_trace.proofs.sets.SetsView.next.Goals as goal

pub returns : goal.returns
returns c =
    let fits : FitsSigned w64 c.args.after = c.ranges.after in
    told_next _ _ _ _ _ fits (read_is _ _ _ _ c.self.view_is c.requires c.index.ensures) c.next.ensures
