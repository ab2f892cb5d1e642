use Rattle.std.proofs.Common.{rules}
use Rattle.std.specs.Prelude.{FitsSigned}
use mir.Syntax.{w64}
use Rattle.opl_domain.specs.Family.{IsGreatest}
use Rattle.opl_trace.proofs.StoredSets.{read_is, told_set}
use Rattle.opl_trace.proofs.sets.SetsView.max.Goals as goal

pub returns : goal.returns
returns c =
    let fits : FitsSigned w64 c.max.result = search rules in
    told_set IsGreatest _ _ _ _ fits (read_is _ _ _ _ c.self.view_is c.requires c.index.ensures) c.max.ensures
