use Rattle.std.proofs.Common.{rules}
use Rattle.std.specs.Prelude.{FitsSigned}
use mir.Syntax.{w64}
use Rattle.opl_domain.specs.Family.{IsLeast}
use Rattle.opl_trace.proofs.StoredSets.{read_is, told_set}
use Rattle.opl_trace.proofs.sets.SetsView.min.Goals as goal

pub returns : goal.returns
returns c =
    let fits : FitsSigned w64 c.min.result = search rules in
    told_set IsLeast _ _ _ _ fits (read_is _ _ _ _ c.self.view_is c.requires c.index.ensures) c.min.ensures
