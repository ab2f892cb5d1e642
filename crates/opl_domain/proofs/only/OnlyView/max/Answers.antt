use Rattle.std.proofs.Common.{rules}
use Rattle.std.specs.Prelude.{FitsSigned}
use mir.Syntax.{w64}
use Rattle.opl_domain.specs.Family.{IsGreatest}
use Rattle.opl_domain.proofs.Sets.{single_greatest, told_here, told_there, within_only}
use Rattle.opl_domain.proofs.only.OnlyView.max.Goals as goal

pub max-requires : goal.max-requires
max-requires g c = within_only _ _ _ _ c.requires

pub returns-then-x-self : goal.returns-then-x-self
returns-then-x-self g c =
    let fits : FitsSigned w64 c.args.self.now.value = search rules in
    told_here IsGreatest _ _ _ _ fits c.requires c.if-x-self.true (single_greatest _)

pub returns-else-x-self : goal.returns-else-x-self
returns-else-x-self g c =
    let fits : FitsSigned w64 c.max.result = search rules in
    told_there IsGreatest _ _ _ _ _ fits c.if-x-self.false c.max.ensures
