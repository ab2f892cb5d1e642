use Rattle.std.proofs.Common.{rules}
use Rattle.std.specs.Prelude.{FitsSigned}
use mir.Syntax.{w64}
use Rattle.opl_domain.specs.Family.{IsLeast}
use Rattle.opl_domain.proofs.Sets.{single_least, told_here, told_there, within_only}
use Rattle.opl_domain.proofs.only.OnlyView.min.Goals as goal

pub min-requires : goal.min-requires
min-requires g c = within_only _ _ _ _ c.requires

pub returns-then-x-self : goal.returns-then-x-self
returns-then-x-self g c =
    let fits : FitsSigned w64 c.args.self.now.value = search rules in
    told_here IsLeast _ _ _ _ fits c.requires c.if-x-self.true (single_least _)

pub returns-else-x-self : goal.returns-else-x-self
returns-else-x-self g c =
    let fits : FitsSigned w64 c.min.result = search rules in
    told_there IsLeast _ _ _ _ _ fits c.if-x-self.false c.min.ensures
