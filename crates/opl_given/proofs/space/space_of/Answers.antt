use Rattle.std.proofs.Common.{◌≡◌, map, arith}
use Rattle.std.proofs.lemmas.Grind.{common_steps}
use Rattle.opl_value.specs.Places.{dimensions}
use Rattle.opl_given.proofs.Spaces.{space-made}
use Rattle.opl_given.proofs.space.space_of.Goals as goal

pub returns-clause-space : goal.returns-clause-space
returns-clause-space c =
    let e : dimensions c.loop-axis.space ≡ map (λ a. a.dimension) c.args.axes.now = grind (arith, common_steps) in
    space-made c.loop-axis.space _ e
