use Rattle.std.proofs.Common.{subst, arith}
use Rattle.opl_trace.specs.SoundCores.{AreThere}
use Rattle.opl_reference_search.proofs.SoundSteps.{declared_length}
use Rattle.opl_reference_search.proofs.step.label.Goals as goal

pub choose_value-requires : goal.choose_value-requires
choose_value-requires c =
    let core = c.args.core.now in
    let s = subst (λ xs. AreThere core.sets xs) c.in-Some.ensures.cases.0 c.requires.there in
    omega (arith, s.0, c.requires.within.same, declared_length core)
