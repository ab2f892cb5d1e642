use Rattle.std.proofs.Common.{subst, sym, take}
use Rattle.opl_expr.specs.Solutions.{facts}
use Rattle.opl_engine.specs.Members.{fact_of}
use Rattle.opl_engine.specs.Engines.{IsGrown}
use Rattle.opl_engine.proofs.Made.{take_next}
use Rattle.opl_engine.proofs.base.add_declared.Goals as goal

pub loop-place-preserved : goal.loop-place-preserved
loop-place-preserved c =
    let core = c.args.core.now in
    subst (λ P. IsGrown core P c.grow.new.members)
    (sym (take_next (facts core) c.loop-place.place (fact_of core c.in_ok-declared_member.field-0) c.in_ok-declared_member.ensures.fact))
    (c.in_ok-grow.ensures (take c.loop-place.place (facts core)) c.loop-place.invariant)
