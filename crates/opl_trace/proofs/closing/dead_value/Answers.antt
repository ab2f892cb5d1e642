use Rattle.std.proofs.Common.{sym, subst}
use Rattle.opl_trace.proofs.Families.{only_below}
use Rattle.opl_trace.proofs.closing.dead_value.Goals as goal

pub is_dead-requires : goal.is_dead-requires
is_dead-requires g c =
    subst (λ F. g.T.Test.can_test c.args.test.now F) (sym c.new.ensures) (c.requires.tests _ (only_below _ _ _ c.loop-x.invariant.value))
