use Rattle.std.proofs.Common.{subst, sym}
use Rattle.opl_meaning.specs.Faults.{Makes}
use Rattle.opl_meaning.specs.VariableReadings.{sees}
use Rattle.opl_meaning.proofs.EachSet.{set_by-terms}
use Rattle.opl_meaning.proofs.ends.set_in.Goals as goal

pub returns : goal.returns
returns c =
    subst (λ made. Makes made c.set_by.result) (sym (set_by-terms c.args.t.now c.in_ok-ends.ends c.args.before (sees c.args.visible) c.in_ok-ends.ensures)) c.set_by.ensures
