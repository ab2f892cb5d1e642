use Rattle.std.proofs.Common.{take}
use Rattle.std.proofs.lemmas.List.{take_all}
use Rattle.opl_trace.proofs.StoredSets.{between_sets}
use Rattle.opl_trace.proofs.sets.Sets.new.Goals as goal

pub invariant_of-result : goal.invariant_of-result
invariant_of-result c =
    between_sets c.loop-lo.domains.items c.args.ends.now (take c.loop-lo.lo-index c.args.ends.now) c.loop-lo.invariant
    (take_all c.loop-lo.lo-index c.args.ends.now c.loop-lo-test.false) c.requires.ranges c.requires.few
