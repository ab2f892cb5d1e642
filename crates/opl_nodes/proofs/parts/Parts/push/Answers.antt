use Rattle.std.proofs.Common.{arith, refl}
use Rattle.opl_nodes.specs.declared.parts.Parts.{Parts}
use Rattle.opl_nodes.proofs.Pushes.{pushed}
use Rattle.opl_nodes.proofs.parts.Parts.push.Goals as goal

pub returns-clause-kept : goal.returns-clause-kept
returns-clause-kept c k h m =
    let longer : Parts = record { items = c.push.new.self; before = c.args.self.now.before; next = c.in-Some.next; are_known = c.both-are_known.result } in
    pushed k c.args.self.now longer c.args.part c.in_ok-push.ensures.ok refl (omega arith) (cc) h m
