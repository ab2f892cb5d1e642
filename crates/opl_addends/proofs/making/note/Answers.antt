use Rattle.std.proofs.Common.{true, false, refl}
use Rattle.opl_addends.proofs.Finding.{noted}
use Rattle.opl_addends.proofs.making.note.Goals as goal

pub returns-in_ok-push : goal.returns-in_ok-push
returns-in_ok-push c =
    noted c.args.variable c.args.at c.args.addend.now.variables c.as_slice.result.now c.args.places.now c.push.new.self c.contains.result true c.as_slice.ensures c.contains.ensures.value c.if-contains.true c.in_ok-push.ensures.ok

pub returns-else-contains : goal.returns-else-contains
returns-else-contains c =
    noted c.args.variable c.args.at c.args.addend.now.variables c.as_slice.result.now c.args.places.now c.args.places.now c.contains.result false c.as_slice.ensures c.contains.ensures.value c.if-contains.false refl
