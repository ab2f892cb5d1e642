use Rattle.std.proofs.lemmas.Int.{to_z-of_z}
use Rattle.opl_all_different.proofs.Spreads.{taken_from}
use Rattle.opl_all_different.proofs.spreading.take_from.Goals as goal

pub returns-clause-takes : goal.returns-clause-takes
returns-clause-takes g c =
    let rv = c.ranges.v in
    let t = simp to_z-of_z at c.take.ensures.takes in
    taken_from c.args.parts.now (g.N.View.family c.args.n.now) c.args.i c.args.j c.args.v c.requires.separate c.requires.first c.requires.second c.if-j-i.false c.requires.single (g.N.View.family c.take.new.n) c.take.result t
