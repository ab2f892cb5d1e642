use Rattle.opl_given.specs.Elements.{element, left}
use Rattle.opl_bind.proofs.Keys.{farther}
use Rattle.opl_bind.proofs.key_walk.choose.Goals as goal

pub returns-clause-distance : goal.returns-clause-distance
returns-clause-distance c =
    farther c.args.turns.now.items c.push.new.self.items (record { element = c.in-Some.element; later = c.in-Some.later; behind = c.args.behind }) (left c.args.elements) (element c.in-Some.element)
    c.in_ok-push.ensures.items c.in-Some.ensures.some
