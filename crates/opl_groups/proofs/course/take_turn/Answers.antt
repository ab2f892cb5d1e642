use Rattle.opl_groups.proofs.Courses.{turn-made}
use Rattle.opl_groups.proofs.course.take_turn.Goals as goal

pub returns : goal.returns
returns c = λ inner env.
    turn-made inner env c.args.course.is_ordered c.args.course.pattern c.args.course.others c.args.course.all c.args.course.rest c.in-Some.behind c.in_ok-elements-in-Some.elements c.args.course.later c.in-Some.element
    c.args.turns.now.chosen.items c.push.new.self.chosen.items
    (rw c.in-Some.is at c.in_ok-split_first.ensures.some) c.in_ok-elements-in-Some.ensures c.in_ok-push-in-Some.ensures
