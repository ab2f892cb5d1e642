use Rattle.std.proofs.Common.{codes, refl, ◌∙◌, ◌+◌}
use Rattle.opl_show.specs.Courses.{distance_ahead, distance_back}
use Rattle.opl_show.proofs.Courses.{nearer-back, turn-back}
use Rattle.opl_show.proofs.course.Course.go_back.Goals as goal

pub returns-in_ok-self-in-Some-clause-text : goal.returns-in_ok-self-in-Some-clause-text
returns-in_ok-self-in-Some-clause-text c = λ cells.
    turn-back c.args.text.now.items (codes ",") c.args.self.now.turns.items c.pop.new.self.items c.in-Some.turn cells c.in-Some.ensures.items refl ∙ c.in_ok-self-in-Some.ensures.text cells

pub returns-in_ok-self-in-Some-clause-distance : goal.returns-in_ok-self-in-Some-clause-distance
returns-in_ok-self-in-Some-clause-distance c = λ goes.
    nearer-back c.args.self.now.turns.items c.pop.new.self.items c.in-Some.turn (distance_back c.go_on.new.turns.items + distance_ahead c.in_ok-self-in-Some.field-0) c.in-Some.ensures.items c.in_ok-self-in-Some.ensures.distance
