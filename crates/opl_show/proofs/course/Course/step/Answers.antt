use Rattle.std.proofs.Common.{IfOk, subst, sym}
use Rattle.opl_show.specs.Courses.{Steps}
use Rattle.opl_show.proofs.course.Course.step.Goals as goal

pub returns-in-Some-clause-text : goal.returns-in-Some-clause-text
returns-in-Some-clause-text c =
    subst (λ a. IfOk c.enter.result (Steps c.args.text.now.items (record { turns = c.args.self.now.turns; ahead = a }) c.enter.new.text.items c.enter.new.self)) (sym c.in-Some.is) c.enter.ensures.text

pub returns-in-None-clause-text : goal.returns-in-None-clause-text
returns-in-None-clause-text c =
    subst (λ a. IfOk c.go_back.result (Steps c.args.text.now.items (record { turns = c.args.self.now.turns; ahead = a }) c.go_back.new.text.items c.go_back.new.self)) (sym c.in-None.is) c.go_back.ensures.text
