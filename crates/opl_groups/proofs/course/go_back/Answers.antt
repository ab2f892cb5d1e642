use Rattle.std.proofs.Common.{◌++◌, [], ap, sym, ◌∙◌}
use Rattle.opl_eval.specs.Turns.{under}
use Rattle.opl_groups.specs.Courses.{left_of, still}
use Rattle.opl_groups.proofs.Courses.{back-to}
use Rattle.opl_groups.proofs.course.go_back.Goals as goal

pub returns-in_ok-take_turn-in-Some-clause-some : goal.returns-in_ok-take_turn-in-Some-clause-some
returns-in_ok-take_turn-in-Some-clause-some c = λ inner env.
    back-to inner env c.args.turns.now.chosen.items c.pop.new.self.chosen.items c.in-Some.turn c.in-Some.ensures.some
    ∙ ap (λ k. left_of inner k (under env c.pop.new.self.chosen.items) ++ still inner env [] c.pop.new.self.chosen.items) (sym c.course_of.ensures)
    ∙ c.in_ok-take_turn-in-Some.ensures inner env
