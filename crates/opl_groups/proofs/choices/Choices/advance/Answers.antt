use Rattle.std.proofs.Common.{[], subst}
use Rattle.opl_eval.specs.Turns.{under}
use Rattle.opl_groups.specs.Courses.{pending, still}
use Rattle.opl_groups.specs.Visits.{Advances, behind, latest, met_at, sees, visit_of}
use Rattle.opl_groups.proofs.choices.Choices.advance.Goals as goal

pub returns : goal.returns
unfolding behind latest
returns c =
    subst (λ a. Advances (pending (met_at (visit_of c.args.self.now)) (sees c.args.scope) a c.args.self.now.turns.chosen.items) (under (sees c.args.scope) c.search.new.turns.chosen.items) (still (met_at (visit_of c.args.self.now)) (sees c.args.scope) [] c.search.new.turns.chosen.items) c.search.result)
    c.start-ahead.ensures c.search.ensures
