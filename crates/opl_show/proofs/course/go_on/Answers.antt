use Rattle.opl_show.specs.Courses.{closing_of, prefixes_left}
use Rattle.opl_show.proofs.Courses.{farther, part-first}
use Rattle.opl_show.proofs.course.go_on.Goals as goal

pub returns-in_ok-push-in-Some-clause-text : goal.returns-in_ok-push-in-Some-clause-text
returns-in_ok-push-in-Some-clause-text c = λ cells.
    part-first c.args.text.now.items c.extend_from_slice-in-Some.new.self.items c.extend_from_slice-in-Some-2.new.self.items c.args.separator.now c.in-Some.prefix.now (prefixes_left c.args.prefixes) (closing_of c.args.prefixes)
    (record { prefixes = c.in-Some.later; behind = c.args.behind }) c.args.turns.now.items c.push.new.self.items cells
    c.in-Some.ensures.some c.in-Some.ensures.closing c.in_ok-push-in-Some.ensures.items c.in_ok-extend_from_slice-in-Some.ensures.items c.in_ok-extend_from_slice-in-Some-2.ensures.items

pub returns-in_ok-push-in-Some-clause-distance : goal.returns-in_ok-push-in-Some-clause-distance
returns-in_ok-push-in-Some-clause-distance c =
    farther c.args.turns.now.items c.push.new.self.items (record { prefixes = c.in-Some.later; behind = c.args.behind }) (prefixes_left c.args.prefixes) c.in-Some.prefix.now c.in_ok-push-in-Some.ensures.items c.in-Some.ensures.some
