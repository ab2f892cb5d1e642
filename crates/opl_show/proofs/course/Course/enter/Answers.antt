use Rattle.std.proofs.Common.{[], ap, arith, refl, ◌++◌, ◌∙◌, ◌+◌}
use Rattle.std.proofs.lemmas.List.{nil_from_length}
use Rattle.opl_show.specs.Courses.{all_brackets, at_end, brackets_of, closing_of, distance_ahead, distance_back, prefixes_left, still}
use Rattle.opl_show.proofs.Courses.{cell-next, distance-positive, nearer-begun, part-begun}
use Rattle.opl_show.proofs.course.Course.enter.Goals as goal

pub returns-in-None-clause-text : goal.returns-in-None-clause-text
returns-in-None-clause-text c = λ cells.
    cell-next c.args.text.now.items (all_brackets c.args.layers.now) (still at_end c.args.self.now.turns.items) cells (ap all_brackets (nil_from_length c.args.layers.now c.in-None.ensures.cases))

pub returns-in-None-clause-distance : goal.returns-in-None-clause-distance
returns-in-None-clause-distance c = λ goes. let p = distance-positive (all_brackets c.args.layers.now) in omega (arith, p)

pub returns-in_ok-self-in-Some-clause-text : goal.returns-in_ok-self-in-Some-clause-text
returns-in_ok-self-in-Some-clause-text c = λ cells.
    part-begun c.args.text.now.items c.extend_from_slice.new.self.items [] (prefixes_left c.prefixes.result) (closing_of c.prefixes.result) (brackets_of c.in-Some.layer.now) (all_brackets c.args.layers.now) (all_brackets c.in-Some.behind.now)
    (still at_end c.args.self.now.turns.items) cells (ap all_brackets c.in-Some.ensures.cases.0) (c.in_ok-extend_from_slice-in-Some.ensures.items ∙ ap (λ o. c.args.text.now.items ++ o) c.opening.ensures) refl c.prefixes.ensures.prefixes c.prefixes.ensures.closing
    ∙ c.in_ok-self-in-Some.ensures.text cells

pub returns-in_ok-self-in-Some-clause-distance : goal.returns-in_ok-self-in-Some-clause-distance
returns-in_ok-self-in-Some-clause-distance c = λ goes.
    nearer-begun (distance_back c.args.self.now.turns.items) (distance_back c.go_on.new.turns.items + distance_ahead c.in_ok-self-in-Some.field-0) (brackets_of c.in-Some.layer.now) (all_brackets c.args.layers.now) (all_brackets c.in-Some.behind.now)
    (prefixes_left c.prefixes.result) (ap all_brackets c.in-Some.ensures.cases.0) c.prefixes.ensures.prefixes c.in_ok-self-in-Some.ensures.distance
