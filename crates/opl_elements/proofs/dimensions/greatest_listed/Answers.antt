use Rattle.std.proofs.Common.{sym, ap, ◌∙◌}
use Rattle.opl_form.specs.Parts.{all_alike}
use Rattle.opl_elements.proofs.Dimensional.{listed-alike, listed-places}
use Rattle.opl_elements.proofs.dimensions.greatest_listed.Goals as goal

pub returns-then-all_of_sort-clause-size : goal.returns-then-all_of_sort-clause-size
returns-then-all_of_sort-clause-size c =
    let vs = c.args.values.now in
    c.greatest_rank.ensures.size ∙ sym (listed-alike vs (ap (λ s. all_alike s vs) (sym c.first_sort.ensures) ∙ sym c.all_of_sort.ensures ∙ c.if-all_of_sort.true))

pub returns-else-count-eq0-clause-size : goal.returns-else-count-eq0-clause-size
returns-else-count-eq0-clause-size c =
    let vs = c.args.values.now in
    sym (listed-places vs (ap (λ s. all_alike s vs) (sym c.first_sort.ensures) ∙ sym c.all_of_sort.ensures ∙ c.if-all_of_sort.false))
