use Rattle.std.proofs.Common.{◌∙◌, ap, sym, ◌∷◌, drop}
use Rattle.opl_steps.specs.Tasks.Task.{values}
use Rattle.opl_search.specs.Tails.{tail_of}
use Rattle.opl_search.proofs.Parts.{tail_label}
use Rattle.opl_search.proofs.tail.Tail.copy.Goals as goal

pub returns-in_ok-clone-in-Label-2 : goal.returns-in_ok-clone-in-Label-2
returns-in_ok-clone-in-Label-2 c =
    let xs = c.in_ok-clone-in-Label.field-0 in
    let r = c.in_ok-clone-in-Label-2.field-0 in
    tail_label xs c.in-Label.place r
    ∙ ap (λ ys. values (drop c.in-Label.place ys) ∷ tail_of r.value) c.in_ok-clone-in-Label.ensures.cases
    ∙ ap (λ t. values (drop c.in-Label.place c.in-Label.variables.value) ∷ tail_of t) c.in_ok-clone-in-Label-2.ensures.cases
    ∙ sym (tail_label c.in-Label.variables c.in-Label.place c.in-Label.rest) ∙ ap tail_of (sym c.in-Label.is)
