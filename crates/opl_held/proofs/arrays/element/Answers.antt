use Rattle.std.proofs.Common.{[], Ok, sym, ap, ◌∙◌}
use Rattle.opl_held.specs.Worth.{indexed}
use Rattle.opl_held.proofs.Drawn.{indexed-none}
use Rattle.opl_held.proofs.arrays.element.Goals as goal

pub returns-in-None : goal.returns-in-None
returns-in-None c =
    ap (λ a. indexed [] c.args.values.now c.args.at a c.args.subscripts.now) (sym c.in-None.ensures) ∙ indexed-none c.args.values.now c.args.at c.args.subscripts.now ∙ ap (λ o. Ok o) (sym c.no_element.ensures)
