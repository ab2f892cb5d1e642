use Rattle.std.proofs.Common.{sym, ap, ◌∙◌}
use Rattle.opl_expr.specs.Sound.{cells_magnitude}
use Rattle.opl_form.specs.Parts.{cells_of}
use Rattle.opl_nodes.specs.Contexts.{leaves, sets}
use Rattle.opl_elements.proofs.Cells.{listed-size, numbered-size}
use Rattle.opl_elements.proofs.elements.greatest_element.Goals as goal

pub returns-in-Listed : goal.returns-in-Listed
returns-in-Listed c =
    let s = sets c.args.context.now in
    c.greatest_rank.ensures.size ∙ listed-size s c.in-Listed.values.now ∙ ap (λ l. cells_magnitude s (cells_of (leaves l))) (sym c.in-Listed.is)

pub returns-in-Numbered : goal.returns-in-Numbered
returns-in-Numbered c =
    let s = sets c.args.context.now in
    c.greatest_two.ensures.greatest ∙ numbered-size s c.in-Numbered.field-0 c.in-Numbered.first c.in-Numbered.count ∙ ap (λ l. cells_magnitude s (cells_of (leaves l))) (sym c.in-Numbered.is)
