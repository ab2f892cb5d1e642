use Rattle.std.proofs.Common.{◌≡◌, ◌++◌, ◌∷◌, [], ap, ◌∙◌, arith}
use Rattle.opl_expr.specs.declared.tables.Cell.TheVariants as cell
use Rattle.opl_form.specs.Parts.{number_cells}
use Rattle.opl_grounding.proofs.Cells.{numbers-push}
use Rattle.opl_grounding.proofs.tables.numbered_cells.Goals as goal

pub loop-place-preserved : goal.loop-place-preserved
loop-place-preserved c = λ kind.
    c.in_ok-push.ensures.ok ∙ (λ i. c.loop-place.invariant kind i ++ cell.Var (c.in_ok-behind.ensures i) ∷ []) ∙ numbers-push kind c.args.first c.loop-place.place

pub returns : goal.returns
returns c = λ kind.
    let end : c.loop-place.place ≡ c.args.count = omega (arith, c.loop-place-test.false, c.loop-place.auto.place-end) in
    c.loop-place.invariant kind ∙ ap (number_cells kind c.args.first) end
