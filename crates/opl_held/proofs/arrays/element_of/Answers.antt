use Rattle.std.proofs.Common.{◌≡◌, true, map, sym, ap, subst, ◌∙◌}
use Rattle.opl_value.specs.Places.{dimension_values}
use Rattle.opl_eval.specs.Visible.{Gives}
use Rattle.opl_draft.specs.Settled as settled
use Rattle.opl_nodes.specs.Contexts.{cells}
use Rattle.opl_held.specs.Arrays.{placed}
use Rattle.opl_held.specs.Outcomes.{data_of}
use Rattle.opl_held.proofs.Drawn.{indexed-fit}
use Rattle.opl_held.proofs.arrays.element_of.Goals as goal

pub returns : goal.returns
returns c =
    let a = cells c.args.array.now in
    let same : map dimension_values c.dimensions.result.now ≡ a.dims = c.dimensions.ensures in
    let fit : settled.are_indices a.dims (map data_of c.args.subscripts.now) ≡ true = ap (λ ds. settled.are_indices ds (map data_of c.args.subscripts.now)) (sym same) ∙ sym c.in_ok-fit.ensures ∙ c.if-not-fit.false in
    subst (λ r. Gives (λ part. part) r c.element_where.result)
    (sym (indexed-fit c.args.values.now c.args.at a c.args.subscripts.now fit ∙ (λ i. placed c.args.values.now c.args.at a.leaves (sym c.are_fixed.ensures i) (sym c.in_ok-place.ensures i)))) c.element_where.ensures
