use Rattle.std.proofs.Common.{map, None, sym, subst, ◌∙◌}
use Rattle.std.specs.List.{All}
use Rattle.opl_nodes.specs.Contexts.{arrays, cells, sets}
use Rattle.opl_nodes.specs.Pieces.{forms}
use Rattle.opl_nodes.proofs.Tests.{makes-same}
use Rattle.opl_form.specs.Nodes as making
use Rattle.opl_expr.specs.declared.forms.Expr.TheVariants as E
use Rattle.opl_nodes.specs.Pieces.{IsPart}
use Rattle.opl_elements.specs.Places as spec
use Rattle.opl_elements.proofs.Cells.{live-inside, live-large, live-outside}
use Rattle.opl_elements.proofs.elements.live_element.Goals as goal

pub first_large-requires : goal.first_large-requires
first_large-requires c = subst (All (IsPart c.args.context.now)) (sym c.as_slice-items.ensures) c.requires.parts.each

pub returns-then-not-fit : goal.returns-then-not-fit
returns-then-not-fit c =
    let a = cells c.args.array.now in
    live-outside c.args.context.now c.args.at c.args.parts.before c.args.number a c.args.places.now (forms c.args.parts.items)
    ((λ i. spec.all_fit (sym c.dimensions-dims.ensures i) (forms (sym c.as_slice-items.ensures i))) ∙ sym c.in_ok-fit.ensures ∙ c.if-not-fit.true)

pub returns-in-Some : goal.returns-in-Some
returns-in-Some c =
    let a = cells c.args.array.now in
    live-large c.args.context.now c.args.at c.args.parts.before c.args.number a c.args.places.now (forms c.args.parts.items) c.in-Some.place
    ((λ i. spec.all_fit (sym c.dimensions-dims.ensures i) (forms (sym c.as_slice-items.ensures i))) ∙ sym c.in_ok-fit.ensures ∙ c.if-not-fit.false)
    ((λ i. spec.first_large c.args.context.now (sym c.dimensions-dims.ensures i) c.args.places.now (forms (sym c.as_slice-items.ensures i))) ∙ sym c.first_large.ensures ∙ c.in-Some.is)

pub returns-in-None : goal.returns-in-None
returns-in-None c =
    let k = c.args.context.now in
    let n = c.args.parts.before in
    let a = cells c.args.array.now in
    makes-same k (making.element_node (sets k) (arrays k) k.item (making.element_sort (sets k) a.leaves) c.args.at n (E.At c.args.number (map spec.rank c.args.parts.items)))
    (making.looked_up (sets k) (arrays k) k.item c.args.at n None c.args.number a c.args.places.now (forms c.args.parts.items)) c.table_element.result
    (sym (live-inside k c.args.at n c.args.number a c.args.places.now c.args.parts.items
    ((λ i. spec.all_fit (sym c.dimensions-dims.ensures i) (forms (sym c.as_slice-items.ensures i))) ∙ sym c.in_ok-fit.ensures ∙ c.if-not-fit.false)
    ((λ i. spec.first_large k (sym c.dimensions-dims.ensures i) c.args.places.now (forms (sym c.as_slice-items.ensures i))) ∙ sym c.first_large.ensures ∙ c.in-None.is))) c.table_element.ensures
