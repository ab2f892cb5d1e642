use Rattle.std.proofs.Common.{None, sym, ap, ◌∙◌}
use Rattle.opl_nodes.specs.Contexts.{arrays, cells, sets}
use Rattle.opl_nodes.specs.Pieces.{forms}
use Rattle.opl_nodes.proofs.Tests.{makes-same}
use Rattle.opl_form.specs.Nodes as making
use Rattle.opl_form.specs.Parts.{all_known}
use Rattle.opl_elements.specs.Places.{key_place}
use Rattle.opl_elements.proofs.Cells.{looked-known, looked-live}
use Rattle.opl_elements.proofs.elements.looked_up.Goals as goal

pub returns-then-is_known : goal.returns-then-is_known
returns-then-is_known c =
    let k = c.args.context.now in
    let gs = forms c.args.parts.items in
    let n = c.args.parts.before in
    let a = cells c.args.array.now in
    makes-same k (making.placed (sets k) (arrays k) k.item c.args.at n a.leaves (key_place a.dims (forms c.as_slice-items.result.now)))
    (making.looked_up (sets k) (arrays k) k.item c.args.at n (all_known gs) c.args.number a c.args.places.now gs) c.known_element.result
    (ap (λ ps. making.placed (sets k) (arrays k) k.item c.args.at n a.leaves (key_place a.dims (forms ps))) c.as_slice-items.ensures
    ∙ sym (looked-known k c.args.at n c.args.number a c.args.places.now gs (sym c.requires.parts.are_known ∙ c.if-is_known.true))) c.known_element.ensures

pub returns : goal.returns
returns c =
    let k = c.args.context.now in
    let gs = forms c.args.parts.items in
    let n = c.args.parts.before in
    let a = cells c.args.array.now in
    makes-same k (making.looked_up (sets k) (arrays k) k.item c.args.at n None c.args.number a c.args.places.now gs)
    (making.looked_up (sets k) (arrays k) k.item c.args.at n (all_known gs) c.args.number a c.args.places.now gs) c.live_element.result
    (sym (looked-live k c.args.at n c.args.number a c.args.places.now gs (sym c.requires.parts.are_known ∙ c.if-is_known.false))) c.live_element.ensures
