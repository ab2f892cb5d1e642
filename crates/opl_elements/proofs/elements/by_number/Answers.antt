use Rattle.std.proofs.Common.{Some, refl, sym}
use Rattle.opl_nodes.specs.Contexts.{arrays, cells, sets}
use Rattle.opl_nodes.specs.Pieces.{forms}
use Rattle.opl_nodes.proofs.Tests.{makes-same}
use Rattle.opl_form.specs.Made.{array_of}
use Rattle.opl_form.specs.Nodes as making
use Rattle.opl_form.specs.Parts.{all_known}
use Rattle.opl_elements.proofs.Cells.{indexed-missing, indexed-some}
use Rattle.opl_elements.proofs.elements.by_number.Goals as goal

pub looked_up-requires-clause-array : goal.looked_up-requires-clause-array
looked_up-requires-clause-array c = sym c.in-Some.ensures

pub returns-in-Some : goal.returns-in-Some
returns-in-Some c =
    let k = c.args.context.now in
    let gs = forms c.args.parts.items in
    let n = c.args.parts.before in
    let a = cells c.in-Some.array.now in
    makes-same k (making.looked_up (sets k) (arrays k) k.item c.args.at n (all_known gs) c.args.number a c.args.places.now gs)
    (making.indexed (sets k) (arrays k) k.item c.args.at n (Some c.args.number) (array_of (arrays k) (Some c.args.number)) c.args.places.now gs) c.looked_up.result
    (sym (indexed-some k c.args.at n (Some c.args.number) c.args.places.now gs c.args.number a refl (sym c.in-Some.ensures))) c.looked_up.ensures

pub returns-in-None : goal.returns-in-None
returns-in-None c = indexed-missing c.args.context.now c.args.at c.args.parts.before (Some c.args.number) c.args.places.now (forms c.args.parts.items) c.args.number refl (sym c.in-None.ensures)
