use Rattle.std.proofs.Common.{Some, sym, ap}
use Rattle.opl_nodes.specs.Contexts.{arrays, sets}
use Rattle.opl_nodes.specs.Pieces.{forms}
use Rattle.opl_nodes.proofs.Tests.{makes-same}
use Rattle.opl_form.specs.Made.{array_of}
use Rattle.opl_form.specs.Nodes as making
use Rattle.opl_elements.proofs.Cells.{indexed-none}
use Rattle.opl_elements.proofs.elements.indexed.Goals as goal

pub returns-in-Some : goal.returns-in-Some
returns-in-Some c =
    let k = c.args.context.now in
    let gs = forms c.args.parts.items in
    let n = c.args.parts.before in
    makes-same k (making.indexed (sets k) (arrays k) k.item c.args.at n (Some c.in-Some.number) (array_of (arrays k) (Some c.in-Some.number)) c.args.places.now gs)
    (making.indexed (sets k) (arrays k) k.item c.args.at n c.args.array (array_of (arrays k) c.args.array) c.args.places.now gs) c.by_number.result
    (ap (λ o. making.indexed (sets k) (arrays k) k.item c.args.at n o (array_of (arrays k) o) c.args.places.now gs) (sym c.in-Some.is)) c.by_number.ensures

pub returns-in-None : goal.returns-in-None
returns-in-None c = indexed-none c.args.context.now c.args.at c.args.parts.before c.args.array c.args.places.now (forms c.args.parts.items) c.in-None.is
