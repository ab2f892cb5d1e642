use Rattle.std.proofs.Common.{ap, sym}
use Rattle.opl_draft.specs.Drafts.Sign.{minus}
use Rattle.opl_form.specs.Nodes as making
use Rattle.opl_nodes.specs.Contexts.{arrays, sets}
use Rattle.opl_nodes.specs.Pieces.{form}
use Rattle.opl_numbers.specs.Signs.{sign}
use Rattle.opl_numbers.proofs.Sums.{parts-same}
use Rattle.opl_numbers.proofs.chains.stepped.Goals as goal

pub returns-in-Minus : goal.returns-in-Minus
returns-in-Minus c g hs e =
    let k = c.args.context.now in
    let n = c.args.parts.before in
    let p = form c.args.part in
    parts-same k n (making.stepped (sets k) (arrays k) k.item minus c.args.at c.args.own n (g, hs) p) (making.stepped (sets k) (arrays k) k.item (sign c.args.sign) c.args.at c.args.own n (g, hs) p) c.lessened.result
    (ap (λ s. making.stepped (sets k) (arrays k) k.item (sign s) c.args.at c.args.own n (g, hs) p) (sym c.in-Minus.is)) (c.lessened.ensures c.args.at g hs e)
