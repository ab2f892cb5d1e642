use Rattle.std.proofs.Common.{ap, sym, ◌∙◌}
use Rattle.opl_draft.specs.Drafts.Sign.{minus}
use Rattle.opl_form.specs.Nodes as making
use Rattle.opl_form.specs.Nodes.{next}
use Rattle.opl_nodes.specs.Contexts.{arrays, sets}
use Rattle.opl_nodes.specs.Pieces.{form}
use Rattle.opl_numbers.proofs.Sums.{behind, lessened-is, parts-same, refuses-next, refuses-same}
use Rattle.opl_numbers.proofs.chains.lessened.Goals as goal

pub returns-in-Ok : goal.returns-in-Ok
returns-in-Ok c at g hs e =
    let k = c.args.context.now in
    let n = c.args.parts.before in
    let p = form c.args.part in
    parts-same k n (behind g hs (form c.in-Ok.opposite)) (making.stepped (sets k) (arrays k) k.item minus at c.args.own n (g, hs) p) c.added.result
    (sym (ap (λ r. next r (behind g hs)) c.in-Ok.ensures.is_form) ∙ lessened-is k c.args.own n c.args.parts.next c.args.parts.items g hs p c.requires.parts.next e)
    (c.added.ensures k g hs c.requires.parts c.in-Ok.ensures.is_part e)

pub returns-in-Err : goal.returns-in-Err
returns-in-Err c at g hs e =
    let k = c.args.context.now in
    let n = c.args.parts.before in
    let p = form c.args.part in
    refuses-same (next (making.negated (sets k) (arrays k) k.item c.args.own c.args.parts.next p) (behind g hs)) (making.stepped (sets k) (arrays k) k.item minus at c.args.own n (g, hs) p) c.in-Err.fault
    (lessened-is k c.args.own n c.args.parts.next c.args.parts.items g hs p c.requires.parts.next e)
    (refuses-next (making.negated (sets k) (arrays k) k.item c.args.own c.args.parts.next p) (behind g hs) c.in-Err.fault c.in-Err.ensures)
