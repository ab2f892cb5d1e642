use Rattle.std.proofs.Common.{[], Ok, ap, sym}
use Rattle.opl_form.specs.Nodes as making
use Rattle.opl_form.specs.Nodes.{next}
use Rattle.opl_nodes.specs.Contexts.{arrays, sets}
use Rattle.opl_nodes.specs.Pieces.{form}
use Rattle.opl_numbers.specs.Numbers.{factored}
use Rattle.opl_numbers.specs.Signs.{sign}
use Rattle.opl_numbers.proofs.Sums.{parts-same, refuses-next}
use Rattle.opl_numbers.proofs.chains.factored.Goals as goal

pub returns-in-Ok : goal.returns-in-Ok
returns-in-Ok c =
    let k = c.args.context.now in
    let n = c.args.before in
    parts-same k n (Ok (form c.in-Ok.found, [])) (factored k (sign c.args.sign) c.args.at n (form c.args.left) (form c.args.right)) c.begun.result
    (sym (ap (λ r. next r (λ h. Ok (h, []))) c.in-Ok.ensures.is_form)) (c.begun.ensures k c.in-Ok.ensures.is_part)

pub returns-in-Err : goal.returns-in-Err
returns-in-Err c =
    let k = c.args.context.now in
    refuses-next (making.by_sign (sets k) (arrays k) k.item (sign c.args.sign) c.args.at c.args.before (form c.args.left) (form c.args.right)) (λ h. Ok (h, [])) c.in-Err.fault c.in-Err.ensures
