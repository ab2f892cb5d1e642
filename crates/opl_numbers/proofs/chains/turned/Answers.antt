use Rattle.std.proofs.Common.{ap, sym}
use Rattle.opl_form.specs.Nodes as making
use Rattle.opl_form.specs.Nodes.{next}
use Rattle.opl_nodes.specs.Contexts.{arrays, sets}
use Rattle.opl_nodes.specs.Pieces.{form}
use Rattle.opl_numbers.specs.Numbers.{factored, turned}
use Rattle.opl_numbers.specs.Signs.{sign}
use Rattle.opl_numbers.proofs.Sums.{parts-same, refuses-next}
use Rattle.opl_numbers.proofs.chains.turned.Goals as goal

pub factored-requires-clause-left : goal.factored-requires-clause-left
factored-requires-clause-left c = c.in-Ok.ensures.part

pub returns-in-Ok : goal.returns-in-Ok
returns-in-Ok c g hs e =
    let k = c.args.context.now in
    let n = c.args.parts.before in
    parts-same k n (factored k (sign c.args.sign) c.args.at n (form c.in-Ok.whole) (form c.args.part)) (turned k (sign c.args.sign) c.args.at n (g, hs) (form c.args.part)) c.factored.result
    (sym (ap (λ r. next r (λ a. factored k (sign c.args.sign) c.args.at n a (form c.args.part))) (c.in-Ok.ensures.made g hs e).is_form)) c.factored.ensures

pub returns-in-Err : goal.returns-in-Err
returns-in-Err c g hs e =
    let k = c.args.context.now in
    let n = c.args.parts.before in
    refuses-next (making.chained (sets k) (arrays k) k.item c.args.at n g hs) (λ a. factored k (sign c.args.sign) c.args.at n a (form c.args.part)) c.in-Err.fault (c.in-Err.ensures.made g hs e)
