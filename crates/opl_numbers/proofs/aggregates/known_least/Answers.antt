use Rattle.std.proofs.Common.{ap, map, subst, sym, ◌∙◌}
use Rattle.std.specs.List.{All}
use Rattle.opl_eval.specs.Arithmetic as arithmetic
use Rattle.opl_eval.specs.Arithmetic.{IsSmall}
use Rattle.opl_eval.specs.Evaluation.{integer}
use Rattle.opl_form.specs.Nodes as making
use Rattle.opl_nodes.specs.Pieces.{forms}
use Rattle.opl_nodes.proofs.Tests.{makes-same}
use Rattle.opl_numbers.specs.Numbers.{number_of}
use Rattle.opl_numbers.proofs.Small.{least-small, parts-small}
use Rattle.opl_numbers.proofs.aggregates.known_least.Goals as goal

pub evaluated-requires : goal.evaluated-requires
evaluated-requires c n e =
    least-small c.args.at c.in_ok-numbers.numbers.items n (subst (All IsSmall) (sym c.in_ok-numbers.ensures) (parts-small c.args.context.now c.args.parts.now.items c.requires.each)) (sym c.least_of-found.ensures ∙ e)

pub returns : goal.returns
returns c =
    let k = c.args.context.now in
    let n = c.args.parts.now.before in
    makes-same k (making.evaluated k.item n (integer c.least_of-found.result)) (making.evaluated k.item n (integer (arithmetic.least c.args.at (map number_of (forms c.args.parts.now.items))))) c.evaluated.result
    (ap (λ r. making.evaluated k.item n (integer r)) (c.least_of-found.ensures ∙ ap (arithmetic.least c.args.at) c.in_ok-numbers.ensures)) c.evaluated.ensures
