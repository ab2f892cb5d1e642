use Rattle.std.proofs.Common.{map, sym, ◌∙◌}
use Rattle.opl_eval.specs.Arithmetic as arithmetic
use Rattle.opl_eval.specs.Evaluation.{integer}
use Rattle.opl_expr.specs.declared.forms.Expr.TheVariants as E
use Rattle.opl_form.specs.Nodes as making
use Rattle.opl_form.specs.Parts.{as_number}
use Rattle.opl_nodes.specs.Contexts.{arrays, sets}
use Rattle.opl_nodes.specs.Pieces.{forms}
use Rattle.opl_nodes.proofs.Tests.{makes-same}
use Rattle.opl_numbers.specs.Numbers.{number_of}
use Rattle.opl_numbers.proofs.Folds.{summed-known, summed-live}
use Rattle.opl_numbers.proofs.aggregates.summed.Goals as goal

pub returns-then-are_known : goal.returns-then-are_known
returns-then-are_known c =
    let k = c.args.context.now in
    let n = c.args.parts.before in
    let gs = forms c.args.parts.items in
    makes-same k (making.evaluated k.item n (integer (arithmetic.sum c.args.at (map number_of gs)))) (making.summed (sets k) (arrays k) k.item c.args.at n gs) c.known_sum.result
    (summed-known (sets k) (arrays k) k.item c.args.at n gs (sym c.requires.are_known ∙ c.if-are_known.true)) c.known_sum.ensures

pub returns : goal.returns
returns c =
    let k = c.args.context.now in
    let n = c.args.parts.before in
    let gs = forms c.args.parts.items in
    makes-same k (making.number_node (sets k) (arrays k) k.item c.args.at n (E.Sum (map as_number gs))) (making.summed (sets k) (arrays k) k.item c.args.at n gs) c.sum_node.result
    (summed-live (sets k) (arrays k) k.item c.args.at n gs (sym c.requires.are_known ∙ c.if-are_known.false)) c.sum_node.ensures
