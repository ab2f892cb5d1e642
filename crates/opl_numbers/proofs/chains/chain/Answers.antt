use Rattle.std.proofs.Common.{map, sym, ◌∙◌}
use Rattle.opl_eval.specs.Arithmetic as arithmetic
use Rattle.opl_eval.specs.Evaluation.{integer}
use Rattle.opl_expr.specs.declared.forms.Expr.TheVariants as E
use Rattle.opl_form.specs.Nodes as making
use Rattle.opl_form.specs.Parts.{as_number}
use Rattle.opl_nodes.specs.Contexts.{arrays, sets}
use Rattle.opl_nodes.specs.Pieces.{forms}
use Rattle.opl_nodes.proofs.Tests.{makes-same}
use Rattle.opl_numbers.specs.Numbers.{number_of}
use Rattle.opl_numbers.proofs.Sums.{made-part, parts-chained-known, parts-chained-live}
use Rattle.opl_numbers.proofs.chains.chain.Goals as goal

pub returns-then-are_known-clause-made : goal.returns-then-are_known-clause-made
returns-then-are_known-clause-made c g hs e =
    let k = c.args.context.now in
    let n = c.args.parts.before in
    let ps = c.args.parts.items in
    makes-same k (making.evaluated k.item n (integer (arithmetic.sum c.args.at (map number_of (forms ps))))) (making.chained (sets k) (arrays k) k.item c.args.at n g hs) c.known_sum.result
    (parts-chained-known k c.args.at n ps g hs c.requires.each (λ l. c.if-is_alone.false (c.len-is_alone.ensures ∙ l)) (sym c.requires.are_known ∙ c.if-are_known.true) e) c.known_sum.ensures

pub returns-then-are_known-clause-part : goal.returns-then-are_known-clause-part
returns-then-are_known-clause-part c =
    let k = c.args.context.now in
    made-part k (making.evaluated k.item c.args.parts.before (integer (arithmetic.sum c.args.at (map number_of (forms c.args.parts.items))))) c.known_sum.result c.known_sum.ensures

pub returns-clause-made : goal.returns-clause-made
returns-clause-made c g hs e =
    let k = c.args.context.now in
    let n = c.args.parts.before in
    let ps = c.args.parts.items in
    makes-same k (making.number_node (sets k) (arrays k) k.item c.args.at n (E.Sum (map as_number (forms ps)))) (making.chained (sets k) (arrays k) k.item c.args.at n g hs) c.sum_node.result
    (parts-chained-live k c.args.at n ps g hs (λ l. c.if-is_alone.false (c.len-is_alone.ensures ∙ l)) (sym c.requires.are_known ∙ c.if-are_known.false) e) c.sum_node.ensures

pub returns-clause-part : goal.returns-clause-part
returns-clause-part c =
    let k = c.args.context.now in
    made-part k (making.number_node (sets k) (arrays k) k.item c.args.at c.args.parts.before (E.Sum (map as_number (forms c.args.parts.items)))) c.sum_node.result c.sum_node.ensures
