use Rattle.std.proofs.Common.{map, sym, ◌∙◌}
use Rattle.opl_eval.specs.Arithmetic as arithmetic
use Rattle.opl_eval.specs.Evaluation.{integer}
use Rattle.opl_expr.specs.declared.forms.Expr.TheVariants as E
use Rattle.opl_form.specs.Nodes as making
use Rattle.opl_form.specs.Parts.{as_number}
use Rattle.opl_nodes.specs.Contexts.{arrays, sets}
use Rattle.opl_nodes.specs.Pieces.{forms}
use Rattle.opl_nodes.proofs.Tests.{makes-same}
use Rattle.opl_numbers.specs.Numbers.{number_of}
use Rattle.opl_numbers.proofs.Folds.{least-known, least-live, least-none}
use Rattle.opl_numbers.proofs.Rows.{filled}
use Rattle.opl_numbers.proofs.aggregates.least.Goals as goal

pub returns-then-is_empty : goal.returns-then-is_empty
returns-then-is_empty c =
    let k = c.args.context.now in
    sym (least-none (sets k) (arrays k) k.item c.args.at c.args.parts.before c.args.parts.items (c.is_empty-is_empty.ensures.0 c.if-is_empty.true))

pub returns-then-are_known : goal.returns-then-are_known
returns-then-are_known c =
    let k = c.args.context.now in
    let n = c.args.parts.before in
    let ps = c.args.parts.items in
    makes-same k (making.evaluated k.item n (integer (arithmetic.least c.args.at (map number_of (forms ps))))) (making.least (sets k) (arrays k) k.item c.args.at n (forms ps)) c.known_least.result
    (least-known (sets k) (arrays k) k.item c.args.at n ps (filled ps c.is_empty-is_empty.result c.is_empty-is_empty.ensures c.if-is_empty.false) (sym c.requires.are_known ∙ c.if-are_known.true)) c.known_least.ensures

pub returns : goal.returns
returns c =
    let k = c.args.context.now in
    let n = c.args.parts.before in
    let ps = c.args.parts.items in
    makes-same k (making.number_node (sets k) (arrays k) k.item c.args.at n (E.Min (map as_number (forms ps)))) (making.least (sets k) (arrays k) k.item c.args.at n (forms ps)) c.least_node.result
    (least-live (sets k) (arrays k) k.item c.args.at n ps (filled ps c.is_empty-is_empty.result c.is_empty-is_empty.ensures c.if-is_empty.false) (sym c.requires.are_known ∙ c.if-are_known.false)) c.least_node.ensures
