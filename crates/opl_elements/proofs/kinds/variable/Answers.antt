use Rattle.std.proofs.Common.{sym, arith}
use Rattle.opl_draft.specs.Drafts.{Draft}
use Rattle.opl_expr.specs.declared.forms.Expr.TheVariants as E
use Rattle.opl_form.specs.Made.{made}
use Rattle.opl_form.specs.Nodes.{element_node, variable_sort}
use Rattle.opl_nodes.specs.Contexts.{arrays, sets}
use Rattle.opl_nodes.proofs.Tests.{makes-same}
use Rattle.opl_elements.proofs.Sorted.{made-declared}
use Rattle.opl_elements.proofs.kinds.variable.Goals as goal

pub returns : goal.returns
returns c =
    let k = c.args.context.now in
    makes-same k (element_node (sets k) (arrays k) k.item (variable_sort (sets k) c.args.kind c.args.x) c.args.at c.args.before (E.Var c.args.x)) (made (sets k) (arrays k) k.item c.args.before (Draft.variable c.args.at c.args.x c.args.kind))
    c.variable_node.result (sym (made-declared k c.args.at c.args.before c.args.x c.args.kind (omega arith))) c.variable_node.ensures
