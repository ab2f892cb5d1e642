use Rattle.std.proofs.Common.{◌<◌, ◌≤◌, ◌^◌, sym, subst, ◌∙◌, arith}
use Rattle.opl_draft.specs.Drafts.Leaves.{numbered}
use Rattle.opl_expr.specs.declared.forms.Cons.TheVariants as C
use Rattle.opl_form.specs.Nodes.{condition_node}
use Rattle.opl_nodes.proofs.Tests.{makes-same}
use Rattle.opl_elements.specs.Differences.{leaves_differ}
use Rattle.opl_elements.specs.Runs.{run}
use Rattle.opl_elements.proofs.Differing.{large-differ, run-differ}
use Rattle.opl_elements.proofs.differences.variables_differ.Goals as goal

pub returns-then-greatest_two-ge-CAP : goal.returns-then-greatest_two-ge-CAP
returns-then-greatest_two-ge-CAP c =
    large-differ c.args.context.now c.args.at c.args.before c.args.kind c.args.first c.args.count (sym c.are_declared.ensures ∙ c.if-not-are_declared.false) (omega (arith, c.if-count-eq0.false))
    (subst (λ m. 2 ^ 127 ≤ m) c.greatest_two.ensures.two (omega (arith, c.if-greatest_two-ge-CAP.true)))

pub returns : goal.returns
returns c =
    let k = c.args.context.now in
    makes-same k (condition_node k.item c.args.before (C.AllDifferent (run c.args.first c.args.count))) (leaves_differ k c.args.at c.args.before (numbered c.args.kind c.args.first c.args.count)) c.run_differs.result
    (sym (run-differ k c.args.at c.args.before c.args.kind c.args.first c.args.count (sym c.are_declared.ensures ∙ c.if-not-are_declared.false) (omega (arith, c.if-count-eq0.false))
    (subst (λ m. m < 2 ^ 127) c.greatest_two.ensures.two (omega (arith, c.if-greatest_two-ge-CAP.false)))))
    c.run_differs.ensures
