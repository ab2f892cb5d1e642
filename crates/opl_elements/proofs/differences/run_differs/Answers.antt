use Rattle.std.proofs.Common.{◌+◌, sym, ap, ◌∙◌}
use Rattle.opl_expr.specs.declared.forms.Cons.TheVariants as C
use Rattle.opl_form.specs.Measures as measures
use Rattle.opl_elements.proofs.Differing.{run-differs-depth, run-differs-nodes}
use Rattle.opl_elements.proofs.differences.run_differs.Goals as goal

pub condition_node-requires-clause-depth : goal.condition_node-requires-clause-depth
condition_node-requires-clause-depth c = run-differs-depth c.args.first c.args.count c.requires.some ∙ ap (λ es. measures.depth_of (C.AllDifferent es)) (sym c.in_ok-variables.ensures)

pub condition_node-requires-clause-nodes : goal.condition_node-requires-clause-nodes
condition_node-requires-clause-nodes c =
    ap (λ n. n + 1) c.from.ensures ∙ run-differs-nodes c.args.first c.args.count ∙ ap (λ es. measures.nodes_of (C.AllDifferent es)) (sym c.in_ok-variables.ensures)
