use Rattle.std.proofs.Common.{rules, ap, ◌∙◌}
use Rattle.std.specs.Prelude.{FitsSigned}
use Rattle.std.proofs.lemmas.Int.{to_z-of_z}
use mir.Syntax.{w128}
use Rattle.opl_expr.specs.declared.forms.Expr.TheVariants as E
use Rattle.opl_expr.specs.Forms.{term}
use Rattle.opl_reference_labelling.proofs.Made.{more_made, less_made}
use Rattle.opl_reference_labelling.proofs.constraints.better_than.Goals as goal

pub returns-then-goal : goal.returns-then-goal
returns-then-goal c =
    let T = term c.args.core.now.tables c.args.core.now.resources in
    let fits : FitsSigned w128 c.args.best = search rules in
    more_made _ _ _ _ _ _ c.if-goal.true (c.in_ok-best.ensures ∙ ap E.Const (to_z-of_z w128 c.args.best fits)) (ap T (c.in_ok-value.ensures ∙ c.in_ok-copy.ensures))

pub returns-else-goal : goal.returns-else-goal
returns-else-goal c =
    let T = term c.args.core.now.tables c.args.core.now.resources in
    let fits : FitsSigned w128 c.args.best = search rules in
    less_made _ _ _ _ _ _ c.if-goal.false (ap T (c.in_ok-value.ensures ∙ c.in_ok-copy.ensures)) (c.in_ok-best.ensures ∙ ap E.Const (to_z-of_z w128 c.args.best fits))
