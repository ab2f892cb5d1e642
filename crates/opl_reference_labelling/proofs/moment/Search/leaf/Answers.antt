use Rattle.std.proofs.Common.{◌≡◌, true, ap, sym, ◌∙◌, subst}
use Rattle.opl_expr.specs.Solutions.{declared, is_among}
use Rattle.opl_trace.specs.Marks.{objective}
use Rattle.opl_trace.specs.Objective.{best_after}
use Rattle.opl_reference_labelling.specs.Outcomes.{outcome}
use Rattle.opl_reference_labelling.proofs.Labels.{among_at, solution_made}
use Rattle.opl_reference_labelling.proofs.moment.Search.leaf.Goals as goal

pub best_after-best-requires-clause-among : goal.best_after-best-requires-clause-among
best_after-best-requires-clause-among g c =
    let core = c.args.self.now.core.now in
    subst (λ a. is_among a (declared core) ≡ true) (sym (c.as_slice.ensures ∙ c.in_ok-values.ensures)) (among_at core _ c.args.best _ c.requires.moment)

pub returns : goal.returns
returns g c =
    let core = c.args.self.now.core.now in
    solution_made core _ _ c.args.best _ _ _ _ c.requires.core c.requires.best c.requires.moment c.in_ok-values.ensures
    (c.best_after-best.ensures ∙ ap (λ a. best_after (objective core) a c.args.best) c.as_slice.ensures)
    (ap (outcome core) c.in_ok-outcome.ensures)
