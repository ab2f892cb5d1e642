use Rattle.std.proofs.Common.{Ok, ap, sym, ◌∙◌}
use Rattle.opl_eval.specs.Evaluation.{found}
use Rattle.opl_held.specs.Outcomes.{truth_of}
use Rattle.opl_held.proofs.Sources.{source-is}
use Rattle.opl_held.proofs.holds.holds_source.Goals as goal

pub returns-in-Ok-clause-source : goal.returns-in-Ok-clause-source
returns-in-Ok-clause-source c typed =
    sym (source-is c.args.site c.args.scope c.args.values.now c.args.condition.now c.unrolled_means.ensures c.requires.site c.requires.values typed)
    ∙ ap (found truth_of) c.in-Ok.ensures
    ∙ ap (λ b. Ok b) (sym c.truth_of.ensures)

pub returns-in-Err-clause-source : goal.returns-in-Err-clause-source
returns-in-Err-clause-source c typed ne =
    sym (source-is c.args.site c.args.scope c.args.values.now c.args.condition.now c.unrolled_means.ensures c.requires.site c.requires.values typed) ∙ ap (found truth_of) (c.in-Err.ensures ne)
