use Rattle.std.proofs.Common.{Ok, ap, sym, ◌∙◌}
use Rattle.opl_eval.specs.Evaluation.{part_at}
use Rattle.opl_eval.specs.Visible.{held}
use Rattle.opl_eval.proofs.Latest.{positions-of}
use Rattle.opl_eval.proofs.evaluate.part_of.Goals as goal

pub returns : goal.returns
returns c =
    ap (λ position. Ok (part_at position (held c.args.whole) c.args.names.now)) (positions-of c.args.scope.environment.now c.args.scope.parameters.now c.args.scope.turns.now.chosen.items)
    ∙ ap (λ v. Ok v) (sym c.in_ok-part.ensures)
