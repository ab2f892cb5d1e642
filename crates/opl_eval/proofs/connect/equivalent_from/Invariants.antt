use Rattle.std.proofs.Common.{◌≡◌, drop, fold}
use Rattle.opl_eval.specs.Evaluation.{is_true, same}
use Rattle.opl_eval.proofs.connect.equivalent_from.Given as goal

-- what is left gives what all of it gives
abbrev pub invariant-loop-value : goal.invariant-loop-value
invariant-loop-value l = fold (λ holds v. same holds (is_true v)) l.holds (drop l.value-index l.others) ≡ fold (λ holds v. same holds (is_true v)) l.first l.others
