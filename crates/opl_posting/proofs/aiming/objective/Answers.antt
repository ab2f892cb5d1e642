use Rattle.std.proofs.Common.{Some, refl, ap, sym, ◌∙◌}
use Rattle.opl_term.specs.declared.term.Term.{Term}
use Rattle.opl_eval.specs.Visible.{seen}
use Rattle.opl_declared.specs.Kept.{names_in}
use Rattle.opl_optimum.specs.Goals.{goal_by}
use Rattle.opl_optimum.specs.Optima.{Objective, is_greatest, objective_of}
use Rattle.opl_posting.specs.declared.plan.Plan.{Plan}
use Rattle.opl_posting.proofs.Objectives.{aims-same}
use Rattle.opl_posting.proofs.Whole.{within-none}
use Rattle.opl_posting.proofs.aiming.objective.Goals as goal

pub returns-in-Solve : goal.returns-in-Solve
returns-in-Solve c = record {
  goal = ap (λ t. goal_by (seen c.args.environment.now) c.args.declared.now.items.now (names_in c.args.declared.now) (objective_of t)) c.in-Solve.is;
  nodes = refl;
}

pub returns-in_ok-term-in-Optimize : goal.returns-in_ok-term-in-Optimize
returns-in_ok-term-in-Optimize c =
    let plan : Plan = record { sets = c.args.sets; arrays = c.args.arrays; declared = c.args.declared } in
    let of_term : Term → Objective = λ t. record { is_most = is_greatest c.in-Optimize.optimum; term = t } in
    aims-same plan (seen c.args.environment.now) _ (is_greatest c.in-Optimize.optimum) c.get.result.now (objective_of c.args.instruction.now) c.term_objective.result c.requires.sets c.requires.numbered
    (within-none c.args.environment.now) (ap objective_of c.in-Optimize.is ∙ ap (λ t. Some (of_term t)) (sym (c.get.ensures ∙ c.in_ok-term-in-Optimize.ensures)))
    c.term_objective.ensures
