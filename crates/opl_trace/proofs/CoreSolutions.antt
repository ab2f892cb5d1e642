-- The solutions of a core, and what its soundness says of its constraints.
use Rattle.std.proofs.Common.{refl, List, [], ℤ}
use Rattle.std.specs.Prelude.{Option, Some, None}
use Rattle.std.specs.List.{All}
use Rattle.std.proofs.lemmas.List.Elements.{All-nil, All-cons, All-append}
use Rattle.opl_expr.specs.Forms.{Term, Fact}
use Rattle.opl_expr.specs.Forms.Relation.{equal}
use Rattle.opl_expr.specs.Solutions.{facts, goal_term, definedness, base, declared, is_solution}
use Rattle.opl_expr.specs.Sound.{IsSoundFact}
use Rattle.opl_trace.specs.Solutions.{satisfies, solutions}
use Rattle.opl_trace.specs.SoundCores.{IsSoundGoal}
use Rattle.opl_trace.specs.EngineLaws.{SolutionsSatisfy, BaseIsSound}
use Rattle.opl_trace.proofs.Products.{found_alike}

pub solutions_satisfy : SolutionsSatisfy
unfolding solutions is_solution
solutions_satisfy core = found_alike (is_solution core) (satisfies (base core)) (declared core) (λ a i. rw i refl)

defined_sound : (sets : List (ℤ × ℤ)) (goal : Option Term) → IsSoundGoal sets goal → All (IsSoundFact sets) (definedness goal)
defined_sound sets None s = All-nil (IsSoundFact sets)
defined_sound sets (Some t) s = All-cons (IsSoundFact sets) (Fact.cmp equal t t) [] (s.0, s.1, s.1) (All-nil (IsSoundFact sets))

pub base_sound : BaseIsSound
base_sound core s = All-append (IsSoundFact core.sets) (facts core) (definedness (goal_term core)) s.constraints (defined_sound core.sets (goal_term core) s.goal)
