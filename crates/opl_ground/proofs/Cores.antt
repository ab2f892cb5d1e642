-- Cores over what a model declares are sound.
use Rattle.std.proofs.Common.{ℕ, ◌<◌, ◌≤◌, ◌^◌, ℤ, List, [], length, Option, None, Some, arith}
use Rattle.std.proofs.lemmas.List.Elements.{All-map}
use Rattle.opl_draft.specs.Drafts.{Cells}
use Rattle.opl_draft.specs.Laws.{arrays}
use Rattle.opl_expr.specs.declared.model.Goal.{Goal}
use Rattle.opl_expr.specs.Forms.{fact, term}
use Rattle.opl_expr.specs.Options.{lift1}
use Rattle.opl_expr.specs.Sound.{IsSoundFact}
use Rattle.opl_form.specs.Laws.{declared_ends}
use Rattle.opl_form.specs.Parts.{tables}
use Rattle.opl_form.proofs.FormLaws.{forms_are_sound}
use Rattle.opl_optimum.specs.Goals.{goal_nodes}
use Rattle.opl_optimum.proofs.GoalLaws.{IsSoundObjective, goal-sound}
use Rattle.opl_trace.specs.SoundCores.{IsSoundGoal}
use Rattle.opl_ground.specs.Cores.{CoresAreSound}

few-variables : (n : ℕ) → n ≤ 65536 → n < 2 ^ 32
few-variables n h = omega (arith, h)

-- what a sound objective keeps in a core
goal-of-core : (sets : List (ℤ × ℤ)) (arrays : List Cells) (goal : Option Goal) → IsSoundObjective sets arrays goal → IsSoundGoal sets (lift1 (λ g. term (tables arrays) [] g.value) goal)
goal-of-core sets arrays None h = tt
goal-of-core sets arrays (Some g) h = (h.twice, h.sound)

-- and how many nodes it has
pub goal-few : (sets : List (ℤ × ℤ)) (arrays : List Cells) (goal : Option Goal) → IsSoundObjective sets arrays goal → goal_nodes goal ≤ 4194304
goal-few sets arrays None h = omega arith
goal-few sets arrays (Some g) h = h.nodes

pub cores_are_sound : CoresAreSound
cores_are_sound names env items declared objective goal conditions cs limits sound made h =
    let g = goal-sound env items declared objective goal sound made in
    let s = forms_are_sound (declared_ends items) (arrays env items) (goal_nodes goal) conditions cs sound (goal-few (declared_ends items) (arrays env items) goal g) h in
    record {
      few = few-variables (length (declared_ends items)) limits.few;
      sets = limits.each;
      constraints = All-map (IsSoundFact (declared_ends items)) (fact (tables (arrays env items)) []) cs s.facts;
      goal = goal-of-core (declared_ends items) (arrays env items) goal g;
      search = tt;
    }
