-- The core of an accepted model is a ground core.
use Rattle.std.proofs.Common.{◌≡◌, Bool, true, ◌&&◌, List, Option, None, Some, Ok, refl, ap, subst, ◌∙◌}
use Rattle.std.specs.Prelude.{false}
use Rattle.std.specs.List.{list_all}
use Rattle.opl_tree.specs.declared.model.ModelTree.{ModelTree}
use Rattle.opl_eval.specs.Evaluation.{Environment}
use Rattle.opl_meaning.specs.declared.variable.VariableItem.{VariableItem}
use Rattle.opl_meaning.specs.Runs.{Names, names_of, no_names}
use Rattle.opl_meaning.specs.Uses.{place_of}
use Rattle.opl_draft.specs.Laws.{arrays}
use Rattle.opl_draft.specs.Unrolled.{unrolled}
use Rattle.opl_expr.specs.declared.forms.Cons.{Cons}
use Rattle.opl_expr.specs.declared.model.Core.{Core}
use Rattle.opl_expr.specs.declared.model.Goal.{Goal}
use Rattle.opl_form.specs.Laws.{declared_ends}
use Rattle.opl_form.specs.Parts.{tables}
use Rattle.opl_optimum.specs.Goals.{goal_by, goal_nodes}
use Rattle.opl_optimum.specs.Optima.{Objective, objective_of}
use Rattle.opl_optimum.proofs.GoalLaws.{goal-of-form, no-goal}
use Rattle.opl_show.specs.Texts.{Enumerations}
use Rattle.opl_trace.specs.GroundCores.{cons_stands}
use Rattle.opl_ground.specs.Declared.{core_of}
use Rattle.opl_ground.specs.Ground.{conditions_of, forms_of, grounded, with_forms, with_variables}
use Rattle.opl_ground.specs.Names.{variable_names}
use Rattle.opl_ground.specs.Whole.{asks_no_capacity, goal_stands}
use Rattle.opl_ground.proofs.Ground.{forms-made}
use Rattle.opl_ground.proofs.Whole.{grounded_is_ground}
use Rattle.opl_complete.specs.Complete.{CoreIsGround, IsAccepted}
use Rattle.opl_complete.proofs.Capacity.{forms-plain, goal-plain}

-- what grounding an accepted model comes to
pub grounded-is : (e : Enumerations) (t : ModelTree) (env : Environment) (items : List VariableItem) (goal : Option Goal) (cs : List Cons) → IsAccepted t env items goal cs →
    grounded e t env ≡ Ok (core_of (variable_names e items) env items goal cs)
grounded-is e t env items goal cs a =
    ap (λ r. with_variables r (λ items. with_forms (forms_of t env items) (λ made. Ok (core_of (variable_names e items) env items made.0 made.1)))) a.variables
    ∙ ap (λ r. with_forms r (λ made. Ok (core_of (variable_names e items) env items made.0 made.1))) (forms-made t env items goal cs a.objective a.constraints)

goal-stands : (env : Environment) (items : List VariableItem) (names : Names) (o : Option Objective) (goal : Option Goal) → goal_by env items names o ≡ Ok goal → goal_stands (tables (arrays env items)) goal ≡ true
goal-stands env items names None goal e = subst (λ goal. goal_stands (tables (arrays env items)) goal ≡ true) (no-goal env items names goal e) refl
goal-stands env items names (Some g) goal e =
    let p = goal-of-form env items names g goal e in
    subst (λ goal. goal_stands (tables (arrays env items)) goal ≡ true) p.2 (goal-plain (declared_ends items) (arrays env items) (place_of g.term) (unrolled items names g.term env) p.0 p.1)

both : (a b : Bool) → a ≡ true → b ≡ true → (a && b) ≡ true
both a b h k = cc

no-capacity : (e : Enumerations) (t : ModelTree) (env : Environment) (items : List VariableItem) (goal : Option Goal) (cs : List Cons) → IsAccepted t env items goal cs →
    asks_no_capacity (core_of (variable_names e items) env items goal cs) ≡ true
no-capacity e t env items goal cs a =
    let core : Core = core_of (variable_names e items) env items goal cs in
    both (list_all (cons_stands core.tables core.resources false) cs) (goal_stands core.tables goal)
    (forms-plain (declared_ends items) (arrays env items) (goal_nodes goal) (conditions_of t env items) cs a.constraints)
    (goal-stands env items (names_of no_names t.decls) (objective_of t.instr) goal a.objective)

pub core_is_ground : CoreIsGround
core_is_ground e t env items goal cs a =
    grounded_is_ground e t env (core_of (variable_names e items) env items goal cs) a.keyed a.filled (grounded-is e t env items goal cs a) (no-capacity e t env items goal cs a)
