-- What a core that is made of a model consists of, and that it is sound.
use Rattle.std.proofs.Common.{◌≡◌, List, [], Option, Ok, Err, refl, ap, ◌∙◌, subst}
use Rattle.opl_tree.specs.declared.model.ModelTree.{ModelTree}
use Rattle.opl_eval.specs.Evaluation.{Environment}
use Rattle.opl_meaning.specs.declared.variable.VariableItem.{VariableItem}
use Rattle.opl_meaning.specs.Faults as meaning
use Rattle.opl_meaning.specs.Runs.{names_of, no_names}
use Rattle.opl_meaning.specs.Variables.{variables_in}
use Rattle.opl_expr.specs.declared.forms.Cons.{Cons}
use Rattle.opl_expr.specs.declared.model.Core.{Core}
use Rattle.opl_expr.specs.declared.model.Goal.{Goal}
use Rattle.opl_form.specs.Nodes.{Made, next}
use Rattle.opl_optimum.specs.Optima.{objective_of}
use Rattle.opl_show.specs.Texts.{Enumerations}
use Rattle.opl_trace.specs.SoundCores.{IsSoundCore}
use Rattle.opl_ground.specs.Declared.{core_of}
use Rattle.opl_ground.specs.Ground.{Grounded, GroundedIsSound, conditions_of, constraints_of, forms_of, goal_of, grounded, with_forms, with_variables}
use Rattle.opl_ground.specs.Names.{variable_names}
use Rattle.opl_ground.proofs.Arrays.{arrays_are_sound}
use Rattle.opl_ground.proofs.Cores.{cores_are_sound}
use Rattle.opl_ground.proofs.Limits.{variables_are_within_limits}
use Rattle.opl_ground.proofs.Variables.{variables_are_laid_out}

core-same : (a b : Core) → ◌≡◌ {A = Grounded Core} (Ok a) (Ok b) → a ≡ b
core-same a b e = cc

-- the objective and the constraints are made
pub forms-made : (t : ModelTree) (env : Environment) (items : List VariableItem) (goal : Option Goal) (cs : List Cons) → goal_of t env items ≡ Ok goal → constraints_of t env items goal ≡ Ok cs →
    forms_of t env items ≡ Ok (goal, cs)
forms-made t env items goal cs g c =
    ap (λ (m : Made (Option Goal)). next m (λ goal. next (constraints_of t env items goal) (λ cs. Ok (goal, cs)))) g ∙ ap (λ (m : Made (List Cons)). next m (λ cs. Ok (goal, cs))) c

-- a core is that of the variables, the objective and the constraints of a model
pub record IsCore (enumerations : Enumerations) (t : ModelTree) (env : Environment) (core : Core) : Type 0 where
  pub items : List VariableItem
  pub goal : Option Goal
  pub constraints : List Cons
  pub variables : variables_in env [] t.decls ≡ Ok items
  pub has_goal : goal_of t env items ≡ Ok goal
  pub has_constraints : constraints_of t env items goal ≡ Ok constraints
  pub is : core_of (variable_names enumerations items) env items goal constraints ≡ core

pub core-parts : (enumerations : Enumerations) (t : ModelTree) (env : Environment) (core : Core) → grounded enumerations t env ≡ Ok core → IsCore enumerations t env core
core-parts enumerations t env core h = declared (variables_in env [] t.decls) refl h
  where
    whole : List VariableItem → Option Goal × List Cons → Grounded Core
    whole items made = Ok (core_of (variable_names enumerations items) env items made.0 made.1)

    made : (items : List VariableItem) (goal : Option Goal) (r : Made (List Cons)) → variables_in env [] t.decls ≡ Ok items → goal_of t env items ≡ Ok goal → constraints_of t env items goal ≡ r →
        with_forms (next r (λ cs. Ok (goal, cs))) (whole items) ≡ Ok core → IsCore enumerations t env core
    made items goal (Ok cs) v g f e = record {
      items = items;
      goal = goal;
      constraints = cs;
      variables = v;
      has_goal = g;
      has_constraints = f;
      is = core-same (core_of (variable_names enumerations items) env items goal cs) core e;
    }
    made items goal (Err fault) v g f e = absurd (cc)

    aimed : (items : List VariableItem) (r : Made (Option Goal)) → variables_in env [] t.decls ≡ Ok items → goal_of t env items ≡ r →
        with_forms (next r (λ goal. next (constraints_of t env items goal) (λ cs. Ok (goal, cs)))) (whole items) ≡ Ok core → IsCore enumerations t env core
    aimed items (Ok goal) v g e = made items goal (constraints_of t env items goal) v g refl e
    aimed items (Err fault) v g e = absurd (cc)

    declared : (r : meaning.Made (List VariableItem)) → variables_in env [] t.decls ≡ r →
        with_variables r (λ items. with_forms (forms_of t env items) (whole items)) ≡ Ok core →
        IsCore enumerations t env core
    declared (Ok items) v e = aimed items (goal_of t env items) v refl e
    declared (Err fault) v e = absurd (cc)

pub grounded_is_sound : GroundedIsSound
grounded_is_sound enumerations t env core keyed filled h =
    let c = core-parts enumerations t env core h in
    subst IsSoundCore c.is
    (cores_are_sound (variable_names enumerations c.items) env c.items (names_of no_names t.decls) (objective_of t.instr) c.goal (conditions_of t env c.items) c.constraints
    (variables_are_within_limits env t.decls c.items c.variables)
    (arrays_are_sound env c.items keyed filled (variables_are_laid_out env t.decls c.items c.variables)) c.has_goal c.has_constraints)
