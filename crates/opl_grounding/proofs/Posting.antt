-- The objective and the constraints of a model, as they are made.
use Rattle.std.proofs.Common.{◌≡◌, ℤ, List, map, Option, Result, Ok, sym, ap, subst}
use Rattle.opl_tree.specs.declared.model.ModelTree.{ModelTree}
use Rattle.opl_eval.specs.Evaluation.{Environment}
use Rattle.opl_meaning.specs.declared.variable.VariableItem.{VariableItem}
use Rattle.opl_meaning.specs.Runs.{names_of, no_names}
use Rattle.opl_draft.specs.Instances.{condition_of, instances}
use Rattle.opl_draft.specs.Numbers.{arrays_of, entries}
use Rattle.opl_declared.specs.declared.declared.Declared.{Declared}
use Rattle.opl_declared.specs.Kept.{declared_names, names_in, plain_names, texts_of}
use Rattle.opl_expr.specs.declared.forms.Cons.{Cons}
use Rattle.opl_expr.specs.declared.model.Goal.{Goal}
use Rattle.opl_form.specs.Forms.{forms}
use Rattle.opl_form.specs.Laws.{declared_ends}
use Rattle.opl_form.specs.Nodes.{Made, next}
use Rattle.opl_nodes.specs.declared.array.Array.{Array}
use Rattle.opl_nodes.specs.declared.fault.FormFault.{FormFault}
use Rattle.opl_nodes.specs.Contexts.{cells}
use Rattle.opl_nodes.specs.Pieces.{Refuses}
use Rattle.opl_making.proofs.Next.{refused, refuses-same}
use Rattle.opl_optimum.specs.Goals.{goal_by}
use Rattle.opl_optimum.specs.Optima.{objective_of}
use Rattle.opl_ground.specs.Ground.{constraints_of, forms_of, goal_of}
use Rattle.opl_posting.specs.declared.aim.Aim.{Aim}
use Rattle.opl_posting.specs.Aims.{Aims, IsAim}
use Rattle.opl_posting.specs.Posts.{Posts}

-- the names that are kept
pub names-kept : (d : Declared) (items : List VariableItem) → d.items.now ≡ items → texts_of d.names ≡ map (λ v. v.name) items → names_in d ≡ declared_names items
unfolding names_in
names-kept d items h k = λ i. record { all = k i; plain = plain_names (h i) }

module _ (t : ModelTree) (env : Environment) (d : Declared) where
  -- the objective by the names of the text
  pub aims-named : (r : Result Aim FormFault) → names_of no_names t.decls ≡ names_in d → Aims (goal_by env d.items.now (names_in d) (objective_of t.instr)) r → Aims (goal_of t env d.items.now) r
  aims-named r n h = subst (λ (m : Made (Option Goal)). Aims m r) (ap (λ names. goal_by env d.items.now names (objective_of t.instr)) (sym n)) h

  -- a fault of the objective
  pub goal-refused : (fault : FormFault) → Refuses {A = Option Goal} (goal_of t env d.items.now) fault → Refuses {A = Option Goal × List Cons} (forms_of t env d.items.now) fault
  goal-refused fault h =
      refused (Option Goal) (Option Goal × List Cons) (goal_of t env d.items.now) (λ goal. next (constraints_of t env d.items.now goal) (λ cs. Ok (goal, cs))) fault h

  -- the constraints behind the objective
  module _ (a : Aim) (m : IsAim (goal_of t env d.items.now) a) where
    pub posts-behind : (sets : List (ℤ × ℤ)) (all : List Array) (r : Result (List Cons) FormFault) → sets ≡ declared_ends d.items.now → map cells all ≡ arrays_of (entries env.items d.items.now) → names_of no_names t.decls ≡ names_in d →
        Posts (forms sets (map cells all) a.nodes (map (condition_of d.items.now (names_in d) env) (instances t.instr env))) r → Posts (constraints_of t env d.items.now a.goal) r
    posts-behind sets all r s e n p =
        subst (λ (made : Made (List Cons)). Posts made r) (λ i. forms (s i) (e i) (m.nodes i) (map (condition_of d.items.now (sym n i) env) (instances t.instr env))) p

    -- a fault of the constraints
    pub behind-refused : (fault : FormFault) → Refuses {A = List Cons} (constraints_of t env d.items.now a.goal) fault → Refuses {A = Option Goal × List Cons} (forms_of t env d.items.now) fault
    behind-refused fault h =
        refuses-same (Option Goal × List Cons) (next (constraints_of t env d.items.now a.goal) (λ cs. Ok (a.goal, cs))) (forms_of t env d.items.now) fault
        (sym (ap (λ (m : Made (Option Goal)). next m (λ goal. next (constraints_of t env d.items.now goal) (λ cs. Ok (goal, cs)))) m.goal))
        (refused (List Cons) (Option Goal × List Cons) (constraints_of t env d.items.now a.goal) (λ cs. Ok (a.goal, cs)) fault h)
