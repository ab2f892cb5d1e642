-- The solutions of a core are those of the problem, and so are the values of its objective.
use Rattle.std.proofs.Common.{◌≡◌, ℕ, zero, suc, ◌+◌, ℤ, pos, negsuc, ◌+ℤ◌, ◌-ℤ◌, neg_ℤ, Bool, true, false, cond, ◌&&◌, unsigned_abs, List, [], ◌∷◌, map, Option, None, Some, Ok, refl, sym, ap, subst, ◌∙◌, arith}
use Rattle.std.specs.Prelude.{filter, int_lt, is_some}
use Rattle.std.specs.List.{flat_map, list_all}
use Rattle.std.proofs.lemmas.Bool.{and_parts}
use Rattle.std.proofs.lemmas.Int.{ints}
use Rattle.std.proofs.lemmas.List.Folds.{list_all-append}
use Rattle.opl_domain.specs.Family.{Family}
use Rattle.opl_domain.specs.Span.{count_from, ints_from, span_size, values}
use Rattle.opl_tree.specs.declared.model.ModelTree.{ModelTree}
use Rattle.opl_eval.specs.Evaluation.{Environment}
use Rattle.opl_meaning.specs.declared.variable.DeclaredSet.{DeclaredSet}
use Rattle.opl_meaning.specs.declared.variable.VariableItem.{VariableItem}
use Rattle.opl_meaning.specs.Runs.{Names, names_of, no_names}
use Rattle.opl_meaning.specs.Solutions as meaning
use Rattle.opl_meaning.specs.Solutions.{declared_sets, numbers_of, size_between, whole_numbers}
use Rattle.opl_meaning.specs.Uses.{place_of}
use Rattle.opl_meaning.proofs.VariableLaws.{singles_have_one_set, variables_are_named}
use Rattle.opl_draft.specs.Clean.{is_clean_instr}
use Rattle.opl_draft.specs.Drafts.{Cells}
use Rattle.opl_draft.specs.Laws.{AreDeclared, InstancesClean, SolutionsUnrolled, arrays, is_met}
use Rattle.opl_draft.specs.Solutions as conditions
use Rattle.opl_draft.specs.Solutions.{Model}
use Rattle.opl_expr.specs.declared.forms.Cons.{Cons}
use Rattle.opl_expr.specs.declared.model.Core.{Core}
use Rattle.opl_expr.specs.declared.model.Goal.{Goal}
use Rattle.opl_expr.specs.declared.tables.Table.{Table}
use Rattle.opl_expr.specs.Forms.{Relation, fact, term}
use Rattle.opl_expr.specs.Holds.{holds, relates, value}
use Rattle.opl_expr.specs.Options.{lift, lift1}
use Rattle.opl_expr.specs.Solutions.{base, declared, definedness, facts, goal_term, is_among, is_true}
use Rattle.opl_form.specs.Laws.{AreSoundArrays, IsAssignment, declared_ends, families, is_held}
use Rattle.opl_form.specs.Parts.{tables}
use Rattle.opl_form.proofs.FormLaws.{forms_mean}
use Rattle.opl_optimum.specs.Clean.{is_clean_objective}
use Rattle.opl_optimum.specs.Goals.{goal_by, goal_nodes, goal_with}
use Rattle.opl_optimum.specs.Laws.{GoalMeans}
use Rattle.opl_optimum.specs.Optima.{Objective, Problem, is_defined, is_defined_by, objective_of, solutions, value_by}
use Rattle.opl_optimum.proofs.GoalLaws.{goal-of-form, no-goal}
use Rattle.opl_show.specs.Texts.{Enumerations}
use Rattle.opl_trace.specs.Objective as cores
use Rattle.opl_trace.specs.Solutions as cores_solutions
use Rattle.opl_trace.specs.Solutions.{product, satisfies}
use Rattle.opl_trace.proofs.CoreSolutions.{solutions_satisfy}
use Rattle.opl_trace.proofs.Improving.{filter_both}
use Rattle.opl_trace.proofs.Products.{found_alike}
use Rattle.opl_ground.specs.Declared.{core_of}
use Rattle.opl_ground.specs.Ground.{conditions_of}
use Rattle.opl_ground.specs.Names.{variable_names}
use Rattle.opl_ground.proofs.Arrays.{arrays_are_sound}
use Rattle.opl_ground.proofs.Variables.{variables_are_laid_out}
use Rattle.opl_complete.specs.Complete.{CoreMeans, IsAccepted, ValuesMean, model_of, problem_of}

-- ---- the numbers of declared sets

numbers-are : (low : ℤ) (n : ℕ) → ints_from low n ≡ whole_numbers low n
unfolding whole_numbers
numbers-are low zero = refl
numbers-are low (suc n) = ap (λ vs. low ∷ vs) (numbers-are (low +ℤ pos 1) n)

counted : (low high : ℤ) → count_from (high +ℤ pos 1 +ℤ neg_ℤ low) ≡ size_between low high
counted low high = by (int_lt high low) refl
  where
    size : (z : ℤ) (b : Bool) → int_lt high low ≡ b → z ≡ (high +ℤ pos 1 +ℤ neg_ℤ low) → count_from z ≡ cond b 0 (unsigned_abs (high -ℤ low) + 1)
    size (pos k) true h e = grind (arith, ints)
    size (pos k) false h e = grind (arith, ints)
    size (negsuc k) true h e = refl
    size (negsuc k) false h e = absurd (grind (arith, ints))

    by : (b : Bool) → int_lt high low ≡ b → count_from (high +ℤ pos 1 +ℤ neg_ℤ low) ≡ cond b 0 (unsigned_abs (high -ℤ low) + 1)
    by b h = size (high +ℤ pos 1 +ℤ neg_ℤ low) b h refl

set-is : (set : DeclaredSet) → values (record { low = set.low; high = set.high }) ≡ numbers_of set
unfolding values
set-is set = numbers-are set.low (span_size (record { low = set.low; high = set.high })) ∙ ap (whole_numbers set.low) (counted set.low set.high)

sets-are : (sets : List DeclaredSet) → families (map (λ set. (set.low, set.high)) sets) ≡ map numbers_of sets
sets-are [] = refl
sets-are (set ∷ sets) = λ i. set-is set i ∷ sets-are sets i

-- ---- assignments

products-are : (D : Family) → product D ≡ meaning.product D
unfolding meaning.product
products-are [] = refl
products-are (vs ∷ D) = ap (λ found. flat_map (λ v. map (λ a. v ∷ a) found) vs) (products-are D)

-- the facts of a core hold where its constraints do
facts-hold : (env : Environment) (items : List VariableItem) (a : List ℤ) (cs : List Cons) → satisfies (map (fact (tables (arrays env items)) []) cs) a ≡ list_all (is_held (arrays env items) a) cs
facts-hold env items a [] = refl
facts-hold env items a (c ∷ cs) = ap (λ b. is_held (arrays env items) a c && b) (facts-hold env items a cs)

-- ---- cores

facts-are : (names : List (List ℕ)) (env : Environment) (items : List VariableItem) (goal : Option Goal) (cs : List Cons) → facts (core_of names env items goal cs) ≡ map (fact (tables (arrays env items)) []) cs
facts-are names env items goal cs = refl

declared-are : (names : List (List ℕ)) (env : Environment) (items : List VariableItem) (goal : Option Goal) (cs : List Cons) → declared (core_of names env items goal cs) ≡ families (declared_ends items)
unfolding declared
declared-are names env items goal cs = refl

sets-declared : (names : List (List ℕ)) (env : Environment) (items : List VariableItem) (goal : Option Goal) (cs : List Cons) → declared (core_of names env items goal cs) ≡ declared_sets items
unfolding declared
sets-declared names env items goal cs = sets-are (flat_map (λ v. v.sets) items)

declares : (t : ModelTree) (env : Environment) (items : List VariableItem) (goal : Option Goal) (cs : List Cons) → IsAccepted t env items goal cs → AreDeclared items (names_of no_names t.decls)
declares t env items goal cs a = record {
  named = sym (variables_are_named env t.decls items a.variables);
  single = singles_have_one_set env t.decls items a.variables;
}

sound-arrays : (t : ModelTree) (env : Environment) (items : List VariableItem) (goal : Option Goal) (cs : List Cons) → IsAccepted t env items goal cs → AreSoundArrays (declared_ends items) (arrays env items)
sound-arrays t env items goal cs a = arrays_are_sound env items a.keyed a.filled (variables_are_laid_out env t.decls items a.variables)

-- ---- objectives

-- an objective of a core as plain data
abbrev pub as_objective : List Table → Goal → cores.Objective
as_objective ts g = record { is_most = g.maximize; term = term ts [] g.value }

-- the value of a core's objective is that of a model's
abbrev pub SameValue : Model → Option Objective → List Table → Option Goal → List ℤ → Type 0
SameValue m o ts goal ns = cores.best_after (lift1 (as_objective ts) goal) ns None ≡ value_by m o ns

values-by : GoalMeans → (m : Model) (names : Names) (o : Option Objective) (goal : Option Goal) → AreDeclared m.variables names →
    AreSoundArrays (declared_ends m.variables) (arrays m.environment m.variables) → is_clean_objective m.variables names o ≡ true → goal_by m.environment m.variables names o ≡ Ok goal →
    (ns : List ℤ) → IsAssignment (declared_ends m.variables) ns → SameValue m o (tables (arrays m.environment m.variables)) goal ns
values-by goal_means m names None goal d sound clean e ns i =
    subst (λ goal. SameValue m None (tables (arrays m.environment m.variables)) goal ns) (no-goal m.environment m.variables names goal e) refl
values-by goal_means m names (Some g) goal d sound clean e ns i =
    let p = goal-of-form m.environment m.variables names g goal e in
    subst (λ goal. SameValue m (Some g) (tables (arrays m.environment m.variables)) goal ns) p.2
    (goal_means m.variables names m.environment (place_of g.term) g p.0 d sound clean p.1 ns i)

pub values_mean : GoalMeans → ValuesMean
values_mean goal_means e t env items goal cs a ns i =
    values-by goal_means (model_of t env items) (names_of no_names t.decls) (objective_of t.instr) goal (declares t env items goal cs a) (sound-arrays t env items goal cs a)
    (and_parts (is_clean_objective items (names_of no_names t.decls) (objective_of t.instr)) (is_clean_instr items (names_of no_names t.decls) t.instr) a.clean).0 a.objective ns
    (subst (λ D. is_among ns D ≡ true) (declared-are (variable_names e items) env items goal cs) i)

-- ---- where objectives are defined

itself : (v : Option ℤ) → (is_true (lift (relates Relation.equal) v v) && true) ≡ is_some v
itself None = refl
itself (Some n) = grind (arith, ints)

-- the constraint that asks for a defined objective holds where the objective is defined
defined-by : (env : Environment) (items : List VariableItem) (names : Names) (m : Model) (o : Option Objective) (goal : Option Goal) (ts : List Table) → goal_by env items names o ≡ Ok goal → (ns : List ℤ) →
    SameValue m o ts goal ns → satisfies (definedness (lift1 (λ g. term ts [] g.value) goal)) ns ≡ is_defined_by m o ns
defined-by env items names m None goal ts e ns k =
    subst (λ goal. satisfies (definedness (lift1 (λ g. term ts [] g.value) goal)) ns ≡ true) (no-goal env items names goal e) refl
defined-by env items names m (Some g) goal ts e ns k =
    let p = goal-of-form env items names g goal e in
    subst (λ goal. SameValue m (Some g) ts goal ns → satisfies (definedness (lift1 (λ g. term ts [] g.value) goal)) ns ≡ is_defined_by m (Some g) ns) p.2
    (λ k. itself (value ns (term ts [] (goal_with g p.0).value)) ∙ ap is_some k) k

-- ---- solutions

solutions-are : (p : Problem) → filter (is_defined p) (conditions.solutions p.model) ≡ solutions p
unfolding solutions
solutions-are p = refl

module _ (values : ValuesMean) (e : Enumerations) (t : ModelTree) (env : Environment) (items : List VariableItem) (goal : Option Goal) (cs : List Cons) (a : IsAccepted t env items goal cs) where
  abbrev core : Core
  core = core_of (variable_names e items) env items goal cs

  abbrev cells : List Cells
  cells = arrays env items

  -- all conditions are met
  abbrev are_met : List ℤ → Bool
  are_met ns = list_all (is_met cells ns) (conditions_of t env items)

  facts-met : (ns : List ℤ) → is_among ns (declared core) ≡ true → satisfies (facts core) ns ≡ are_met ns
  facts-met ns i =
      ap (λ P. satisfies P ns) (facts-are (variable_names e items) env items goal cs) ∙ facts-hold env items ns cs
      ∙ sym (forms_mean (declared_ends items) cells (goal_nodes goal) (conditions_of t env items) cs (sound-arrays t env items goal cs a) a.constraints ns
      (subst (λ D. is_among ns D ≡ true) (declared-are (variable_names e items) env items goal cs) i))

  base-holds : (ns : List ℤ) → is_among ns (declared core) ≡ true → satisfies (base core) ns ≡ (are_met ns && is_defined (problem_of t env items) ns)
  base-holds ns i =
      list_all-append (λ c. is_true (holds ns c)) (facts core) (definedness (goal_term core))
      ∙ (λ k. facts-met ns i k
      && defined-by env items (names_of no_names t.decls) (model_of t env items) (objective_of t.instr) goal (tables cells) a.objective ns (values e t env items goal cs a ns i) k)

  core-solutions : cores_solutions.solutions core ≡ filter (is_defined (problem_of t env items)) (filter are_met (meaning.product (declared_sets items)))
  core-solutions =
      solutions_satisfy core
      ∙ found_alike (satisfies (base core)) (λ ns. are_met ns && is_defined (problem_of t env items) ns) (declared core) base-holds
      ∙ sym (filter_both are_met (is_defined (problem_of t env items)) (product (declared core)))
      ∙ ap (λ found. filter (is_defined (problem_of t env items)) (filter are_met found)) (ap product (sets-declared (variable_names e items) env items goal cs) ∙ products-are (declared_sets items))

pub core_means : InstancesClean → SolutionsUnrolled → ValuesMean → CoreMeans
core_means instances_clean solutions_unrolled values e t env items goal cs a =
    let names = names_of no_names t.decls in
    core-solutions values e t env items goal cs a
    ∙ ap (filter (is_defined (problem_of t env items))) (sym (solutions_unrolled (model_of t env items) names (declares t env items goal cs a)
    (instances_clean items names t.instr env (and_parts (is_clean_objective items names (objective_of t.instr)) (is_clean_instr items names t.instr) a.clean).1)))
    ∙ solutions-are (problem_of t env items)
