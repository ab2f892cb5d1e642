-- What a search of the core finds: the first of the solutions of the problem that are better than all before them, and all of these where it isn't cut off.
use Rattle.std.proofs.Common.{◌≡◌, ℕ, zero, suc, ◌+◌, ◌≤◌, ℤ, Bool, true, false, cond, ◌&&◌, List, [], ◌∷◌, ◌++◌, Option, None, Some, Ok, refl, sym, ap, subst, ◌∙◌, arith, append_assoc, append-nil}
use Rattle.std.specs.Prelude.{filter}
use Rattle.std.specs.List.{All}
use Rattle.std.proofs.lemmas.Bool.{and_parts}
use Rattle.std.proofs.lemmas.List.Elements.{All-cons, All-nil, All-weaker}
use Rattle.std.proofs.lemmas.List.Folds.{list_all-append}
use Rattle.opl_domain.specs.Family.{Family, IsRising, set_of}
use Rattle.opl_tree.specs.declared.model.ModelTree.{ModelTree}
use Rattle.opl_eval.specs.Evaluation.{Environment}
use Rattle.opl_meaning.specs.declared.variable.VariableItem.{VariableItem}
use Rattle.opl_meaning.specs.Runs.{Names, names_of, no_names}
use Rattle.opl_draft.specs.Laws.{arrays}
use Rattle.opl_draft.specs.Solutions.{Model}
use Rattle.opl_expr.specs.declared.forms.Cons.{Cons}
use Rattle.opl_expr.specs.declared.model.Core.{Core}
use Rattle.opl_expr.specs.declared.model.Goal.{Goal}
use Rattle.opl_expr.specs.declared.tables.Table.{Table}
use Rattle.opl_expr.specs.Forms.{Fact, Relation, term}
use Rattle.opl_expr.specs.Holds.{holds, relates, value}
use Rattle.opl_expr.specs.Options.{lift, lift1}
use Rattle.opl_expr.specs.Solutions.{base, declared, definedness, facts, is_among, is_true}
use Rattle.opl_form.specs.Parts.{tables}
use Rattle.opl_optimum.specs.Goals.{goal_by, goal_with}
use Rattle.opl_optimum.specs.Optima as problems
use Rattle.opl_optimum.specs.Optima.{improving_by, objective_of, solutions}
use Rattle.opl_optimum.proofs.BestLaws.{improving_agrees}
use Rattle.opl_optimum.proofs.GoalLaws.{goal-of-form, no-goal}
use Rattle.opl_show.specs.Texts.{Enumerations}
use Rattle.opl_trace.specs.Marks.{objective, prefixes, solved, trace}
use Rattle.opl_trace.specs.Objective.{Objective, improving}
use Rattle.opl_trace.specs.Run.{Mark, Out}
use Rattle.opl_trace.specs.Run.Mark.{cut}
use Rattle.opl_trace.specs.SearchLaws.{Defines, clear_all}
use Rattle.opl_trace.specs.Solutions as cores
use Rattle.opl_trace.specs.Solutions.{product, satisfies}
use Rattle.opl_trace.proofs.CoreSolutions.{solutions_satisfy}
use Rattle.opl_trace.proofs.Enough.{prefixes_enough}
use Rattle.opl_trace.proofs.Found.{all_found, solved-append}
use Rattle.opl_trace.proofs.Improving.{best_found}
use Rattle.opl_trace.proofs.Prefixes.{marks_begin}
use Rattle.opl_trace.proofs.Products.{found_alike}
use Rattle.opl_trace.proofs.Reached.{ClearGoal, base_clear, declared_rise, goal_clear}
use Rattle.opl_ground.specs.Declared.{core_of}
use Rattle.opl_ground.specs.Names.{variable_names}
use Rattle.opl_complete.specs.Complete.{CoreMeans, IsAccepted, SearchBegins, SearchFindsAll, ValuesMean, model_of, problem_of}
use Rattle.opl_complete.proofs.Ground.{core_is_ground}
use Rattle.opl_complete.proofs.Means.{SameValue, as_objective}

-- ---- searches with fewer and with more choices

module _ (goal : Option Objective) (D : Family) (P : List Fact) where
  -- what default search makes with so many choices, and the solutions among it
  abbrev made : ℕ → Out
  made n = trace goal D None P n

  abbrev first : ℕ → List (List ℤ)
  first n = solved (made n).marks

  ends-alike : (ms : List Mark) (b : Bool) → solved (ms ++ cond b (cut ∷ []) []) ≡ solved ms
  ends-alike ms true = solved-append ms (cut ∷ []) ∙ append-nil (solved ms)
  ends-alike ms false = solved-append ms [] ∙ append-nil (solved ms)

  -- with one choice more there are others behind
  one-more : (n : ℕ) → (others : List (List ℤ)) × (first (suc n) ≡ first n ++ others)
  one-more n =
      let c = marks_begin goal D None P n in
      (solved c.others, sym (ends-alike (made (suc n)).marks (made (suc n)).is_cut) ∙ (ap solved c.joins ∙ solved-append (made n).marks c.others))

  -- and with more choices
  more : (d n : ℕ) → (others : List (List ℤ)) × (first n ++ others ≡ first (d + n))
  more zero n = let i : n ≡ 0 + n = omega arith in ([], append-nil (first n) ∙ ap first i)
  more (suc d) n =
      let p = more d n in
      let q = one-more (d + n) in
      let i : suc (d + n) ≡ suc d + n = omega arith in
      (p.0 ++ q.0, sym (append_assoc (first n) p.0 q.0) ∙ (ap (λ found. found ++ q.0) p.1 ∙ (sym q.1 ∙ ap first i)))

  -- with as many choices as there are prefixes nothing is cut off
  whole : (n : ℕ) → (made (prefixes D + n)).is_cut ≡ false
  whole n = (prefixes_enough goal D P (prefixes D + n)).ends (at-least (prefixes D) n)
    where
      at-least : (m n : ℕ) → m ≤ m + n
      at-least m n = omega arith

-- ---- a search that isn't cut off, with an objective or without

search-found : (goal : Option Objective) (D : Family) (P : List Fact) (n : ℕ) → ((x : ℕ) → IsRising (set_of D x)) → clear_all P ≡ true → ClearGoal goal → Defines goal P → (trace goal D None P n).is_cut ≡ false →
    solved (trace goal D None P n).marks ≡ improving goal (filter (satisfies P) (product D))
search-found None D P n r c g d h = all_found D P n r c h
search-found (Some g) D P n r c h d e = best_found g D P n r c h d e

-- what equals itself is defined
self-defined : (o : Option ℤ) → is_true (lift (relates Relation.equal) o o) ≡ true → (v : ℤ) × (o ≡ Some v)
self-defined None h = absurd (cc)
self-defined (Some v) h = (v, refl)

-- where all constraints hold the objective has a value
goal-defined : (ts : List Table) (P : List Fact) (goal : Option Goal) → Defines (lift1 (as_objective ts) goal) (P ++ definedness (lift1 (λ g. term ts [] g.value) goal))
goal-defined ts P None = tt
goal-defined ts P (Some g) = λ a s.
    let u = term ts [] g.value in
    let r = and_parts (satisfies P a) (satisfies (Fact.cmp Relation.equal u u ∷ []) a) (sym (list_all-append (λ c. is_true (holds a c)) P (Fact.cmp Relation.equal u u ∷ [])) ∙ s) in
    self-defined (value a u) (and_parts (is_true (holds a (Fact.cmp Relation.equal u u))) true r.1).0

-- ---- the better ones

-- what passes a test does so
all-pass : {A : Type 0} (q : A → Bool) (xs : List A) → All (λ x. q x ≡ true) (filter q xs)
all-pass q [] = All-nil (λ x. q x ≡ true)
all-pass {A = A} q (x ∷ xs) = by (q x) refl (all-pass q xs)
  where
    by : (b : Bool) → q x ≡ b → All (λ x. q x ≡ true) (filter q xs) → All (λ x. q x ≡ true) (cond b (x ∷ filter q xs) (filter q xs))
    by true e h = All-cons (λ x. q x ≡ true) x (filter q xs) e h
    by false e h = h

-- each solution of a core is an assignment of its declared sets
all-among : (core : Core) → All (λ a. is_among a (declared core) ≡ true) (cores.solutions core)
all-among core =
    let both : List ℤ → Bool = λ a. satisfies (base core) a && is_among a (declared core) in
    let same : filter both (product (declared core)) ≡ cores.solutions core =
    found_alike both (satisfies (base core)) (declared core) (λ a i. one (satisfies (base core) a) (is_among a (declared core)) i) ∙ sym (solutions_satisfy core) in
    subst (All (λ a. is_among a (declared core) ≡ true)) same
    (All-weaker (λ a. both a ≡ true) (λ a. is_among a (declared core) ≡ true) (λ a h. (and_parts (satisfies (base core) a) (is_among a (declared core)) h).1) (filter both (product (declared core)))
    (all-pass both (product (declared core))))
  where
    one : (b c : Bool) → c ≡ true → (b && c) ≡ b
    one true c h = h
    one false c h = refl

-- by a core's objective and by a model's they are the same
better-same : (env : Environment) (items : List VariableItem) (names : Names) (m : Model) (o : Option problems.Objective) (goal : Option Goal) (ts : List Table) → goal_by env items names o ≡ Ok goal →
    (list : List (List ℤ)) → All (SameValue m o ts goal) list → improving (lift1 (as_objective ts) goal) list ≡ improving_by m o list
better-same env items names m None goal ts e list h = subst (λ goal. improving (lift1 (as_objective ts) goal) list ≡ list) (no-goal env items names goal e) refl
better-same env items names m (Some g) goal ts e list h =
    let p = goal-of-form env items names g goal e in
    subst (λ goal. All (SameValue m (Some g) ts goal) list → improving (lift1 (as_objective ts) goal) list ≡ improving_by m (Some g) list) p.2
    (λ h. improving_agrees m g (term ts [] (goal_with g p.0).value) list h) h

-- ---- the search of a core

module _ (means : CoreMeans) (values : ValuesMean) (e : Enumerations) (t : ModelTree) (env : Environment) (items : List VariableItem) (goal : Option Goal) (cs : List Cons) (a : IsAccepted t env items goal cs) where
  abbrev core : Core
  core = core_of (variable_names e items) env items goal cs

  -- the better ones of the problem's solutions
  abbrev better : List (List ℤ)
  better = problems.improving (problem_of t env items) (solutions (problem_of t env items))

  better-is : improving (objective core) (filter (satisfies (base core)) (product (declared core))) ≡ better
  better-is =
      ap (improving (objective core)) (sym (solutions_satisfy core))
      ∙ better-same env items (names_of no_names t.decls) (model_of t env items) (objective_of t.instr) goal (tables (arrays env items)) a.objective (cores.solutions core)
      (All-weaker (λ ns. is_among ns (declared core) ≡ true) (SameValue (model_of t env items) (objective_of t.instr) (tables (arrays env items)) goal) (λ ns i. values e t env items goal cs a ns i) (cores.solutions core) (all-among core))
      ∙ ap (improving_by (model_of t env items) (objective_of t.instr)) (means e t env items goal cs a)

  all-found : (n : ℕ) → (trace (objective core) (declared core) None (base core) n).is_cut ≡ false → solved (trace (objective core) (declared core) None (base core) n).marks ≡ better
  all-found n c =
      let s = (core_is_ground e t env items goal cs a).sound in
      search-found (objective core) (declared core) (base core) n (declared_rise core) (base_clear core s) (goal_clear core s.goal) (goal-defined core.tables (facts core) goal) c
      ∙ better-is

  first-found : (n : ℕ) → (rest : List (List ℤ)) × (solved (trace (objective core) (declared core) None (base core) n).marks ++ rest ≡ better)
  first-found n =
      let p = more (objective core) (declared core) (base core) (prefixes (declared core)) n in
      (p.0, p.1 ∙ all-found (prefixes (declared core) + n) (whole (objective core) (declared core) (base core) n))

pub search_finds_all : CoreMeans → ValuesMean → SearchFindsAll
search_finds_all means values e t env items goal cs a true n c = all-found means values e t env items goal cs a n c
search_finds_all means values e t env items goal cs a false n c = all-found means values e t env items goal cs a n c

pub search_begins : CoreMeans → ValuesMean → SearchBegins
search_begins means values e t env items goal cs a true n = first-found means values e t env items goal cs a n
search_begins means values e t env items goal cs a false n = first-found means values e t env items goal cs a n
