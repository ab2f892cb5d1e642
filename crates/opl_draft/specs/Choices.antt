-- What is listed under all choices of parameters, in their order. Where a set or a condition has a fault, something that stands for the
-- fault ends the list.
use Rattle.std.specs.Prelude.{cond, List, [], ◌∷◌, Option, Some, None, Ok, Err}
use Rattle.std.specs.List.{flat_map}
use Rattle.opl_term.specs.declared.term.Term.{Term}
use Rattle.opl_eval.specs.declared.fault.EvalFault.{EvalFault}
use Rattle.opl_eval.specs.Evaluation.{Environment, Found, Group, choices, declaration_of, elements, eval, is_true, with_parameters}

-- what follows from what is found, or its fault
abbrev pub or_stop : {A B : Type 0} → (EvalFault → B) → Found A → (A → List B) → List B
or_stop stop (Ok a) next = next a
or_stop stop (Err fault) next = stop fault ∷ []

-- the one where a condition holds, the other where it fails
abbrev pub branched : {A : Type 0} → (EvalFault → A) → Term → (Environment → List A) → (Environment → List A) → Environment → List A
branched stop condition holds fails env = or_stop stop (eval condition env) (λ v. cond (is_true v) (holds env) (fails env))

-- what stands behind a condition, if there is one
abbrev pub where_true : {A : Type 0} → (EvalFault → A) → Option Term → (Environment → List A) → Environment → List A
where_true stop None inner env = inner env
where_true stop (Some condition) inner env = branched stop condition inner (λ env. []) env

-- under all choices of the groups, the first varying slowest; the set of each is found anew for each choice of those before it
abbrev pub under_groups : {A : Type 0} → (EvalFault → A) → List Group → (Environment → List A) → Environment → List A
under_groups stop [] inner env = inner env
under_groups stop (g ∷ gs) inner env =
    or_stop stop (g.over.value env) (λ v. flat_map (λ ps. under_groups stop gs inner (with_parameters ps env)) (choices g (elements (declaration_of (g.over.item env)) v)))

-- under `(GROUPS : c)`
abbrev pub under : {A : Type 0} → (EvalFault → A) → List Group → Option Term → (Environment → List A) → Environment → List A
under stop groups condition inner env = under_groups stop groups (where_true stop condition inner) env
