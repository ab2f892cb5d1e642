-- The choices of parameters under groups, one after another: the first group varies slowest, and the set of each is found anew for each
-- choice of those before it.
use Rattle.std.specs.Prelude.{cond, List, [], ◌∷◌, map, Option, Some, None, Ok, Err}
use Rattle.std.specs.List.{flat_map}
use Rattle.opl_term.specs.declared.term.Term.{Term}
use Rattle.opl_eval.specs.declared.fault.EvalFault.{EvalFault}
use Rattle.opl_eval.specs.Evaluation.{Environment, Found, Group, choices, declaration_of, elements, eval, is_true, with_parameters}

-- the names that are visible under a choice, or the fault of a set or of a condition, behind which nothing is chosen
pub data Met : Type 0 where
  chosen : Environment → Met
  stopped : EvalFault → Met

-- what follows from what is found, or its fault
abbrev pub or_stopped : {A : Type 0} → Found A → (A → List Met) → List Met
or_stopped (Ok a) next = next a
or_stopped (Err fault) next = stopped fault ∷ []

-- the choice that was made, where a condition holds
abbrev pub where_true : Option Term → Environment → List Met
where_true None env = chosen env ∷ []
where_true (Some condition) env = or_stopped (eval condition env) (λ v. cond (is_true v) (chosen env ∷ []) [])

-- all choices under groups for which a condition holds
abbrev pub met_under : List Group → Option Term → Environment → List Met
met_under [] condition env = where_true condition env
met_under (g ∷ gs) condition env =
    or_stopped (g.over.value env) (λ v. flat_map (λ ps. met_under gs condition (with_parameters ps env)) (choices g (elements (declaration_of (g.over.item env)) v)))

-- the first of these, if there is one
abbrev pub first : List Met → Option Met
first [] = None
first (m ∷ ms) = Some m
