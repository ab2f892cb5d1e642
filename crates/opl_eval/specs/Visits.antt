-- What is found under the choices for groups of parameters.
use Rattle.std.specs.Prelude.{◌≡◌, ◌≢◌, ℕ, Bool, List, Option, Result, Ok, Err, drop, map}
use Rattle.std.specs.Option.{option_copied, option_map}
use Rattle.opl_term.specs.declared.term.GroupTerm.{GroupTerm}
use Rattle.opl_term.specs.declared.term.Pattern.{Pattern}
use Rattle.opl_term.specs.declared.term.SetTerm.{SetTerm}
use Rattle.opl_term.specs.declared.term.Step.{Step}
use Rattle.opl_term.specs.declared.term.Term.{Term}
use Rattle.opl_value.specs.declared.value.Value.{Value}
use Rattle.opl_eval.specs.declared.arithmetic.Operation.{Operation}
use Rattle.opl_eval.specs.declared.evaluate.Visit.{Visit}
use Rattle.opl_eval.specs.declared.fault.EvalFault.{EvalFault}
use Rattle.opl_eval.specs.declared.fault.EvalFault.TheVariants.{OutOfMemory}
use Rattle.opl_eval.specs.declared.gather.Gathered.{Gathered}
use Rattle.opl_eval.specs.declared.turns.Ahead.{Ahead}
use Rattle.opl_eval.specs.Arithmetic.{then}
use Rattle.opl_eval.specs.Evaluation.{Environment, Found, all, bodies, declaration_of, elements, eval, group_meaning, meaning, set_meaning, step_meaning}
use Rattle.opl_eval.specs.Gathered.{with_more}
use Rattle.opl_eval.specs.Turns.{Inner, ahead_in, chosen}

-- what terms come to, one after another
unfoldable pub values_in : List Term → Environment → Found (List Value)
values_in ts env = all (map (λ t. eval t env) ts)

-- the operations of steps, one after another
unfoldable pub operations_in : List Step → Environment → Found (List Operation)
operations_in ss env = all (map (λ s. step_meaning s env) ss)

-- what a body comes to under all choices for which a condition holds
unfoldable pub bodies_in : List GroupTerm → Option Term → Term → Environment → Found (List Value)
bodies_in gs condition body env = bodies (map group_meaning gs) (option_map meaning condition) (meaning body) env

-- the bodies of a visit
abbrev pub bodies_of : Visit → Environment → Found (List Value)
bodies_of v env = bodies_in v.groups.now (option_copied v.condition) v.body.now env

-- the same from a group on
abbrev pub bodies_at : Visit → Inner
bodies_at v place env = bodies_in (drop place v.groups.now) (option_copied v.condition) v.body.now env

-- what is found behind a group under the choices for it
unfoldable pub group_visits : GroupTerm → (Environment → Found (List Value)) → Environment → Found (List Value)
group_visits g inner env =
    then ((group_meaning g).over.value env) (λ v. chosen (group_meaning g).is_ordered (group_meaning g).patterns (elements (declaration_of ((group_meaning g).over.item env)) v) inner env)

-- the same by the group's patterns and its set
unfoldable pub over_visits : Bool → List Pattern → SetTerm → (Environment → Found (List Value)) → Environment → Found (List Value)
over_visits is_ordered ps over inner env =
    then ((set_meaning over).value env) (λ v. chosen is_ordered ps (elements (declaration_of ((set_meaning over).item env)) v) inner env)

-- what a function answers that gathers what is found at once, and says what is next
abbrev pub Reaches : Inner → ℕ → Environment → Gathered → Gathered → Result Ahead EvalFault → Type 0
Reaches inner place env before after (Ok next) = with_more before (inner place env) ≡ with_more after (ahead_in inner next env)
Reaches inner place env before after (Err e) = e ≢ OutOfMemory → inner place env ≡ Err e
