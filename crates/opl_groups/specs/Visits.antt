-- What the program's values stand for in the definitions, and what its functions answer.
use Rattle.std.specs.Prelude.{◌≡◌, ◌≢◌, Bool, true, false, List, [], ◌∷◌, drop, map, Some, Result, Ok, Err}
use Rattle.std.specs.Option.{option_copied}
use Rattle.opl_term.specs.declared.term.Pattern.{Pattern}
use Rattle.opl_term.specs.declared.term.SetTerm.{SetTerm}
use Rattle.opl_eval.specs.declared.fault.EvalFault.{EvalFault}
use Rattle.opl_eval.specs.declared.fault.EvalFault.TheVariants.{OutOfMemory}
use Rattle.opl_eval.specs.Evaluation.{Environment, declaration_of, elements, group_meaning, set_meaning}
use Rattle.opl_eval.specs.Visible.{within}
use Rattle.opl_term.specs.declared.term.GroupTerm.{GroupTerm}
use Rattle.opl_groups.specs.declared.choices.Choices.{Choices}
use Rattle.opl_groups.specs.declared.choices.Visit.{Visit}
use Rattle.opl_groups.specs.declared.choices.Progress.{Progress}
use Rattle.opl_groups.specs.declared.choices.Progress.TheVariants as progress
use Rattle.opl_groups.specs.declared.course.Ahead.{Ahead}
use Rattle.opl_groups.specs.declared.course.Ahead.TheVariants as ahead
use Rattle.opl_eval.specs.declared.chosen.Turns.{Turns}
use Rattle.opl_eval.specs.declared.turns.Turn.{Turn}
use Rattle.opl_eval.specs.Turns.{under}
use Rattle.opl_groups.specs.declared.scope.Scope.{Scope}
use Rattle.opl_groups.specs.Courses.{Inner, ahead_in, along, pending, still}
use Rattle.opl_groups.specs.Met.{Met, first, met_under, or_stopped}
use Rattle.opl_groups.specs.Met.Met.{chosen, stopped}

-- ---- what is visible

-- the visible names with their values
abbrev pub sees : Scope → Environment
sees s = within s.environment.now s.parameters.now

-- the same with what turns chose
abbrev pub sees_under : Scope → Turns → Environment
sees_under s ts = under (sees s) ts.chosen.items

-- ---- what is met

-- what is met from the group at a place on
abbrev pub met_at : Visit → Inner
met_at v place env = met_under (map group_meaning (drop place v.groups.now)) (option_copied v.condition) env

-- what is next before the first choice, and behind one
abbrev pub start : Bool → Ahead
start true = ahead.Back
start false = ahead.Groups 0

-- the groups and the condition of choices
abbrev pub visit_of : Choices → Visit
visit_of c = record { groups = c.groups; condition = c.condition }

-- the names that are visible under the latest choice, and what is met behind it
unfoldable pub latest : Choices → Environment → Environment
latest c env = under env c.turns.chosen.items

unfoldable pub behind : Choices → Environment → List Met
behind c env = pending (met_at (visit_of c)) env (start c.is_begun) c.turns.chosen.items

-- what is met under the choices for a group, and for its patterns over a set
unfoldable pub group_met : GroupTerm → (Environment → List Met) → Environment → List Met
group_met g inner env =
    or_stopped ((group_meaning g).over.value env) (λ v. along (group_meaning g).is_ordered (group_meaning g).patterns (elements (declaration_of ((group_meaning g).over.item env)) v) inner env)

unfoldable pub over_met : Bool → List Pattern → SetTerm → (Environment → List Met) → Environment → List Met
over_met is_ordered ps over inner env =
    or_stopped ((set_meaning over).value env) (λ v. along is_ordered ps (elements (declaration_of ((set_meaning over).item env)) v) inner env)

-- ---- what functions answer

-- whether there is one more choice
abbrev pub Advances : List Met → Environment → List Met → Result Bool EvalFault → Type 0
Advances before env after (Ok true) = before ≡ chosen env ∷ after
Advances before env after (Ok false) = before ≡ []
Advances before env after (Err fault) = fault ≢ OutOfMemory → first before ≡ Some (stopped fault)

-- a step on
abbrev pub Steps : Inner → Environment → List Met → List Turn → Result Progress EvalFault → Type 0
Steps inner env before ts (Ok (progress.On next)) = before ≡ pending inner env next ts
Steps inner env before ts (Ok progress.Met) = before ≡ chosen (under env ts) ∷ still inner env [] ts
Steps inner env before ts (Ok progress.Ended) = before ≡ []
Steps inner env before ts (Err fault) = fault ≢ OutOfMemory → first before ≡ Some (stopped fault)

-- a step from a group on, or behind the last
abbrev pub Reaches : Inner → Environment → List Met → Result Progress EvalFault → Type 0
Reaches inner env before (Ok (progress.On next)) = before ≡ ahead_in inner next env
Reaches inner env before (Ok progress.Met) = before ≡ chosen env ∷ []
Reaches inner env before (Ok progress.Ended) = ⊥
Reaches inner env before (Err fault) = fault ≢ OutOfMemory → first before ≡ Some (stopped fault)

-- whether a condition holds, if there is one
abbrev pub Decides : List Met → Environment → Result Bool EvalFault → Type 0
Decides before env (Ok true) = before ≡ chosen env ∷ []
Decides before env (Ok false) = before ≡ []
Decides before env (Err fault) = fault ≢ OutOfMemory → first before ≡ Some (stopped fault)

-- what is next under groups
abbrev pub Leads : (Inner → List Met) → Environment → Result Ahead EvalFault → Type 0
Leads what env (Ok next) = (inner : Inner) → what inner ≡ ahead_in inner next env
Leads what env (Err fault) = fault ≢ OutOfMemory → (inner : Inner) → first (what inner) ≡ Some (stopped fault)

-- what is next behind the last group
abbrev pub met : Bool → Progress
met true = progress.Met
met false = progress.On ahead.Back
