-- What constraints are made for, and what the functions of the walk over items answer.
use Rattle.std.specs.Prelude.{◌≡◌, List, map, Result, Ok, Err}
use Rattle.opl_eval.specs.declared.environment.Environment as code
use Rattle.opl_eval.specs.Visible.{seen}
use Rattle.opl_draft.specs.Instances.{Instance}
use Rattle.opl_draft.specs.Numbers.{arrays_of, entries}
use Rattle.opl_form.specs.Nodes.{Made}
use Rattle.opl_nodes.specs.declared.fault.FormFault.{FormFault}
use Rattle.opl_nodes.specs.Contexts.{cells}
use Rattle.opl_nodes.specs.Pieces.{Refuses}
use Rattle.opl_declared.specs.Kept.{IsDeclared, names_in}
use Rattle.opl_unfolding.specs.Laws.{conditions}
use Rattle.opl_unfolding.specs.Posted.{Posted, posted}
use Rattle.opl_posting.specs.declared.plan.Plan.{Plan}
use Rattle.opl_posting.specs.declared.posted.Posted as kept

-- What is kept is right for the declared names of an environment: what each name stands for, and all arrays, each with its number.
pub record IsPlan (p : Plan) (env : code.Environment) : Type 0 where
  pub declared : IsDeclared p.declared.now (seen env).items
  pub numbered : map cells p.arrays.now ≡ arrays_of (entries (seen env).items p.declared.now.items.now)

-- Constraints, and all their nodes.
abbrev pub posted_of : kept.Posted → Posted
posted_of p = (p.constraints, p.nodes)

-- The constraints of instances behind those before, where the declared names have these values.
abbrev pub behind : Plan → code.Environment → kept.Posted → List Instance → Made Posted
behind plan env before is =
    posted plan.sets.now (map cells plan.arrays.now) (posted_of before) (conditions plan.declared.now.items.now (names_in plan.declared.now) (seen env) is)

-- The constraints that are made, with all their nodes, or why there are none.
abbrev pub PostsBehind : Made Posted → Result kept.Posted FormFault → Type 0
PostsBehind made (Ok p) = made ≡ Ok (posted_of p)
PostsBehind made (Err fault) = Refuses made fault
