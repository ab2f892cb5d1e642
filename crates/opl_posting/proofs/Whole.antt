-- All constraints, behind so many nodes.
use Rattle.std.proofs.Common.{◌≡◌, ℕ, List, [], map, Ok, refl, ap, sym, ◌∙◌}
use Rattle.opl_eval.specs.declared.environment.Environment as code
use Rattle.opl_eval.specs.Visible.{seen, within}
use Rattle.opl_draft.specs.Instances.{Condition, Instance}
use Rattle.opl_expr.specs.declared.forms.Cons.{Cons}
use Rattle.opl_form.specs.Forms.{forms}
use Rattle.opl_form.specs.Nodes.{Made, next}
use Rattle.opl_nodes.specs.declared.fault.FormFault.{FormFault}
use Rattle.opl_nodes.specs.Contexts.{cells}
use Rattle.opl_nodes.specs.Pieces.{Refuses}
use Rattle.opl_declared.specs.Kept.{names_in}
use Rattle.opl_unfolding.specs.Laws.{conditions}
use Rattle.opl_unfolding.specs.Posted.{Posted, posted}
use Rattle.opl_making.proofs.Next.{refused, refuses-same}
use Rattle.opl_posting.specs.declared.plan.Plan.{Plan}
use Rattle.opl_posting.specs.declared.posted.Posted as kept
use Rattle.opl_posting.specs.Walks.{behind, posted_of}
use Rattle.opl_posting.proofs.NodesBefore.{forms-posted}

-- without parameters the declared names alone are visible
pub within-none : (env : code.Environment) → within env [] ≡ seen env
unfolding within seen
within-none env = refl

module _ (plan : Plan) (env : code.Environment) (n : ℕ) (none : kept.Posted) (empty : none.constraints ≡ []) (start : none.nodes ≡ n) (is : List Instance) where
  abbrev all : List Condition
  all = conditions plan.declared.now.items.now (names_in plan.declared.now) (seen env) is

  abbrev whole : Made (List Cons)
  whole = forms plan.sets.now (map cells plan.arrays.now) n all

  abbrev constraints_of : Posted → Made (List Cons)
  constraints_of p = Ok p.0

  from-none : whole ≡ next (behind plan env none is) constraints_of
  from-none = forms-posted plan.sets.now (map cells plan.arrays.now) n all ∙ ap (λ (p : Posted). next (posted plan.sets.now (map cells plan.arrays.now) p all) constraints_of) (λ i. (sym empty i, sym start i))

  pub all-posted : (p : kept.Posted) → behind plan env none is ≡ Ok (posted_of p) → whole ≡ Ok p.constraints
  all-posted p h = from-none ∙ ap (λ (m : Made Posted). next m constraints_of) h

  pub all-refused : (fault : FormFault) → Refuses {A = Posted} (behind plan env none is) fault → Refuses {A = List Cons} whole fault
  all-refused fault h =
      refuses-same (List Cons) (next (behind plan env none is) constraints_of) whole fault (sym from-none) (refused Posted (List Cons) (behind plan env none is) constraints_of fault h)
