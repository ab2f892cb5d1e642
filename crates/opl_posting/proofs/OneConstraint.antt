-- The constraint of one condition.
use Rattle.std.proofs.Common.{◌≡◌, ◌+◌, ℕ, [], ◌∷◌, ◌++◌, map, Result, Ok, refl, ap, sym, ◌∙◌}
use Rattle.opl_term.specs.declared.term.Term.{Term}
use Rattle.opl_eval.specs.Visible.{seen, within}
use Rattle.opl_draft.specs.Instances.{constraint}
use Rattle.opl_draft.specs.Unrolled.{unrolled}
use Rattle.opl_form.specs.Measures.{part_nodes}
use Rattle.opl_form.specs.Nodes.{Made, next}
use Rattle.opl_form.specs.Parts.{Form, as_condition}
use Rattle.opl_groups.specs.declared.scope.Scope.{Scope}
use Rattle.opl_groups.specs.Visits.{sees}
use Rattle.opl_nodes.specs.declared.context.Context.{Context}
use Rattle.opl_nodes.specs.declared.fault.FormFault.{FormFault}
use Rattle.opl_nodes.specs.declared.part.Part.{Part}
use Rattle.opl_nodes.specs.Contexts.{cells}
use Rattle.opl_nodes.specs.Pieces as pieces
use Rattle.opl_nodes.specs.Pieces.{IsMade, Refuses}
use Rattle.opl_declared.specs.Kept.{names_in}
use Rattle.opl_unfolding.specs.Onto.{truth_made}
use Rattle.opl_unfolding.specs.Posted.{Posted}
use Rattle.opl_making.proofs.Next.{refused, refuses-same}
use Rattle.opl_posting.specs.declared.plan.Plan.{Plan}
use Rattle.opl_posting.specs.declared.posted.Posted as kept
use Rattle.opl_posting.specs.Walks.{PostsBehind, behind}
use Rattle.opl_posting.proofs.Behind.{posts-same}

module _ (plan : Plan) (scope : Scope) (at : ℕ) (t : Term) (p : kept.Posted) where
  -- what makes its form
  abbrev pub truth : Made Form
  truth = truth_made plan.sets.now (map cells plan.arrays.now) at p.nodes (unrolled plan.declared.now.items.now (names_in plan.declared.now) t (sees scope))

  abbrev with_form : Form → Made Posted
  with_form g = Ok (p.constraints ++ as_condition g ∷ [], p.nodes + part_nodes g)

  -- the parameters of an instance are those of its scope
  one-posts : behind plan scope.environment.now p (constraint at t (sees scope)) ≡ next truth with_form
  unfolding within seen
  one-posts = refl

  pub one-made : (c : Context) (part : Part) (r : Result kept.Posted FormFault) → IsMade c truth part →
      ((part.nodes ≡ part_nodes (pieces.form part)) → PostsBehind (with_form (pieces.form part)) r) → PostsBehind (behind plan scope.environment.now p (constraint at t (sees scope))) r
  one-made c part r m h =
      posts-same (behind plan scope.environment.now p (constraint at t (sees scope))) (with_form (pieces.form part)) r (one-posts ∙ ap (λ (m : Made Form). next m with_form) m.is_form) (h m.is_part.nodes)

  pub one-refused : (fault : FormFault) → Refuses {A = Form} truth fault → Refuses {A = Posted} (behind plan scope.environment.now p (constraint at t (sees scope))) fault
  one-refused fault h =
      refuses-same Posted (next truth with_form) (behind plan scope.environment.now p (constraint at t (sees scope))) fault (sym one-posts) (refused Form Posted truth with_form fault h)
