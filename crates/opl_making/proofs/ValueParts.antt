-- What is made of expressions that name no decision variable.
use Rattle.std.proofs.Common.{◌≡◌, ◌≢◌, ℕ, Result, Ok, Err, ap, sym}
use Rattle.opl_term.specs.declared.term.Term.{Term}
use Rattle.opl_value.specs.declared.value.Value.{Value}
use Rattle.opl_eval.specs.declared.fault.EvalFault.{EvalFault}
use Rattle.opl_eval.specs.declared.fault.EvalFault.TheVariants as faults
use Rattle.opl_eval.specs.Evaluation.{eval}
use Rattle.opl_draft.specs.Forms as terms_of
use Rattle.opl_draft.specs.Unrolled.{data_draft}
use Rattle.opl_form.specs.Nodes as nodes
use Rattle.opl_form.specs.Parts.{Form}
use Rattle.opl_groups.specs.declared.scope.Scope.{Scope}
use Rattle.opl_groups.specs.Visits.{sees}
use Rattle.opl_nodes.specs.declared.fault.FormFault.{FormFault}
use Rattle.opl_nodes.specs.declared.part.Part.{Part}
use Rattle.opl_nodes.specs.Pieces.{Makes, Refuses, told}
use Rattle.opl_unfolding.specs.Unrolling.{value_draft}
use Rattle.opl_making.specs.declared.site.Site.{Site}
use Rattle.opl_making.specs.Sites.{items, maker, names}
use Rattle.opl_making.proofs.Next.{makes-same, refuses-told}

module _ (s : Site) (scope : Scope) (t : Term) (n : ℕ) where
  pub value-made : (at : ℕ) (v : Value) (r : Result Part FormFault) → at ≡ terms_of.place (items s) (names s) t → eval t (sees scope) ≡ Ok v → Makes s.context.now (nodes.value_node s.context.now.item at n v) r →
      Makes s.context.now (maker s n (value_draft (items s) (names s) t (sees scope))) r
  value-made at v r e h k =
      makes-same s.context.now (maker s n (data_draft at (Ok v))) (maker s n (value_draft (items s) (names s) t (sees scope))) r (λ i. maker s n (data_draft (e i) (sym h i))) k

  pub value-refused : (fault : EvalFault) → (fault ≢ faults.OutOfMemory → eval t (sees scope) ≡ Err fault) → Refuses {A = Form} (maker s n (value_draft (items s) (names s) t (sees scope))) (told fault)
  value-refused fault h = refuses-told Form (maker s n (value_draft (items s) (names s) t (sees scope))) fault (λ ne. ap (λ r. maker s n (data_draft (terms_of.place (items s) (names s) t) r)) (h ne))
