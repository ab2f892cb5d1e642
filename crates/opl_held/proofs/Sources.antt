-- What a condition comes to is what evaluation of its source finds.
use Rattle.std.proofs.Common.{◌≡◌, ℤ, List, refl, ap, ◌∙◌}
use Rattle.opl_term.specs.declared.term.Term.{Term}
use Rattle.opl_eval.specs.declared.environment.Environment as code
use Rattle.opl_eval.specs.declared.environment.Parameter as parameters
use Rattle.opl_eval.specs.Evaluation.{eval}
use Rattle.opl_eval.specs.Visible.{seen, within}
use Rattle.opl_meaning.specs.Assigned.{with_variables}
use Rattle.opl_meaning.specs.declared.variable.VariableItem.{VariableItem}
use Rattle.opl_draft.specs.Drafts.{draft_value}
use Rattle.opl_draft.specs.Laws as drafts
use Rattle.opl_draft.specs.Laws.{AreDeclared, Fits, UnrolledMeans}
use Rattle.opl_draft.specs.Numbers.{arrays_of, entries}
use Rattle.opl_declared.specs.declared.declared.Declared as declared
use Rattle.opl_declared.specs.Kept.{names_in, texts_of}
use Rattle.opl_groups.specs.declared.scope.Scope.{Scope}
use Rattle.opl_groups.specs.Visits.{sees}
use Rattle.opl_nodes.specs.Contexts.{arrays}
use Rattle.opl_making.specs.declared.site.Site.{Site}
use Rattle.opl_making.specs.Sites.{IsSite, draft, items, names}
use Rattle.opl_held.specs.Laws.{answer, data_fault}
use Rattle.opl_held.specs.Sourced.{AreTyped}
use Rattle.opl_held.specs.Worth.{comes_to}
use Rattle.opl_held.proofs.Answers.{comes_to_answer}

-- parameters add no declared names
items-within : (e : code.Environment) (ps : List parameters.Parameter) (vs : List VariableItem) → arrays_of (entries (seen e).items vs) ≡ drafts.arrays (within e ps) vs
unfolding seen within
items-within e ps vs = refl

names-kept : (d : declared.Declared) → (names_in d).all ≡ texts_of d.names
unfolding names_in
names-kept d = refl

module _ (s : Site) (scope : Scope) (ns : List ℤ) (t : Term) where
  pub source-is : UnrolledMeans → IsSite s scope.environment.now → Fits (items s) ns → AreTyped (items s) (names s) t →
      comes_to (arrays s.context.now) ns (draft s scope t) ≡ answer (data_fault (arrays s.context.now) (draft s scope t)) (eval t (with_variables (items s) ns (sees scope)))
  source-is law site fits typed =
      comes_to_answer (arrays s.context.now) ns (draft s scope t)
      ∙ ap (λ r. answer (data_fault (arrays s.context.now) (draft s scope t)) r)
      (ap (λ cells. draft_value cells ns (draft s scope t)) (site.numbered ∙ items-within scope.environment.now scope.parameters.now (items s))
      ∙ law (items s) (names s) ns (sees scope) t (record { named = names-kept s.declared.now ∙ site.declared.names; single = typed.single }) fits typed.clean)
