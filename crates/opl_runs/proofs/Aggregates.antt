-- Whether an aggregate is clean, by what is found of its parts.
use Rattle.std.proofs.Common.{◌≡◌, ◌&&◌, not, ℕ, Bool, true, false, List, Option, ap, sym, ◌∙◌}
use Rattle.std.specs.List.{list_all}
use Rattle.opl_tree.specs.declared.expression.AggregateOp.{AggregateOp}
use Rattle.opl_term.specs.declared.term.GroupTerm.{GroupTerm}
use Rattle.opl_term.specs.declared.term.Term.{Term}
use Rattle.opl_term.specs.declared.term.Term.TheVariants as terms
use Rattle.opl_meaning.specs.declared.variable.VariableItem.{VariableItem}
use Rattle.opl_meaning.specs.Runs.{Names, group_use}
use Rattle.opl_draft.specs.Unrolled.{has_no_variable, is_clean}
use Rattle.opl_runs.specs.Scopes.{clean_by_form}
use Rattle.opl_runs.proofs.CleanForms.{clean-Aggregate}

module _ (items : List VariableItem) (names : Names) (term : Term) (at : ℕ) (op : AggregateOp) (gs hs : List GroupTerm) (c : Option Term) (t : Term) (d : Bool) where
  aggregate-is : term ≡ terms.Aggregate at op gs c t → hs ≡ gs → d ≡ (list_all (λ g. not (group_use names g)) hs && has_no_variable items names c) →
      clean_by_form items names term ≡ (d && is_clean items names t)
  aggregate-is e p f =
      ap (clean_by_form items names) e ∙ clean-Aggregate items names at op gs c t
      ∙ ap (λ b. b && is_clean items names t) (ap (λ xs. list_all (λ g. not (group_use names g)) xs && has_no_variable items names c) (sym p) ∙ sym f)

  pub aggregate-then : (u : Term) (r : Bool) → term ≡ terms.Aggregate at op gs c t → hs ≡ gs → u ≡ t → d ≡ true →
      d ≡ (list_all (λ g. not (group_use names g)) hs && has_no_variable items names c) → r ≡ is_clean items names u → r ≡ clean_by_form items names term
  aggregate-then u r e p q h f g = g ∙ ap (is_clean items names) q ∙ sym (ap (λ b. b && is_clean items names t) h) ∙ sym (aggregate-is e p f)

  pub aggregate-else : term ≡ terms.Aggregate at op gs c t → hs ≡ gs → d ≡ false → d ≡ (list_all (λ g. not (group_use names g)) hs && has_no_variable items names c) →
      d ≡ clean_by_form items names term
  aggregate-else e p h f = h ∙ sym (ap (λ b. b && is_clean items names t) h) ∙ sym (aggregate-is e p f)
