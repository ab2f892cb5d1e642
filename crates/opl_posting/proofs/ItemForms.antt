-- What each form of items gives.
use Rattle.std.proofs.Common.{◌≡◌, ℕ, Bool, List, [], ◌∷◌, map, Option, None, Some, refl, sym, ap, ◌∙◌}
use Rattle.std.specs.Option.{option_map}
use Rattle.opl_tree.specs.declared.expression.ExprTree.{ExprTree}
use Rattle.opl_tree.specs.declared.expression.ParamsTree.{ParamsTree}
use Rattle.opl_tree.specs.declared.expression.PostTree.{PostTree}
use Rattle.opl_tree.specs.declared.instruction.BlockTree.{BlockTree}
use Rattle.opl_tree.specs.declared.instruction.ItemTree.{ItemTree}
use Rattle.opl_tree.specs.declared.instruction.ItemsTree.{ItemsTree}
use Rattle.opl_tree.specs.declared.instruction.RequiresTree.{RequiresTree}
use Rattle.opl_tree.specs.declared.instruction.ItemTree.TheVariants as item_forms
use Rattle.opl_tree.specs.declared.instruction.ItemsTree.TheVariants as lists
use Rattle.opl_tree.specs.declared.instruction.ItemTree.TheViews.{out-BlockTree, roll-BlockTree, roll-out-BlockTree}
use Rattle.opl_tree.specs.declared.instruction.ItemTree.TheFolds.{fold-roll-ItemTree, fold-roll-ItemsTree, fold-roll-BlockTree}
use Rattle.opl_term.specs.Terms.{expr_term, params_term}
use Rattle.opl_meaning.specs.Uses.{place_of}
use Rattle.opl_eval.specs.Evaluation.{Environment}
use Rattle.opl_draft.specs.Instances.{Instances, block_instances, constraint, decided, for_all_params, in_turn, nothing, or_nothing}
use Rattle.opl_posting.specs.Items.{item_instances, items_instances}

pub instances-Block : (inner : BlockTree) → item_instances (item_forms.Block inner) ≡ block_instances inner
unfolding item_instances items_instances block_instances
instances-Block inner = ap item_instances (sym (item_forms.rolls-Block inner)) ∙ rw fold-roll-ItemTree refl

pub instances-ForAll : (at : ℕ) (params : ParamsTree) (body : ItemTree) → item_instances (item_forms.ForAll at params body) ≡ for_all_params (params_term params) (item_instances body)
unfolding item_instances items_instances block_instances
instances-ForAll at params body = ap item_instances (sym (item_forms.rolls-ForAll at params body)) ∙ rw fold-roll-ItemTree refl

pub instances-If : (at : ℕ) (condition : ExprTree) (holds : ItemsTree) (fails : Option ItemsTree) →
    item_instances (item_forms.If at condition holds fails) ≡ decided (expr_term condition) (items_instances holds) (or_nothing (option_map items_instances fails))
unfolding item_instances items_instances block_instances
instances-If at condition holds None = ap item_instances (sym (item_forms.rolls-If at condition holds None)) ∙ rw fold-roll-ItemTree refl
instances-If at condition holds (Some fails) = ap item_instances (sym (item_forms.rolls-If at condition holds (Some fails))) ∙ rw fold-roll-ItemTree refl

pub instances-Precedes : (at : ℕ) (first second : PostTree) → item_instances (item_forms.Precedes at first second) ≡ nothing
unfolding item_instances items_instances block_instances
instances-Precedes at first second = ap item_instances (sym (item_forms.rolls-Precedes at first second)) ∙ rw fold-roll-ItemTree refl

pub instances-Requires : (t : RequiresTree) → item_instances (item_forms.Requires t) ≡ nothing
unfolding item_instances items_instances block_instances
instances-Requires t = ap item_instances (sym (item_forms.rolls-Requires t)) ∙ rw fold-roll-ItemTree refl

pub instances-Constraint : (t : ExprTree) → item_instances (item_forms.Constraint t) ≡ constraint (place_of (expr_term t)) (expr_term t)
unfolding item_instances items_instances block_instances
instances-Constraint t = ap item_instances (sym (item_forms.rolls-Constraint t)) ∙ rw fold-roll-ItemTree refl

pub instances-Empty : (at : ℕ) → items_instances (lists.Empty at) ≡ nothing
unfolding item_instances items_instances block_instances
instances-Empty at = ap items_instances (sym (lists.rolls-Empty at)) ∙ rw fold-roll-ItemsTree refl

pub instances-Several : (at : ℕ) (first : ItemTree) (rest : List ItemTree) (is_closed : Bool) →
    items_instances (lists.Several at first rest is_closed) ≡ in_turn (item_instances first ∷ map item_instances rest)
unfolding item_instances items_instances block_instances
instances-Several at first rest is_closed = ap items_instances (sym (lists.rolls-Several at first rest is_closed)) ∙ rw fold-roll-ItemsTree refl

block-roll : (at : ℕ) (items : ItemsTree) → block_instances (roll-BlockTree (record { at = at; items = items })) ≡ items_instances items
unfolding item_instances items_instances block_instances
block-roll at items = rw fold-roll-BlockTree refl

pub instances-block : (t : BlockTree) → block_instances t ≡ items_instances (out-BlockTree t).items
instances-block t = ap block_instances (sym (roll-out-BlockTree t)) ∙ block-roll (out-BlockTree t).at (out-BlockTree t).items

-- ---- where these names are visible

module _ (t : ItemTree) (e : Environment) where
  pub at-Block : (inner : BlockTree) → t ≡ item_forms.Block inner → item_instances t e ≡ block_instances inner e
  at-Block inner is = ap (λ u. item_instances u e) is ∙ ap (λ (f : Instances). f e) (instances-Block inner)

  pub at-ForAll : (at : ℕ) (params : ParamsTree) (body one : ItemTree) → t ≡ item_forms.ForAll at params body → one ≡ body → item_instances t e ≡ for_all_params (params_term params) (item_instances one) e
  at-ForAll at params body one is same =
      ap (λ u. item_instances u e) is ∙ ap (λ (f : Instances). f e) (instances-ForAll at params body) ∙ ap (λ b. for_all_params (params_term params) (item_instances b) e) (sym same)

  pub at-If : (at : ℕ) (condition : ExprTree) (holds : ItemsTree) (fails : Option ItemsTree) → t ≡ item_forms.If at condition holds fails →
      item_instances t e ≡ decided (expr_term condition) (items_instances holds) (or_nothing (option_map items_instances fails)) e
  at-If at condition holds fails is = ap (λ u. item_instances u e) is ∙ ap (λ (f : Instances). f e) (instances-If at condition holds fails)

  pub at-Precedes : (at : ℕ) (first second : PostTree) → t ≡ item_forms.Precedes at first second → item_instances t e ≡ []
  at-Precedes at first second is = ap (λ u. item_instances u e) is ∙ ap (λ (f : Instances). f e) (instances-Precedes at first second)

  pub at-Requires : (required : RequiresTree) → t ≡ item_forms.Requires required → item_instances t e ≡ []
  at-Requires required is = ap (λ u. item_instances u e) is ∙ ap (λ (f : Instances). f e) (instances-Requires required)

  pub at-Constraint : (condition : ExprTree) → t ≡ item_forms.Constraint condition → item_instances t e ≡ constraint (place_of (expr_term condition)) (expr_term condition) e
  at-Constraint condition is = ap (λ u. item_instances u e) is ∙ ap (λ (f : Instances). f e) (instances-Constraint condition)

module _ (t : ItemsTree) (e : Environment) where
  pub at-Empty : (at : ℕ) → t ≡ lists.Empty at → items_instances t e ≡ []
  at-Empty at is = ap (λ u. items_instances u e) is ∙ ap (λ (f : Instances). f e) (instances-Empty at)

  pub at-Several : (at : ℕ) (first one : ItemTree) (rest others : List ItemTree) (is_closed : Bool) → t ≡ lists.Several at first rest is_closed → one ≡ first → others ≡ rest →
      items_instances t e ≡ in_turn (item_instances one ∷ map item_instances others) e
  at-Several at first one rest others is_closed is same alike =
      ap (λ u. items_instances u e) is ∙ ap (λ (f : Instances). f e) (instances-Several at first rest is_closed)
      ∙ ap (λ i. in_turn (item_instances i ∷ map item_instances rest) e) (sym same) ∙ ap (λ is. in_turn (item_instances one ∷ map item_instances is) e) (sym alike)

pub at-block : (t : BlockTree) (e : Environment) → block_instances t e ≡ items_instances (out-BlockTree t).items e
at-block t e = ap (λ (f : Instances). f e) (instances-block t)
