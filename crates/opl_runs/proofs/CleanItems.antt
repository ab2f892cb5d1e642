-- Whether variables stand in each form of items only where they may, one layer at a time.
use Rattle.std.proofs.Common.{◌≡◌, ◌&&◌, not, ℕ, Bool, true, List, ◌∷◌, map, Option, None, Some, refl, ap, ◌∙◌, sym}
use Rattle.std.specs.Option.{option_map}
use Rattle.opl_tree.specs.declared.expression.ExprTree.{ExprTree}
use Rattle.opl_tree.specs.declared.expression.ParamsTree.{ParamsTree}
use Rattle.opl_tree.specs.declared.expression.PostTree.{PostTree}
use Rattle.opl_tree.specs.declared.instruction.BlockTree.{BlockTree}
use Rattle.opl_tree.specs.declared.instruction.ItemTree.{ItemTree}
use Rattle.opl_tree.specs.declared.instruction.ItemsTree.{ItemsTree}
use Rattle.opl_tree.specs.declared.instruction.RequiresTree.{RequiresTree}
use Rattle.opl_tree.specs.declared.instruction.ItemTree.TheVariants as item_forms
use Rattle.opl_tree.specs.declared.instruction.ItemsTree.TheVariants as lists
use Rattle.opl_tree.specs.declared.instruction.ItemTree.TheViews.{out-BlockTree, roll-BlockTree, roll-out-BlockTree}
use Rattle.opl_tree.specs.declared.instruction.ItemTree.TheFolds.{fold-roll-ItemTree, fold-roll-ItemsTree, fold-roll-BlockTree}
use Rattle.opl_term.specs.Terms.{expr_term, params_term}
use Rattle.opl_meaning.specs.declared.variable.VariableItem.{VariableItem}
use Rattle.opl_meaning.specs.Runs.{Names}
use Rattle.opl_draft.specs.Clean.{all_clean, are_data, is_clean_block, or_clean}
use Rattle.opl_draft.specs.Unrolled.{is_clean, is_mentioned}
use Rattle.opl_runs.specs.Items.{item_clean, items_clean}

pub clean-Block : (items : List VariableItem) (names : Names) (inner : BlockTree) → item_clean items names (item_forms.Block inner) ≡ is_clean_block items names inner
unfolding item_clean items_clean is_clean_block
clean-Block items names inner = ap (item_clean items names) (sym (item_forms.rolls-Block inner)) ∙ rw fold-roll-ItemTree refl

pub clean-ForAll : (items : List VariableItem) (names : Names) (at : ℕ) (params : ParamsTree) (body : ItemTree) → item_clean items names (item_forms.ForAll at params body) ≡ (are_data items names (params_term params) && item_clean items names body)
unfolding item_clean items_clean is_clean_block
clean-ForAll items names at params body = ap (item_clean items names) (sym (item_forms.rolls-ForAll at params body)) ∙ rw fold-roll-ItemTree refl

pub clean-If : (items : List VariableItem) (names : Names) (at : ℕ) (condition : ExprTree) (holds : ItemsTree) (fails : Option ItemsTree) → item_clean items names (item_forms.If at condition holds fails) ≡ (not (is_mentioned items names (expr_term condition)) && (items_clean items names holds && or_clean (option_map (items_clean items names) fails)))
unfolding item_clean items_clean is_clean_block
clean-If items names at condition holds None = ap (item_clean items names) (sym (item_forms.rolls-If at condition holds None)) ∙ rw fold-roll-ItemTree refl
clean-If items names at condition holds (Some fails) = ap (item_clean items names) (sym (item_forms.rolls-If at condition holds (Some fails))) ∙ rw fold-roll-ItemTree refl

pub clean-Precedes : (items : List VariableItem) (names : Names) (at : ℕ) (first second : PostTree) → item_clean items names (item_forms.Precedes at first second) ≡ true
unfolding item_clean items_clean is_clean_block
clean-Precedes items names at first second = ap (item_clean items names) (sym (item_forms.rolls-Precedes at first second)) ∙ rw fold-roll-ItemTree refl

pub clean-Requires : (items : List VariableItem) (names : Names) (t : RequiresTree) → item_clean items names (item_forms.Requires t) ≡ true
unfolding item_clean items_clean is_clean_block
clean-Requires items names t = ap (item_clean items names) (sym (item_forms.rolls-Requires t)) ∙ rw fold-roll-ItemTree refl

pub clean-Constraint : (items : List VariableItem) (names : Names) (t : ExprTree) → item_clean items names (item_forms.Constraint t) ≡ is_clean items names (expr_term t)
unfolding item_clean items_clean is_clean_block
clean-Constraint items names t = ap (item_clean items names) (sym (item_forms.rolls-Constraint t)) ∙ rw fold-roll-ItemTree refl

pub clean-Empty : (items : List VariableItem) (names : Names) (at : ℕ) → items_clean items names (lists.Empty at) ≡ true
unfolding item_clean items_clean is_clean_block
clean-Empty items names at = ap (items_clean items names) (sym (lists.rolls-Empty at)) ∙ rw fold-roll-ItemsTree refl

pub clean-Several : (items : List VariableItem) (names : Names) (at : ℕ) (first : ItemTree) (rest : List ItemTree) (is_closed : Bool) →
    items_clean items names (lists.Several at first rest is_closed) ≡ all_clean (item_clean items names first ∷ map (item_clean items names) rest)
unfolding item_clean items_clean is_clean_block
clean-Several items names at first rest is_closed = ap (items_clean items names) (sym (lists.rolls-Several at first rest is_closed)) ∙ rw fold-roll-ItemsTree refl

clean-block : (items : List VariableItem) (names : Names) (at : ℕ) (list : ItemsTree) → is_clean_block items names (roll-BlockTree (record { at = at; items = list })) ≡ items_clean items names list
unfolding item_clean items_clean is_clean_block
clean-block items names at list = rw fold-roll-BlockTree refl

pub clean-is : (items : List VariableItem) (names : Names) (t : BlockTree) → is_clean_block items names t ≡ items_clean items names (out-BlockTree t).items
clean-is items names t = ap (is_clean_block items names) (sym (roll-out-BlockTree t)) ∙ clean-block items names (out-BlockTree t).at (out-BlockTree t).items

pub ruleset clean_items = (clean-Block, clean-ForAll, clean-If, clean-Precedes, clean-Requires, clean-Constraint, clean-Empty, clean-Several, clean-is)
