-- The first form in each form of items that does not run, one layer at a time.
use Rattle.std.proofs.Common.{◌≡◌, ℕ, Bool, List, ◌∷◌, map, Option, None, Some, refl, ap, ◌∙◌, sym}
use Rattle.std.specs.Option.{option_map}
use Rattle.opl_tree.specs.declared.expression.ExprTree.{ExprTree}
use Rattle.opl_tree.specs.declared.expression.ParamsTree.{ParamsTree}
use Rattle.opl_tree.specs.declared.expression.PostTree.{PostTree}
use Rattle.opl_tree.specs.declared.instruction.BlockTree.{BlockTree}
use Rattle.opl_tree.specs.declared.instruction.ItemTree.{ItemTree}
use Rattle.opl_tree.specs.declared.instruction.ItemsTree.{ItemsTree}
use Rattle.opl_tree.specs.declared.instruction.RequiresTree.{RequiresTree}
use Rattle.opl_tree.specs.declared.instruction.ItemTree.TheVariants as item_forms
use Rattle.opl_tree.specs.declared.instruction.ItemsTree.TheVariants as lists
use Rattle.opl_tree.specs.declared.instruction.ItemTree.TheViews.{out-BlockTree, roll-BlockTree, roll-out-BlockTree}
use Rattle.opl_tree.specs.declared.instruction.ItemTree.TheFolds.{fold-roll-ItemTree, fold-roll-ItemsTree, fold-roll-BlockTree}
use Rattle.opl_meaning.specs.Runs.{first_of}
use Rattle.opl_meaning.specs.Uses.{or_else}
use Rattle.opl_runs.specs.Items.{item_unrun, items_unrun}
use Rattle.opl_runs.specs.Runs.{block_unrun, else_unrun}

pub unrun-Block : (inner : BlockTree) → item_unrun (item_forms.Block inner) ≡ block_unrun inner
unfolding item_unrun items_unrun block_unrun
unrun-Block inner = ap item_unrun (sym (item_forms.rolls-Block inner)) ∙ rw fold-roll-ItemTree refl

pub unrun-ForAll : (at : ℕ) (params : ParamsTree) (body : ItemTree) → item_unrun (item_forms.ForAll at params body) ≡ item_unrun body
unfolding item_unrun items_unrun block_unrun
unrun-ForAll at params body = ap item_unrun (sym (item_forms.rolls-ForAll at params body)) ∙ rw fold-roll-ItemTree refl

pub unrun-If : (at : ℕ) (condition : ExprTree) (holds : ItemsTree) (fails : Option ItemsTree) → item_unrun (item_forms.If at condition holds fails) ≡ or_else (items_unrun holds) (else_unrun (option_map items_unrun fails))
unfolding item_unrun items_unrun block_unrun
unrun-If at condition holds None = ap item_unrun (sym (item_forms.rolls-If at condition holds None)) ∙ rw fold-roll-ItemTree refl
unrun-If at condition holds (Some fails) = ap item_unrun (sym (item_forms.rolls-If at condition holds (Some fails))) ∙ rw fold-roll-ItemTree refl

pub unrun-Precedes : (at : ℕ) (first second : PostTree) → item_unrun (item_forms.Precedes at first second) ≡ Some at
unfolding item_unrun items_unrun block_unrun
unrun-Precedes at first second = ap item_unrun (sym (item_forms.rolls-Precedes at first second)) ∙ rw fold-roll-ItemTree refl

pub unrun-Requires : (t : RequiresTree) → item_unrun (item_forms.Requires t) ≡ Some t.at
unfolding item_unrun items_unrun block_unrun
unrun-Requires t = ap item_unrun (sym (item_forms.rolls-Requires t)) ∙ rw fold-roll-ItemTree refl

pub unrun-Constraint : (t : ExprTree) → item_unrun (item_forms.Constraint t) ≡ None
unfolding item_unrun items_unrun block_unrun
unrun-Constraint t = ap item_unrun (sym (item_forms.rolls-Constraint t)) ∙ rw fold-roll-ItemTree refl

pub unrun-Empty : (at : ℕ) → items_unrun (lists.Empty at) ≡ None
unfolding item_unrun items_unrun block_unrun
unrun-Empty at = ap items_unrun (sym (lists.rolls-Empty at)) ∙ rw fold-roll-ItemsTree refl

pub unrun-Several : (at : ℕ) (first : ItemTree) (rest : List ItemTree) (is_closed : Bool) →
    items_unrun (lists.Several at first rest is_closed) ≡ first_of (item_unrun first ∷ map item_unrun rest)
unfolding item_unrun items_unrun block_unrun
unrun-Several at first rest is_closed = ap items_unrun (sym (lists.rolls-Several at first rest is_closed)) ∙ rw fold-roll-ItemsTree refl

unrun-block : (at : ℕ) (list : ItemsTree) → block_unrun (roll-BlockTree (record { at = at; items = list })) ≡ items_unrun list
unfolding item_unrun items_unrun block_unrun
unrun-block at list = rw fold-roll-BlockTree refl

pub unrun-is : (t : BlockTree) → block_unrun t ≡ items_unrun (out-BlockTree t).items
unrun-is t = ap block_unrun (sym (roll-out-BlockTree t)) ∙ unrun-block (out-BlockTree t).at (out-BlockTree t).items

pub ruleset unrun_items = (unrun-Block, unrun-ForAll, unrun-If, unrun-Precedes, unrun-Requires, unrun-Constraint, unrun-Empty, unrun-Several, unrun-is)
