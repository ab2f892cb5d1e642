-- The walk over each item, by the walks over its parts.
use Rattle.std.proofs.Common.{◌≡◌, ℕ, Bool, List, map, Option, None, Some, sym, ap, ◌∙◌}
use Rattle.std.specs.Option.{option_map}
use Rattle.opl_tree.specs.declared.declaration.DeclTree.{DeclTree}
use Rattle.opl_tree.specs.declared.expression.ExprTree.{ExprTree}
use Rattle.opl_tree.specs.declared.expression.ParamsTree.{ParamsTree}
use Rattle.opl_tree.specs.declared.expression.PostTree.{PostTree}
use Rattle.opl_tree.specs.declared.instruction.BlockTree.{BlockTree}
use Rattle.opl_tree.specs.declared.instruction.ItemTree.{ItemTree}
use Rattle.opl_tree.specs.declared.instruction.ItemTree.TheVariants as items_of
use Rattle.opl_tree.specs.declared.instruction.ItemTree.TheOpen.{ItemTree-F, ItemsTree-F, BlockTree-F}
use Rattle.opl_tree.specs.declared.instruction.ItemTree.TheFolds.{fold-roll-ItemTree, fold-roll-ItemsTree, fold-roll-BlockTree, map-ItemTree, map-ItemsTree, map-BlockTree}
use Rattle.opl_tree.specs.declared.instruction.ItemTree.TheViews.{roll-ItemTree, roll-ItemsTree, roll-BlockTree, out-BlockTree, roll-out-BlockTree}
use Rattle.opl_tree.specs.declared.instruction.ItemsTree.{ItemsTree}
use Rattle.opl_tree.specs.declared.instruction.ItemsTree.TheVariants as lists_of
use Rattle.opl_tree.specs.declared.instruction.RequiresTree.{RequiresTree}
use Rattle.opl_fields.specs.Walk.{State, Pass, each, if_written}
use Rattle.opl_fields.specs.Trees.{walk_expr, walk_post, walk_params, walk_requires, item_layer, items_layer, block_layer, walk_item, walk_items, walk_block}

pub walk_item-roll : (ds : List DeclTree) (x : ItemTree-F ItemTree ItemsTree BlockTree) → walk_item ds (roll-ItemTree x) ≡ item_layer ds (map-ItemTree ItemTree ItemsTree BlockTree Pass Pass Pass (walk_item ds) (walk_items ds) (walk_block ds) x)
unfolding walk_item walk_items walk_block
walk_item-roll ds x = fold-roll-ItemTree Pass Pass Pass (item_layer ds) items_layer block_layer x

walk_item-is : (ds : List DeclTree) (t : ItemTree) (x : ItemTree-F ItemTree ItemsTree BlockTree) (s : State) → roll-ItemTree x ≡ t → walk_item ds t s ≡ item_layer ds (map-ItemTree ItemTree ItemsTree BlockTree Pass Pass Pass (walk_item ds) (walk_items ds) (walk_block ds) x) s
walk_item-is ds t x s e = ap (λ u. walk_item ds u s) (sym e) ∙ ap (λ f. f s) (walk_item-roll ds x)

pub walk_items-roll : (ds : List DeclTree) (x : ItemsTree-F ItemTree ItemsTree BlockTree) → walk_items ds (roll-ItemsTree x) ≡ items_layer (map-ItemsTree ItemTree ItemsTree BlockTree Pass Pass Pass (walk_item ds) (walk_items ds) (walk_block ds) x)
unfolding walk_item walk_items walk_block
walk_items-roll ds x = fold-roll-ItemsTree Pass Pass Pass (item_layer ds) items_layer block_layer x

walk_items-is : (ds : List DeclTree) (t : ItemsTree) (x : ItemsTree-F ItemTree ItemsTree BlockTree) (s : State) → roll-ItemsTree x ≡ t → walk_items ds t s ≡ items_layer (map-ItemsTree ItemTree ItemsTree BlockTree Pass Pass Pass (walk_item ds) (walk_items ds) (walk_block ds) x) s
walk_items-is ds t x s e = ap (λ u. walk_items ds u s) (sym e) ∙ ap (λ f. f s) (walk_items-roll ds x)

pub walk_block-roll : (ds : List DeclTree) (x : BlockTree-F ItemTree ItemsTree BlockTree) → walk_block ds (roll-BlockTree x) ≡ block_layer (map-BlockTree ItemTree ItemsTree BlockTree Pass Pass Pass (walk_item ds) (walk_items ds) (walk_block ds) x)
unfolding walk_item walk_items walk_block
walk_block-roll ds x = fold-roll-BlockTree Pass Pass Pass (item_layer ds) items_layer block_layer x

walk_block-is : (ds : List DeclTree) (t : BlockTree) (x : BlockTree-F ItemTree ItemsTree BlockTree) (s : State) → roll-BlockTree x ≡ t → walk_block ds t s ≡ block_layer (map-BlockTree ItemTree ItemsTree BlockTree Pass Pass Pass (walk_item ds) (walk_items ds) (walk_block ds) x) s
walk_block-is ds t x s e = ap (λ u. walk_block ds u s) (sym e) ∙ ap (λ f. f s) (walk_block-roll ds x)

pub walk_item-Block : (ds : List DeclTree) (t : BlockTree) (s : State) → walk_item ds (items_of.Block t) s ≡ walk_block ds t s
walk_item-Block ds t s = walk_item-is ds (items_of.Block t) (ItemTree-F.Block t) s (items_of.rolls-Block t)

pub walk_item-ForAll : (ds : List DeclTree) (at : ℕ) (params : ParamsTree) (body : ItemTree) (s : State) → walk_item ds (items_of.ForAll at params body) s ≡ walk_item ds body (walk_params ds params s)
walk_item-ForAll ds at params body s = walk_item-is ds (items_of.ForAll at params body) (ItemTree-F.ForAll at params body) s (items_of.rolls-ForAll at params body)

pub walk_item-If : (ds : List DeclTree) (at : ℕ) (test : ExprTree) (holds : ItemsTree) (fails : Option ItemsTree) (s : State) → walk_item ds (items_of.If at test holds fails) s ≡ if_written (option_map (walk_items ds) fails) (walk_items ds holds (walk_expr ds test s))
walk_item-If ds at test holds None s = walk_item-is ds (items_of.If at test holds None) (ItemTree-F.If at test holds None) s (items_of.rolls-If at test holds None)
walk_item-If ds at test holds (Some fails) s = walk_item-is ds (items_of.If at test holds (Some fails)) (ItemTree-F.If at test holds (Some fails)) s (items_of.rolls-If at test holds (Some fails))

pub walk_item-Precedes : (ds : List DeclTree) (at : ℕ) (first second : PostTree) (s : State) → walk_item ds (items_of.Precedes at first second) s ≡ walk_post ds second (walk_post ds first s)
walk_item-Precedes ds at first second s = walk_item-is ds (items_of.Precedes at first second) (ItemTree-F.Precedes at first second) s (items_of.rolls-Precedes at first second)

pub walk_item-Requires : (ds : List DeclTree) (t : RequiresTree) (s : State) → walk_item ds (items_of.Requires t) s ≡ walk_requires ds t s
walk_item-Requires ds t s = walk_item-is ds (items_of.Requires t) (ItemTree-F.Requires t) s (items_of.rolls-Requires t)

pub walk_item-Constraint : (ds : List DeclTree) (t : ExprTree) (s : State) → walk_item ds (items_of.Constraint t) s ≡ walk_expr ds t s
walk_item-Constraint ds t s = walk_item-is ds (items_of.Constraint t) (ItemTree-F.Constraint t) s (items_of.rolls-Constraint t)

pub walk_items-Empty : (ds : List DeclTree) (at : ℕ) (s : State) → walk_items ds (lists_of.Empty at) s ≡ s
walk_items-Empty ds at s = walk_items-is ds (lists_of.Empty at) (ItemsTree-F.Empty at) s (lists_of.rolls-Empty at)

pub walk_items-Several : (ds : List DeclTree) (at : ℕ) (first : ItemTree) (rest : List ItemTree) (is_closed : Bool) (s : State) → walk_items ds (lists_of.Several at first rest is_closed) s ≡ each (map (walk_item ds) rest) (walk_item ds first s)
walk_items-Several ds at first rest is_closed s = walk_items-is ds (lists_of.Several at first rest is_closed) (ItemsTree-F.Several at first rest is_closed) s (lists_of.rolls-Several at first rest is_closed)

pub walk_block-of : (ds : List DeclTree) (t : BlockTree) (s : State) → walk_block ds t s ≡ walk_items ds (out-BlockTree t).items s
walk_block-of ds t s = walk_block-is ds t (out-BlockTree t) s (roll-out-BlockTree t)

pub ruleset item_walks = (walk_item-Block, walk_item-ForAll, walk_item-If, walk_item-Precedes, walk_item-Requires, walk_item-Constraint)

pub ruleset items_walks = (walk_items-Empty, walk_items-Several)

pub ruleset block_walks = (walk_block-of)
