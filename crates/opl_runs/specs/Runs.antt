-- Which forms of a model run: all declarations but those of scheduling, all objectives, and all items but `precedes` and `requires`. A
-- search section does not run yet.
use Rattle.std.specs.Prelude.{ℕ, ◌∷◌, map, Option, Some, None}
use Rattle.opl_tree.specs.declared.instruction.BlockTree.{BlockTree}
use Rattle.opl_tree.specs.declared.instruction.InstrTree.{InstrTree}
use Rattle.opl_tree.specs.declared.instruction.InstrTree.TheVariants as instr
use Rattle.opl_tree.specs.declared.instruction.ItemTree.TheOpen.{ItemTree-F, ItemsTree-F, BlockTree-F}
use Rattle.opl_tree.specs.declared.instruction.ItemTree.TheFolds.{fold-BlockTree}
use Rattle.opl_tree.specs.declared.model.ModelTree.{ModelTree}
use Rattle.opl_meaning.specs.Runs.{decl_unrun, first_of, search_unrun}
use Rattle.opl_meaning.specs.Uses.{or_else}

-- ---- items

-- what stands behind `else`, where it is written
abbrev pub else_unrun : Option (Option ℕ) → Option ℕ
else_unrun None = None
else_unrun (Some at) = at

-- a condition runs, whatever its form
abbrev pub item_layer : ItemTree-F (Option ℕ) (Option ℕ) (Option ℕ) → Option ℕ
item_layer (ItemTree-F.Block inner) = inner
item_layer (ItemTree-F.ForAll at params body) = body
item_layer (ItemTree-F.If at condition holds fails) = or_else holds (else_unrun fails)
item_layer (ItemTree-F.Precedes at first second) = Some at
item_layer (ItemTree-F.Requires t) = Some t.at
item_layer (ItemTree-F.Constraint t) = None

abbrev pub items_layer : ItemsTree-F (Option ℕ) (Option ℕ) (Option ℕ) → Option ℕ
items_layer (ItemsTree-F.Empty at) = None
items_layer (ItemsTree-F.Several at first rest is_closed) = first_of (first ∷ rest)

abbrev pub block_layer : BlockTree-F (Option ℕ) (Option ℕ) (Option ℕ) → Option ℕ
block_layer t = t.items

-- the place of the first form in a block that does not run
unfoldable pub block_unrun : BlockTree → Option ℕ
block_unrun = fold-BlockTree (Option ℕ) (Option ℕ) (Option ℕ) item_layer items_layer block_layer

-- ---- the model

-- an objective runs, whatever its form
abbrev pub instr_unrun : InstrTree → Option ℕ
instr_unrun (instr.Solve at block) = block_unrun block
instr_unrun (instr.Optimize at optimum objective block) = block_unrun block

-- the place of the first form of a model, in the order of the text, that does not run
unfoldable pub not_yet : ModelTree → Option ℕ
not_yet m = or_else (first_of (map decl_unrun m.decls)) (or_else (instr_unrun m.instr) (search_unrun m.search))
