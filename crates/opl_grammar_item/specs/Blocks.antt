-- A block where an item may stand.
use Rattle.opl_tree.specs.declared.instruction.ItemTree.{ItemTree}
use Rattle.opl_tree.specs.declared.instruction.ItemTree.TheVariants as items_are
use Rattle.opl_grammar.specs.Input.{Parser, ◌<$>◌}
use Rattle.opl_grammar.specs.Items.{ItemRules, block}
use Rattle.opl_grammar.specs.Rules.{Rules}

-- {ITEMS}
abbrev pub block_item : Rules → ItemRules → Parser ItemTree
block_item below inner = items_are.Block <$> block below inner
