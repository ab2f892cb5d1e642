-- A block where a statement may stand.
use Rattle.opl_tree.specs.declared.search.StatementTree.{StatementTree}
use Rattle.opl_tree.specs.declared.search.StatementTree.TheVariants as statements_are
use Rattle.opl_grammar.specs.Input.{Parser, ◌<$>◌}
use Rattle.opl_grammar.specs.Rules.{Rules}
use Rattle.opl_grammar.specs.Search.{StatementRules, search_block}

-- {STATEMENTS}
abbrev pub block_statement : Rules → StatementRules → Parser StatementTree
block_statement below inner = statements_are.Block <$> search_block below inner
