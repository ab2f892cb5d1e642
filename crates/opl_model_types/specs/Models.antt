-- The types of whole models.
use Rattle.std.specs.Prelude.{List, ◌++◌, Ok}
use Rattle.opl_tree.specs.declared.model.ModelTree.{ModelTree}
use Rattle.opl_type_rules.specs.Types.{Sort}
use Rattle.opl_type_rules.specs.Scope.{Checked, ◌>>=◌, empty_scope}
use Rattle.opl_declaration_types.specs.Declarations.{all_decls}
pub use Rattle.opl_item_types.specs.Items.{Looked, each, if_written, within, condition, precedes, known, subscript_nodes, is_demanded, is_resource_of, is_resource, requires, item_layer, items_layer, block_layer, is_labelled, label, order, statement_layer, statements_layer, search_block_layer, search, instr}
unfoldable pub use Rattle.opl_item_types.specs.Items.{item, items, block, statement, statements, search_block}

-- the types of all expressions of a model, or its first fault
unfoldable pub model : ModelTree → Checked (List Sort)
model t = do
  opened ← all_decls 0 empty_scope t.decls
  middle ← instr t.instr opened.scope
  last ← search t.search opened.scope
  Ok (opened.kinds ++ (middle ++ last))
