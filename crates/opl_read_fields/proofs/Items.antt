-- What the instruction and the search section name, and what they write.
use Rattle.std.proofs.Common.{◌≡◌, true, List, [], ◌++◌, map, Option, None, Some, sym, subst, append_assoc}
use Rattle.std.specs.Option.{option_map}
use Rattle.opl_token.specs.declared.sign.Sign.TheVariants as signs
use Rattle.opl_tree.specs.declared.declaration.DeclTree.{DeclTree}
use Rattle.opl_tree.specs.declared.expression.AddTree.{AddTree}
use Rattle.opl_tree.specs.declared.expression.ParamsTree.{ParamsTree}
use Rattle.opl_tree.specs.declared.expression.SubscriptsTree.{SubscriptsTree}
use Rattle.opl_tree.specs.declared.instruction.BlockTree.{BlockTree}
use Rattle.opl_tree.specs.declared.instruction.InstrTree.{InstrTree}
use Rattle.opl_tree.specs.declared.instruction.InstrTree.TheVariants as instrs
use Rattle.opl_tree.specs.declared.instruction.ItemTree.{ItemTree}
use Rattle.opl_tree.specs.declared.instruction.ItemTree.TheFolds.{fold-roll-ItemTree, fold-roll-ItemsTree, fold-roll-BlockTree, ind-BlockTree, map-ItemTree, map-ItemsTree, map-BlockTree}
use Rattle.opl_tree.specs.declared.instruction.ItemTree.TheOpen.{ItemTree-F, ItemsTree-F, BlockTree-F}
use Rattle.opl_tree.specs.declared.instruction.ItemTree.TheViews.{roll-ItemTree, roll-ItemsTree, roll-BlockTree}
use Rattle.opl_tree.specs.declared.instruction.ItemsTree.{ItemsTree}
use Rattle.opl_tree.specs.declared.instruction.RequiresTree.{RequiresTree}
use Rattle.opl_tree.specs.declared.model.ModelTree.{ModelTree}
use Rattle.opl_tree.specs.declared.search.OrderTree.{OrderTree}
use Rattle.opl_tree.specs.declared.search.SearchBlockTree.{SearchBlockTree}
use Rattle.opl_tree.specs.declared.search.SearchTree.{SearchTree}
use Rattle.opl_tree.specs.declared.search.StatementTree.{StatementTree}
use Rattle.opl_tree.specs.declared.search.StatementTree.TheFolds.{fold-roll-StatementTree, fold-roll-StatementsTree, fold-roll-SearchBlockTree, ind-SearchBlockTree, map-StatementTree, map-StatementsTree, map-SearchBlockTree}
use Rattle.opl_tree.specs.declared.search.StatementTree.TheOpen.{StatementTree-F, StatementsTree-F, SearchBlockTree-F}
use Rattle.opl_tree.specs.declared.search.StatementTree.TheViews.{roll-StatementTree, roll-StatementsTree, roll-SearchBlockTree}
use Rattle.opl_tree.specs.declared.search.StatementsTree.{StatementsTree}
use Rattle.opl_tree.specs.Marks.{Marks, block_marks, enclosed, item_marks, items_marks, marks_add, marks_block, marks_instr, marks_item, marks_items, marks_model, marks_name, marks_order, marks_ordered_params, marks_requires, marks_search, marks_search_block, marks_statement, marks_statements, marks_subscripts, place, search_block_marks, sign, statement_marks, statements_marks, token, written}
use Rattle.opl_type_rules.specs.Scope.{Scope, empty_scope}
use Rattle.opl_type_rules.specs.Forms.{form_params}
use Rattle.opl_type_rules.specs.Expressions.{Need, open_params}
use Rattle.opl_type_rules.specs.Expressions.Need.{data_alone, data_or_questions}
use Rattle.opl_model_types.specs.Declarations.{all_decls}
use Rattle.opl_fields.specs.declared.place.FieldPlace.{FieldPlace}
use Rattle.opl_fields.specs.Typed.{params_fields, scope_behind}
use Rattle.opl_fields.specs.Whole.{Named, block_named, in_add_if_written, in_block, in_instr, in_item, in_items, in_order, in_requires, in_search, in_search_block, in_statement, in_statements, in_subscripts, item_named, items_named, model_fields, search_block_named, statement_named, statements_named}
use Rattle.opl_read_fields.proofs.Names.{Written}
use Rattle.opl_read_fields.proofs.Parts.{Told, alone, before_marks, behind_mark, behind_marks, both, each_known, elsewhere, in_level, none, turn_behind}
use Rattle.opl_read_fields.proofs.Expressions.{told_add, told_expr, told_params, told_post, told_subscripts}
use Rattle.opl_read_fields.proofs.Declarations.{told_decls}

-- a tree of which this is known of the parts of its one layer
by_layer : {X : Type 0} (layer : X → Named) (marks : X → Marks) (n : Named) (ms : Marks) (x y : X) → n ≡ layer x → ms ≡ marks x → y ≡ x → Told (layer y) (marks y) → Told n ms
by_layer layer marks n ms x y p q is h = subst (λ (u : Named). Told u ms) (sym p) (subst (λ u. Told (layer x) u) (sym q) (subst (λ z. Told (layer z) (marks z)) is h))

-- the same fields, grouped otherwise
fields_regrouped : (a b c : Named) {ms : Marks} → Told (λ sc. (a sc ++ b sc) ++ c sc) ms → Told (λ sc. a sc ++ (b sc ++ c sc)) ms
fields_regrouped a b c {ms} h = record { says = λ sc. subst (λ fs. Written (map (λ (f : FieldPlace). f.place) fs) ms) (append_assoc (a sc) (b sc) (c sc)) (h.says sc) }

module _ (ds : List DeclTree) where
  -- ---- parts of items

  -- behind parameters
  abbrev inner : Need → ParamsTree → Scope → Scope
  inner need t sc = scope_behind sc (open_params need sc (form_params t))

  told_demand : (t : Option AddTree) → Told (in_add_if_written ds t) (enclosed signs.OpenParenthesis signs.CloseParenthesis (option_map marks_add t))
  told_demand None = none
  told_demand (Some t) = before_marks _ (in_level _ (told_add ds t))

  told_if_written : (t : Option SubscriptsTree) → Told (in_subscripts ds t) (written (option_map marks_subscripts t))
  told_if_written None = none
  told_if_written (Some t) = told_subscripts ds t

  told_requires : (t : RequiresTree) → Told (in_requires ds t) (marks_requires t)
  unfolding marks_requires
  told_requires t = behind_mark _ (both (told_post ds t.activity) (behind_mark _ (both (told_demand t.demand) (behind_marks (marks_name t.resource) (told_if_written t.subscripts)))))

  -- ---- items

  abbrev Item : Type 0
  Item = (t : ItemTree) × Told (in_item ds t) (marks_item t)

  abbrev Items : Type 0
  Items = (t : ItemsTree) × Told (in_items ds t) (marks_items t)

  abbrev Block : Type 0
  Block = (t : BlockTree) × Told (in_block ds t) (marks_block t)

  abbrev item_inner : ItemTree-F Item Items Block → ItemTree-F ItemTree ItemsTree BlockTree
  item_inner = map-ItemTree Item Items Block ItemTree ItemsTree BlockTree (λ e. e.0) (λ e. e.0) (λ e. e.0)

  abbrev items_inner : ItemsTree-F Item Items Block → ItemsTree-F ItemTree ItemsTree BlockTree
  items_inner = map-ItemsTree Item Items Block ItemTree ItemsTree BlockTree (λ e. e.0) (λ e. e.0) (λ e. e.0)

  abbrev block_inner : BlockTree-F Item Items Block → BlockTree-F ItemTree ItemsTree BlockTree
  block_inner = map-BlockTree Item Items Block ItemTree ItemsTree BlockTree (λ e. e.0) (λ e. e.0) (λ e. e.0)

  -- the fields and the marks of one layer of each
  abbrev fields_of_item : ItemTree-F ItemTree ItemsTree BlockTree → Named
  fields_of_item x = item_named ds (map-ItemTree ItemTree ItemsTree BlockTree Named Named Named (in_item ds) (in_items ds) (in_block ds) x)

  abbrev fields_of_items : ItemsTree-F ItemTree ItemsTree BlockTree → Named
  fields_of_items x = items_named ds (map-ItemsTree ItemTree ItemsTree BlockTree Named Named Named (in_item ds) (in_items ds) (in_block ds) x)

  abbrev fields_of_block : BlockTree-F ItemTree ItemsTree BlockTree → Named
  fields_of_block x = block_named ds (map-BlockTree ItemTree ItemsTree BlockTree Named Named Named (in_item ds) (in_items ds) (in_block ds) x)

  abbrev marks_of_item : ItemTree-F ItemTree ItemsTree BlockTree → Marks
  marks_of_item x = item_marks (map-ItemTree ItemTree ItemsTree BlockTree Marks Marks Marks marks_item marks_items marks_block x)

  abbrev marks_of_items : ItemsTree-F ItemTree ItemsTree BlockTree → Marks
  marks_of_items x = items_marks (map-ItemsTree ItemTree ItemsTree BlockTree Marks Marks Marks marks_item marks_items marks_block x)

  abbrev marks_of_block : BlockTree-F ItemTree ItemsTree BlockTree → Marks
  marks_of_block x = block_marks (map-BlockTree ItemTree ItemsTree BlockTree Marks Marks Marks marks_item marks_items marks_block x)

  in_item-roll : (x : ItemTree-F ItemTree ItemsTree BlockTree) → in_item ds (roll-ItemTree x) ≡ fields_of_item x
  unfolding in_item in_items in_block
  in_item-roll x = fold-roll-ItemTree Named Named Named (item_named ds) (items_named ds) (block_named ds) x

  in_items-roll : (x : ItemsTree-F ItemTree ItemsTree BlockTree) → in_items ds (roll-ItemsTree x) ≡ fields_of_items x
  unfolding in_item in_items in_block
  in_items-roll x = fold-roll-ItemsTree Named Named Named (item_named ds) (items_named ds) (block_named ds) x

  in_block-roll : (x : BlockTree-F ItemTree ItemsTree BlockTree) → in_block ds (roll-BlockTree x) ≡ fields_of_block x
  unfolding in_item in_items in_block
  in_block-roll x = fold-roll-BlockTree Named Named Named (item_named ds) (items_named ds) (block_named ds) x

  marks_item-roll : (x : ItemTree-F ItemTree ItemsTree BlockTree) → marks_item (roll-ItemTree x) ≡ marks_of_item x
  unfolding marks_item marks_items marks_block
  marks_item-roll x = fold-roll-ItemTree Marks Marks Marks item_marks items_marks block_marks x

  marks_items-roll : (x : ItemsTree-F ItemTree ItemsTree BlockTree) → marks_items (roll-ItemsTree x) ≡ marks_of_items x
  unfolding marks_item marks_items marks_block
  marks_items-roll x = fold-roll-ItemsTree Marks Marks Marks item_marks items_marks block_marks x

  marks_block-roll : (x : BlockTree-F ItemTree ItemsTree BlockTree) → marks_block (roll-BlockTree x) ≡ marks_of_block x
  unfolding marks_item marks_items marks_block
  marks_block-roll x = fold-roll-BlockTree Marks Marks Marks item_marks items_marks block_marks x

  known_item : (y : ItemTree-F Item Items Block) → Told (fields_of_item (item_inner y)) (marks_of_item (item_inner y))
  known_item (ItemTree-F.Block t) = t.1
  known_item (ItemTree-F.ForAll at params body) = behind_mark _ (in_level _ (both (in_level _ (told_params ds params)) (behind_mark _ (elsewhere (inner data_alone params) body.1))))
  known_item (ItemTree-F.If at test holds None) = behind_mark _ (in_level _ (both (told_expr ds test) (behind_mark _ (both holds.1 none))))
  known_item (ItemTree-F.If at test holds (Some fails)) = behind_mark _ (in_level _ (both (told_expr ds test) (behind_mark _ (both holds.1 (behind_mark _ (before_marks _ (alone fails.1)))))))
  known_item (ItemTree-F.Precedes at first second) = behind_mark _ (behind_mark _ (both (told_post ds first) (behind_mark _ (told_post ds second))))
  known_item (ItemTree-F.Requires t) = behind_mark _ (told_requires t)
  known_item (ItemTree-F.Constraint t) = behind_mark _ (told_expr ds t)

  known_items : (y : ItemsTree-F Item Items Block) → Told (fields_of_items (items_inner y)) (marks_of_items (items_inner y))
  known_items (ItemsTree-F.Empty at) = none
  known_items (ItemsTree-F.Several at first rest is_closed) = behind_mark _ (both first.1 (before_marks _ (turn_behind signs.Semicolon _ _ (each_known Told (in_item ds) marks_item rest))))

  known_block : (y : BlockTree-F Item Items Block) → Told (fields_of_block (block_inner y)) (marks_of_block (block_inner y))
  known_block y = behind_mark _ (before_marks _ (in_level _ y.items.1))

  told_block : (t : BlockTree) → Told (in_block ds t) (marks_block t)
  told_block = ind-BlockTree (λ t. Told (in_item ds t) (marks_item t)) (λ t. Told (in_items ds t) (marks_items t)) (λ t. Told (in_block ds t) (marks_block t))
      (λ x y is. by_layer fields_of_item marks_of_item _ _ x _ (in_item-roll x) (marks_item-roll x) is (known_item y))
      (λ x y is. by_layer fields_of_items marks_of_items _ _ x _ (in_items-roll x) (marks_items-roll x) is (known_items y))
      (λ x y is. by_layer fields_of_block marks_of_block _ _ x _ (in_block-roll x) (marks_block-roll x) is (known_block y))

  told_instr : (t : InstrTree) → Told (in_instr ds t) (marks_instr t)
  unfolding marks_instr
  told_instr (instrs.Solve at t) = behind_mark _ (behind_mark _ (before_marks _ (told_block t)))
  told_instr (instrs.Optimize at optimum objective t) = behind_mark _ (behind_mark _ (both (told_expr ds objective) (behind_mark _ (behind_mark _ (before_marks _ (told_block t))))))

  -- ---- statements

  told_order : (t : Option OrderTree) → Told (in_order ds t) (written (option_map marks_order t))
  unfolding marks_order
  told_order None = none
  told_order (Some t) = behind_mark _ (behind_mark _ (behind_mark _ (behind_mark _ (told_add ds t.key))))

  abbrev Statement : Type 0
  Statement = (t : StatementTree) × Told (in_statement ds t) (marks_statement t)

  abbrev Statements : Type 0
  Statements = (t : StatementsTree) × Told (in_statements ds t) (marks_statements t)

  abbrev SearchBlock : Type 0
  SearchBlock = (t : SearchBlockTree) × Told (in_search_block ds t) (marks_search_block t)

  abbrev statement_inner : StatementTree-F Statement Statements SearchBlock → StatementTree-F StatementTree StatementsTree SearchBlockTree
  statement_inner = map-StatementTree Statement Statements SearchBlock StatementTree StatementsTree SearchBlockTree (λ e. e.0) (λ e. e.0) (λ e. e.0)

  abbrev statements_inner : StatementsTree-F Statement Statements SearchBlock → StatementsTree-F StatementTree StatementsTree SearchBlockTree
  statements_inner = map-StatementsTree Statement Statements SearchBlock StatementTree StatementsTree SearchBlockTree (λ e. e.0) (λ e. e.0) (λ e. e.0)

  abbrev search_block_inner : SearchBlockTree-F Statement Statements SearchBlock → SearchBlockTree-F StatementTree StatementsTree SearchBlockTree
  search_block_inner = map-SearchBlockTree Statement Statements SearchBlock StatementTree StatementsTree SearchBlockTree (λ e. e.0) (λ e. e.0) (λ e. e.0)

  -- the fields and the marks of one layer of each
  abbrev fields_of_statement : StatementTree-F StatementTree StatementsTree SearchBlockTree → Named
  fields_of_statement x = statement_named ds (map-StatementTree StatementTree StatementsTree SearchBlockTree Named Named Named (in_statement ds) (in_statements ds) (in_search_block ds) x)

  abbrev fields_of_statements : StatementsTree-F StatementTree StatementsTree SearchBlockTree → Named
  fields_of_statements x = statements_named ds (map-StatementsTree StatementTree StatementsTree SearchBlockTree Named Named Named (in_statement ds) (in_statements ds) (in_search_block ds) x)

  abbrev fields_of_search_block : SearchBlockTree-F StatementTree StatementsTree SearchBlockTree → Named
  fields_of_search_block x = search_block_named ds (map-SearchBlockTree StatementTree StatementsTree SearchBlockTree Named Named Named (in_statement ds) (in_statements ds) (in_search_block ds) x)

  abbrev marks_of_statement : StatementTree-F StatementTree StatementsTree SearchBlockTree → Marks
  marks_of_statement x = statement_marks (map-StatementTree StatementTree StatementsTree SearchBlockTree Marks Marks Marks marks_statement marks_statements marks_search_block x)

  abbrev marks_of_statements : StatementsTree-F StatementTree StatementsTree SearchBlockTree → Marks
  marks_of_statements x = statements_marks (map-StatementsTree StatementTree StatementsTree SearchBlockTree Marks Marks Marks marks_statement marks_statements marks_search_block x)

  abbrev marks_of_search_block : SearchBlockTree-F StatementTree StatementsTree SearchBlockTree → Marks
  marks_of_search_block x = search_block_marks (map-SearchBlockTree StatementTree StatementsTree SearchBlockTree Marks Marks Marks marks_statement marks_statements marks_search_block x)

  in_statement-roll : (x : StatementTree-F StatementTree StatementsTree SearchBlockTree) → in_statement ds (roll-StatementTree x) ≡ fields_of_statement x
  unfolding in_statement in_statements in_search_block
  in_statement-roll x = fold-roll-StatementTree Named Named Named (statement_named ds) (statements_named ds) (search_block_named ds) x

  in_statements-roll : (x : StatementsTree-F StatementTree StatementsTree SearchBlockTree) → in_statements ds (roll-StatementsTree x) ≡ fields_of_statements x
  unfolding in_statement in_statements in_search_block
  in_statements-roll x = fold-roll-StatementsTree Named Named Named (statement_named ds) (statements_named ds) (search_block_named ds) x

  in_search_block-roll : (x : SearchBlockTree-F StatementTree StatementsTree SearchBlockTree) → in_search_block ds (roll-SearchBlockTree x) ≡ fields_of_search_block x
  unfolding in_statement in_statements in_search_block
  in_search_block-roll x = fold-roll-SearchBlockTree Named Named Named (statement_named ds) (statements_named ds) (search_block_named ds) x

  marks_statement-roll : (x : StatementTree-F StatementTree StatementsTree SearchBlockTree) → marks_statement (roll-StatementTree x) ≡ marks_of_statement x
  unfolding marks_statement marks_statements marks_search_block
  marks_statement-roll x = fold-roll-StatementTree Marks Marks Marks statement_marks statements_marks search_block_marks x

  marks_statements-roll : (x : StatementsTree-F StatementTree StatementsTree SearchBlockTree) → marks_statements (roll-StatementsTree x) ≡ marks_of_statements x
  unfolding marks_statement marks_statements marks_search_block
  marks_statements-roll x = fold-roll-StatementsTree Marks Marks Marks statement_marks statements_marks search_block_marks x

  marks_search_block-roll : (x : SearchBlockTree-F StatementTree StatementsTree SearchBlockTree) → marks_search_block (roll-SearchBlockTree x) ≡ marks_of_search_block x
  unfolding marks_statement marks_statements marks_search_block
  marks_search_block-roll x = fold-roll-SearchBlockTree Marks Marks Marks statement_marks statements_marks search_block_marks x

  known_statement : (y : StatementTree-F Statement Statements SearchBlock) → Told (fields_of_statement (statement_inner y)) (marks_of_statement (statement_inner y))
  unfolding marks_ordered_params
  known_statement (StatementTree-F.Block t) = t.1
  known_statement (StatementTree-F.Try at first second others) =
      behind_mark _ (in_level _ (both first.1 (behind_mark _ (both second.1 (before_marks _ (turn_behind signs.Bar _ _ (each_known Told (in_statements ds) marks_statements others)))))))
  known_statement (StatementTree-F.Branch at op t body) =
      behind_mark _ (in_level _ (fields_regrouped (λ sc. params_fields ds sc (form_params t.params)) (λ sc. in_order ds t.order (inner data_or_questions t.params sc)) (λ sc. in_statement ds body.0 (inner data_or_questions t.params sc) ++ []) (both (in_level _ (behind_mark (place t.at) (both (told_params ds t.params) (elsewhere (inner data_or_questions t.params) (told_order t.order))))) (behind_mark (token (sign signs.CloseParenthesis)) (elsewhere (inner data_or_questions t.params) (alone body.1))))))
  known_statement (StatementTree-F.Once at body) = behind_mark _ (in_level _ body.1)
  known_statement (StatementTree-F.While at test body) = behind_mark _ (in_level _ (both (told_expr ds test) (behind_mark _ (alone body.1))))
  known_statement (StatementTree-F.If at test holds None) = behind_mark _ (in_level _ (both (told_expr ds test) (behind_mark _ (both holds.1 none))))
  known_statement (StatementTree-F.If at test holds (Some fails)) = behind_mark _ (in_level _ (both (told_expr ds test) (behind_mark _ (both holds.1 (behind_mark _ (before_marks _ (alone fails.1)))))))
  known_statement (StatementTree-F.Label at op t) = behind_mark _ (behind_mark _ (before_marks _ (in_level _ (told_post ds t))))
  known_statement (StatementTree-F.Precedes at first second) = behind_mark _ (behind_mark _ (both (told_post ds first) (behind_mark _ (told_post ds second))))
  known_statement (StatementTree-F.Constraint t) = behind_mark _ (told_expr ds t)

  known_statements : (y : StatementsTree-F Statement Statements SearchBlock) → Told (fields_of_statements (statements_inner y)) (marks_of_statements (statements_inner y))
  known_statements (StatementsTree-F.Empty at) = none
  known_statements (StatementsTree-F.Several at first rest is_closed) = behind_mark _ (both first.1 (before_marks _ (turn_behind signs.Semicolon _ _ (each_known Told (in_statement ds) marks_statement rest))))

  known_search_block : (y : SearchBlockTree-F Statement Statements SearchBlock) → Told (fields_of_search_block (search_block_inner y)) (marks_of_search_block (search_block_inner y))
  known_search_block y = behind_mark _ (before_marks _ (in_level _ y.statements.1))

  told_search_block : (t : SearchBlockTree) → Told (in_search_block ds t) (marks_search_block t)
  told_search_block = ind-SearchBlockTree (λ t. Told (in_statement ds t) (marks_statement t)) (λ t. Told (in_statements ds t) (marks_statements t)) (λ t. Told (in_search_block ds t) (marks_search_block t))
      (λ x y is. by_layer fields_of_statement marks_of_statement _ _ x _ (in_statement-roll x) (marks_statement-roll x) is (known_statement y))
      (λ x y is. by_layer fields_of_statements marks_of_statements _ _ x _ (in_statements-roll x) (marks_statements-roll x) is (known_statements y))
      (λ x y is. by_layer fields_of_search_block marks_of_search_block _ _ x _ (in_search_block-roll x) (marks_search_block-roll x) is (known_search_block y))

  told_search : (t : Option SearchTree) → Told (in_search ds t) (written (option_map marks_search t))
  unfolding marks_search
  told_search None = none
  told_search (Some t) = behind_mark _ (behind_mark _ (before_marks _ (elsewhere (λ sc. record sc { is_search = true }) (told_search_block t.block))))

-- ---- models

pub model_told : (t : ModelTree) → Told (λ sc. model_fields t) (marks_model t)
unfolding model_fields marks_model
model_told t =
    behind_mark _ (both (elsewhere (λ sc. empty_scope) (told_decls t.decls t.decls 0)) (elsewhere (λ sc. scope_behind empty_scope (all_decls 0 empty_scope t.decls)) (both (told_instr t.decls t.instr) (told_search t.decls t.search))))
