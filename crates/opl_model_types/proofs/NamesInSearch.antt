-- Each name in a statement of the search section that typing accepts has exactly one visible declaration.
use Rattle.std.proofs.Common.{◌≡◌, ℕ, [], ◌∷◌, Option, None, Some, subst}
use Rattle.opl_tree.specs.declared.expression.PostTree.{PostTree}
use Rattle.opl_tree.specs.declared.search.LabelOp.{LabelOp}
use Rattle.opl_tree.specs.declared.search.OrderTree.{OrderTree}
use Rattle.opl_tree.specs.declared.search.SearchBlockTree.{SearchBlockTree}
use Rattle.opl_tree.specs.declared.search.StatementTree.{StatementTree}
use Rattle.opl_tree.specs.declared.search.StatementTree.TheFolds.{fold-roll-StatementTree, fold-roll-StatementsTree, fold-roll-SearchBlockTree, ind-SearchBlockTree, map-StatementTree, map-StatementsTree, map-SearchBlockTree}
use Rattle.opl_tree.specs.declared.search.StatementTree.TheOpen.{StatementTree-F, StatementsTree-F, SearchBlockTree-F}
use Rattle.opl_tree.specs.declared.search.StatementTree.TheViews.{roll-StatementTree, roll-StatementsTree, roll-SearchBlockTree}
use Rattle.opl_tree.specs.declared.search.StatementsTree.{StatementsTree}
use Rattle.opl_type_rules.specs.Types.{is_number}
use Rattle.opl_type_rules.specs.Forms.{form_add, form_expr, form_post}
use Rattle.opl_type_rules.specs.Expressions.{used, part}
use Rattle.opl_type_rules.specs.Expressions.Need.{nothing, data_or_questions}
use Rattle.opl_item_types.specs.Items.{each, if_written, condition, label, order, statement, statements, search_block}
use Rattle.opl_model_types.specs.Uses.{Uses, order_uses, statement_uses_layer, statements_uses_layer, search_uses_layer, statement_uses, statements_uses, search_uses}
use Rattle.opl_model_types.specs.Uses.Uses.{no_uses, expression, both}
use Rattle.opl_model_types.proofs.PureItems.{statement_of, statements_of, search_of, statement-roll, statements-roll, search-roll}
use Rattle.opl_model_types.proofs.NamesInDecls.{used-names}
use Rattle.opl_model_types.proofs.NamesInItems.{Names, names-none, names-two, names-three, names-each, names-within, names-condition, names-precedes, same-names}

names-label : (at : ℕ) (op : LabelOp) (t : PostTree) → Names (label at op t) (expression (form_post t))
names-label at op t sc ks once h = used-names sc (form_post t) part _ ks once h

names-order : (t : Option OrderTree) → Names (order t) (order_uses t)
names-order None sc ks once h = tt
names-order (Some t) sc ks once h = used-names sc (form_add t.key) (used data_or_questions is_number) _ ks once h

-- what is known of the statements inside a statement
abbrev InStatement : Type 0
InStatement = (t : StatementTree) × Names (statement t) (statement_uses t)

abbrev InStatements : Type 0
InStatements = (t : StatementsTree) × Names (statements t) (statements_uses t)

abbrev InSearch : Type 0
InSearch = (t : SearchBlockTree) × Names (search_block t) (search_uses t)

abbrev statement_inner : StatementTree-F InStatement InStatements InSearch → StatementTree-F StatementTree StatementsTree SearchBlockTree
statement_inner = map-StatementTree InStatement InStatements InSearch StatementTree StatementsTree SearchBlockTree (λ e. e.0) (λ e. e.0) (λ e. e.0)

abbrev statements_inner : StatementsTree-F InStatement InStatements InSearch → StatementsTree-F StatementTree StatementsTree SearchBlockTree
statements_inner = map-StatementsTree InStatement InStatements InSearch StatementTree StatementsTree SearchBlockTree (λ e. e.0) (λ e. e.0) (λ e. e.0)

abbrev search_inner : SearchBlockTree-F InStatement InStatements InSearch → SearchBlockTree-F StatementTree StatementsTree SearchBlockTree
search_inner = map-SearchBlockTree InStatement InStatements InSearch StatementTree StatementsTree SearchBlockTree (λ e. e.0) (λ e. e.0) (λ e. e.0)

-- what one layer of each uses
abbrev uses_of_statement : StatementTree-F StatementTree StatementsTree SearchBlockTree → Uses
uses_of_statement x = statement_uses_layer (map-StatementTree StatementTree StatementsTree SearchBlockTree Uses Uses Uses statement_uses statements_uses search_uses x)

abbrev uses_of_statements : StatementsTree-F StatementTree StatementsTree SearchBlockTree → Uses
uses_of_statements x = statements_uses_layer (map-StatementsTree StatementTree StatementsTree SearchBlockTree Uses Uses Uses statement_uses statements_uses search_uses x)

abbrev uses_of_search : SearchBlockTree-F StatementTree StatementsTree SearchBlockTree → Uses
uses_of_search x = search_uses_layer (map-SearchBlockTree StatementTree StatementsTree SearchBlockTree Uses Uses Uses statement_uses statements_uses search_uses x)

statement_uses-roll : (x : StatementTree-F StatementTree StatementsTree SearchBlockTree) → statement_uses (roll-StatementTree x) ≡ uses_of_statement x
unfolding statement_uses statements_uses search_uses
statement_uses-roll x = fold-roll-StatementTree Uses Uses Uses statement_uses_layer statements_uses_layer search_uses_layer x

statements_uses-roll : (x : StatementsTree-F StatementTree StatementsTree SearchBlockTree) → statements_uses (roll-StatementsTree x) ≡ uses_of_statements x
unfolding statement_uses statements_uses search_uses
statements_uses-roll x = fold-roll-StatementsTree Uses Uses Uses statement_uses_layer statements_uses_layer search_uses_layer x

search_uses-roll : (x : SearchBlockTree-F StatementTree StatementsTree SearchBlockTree) → search_uses (roll-SearchBlockTree x) ≡ uses_of_search x
unfolding statement_uses statements_uses search_uses
search_uses-roll x = fold-roll-SearchBlockTree Uses Uses Uses statement_uses_layer statements_uses_layer search_uses_layer x

names-statement : (y : StatementTree-F InStatement InStatements InSearch) → Names (statement_of (statement_inner y)) (uses_of_statement (statement_inner y))
names-statement (StatementTree-F.Block inner) = inner.1
names-statement (StatementTree-F.Try at first second others) = names-each statements statements_uses (first ∷ second ∷ others)
names-statement (StatementTree-F.Branch at op params body) =
    names-within data_or_questions params.params (each (order params.order ∷ statement body.0 ∷ [])) (both (order_uses params.order) (statement_uses body.0))
    (names-two (order params.order) (statement body.0) (order_uses params.order) (statement_uses body.0) (names-order params.order) body.1)
names-statement (StatementTree-F.Once at body) = body.1
names-statement (StatementTree-F.While at test body) =
    names-two (condition data_or_questions test) (statement body.0) (expression (form_expr test)) (statement_uses body.0) (names-condition data_or_questions test) body.1
names-statement (StatementTree-F.If at test holds None) =
    names-three (condition data_or_questions test) (statements holds.0) (if_written None) (expression (form_expr test)) (statements_uses holds.0) no_uses (names-condition data_or_questions test) holds.1 names-none
names-statement (StatementTree-F.If at test holds (Some fails)) =
    names-three (condition data_or_questions test) (statements holds.0) (statements fails.0) (expression (form_expr test)) (statements_uses holds.0) (statements_uses fails.0) (names-condition data_or_questions test) holds.1 fails.1
names-statement (StatementTree-F.Label at op t) = names-label at op t
names-statement (StatementTree-F.Precedes at first second) = names-precedes at first second
names-statement (StatementTree-F.Constraint t) = names-condition nothing t

names-statements : (y : StatementsTree-F InStatement InStatements InSearch) → Names (statements_of (statements_inner y)) (uses_of_statements (statements_inner y))
names-statements (StatementsTree-F.Empty at) = names-none
names-statements (StatementsTree-F.Several at first rest is_closed) = names-each statement statement_uses (first ∷ rest)

names-in_search : (y : SearchBlockTree-F InStatement InStatements InSearch) → Names (search_of (search_inner y)) (uses_of_search (search_inner y))
names-in_search y = y.statements.1

pub names-search_block : (t : SearchBlockTree) → Names (search_block t) (search_uses t)
names-search_block = ind-SearchBlockTree (λ t. Names (statement t) (statement_uses t)) (λ t. Names (statements t) (statements_uses t)) (λ t. Names (search_block t) (search_uses t))
    (λ x y is. same-names _ _ _ _ (statement-roll x) (statement_uses-roll x) (subst (λ z. Names (statement_of z) (uses_of_statement z)) is (names-statement y)))
    (λ x y is. same-names _ _ _ _ (statements-roll x) (statements_uses-roll x) (subst (λ z. Names (statements_of z) (uses_of_statements z)) is (names-statements y)))
    (λ x y is. same-names _ _ _ _ (search-roll x) (search_uses-roll x) (subst (λ z. Names (search_of z) (uses_of_search z)) is (names-in_search y)))
