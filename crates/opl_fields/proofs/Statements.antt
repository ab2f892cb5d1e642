-- The walk over each statement, by the walks over its parts.
use Rattle.std.proofs.Common.{◌≡◌, ℕ, Bool, List, map, Option, None, Some, sym, ap, ◌∙◌}
use Rattle.std.specs.Option.{option_map}
use Rattle.opl_tree.specs.declared.declaration.DeclTree.{DeclTree}
use Rattle.opl_tree.specs.declared.expression.ExprTree.{ExprTree}
use Rattle.opl_tree.specs.declared.expression.PostTree.{PostTree}
use Rattle.opl_tree.specs.declared.search.BranchOp.{BranchOp}
use Rattle.opl_tree.specs.declared.search.LabelOp.{LabelOp}
use Rattle.opl_tree.specs.declared.search.OrderedParamsTree.{OrderedParamsTree}
use Rattle.opl_tree.specs.declared.search.SearchBlockTree.{SearchBlockTree}
use Rattle.opl_tree.specs.declared.search.StatementTree.{StatementTree}
use Rattle.opl_tree.specs.declared.search.StatementTree.TheVariants as statements_of
use Rattle.opl_tree.specs.declared.search.StatementTree.TheOpen.{StatementTree-F, StatementsTree-F, SearchBlockTree-F}
use Rattle.opl_tree.specs.declared.search.StatementTree.TheFolds.{fold-roll-StatementTree, fold-roll-StatementsTree, fold-roll-SearchBlockTree, map-StatementTree, map-StatementsTree, map-SearchBlockTree}
use Rattle.opl_tree.specs.declared.search.StatementTree.TheViews.{roll-StatementTree, roll-StatementsTree, roll-SearchBlockTree, out-SearchBlockTree, roll-out-SearchBlockTree}
use Rattle.opl_tree.specs.declared.search.StatementsTree.{StatementsTree}
use Rattle.opl_tree.specs.declared.search.StatementsTree.TheVariants as lists_of
use Rattle.opl_fields.specs.Walk.{State, Pass, each, if_written}
use Rattle.opl_fields.specs.Trees.{walk_expr, walk_post, walk_params, walk_order, statement_layer, statements_layer, search_block_layer, walk_statement, walk_statements, walk_search_block}

pub walk_statement-roll : (ds : List DeclTree) (x : StatementTree-F StatementTree StatementsTree SearchBlockTree) → walk_statement ds (roll-StatementTree x) ≡ statement_layer ds (map-StatementTree StatementTree StatementsTree SearchBlockTree Pass Pass Pass (walk_statement ds) (walk_statements ds) (walk_search_block ds) x)
unfolding walk_statement walk_statements walk_search_block
walk_statement-roll ds x = fold-roll-StatementTree Pass Pass Pass (statement_layer ds) statements_layer search_block_layer x

walk_statement-is : (ds : List DeclTree) (t : StatementTree) (x : StatementTree-F StatementTree StatementsTree SearchBlockTree) (s : State) → roll-StatementTree x ≡ t → walk_statement ds t s ≡ statement_layer ds (map-StatementTree StatementTree StatementsTree SearchBlockTree Pass Pass Pass (walk_statement ds) (walk_statements ds) (walk_search_block ds) x) s
walk_statement-is ds t x s e = ap (λ u. walk_statement ds u s) (sym e) ∙ ap (λ f. f s) (walk_statement-roll ds x)

pub walk_statements-roll : (ds : List DeclTree) (x : StatementsTree-F StatementTree StatementsTree SearchBlockTree) → walk_statements ds (roll-StatementsTree x) ≡ statements_layer (map-StatementsTree StatementTree StatementsTree SearchBlockTree Pass Pass Pass (walk_statement ds) (walk_statements ds) (walk_search_block ds) x)
unfolding walk_statement walk_statements walk_search_block
walk_statements-roll ds x = fold-roll-StatementsTree Pass Pass Pass (statement_layer ds) statements_layer search_block_layer x

walk_statements-is : (ds : List DeclTree) (t : StatementsTree) (x : StatementsTree-F StatementTree StatementsTree SearchBlockTree) (s : State) → roll-StatementsTree x ≡ t → walk_statements ds t s ≡ statements_layer (map-StatementsTree StatementTree StatementsTree SearchBlockTree Pass Pass Pass (walk_statement ds) (walk_statements ds) (walk_search_block ds) x) s
walk_statements-is ds t x s e = ap (λ u. walk_statements ds u s) (sym e) ∙ ap (λ f. f s) (walk_statements-roll ds x)

pub walk_search_block-roll : (ds : List DeclTree) (x : SearchBlockTree-F StatementTree StatementsTree SearchBlockTree) → walk_search_block ds (roll-SearchBlockTree x) ≡ search_block_layer (map-SearchBlockTree StatementTree StatementsTree SearchBlockTree Pass Pass Pass (walk_statement ds) (walk_statements ds) (walk_search_block ds) x)
unfolding walk_statement walk_statements walk_search_block
walk_search_block-roll ds x = fold-roll-SearchBlockTree Pass Pass Pass (statement_layer ds) statements_layer search_block_layer x

walk_search_block-is : (ds : List DeclTree) (t : SearchBlockTree) (x : SearchBlockTree-F StatementTree StatementsTree SearchBlockTree) (s : State) → roll-SearchBlockTree x ≡ t → walk_search_block ds t s ≡ search_block_layer (map-SearchBlockTree StatementTree StatementsTree SearchBlockTree Pass Pass Pass (walk_statement ds) (walk_statements ds) (walk_search_block ds) x) s
walk_search_block-is ds t x s e = ap (λ u. walk_search_block ds u s) (sym e) ∙ ap (λ f. f s) (walk_search_block-roll ds x)

pub walk_statement-Block : (ds : List DeclTree) (t : SearchBlockTree) (s : State) → walk_statement ds (statements_of.Block t) s ≡ walk_search_block ds t s
walk_statement-Block ds t s = walk_statement-is ds (statements_of.Block t) (StatementTree-F.Block t) s (statements_of.rolls-Block t)

pub walk_statement-Try : (ds : List DeclTree) (at : ℕ) (first second : StatementsTree) (others : List StatementsTree) (s : State) → walk_statement ds (statements_of.Try at first second others) s ≡ each (map (walk_statements ds) others) (walk_statements ds second (walk_statements ds first s))
walk_statement-Try ds at first second others s = walk_statement-is ds (statements_of.Try at first second others) (StatementTree-F.Try at first second others) s (statements_of.rolls-Try at first second others)

pub walk_statement-Branch : (ds : List DeclTree) (at : ℕ) (op : BranchOp) (params : OrderedParamsTree) (body : StatementTree) (s : State) → walk_statement ds (statements_of.Branch at op params body) s ≡ walk_statement ds body (walk_order ds params.order (walk_params ds params.params s))
walk_statement-Branch ds at op params body s = walk_statement-is ds (statements_of.Branch at op params body) (StatementTree-F.Branch at op params body) s (statements_of.rolls-Branch at op params body)

pub walk_statement-Once : (ds : List DeclTree) (at : ℕ) (body : StatementTree) (s : State) → walk_statement ds (statements_of.Once at body) s ≡ walk_statement ds body s
walk_statement-Once ds at body s = walk_statement-is ds (statements_of.Once at body) (StatementTree-F.Once at body) s (statements_of.rolls-Once at body)

pub walk_statement-While : (ds : List DeclTree) (at : ℕ) (test : ExprTree) (body : StatementTree) (s : State) → walk_statement ds (statements_of.While at test body) s ≡ walk_statement ds body (walk_expr ds test s)
walk_statement-While ds at test body s = walk_statement-is ds (statements_of.While at test body) (StatementTree-F.While at test body) s (statements_of.rolls-While at test body)

pub walk_statement-If : (ds : List DeclTree) (at : ℕ) (test : ExprTree) (holds : StatementsTree) (fails : Option StatementsTree) (s : State) → walk_statement ds (statements_of.If at test holds fails) s ≡ if_written (option_map (walk_statements ds) fails) (walk_statements ds holds (walk_expr ds test s))
walk_statement-If ds at test holds None s = walk_statement-is ds (statements_of.If at test holds None) (StatementTree-F.If at test holds None) s (statements_of.rolls-If at test holds None)
walk_statement-If ds at test holds (Some fails) s = walk_statement-is ds (statements_of.If at test holds (Some fails)) (StatementTree-F.If at test holds (Some fails)) s (statements_of.rolls-If at test holds (Some fails))

pub walk_statement-Label : (ds : List DeclTree) (at : ℕ) (op : LabelOp) (t : PostTree) (s : State) → walk_statement ds (statements_of.Label at op t) s ≡ walk_post ds t s
walk_statement-Label ds at op t s = walk_statement-is ds (statements_of.Label at op t) (StatementTree-F.Label at op t) s (statements_of.rolls-Label at op t)

pub walk_statement-Precedes : (ds : List DeclTree) (at : ℕ) (first second : PostTree) (s : State) → walk_statement ds (statements_of.Precedes at first second) s ≡ walk_post ds second (walk_post ds first s)
walk_statement-Precedes ds at first second s = walk_statement-is ds (statements_of.Precedes at first second) (StatementTree-F.Precedes at first second) s (statements_of.rolls-Precedes at first second)

pub walk_statement-Constraint : (ds : List DeclTree) (t : ExprTree) (s : State) → walk_statement ds (statements_of.Constraint t) s ≡ walk_expr ds t s
walk_statement-Constraint ds t s = walk_statement-is ds (statements_of.Constraint t) (StatementTree-F.Constraint t) s (statements_of.rolls-Constraint t)

pub walk_statements-Empty : (ds : List DeclTree) (at : ℕ) (s : State) → walk_statements ds (lists_of.Empty at) s ≡ s
walk_statements-Empty ds at s = walk_statements-is ds (lists_of.Empty at) (StatementsTree-F.Empty at) s (lists_of.rolls-Empty at)

pub walk_statements-Several : (ds : List DeclTree) (at : ℕ) (first : StatementTree) (rest : List StatementTree) (is_closed : Bool) (s : State) → walk_statements ds (lists_of.Several at first rest is_closed) s ≡ each (map (walk_statement ds) rest) (walk_statement ds first s)
walk_statements-Several ds at first rest is_closed s = walk_statements-is ds (lists_of.Several at first rest is_closed) (StatementsTree-F.Several at first rest is_closed) s (lists_of.rolls-Several at first rest is_closed)

pub walk_search_block-of : (ds : List DeclTree) (t : SearchBlockTree) (s : State) → walk_search_block ds t s ≡ walk_statements ds (out-SearchBlockTree t).statements s
walk_search_block-of ds t s = walk_search_block-is ds t (out-SearchBlockTree t) s (roll-out-SearchBlockTree t)

pub ruleset statement_walks = (walk_statement-Block, walk_statement-Try, walk_statement-Branch, walk_statement-Once, walk_statement-While, walk_statement-If, walk_statement-Label, walk_statement-Precedes, walk_statement-Constraint)

pub ruleset statements_walks = (walk_statements-Empty, walk_statements-Several)

pub ruleset search_block_walks = (walk_search_block-of)
