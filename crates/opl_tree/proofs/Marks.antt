-- What each tree writes, one layer at a time.
use Rattle.std.proofs.Common.{◌≡◌, ℕ, ℤ, Bool, List, [], ◌∷◌, ◌++◌, map, Option, None, Some, refl, ap, ◌∙◌, sym}
use Rattle.std.specs.Option.{option_map}
use Rattle.opl_token.specs.declared.sign.Sign.TheVariants as signs
use Rattle.opl_tree.specs.declared.keyword.Keyword.TheVariants as keywords
use Rattle.opl_tree.specs.declared.expression.NameTree.{NameTree}
use Rattle.opl_tree.specs.declared.expression.ExprTree.{ExprTree}
use Rattle.opl_tree.specs.declared.expression.ImpTree.{ImpTree}
use Rattle.opl_tree.specs.declared.expression.OrTree.{OrTree}
use Rattle.opl_tree.specs.declared.expression.AndTree.{AndTree}
use Rattle.opl_tree.specs.declared.expression.NegTree.{NegTree}
use Rattle.opl_tree.specs.declared.expression.CompareTree.{CompareTree}
use Rattle.opl_tree.specs.declared.expression.AddTree.{AddTree}
use Rattle.opl_tree.specs.declared.expression.AddStep.{AddStep}
use Rattle.opl_tree.specs.declared.expression.MulTree.{MulTree}
use Rattle.opl_tree.specs.declared.expression.MulStep.{MulStep}
use Rattle.opl_tree.specs.declared.expression.LastStep.{LastStep}
use Rattle.opl_tree.specs.declared.expression.OpenTree.{OpenTree}
use Rattle.opl_tree.specs.declared.expression.SignTree.{SignTree}
use Rattle.opl_tree.specs.declared.expression.PostTree.{PostTree}
use Rattle.opl_tree.specs.declared.expression.SuffixTree.{SuffixTree}
use Rattle.opl_tree.specs.declared.expression.SubscriptsTree.{SubscriptsTree}
use Rattle.opl_tree.specs.declared.expression.PrimTree.{PrimTree}
use Rattle.opl_tree.specs.declared.expression.KeyedTree.{KeyedTree}
use Rattle.opl_tree.specs.declared.expression.SetTree.{SetTree}
use Rattle.opl_tree.specs.declared.expression.ParamsTree.{ParamsTree}
use Rattle.opl_tree.specs.declared.expression.GroupStep.{GroupStep}
use Rattle.opl_tree.specs.declared.expression.GroupTree.{GroupTree}
use Rattle.opl_tree.specs.declared.expression.PatternTree.{PatternTree}
use Rattle.opl_tree.specs.declared.declaration.DataDeclTree.{DataDeclTree}
use Rattle.opl_tree.specs.declared.declaration.TypeTree.{TypeTree}
use Rattle.opl_tree.specs.declared.declaration.DimsTree.{DimsTree}
use Rattle.opl_tree.specs.declared.declaration.DimTree.{DimTree}
use Rattle.opl_tree.specs.declared.declaration.RangeTree.{RangeTree}
use Rattle.opl_tree.specs.declared.declaration.EnumTree.{EnumTree}
use Rattle.opl_tree.specs.declared.declaration.StructTree.{StructTree}
use Rattle.opl_tree.specs.declared.declaration.FieldTree.{FieldTree}
use Rattle.opl_tree.specs.declared.declaration.VariableTree.{VariableTree}
use Rattle.opl_tree.specs.declared.declaration.BoundsTree.{BoundsTree}
use Rattle.opl_tree.specs.declared.declaration.ActivityTree.{ActivityTree}
use Rattle.opl_tree.specs.declared.declaration.UnaryTree.{UnaryTree}
use Rattle.opl_tree.specs.declared.declaration.DiscreteTree.{DiscreteTree}
use Rattle.opl_tree.specs.declared.declaration.ScheduleTree.{ScheduleTree}
use Rattle.opl_tree.specs.declared.instruction.BlockTree.{BlockTree}
use Rattle.opl_tree.specs.declared.instruction.ItemsTree.{ItemsTree}
use Rattle.opl_tree.specs.declared.instruction.ItemTree.{ItemTree}
use Rattle.opl_tree.specs.declared.instruction.RequiresTree.{RequiresTree}
use Rattle.opl_tree.specs.declared.search.SearchTree.{SearchTree}
use Rattle.opl_tree.specs.declared.search.SearchBlockTree.{SearchBlockTree}
use Rattle.opl_tree.specs.declared.search.StatementsTree.{StatementsTree}
use Rattle.opl_tree.specs.declared.search.StatementTree.{StatementTree}
use Rattle.opl_tree.specs.declared.search.OrderedParamsTree.{OrderedParamsTree}
use Rattle.opl_tree.specs.declared.search.OrderTree.{OrderTree}
use Rattle.opl_tree.specs.declared.model.ModelTree.{ModelTree}
use Rattle.opl_tree.specs.declared.expression.Relation.{Relation}
use Rattle.opl_tree.specs.declared.expression.AddOp.{AddOp}
use Rattle.opl_tree.specs.declared.expression.MulOp.{MulOp}
use Rattle.opl_tree.specs.declared.expression.AggregateOp.{AggregateOp}
use Rattle.opl_tree.specs.declared.expression.CallOp.{CallOp}
use Rattle.opl_tree.specs.declared.expression.QuestionOp.{QuestionOp}
use Rattle.opl_tree.specs.declared.expression.GroupSeparator.{GroupSeparator}
use Rattle.opl_tree.specs.declared.instruction.Optimum.{Optimum}
use Rattle.opl_tree.specs.declared.search.BranchOp.{BranchOp}
use Rattle.opl_tree.specs.declared.search.LabelOp.{LabelOp}
use Rattle.opl_tree.specs.declared.expression.PatternTree.TheVariants as patterns
use Rattle.opl_tree.specs.declared.declaration.DeclTree.TheVariants as decls
use Rattle.opl_tree.specs.declared.declaration.InitialTree.TheVariants as initials
use Rattle.opl_tree.specs.declared.declaration.EnumNamesTree.TheVariants as enum_names
use Rattle.opl_tree.specs.declared.declaration.VariableTypeTree.TheVariants as variable_types
use Rattle.opl_tree.specs.declared.instruction.InstrTree.TheVariants as instrs
use Rattle.opl_tree.specs.declared.expression.CompareTree.TheVariants as compares
use Rattle.opl_tree.specs.declared.expression.MulTree.TheVariants as muls
use Rattle.opl_tree.specs.declared.expression.NegTree.TheVariants as negs
use Rattle.opl_tree.specs.declared.expression.OpenTree.TheVariants as opens
use Rattle.opl_tree.specs.declared.expression.PrimTree.TheVariants as prims
use Rattle.opl_tree.specs.declared.expression.SignTree.TheVariants as operands
use Rattle.opl_tree.specs.declared.expression.SuffixTree.TheVariants as suffixes
use Rattle.opl_tree.specs.declared.expression.CompareTree.TheViews.{out-AddStep, roll-AddStep, roll-out-AddStep, out-AddTree, roll-AddTree, roll-out-AddTree, out-AndTree, roll-AndTree, roll-out-AndTree, out-ExprTree, roll-ExprTree, roll-out-ExprTree, out-GroupStep, roll-GroupStep, roll-out-GroupStep, out-GroupTree, roll-GroupTree, roll-out-GroupTree, out-ImpTree, roll-ImpTree, roll-out-ImpTree, out-KeyedTree, roll-KeyedTree, roll-out-KeyedTree, out-LastStep, roll-LastStep, roll-out-LastStep, out-MulStep, roll-MulStep, roll-out-MulStep, out-OrTree, roll-OrTree, roll-out-OrTree, out-ParamsTree, roll-ParamsTree, roll-out-ParamsTree, out-PostTree, roll-PostTree, roll-out-PostTree, out-SetTree, roll-SetTree, roll-out-SetTree, out-SubscriptsTree, roll-SubscriptsTree, roll-out-SubscriptsTree}
use Rattle.opl_tree.specs.declared.expression.CompareTree.TheFolds.{fold-roll-CompareTree, fold-roll-MulTree, fold-roll-NegTree, fold-roll-OpenTree, fold-roll-PrimTree, fold-roll-SignTree, fold-roll-SuffixTree, fold-roll-AddStep, fold-roll-AddTree, fold-roll-AndTree, fold-roll-ExprTree, fold-roll-GroupStep, fold-roll-GroupTree, fold-roll-ImpTree, fold-roll-KeyedTree, fold-roll-LastStep, fold-roll-MulStep, fold-roll-OrTree, fold-roll-ParamsTree, fold-roll-PostTree, fold-roll-SetTree, fold-roll-SubscriptsTree}
use Rattle.opl_tree.specs.declared.declaration.TypeTree.TheVariants as kinds_of_type
use Rattle.opl_tree.specs.declared.declaration.TypeTree.TheFolds.{fold-roll-TypeTree}
use Rattle.opl_tree.specs.declared.instruction.ItemTree.TheVariants as items
use Rattle.opl_tree.specs.declared.instruction.ItemsTree.TheVariants as item_lists
use Rattle.opl_tree.specs.declared.instruction.ItemTree.TheViews.{out-BlockTree, roll-BlockTree, roll-out-BlockTree}
use Rattle.opl_tree.specs.declared.instruction.ItemTree.TheFolds.{fold-roll-ItemTree, fold-roll-ItemsTree, fold-roll-BlockTree}
use Rattle.opl_tree.specs.declared.search.StatementTree.TheVariants as statements
use Rattle.opl_tree.specs.declared.search.StatementsTree.TheVariants as statement_lists
use Rattle.opl_tree.specs.declared.search.StatementTree.TheViews.{out-SearchBlockTree, roll-SearchBlockTree, roll-out-SearchBlockTree}
use Rattle.opl_tree.specs.declared.search.StatementTree.TheFolds.{fold-roll-StatementTree, fold-roll-StatementsTree, fold-roll-SearchBlockTree}
use Rattle.opl_tree.specs.Marks.{word, sign, name, any, number, place, token, unbraced, nested, joined, behind, several, written, after, after_level, before, enclosed, optional, direction_word, relation_sign, add_sign, mul_part, aggregate_word, call_word, question_word, separator_sign, schedule_word, optimum_word, branch_word, label_word, marks_name, marks_expr, marks_imp, marks_or, marks_and, marks_neg, marks_compare, marks_add, marks_add_step, marks_mul, marks_mul_step, marks_last_step, marks_open, marks_sign, marks_post, marks_suffix, marks_subscripts, marks_prim, marks_keyed, marks_set, marks_params, marks_group_step, marks_group, marks_pattern, marks_decl, marks_data, marks_initial, marks_type, marks_dims, marks_dim, marks_range, marks_enum, marks_enum_names, marks_struct, marks_field, marks_variable, marks_variable_type, marks_bounds, marks_activity, marks_unary, marks_discrete, marks_schedule, marks_instr, marks_block, marks_items, marks_item, marks_requires, marks_search, marks_search_block, marks_statements, marks_statement, marks_ordered_params, marks_order, marks_model}

pub marks_name-is : (t : NameTree) → marks_name t ≡ place t.at ∷ token (name t.text) ∷ []
unfolding marks_name
marks_name-is t = refl

pub marks_pattern-Single : (named : NameTree) → marks_pattern (patterns.Single named) ≡ marks_name named
unfolding marks_pattern
marks_pattern-Single named = refl

pub marks_pattern-Record : (at : ℕ) (head : NameTree) (rest : List NameTree) → marks_pattern (patterns.Record at head rest) ≡ place at ∷ (nested (sign signs.Less) (marks_name head ++ behind signs.Comma (map marks_name rest)) ++ token (sign signs.Greater) ∷ [])
unfolding marks_pattern
marks_pattern-Record at head rest = refl

pub marks_compare-Single : (at : ℕ) (only : AddTree) → marks_compare (compares.Single at only) ≡ place at ∷ marks_add only
unfolding marks_compare marks_add marks_set
marks_compare-Single at only = ap marks_compare (sym (compares.rolls-Single at only)) ∙ rw fold-roll-CompareTree refl

pub marks_compare-Related : (at : ℕ) (left : AddTree) (relation : Relation) (right : AddTree) → marks_compare (compares.Related at left relation right) ≡ place at ∷ (marks_add left ++ token (sign (relation_sign relation)) ∷ marks_add right)
unfolding marks_compare marks_add marks_set
marks_compare-Related at left relation right = ap marks_compare (sym (compares.rolls-Related at left relation right)) ∙ rw fold-roll-CompareTree refl

pub marks_compare-Member : (at : ℕ) (element : AddTree) (set : SetTree) → marks_compare (compares.Member at element set) ≡ place at ∷ (marks_add element ++ token (word keywords.In) ∷ marks_set set)
unfolding marks_compare marks_add marks_set
marks_compare-Member at element set = ap marks_compare (sym (compares.rolls-Member at element set)) ∙ rw fold-roll-CompareTree refl

pub marks_mul-Opened : (inner : OpenTree) → marks_mul (muls.Opened inner) ≡ marks_open inner
unfolding marks_mul marks_open marks_sign marks_mul_step marks_last_step
marks_mul-Opened inner = ap marks_mul (sym (muls.rolls-Opened inner)) ∙ rw fold-roll-MulTree refl

pub marks_mul-Product : (at : ℕ) (head : SignTree) (rest : List MulStep) (last : Option LastStep) → marks_mul (muls.Product at head rest last) ≡ place at ∷ (marks_sign head ++ (joined (map marks_mul_step rest) ++ written (option_map marks_last_step last)))
unfolding marks_mul marks_open marks_sign marks_mul_step marks_last_step
marks_mul-Product at head rest None = ap marks_mul (sym (muls.rolls-Product at head rest None)) ∙ rw fold-roll-MulTree refl
marks_mul-Product at head rest (Some last) = ap marks_mul (sym (muls.rolls-Product at head rest (Some last))) ∙ rw fold-roll-MulTree refl

pub marks_neg-Not : (at : ℕ) (inner : NegTree) → marks_neg (negs.Not at inner) ≡ place at ∷ nested (word keywords.Not) (marks_neg inner)
unfolding marks_neg marks_compare
marks_neg-Not at inner = ap marks_neg (sym (negs.rolls-Not at inner)) ∙ rw fold-roll-NegTree refl

pub marks_neg-Compare : (inner : CompareTree) → marks_neg (negs.Compare inner) ≡ marks_compare inner
unfolding marks_neg marks_compare
marks_neg-Compare inner = ap marks_neg (sym (negs.rolls-Compare inner)) ∙ rw fold-roll-NegTree refl

pub marks_open-NegativeOpen : (at : ℕ) (inner : OpenTree) → marks_open (opens.NegativeOpen at inner) ≡ place at ∷ nested (sign signs.Minus) (marks_open inner)
unfolding marks_open marks_params marks_mul
marks_open-NegativeOpen at inner = ap marks_open (sym (opens.rolls-NegativeOpen at inner)) ∙ rw fold-roll-OpenTree refl

pub marks_open-Aggregate : (at : ℕ) (op : AggregateOp) (params : ParamsTree) (body : MulTree) → marks_open (opens.Aggregate at op params body) ≡ place at ∷ nested (word (aggregate_word op)) (nested (sign signs.OpenParenthesis) (marks_params params) ++ token (sign signs.CloseParenthesis) ∷ marks_mul body)
unfolding marks_open marks_params marks_mul
marks_open-Aggregate at op params body = ap marks_open (sym (opens.rolls-Aggregate at op params body)) ∙ rw fold-roll-OpenTree refl

pub marks_prim-Number : (at : ℕ) (value : ℤ) → marks_prim (prims.Number at value) ≡ place at ∷ token (number value) ∷ []
unfolding marks_prim marks_expr marks_add marks_params marks_keyed marks_post
marks_prim-Number at value = ap marks_prim (sym (prims.rolls-Number at value)) ∙ rw fold-roll-PrimTree refl

pub marks_prim-Named : (named : NameTree) → marks_prim (prims.Named named) ≡ marks_name named
unfolding marks_prim marks_expr marks_add marks_params marks_keyed marks_post
marks_prim-Named named = ap marks_prim (sym (prims.rolls-Named named)) ∙ rw fold-roll-PrimTree refl

pub marks_prim-Bracket : (at : ℕ) (inner : ExprTree) → marks_prim (prims.Bracket at inner) ≡ place at ∷ (nested (sign signs.OpenParenthesis) (marks_expr inner) ++ token (sign signs.CloseParenthesis) ∷ [])
unfolding marks_prim marks_expr marks_add marks_params marks_keyed marks_post
marks_prim-Bracket at inner = ap marks_prim (sym (prims.rolls-Bracket at inner)) ∙ rw fold-roll-PrimTree refl

pub marks_prim-Record : (at : ℕ) (head : AddTree) (rest : List AddTree) → marks_prim (prims.Record at head rest) ≡ place at ∷ (nested (sign signs.Less) (marks_add head ++ behind signs.Comma (map marks_add rest)) ++ token (sign signs.Greater) ∷ [])
unfolding marks_prim marks_expr marks_add marks_params marks_keyed marks_post
marks_prim-Record at head rest = ap marks_prim (sym (prims.rolls-Record at head rest)) ∙ rw fold-roll-PrimTree refl

pub marks_prim-Listed : (at : ℕ) (elements : List AddTree) → marks_prim (prims.Listed at elements) ≡ place at ∷ (nested (sign signs.OpenBrace) (several signs.Comma (map marks_add elements)) ++ token (sign signs.CloseBrace) ∷ [])
unfolding marks_prim marks_expr marks_add marks_params marks_keyed marks_post
marks_prim-Listed at elements = ap marks_prim (sym (prims.rolls-Listed at elements)) ∙ rw fold-roll-PrimTree refl

pub marks_prim-Described : (at : ℕ) (element : AddTree) (params : ParamsTree) → marks_prim (prims.Described at element params) ≡ place at ∷ (nested (sign signs.OpenBrace) (marks_add element ++ token (sign signs.Bar) ∷ marks_params params) ++ token (sign signs.CloseBrace) ∷ [])
unfolding marks_prim marks_expr marks_add marks_params marks_keyed marks_post
marks_prim-Described at element params = ap marks_prim (sym (prims.rolls-Described at element params)) ∙ rw fold-roll-PrimTree refl

pub marks_prim-Array : (at : ℕ) (elements : List AddTree) → marks_prim (prims.Array at elements) ≡ place at ∷ (nested (sign signs.OpenBracket) (several signs.Comma (map marks_add elements)) ++ token (sign signs.CloseBracket) ∷ [])
unfolding marks_prim marks_expr marks_add marks_params marks_keyed marks_post
marks_prim-Array at elements = ap marks_prim (sym (prims.rolls-Array at elements)) ∙ rw fold-roll-PrimTree refl

pub marks_prim-KeyedArray : (at : ℕ) (elements : List KeyedTree) → marks_prim (prims.KeyedArray at elements) ≡ place at ∷ (nested (sign signs.OpenAssociation) (several signs.Comma (map marks_keyed elements)) ++ token (sign signs.CloseAssociation) ∷ [])
unfolding marks_prim marks_expr marks_add marks_params marks_keyed marks_post
marks_prim-KeyedArray at elements = ap marks_prim (sym (prims.rolls-KeyedArray at elements)) ∙ rw fold-roll-PrimTree refl

pub marks_prim-Call : (at : ℕ) (op : CallOp) (argument : ExprTree) → marks_prim (prims.Call at op argument) ≡ place at ∷ token (word (call_word op)) ∷ (nested (sign signs.OpenParenthesis) (marks_expr argument) ++ token (sign signs.CloseParenthesis) ∷ [])
unfolding marks_prim marks_expr marks_add marks_params marks_keyed marks_post
marks_prim-Call at op argument = ap marks_prim (sym (prims.rolls-Call at op argument)) ∙ rw fold-roll-PrimTree refl

pub marks_prim-AllDifferent : (at : ℕ) (argument : AddTree) → marks_prim (prims.AllDifferent at argument) ≡ place at ∷ token (word keywords.AllDifferent) ∷ (nested (sign signs.OpenParenthesis) (marks_add argument) ++ token (sign signs.CloseParenthesis) ∷ [])
unfolding marks_prim marks_expr marks_add marks_params marks_keyed marks_post
marks_prim-AllDifferent at argument = ap marks_prim (sym (prims.rolls-AllDifferent at argument)) ∙ rw fold-roll-PrimTree refl

pub marks_prim-Question : (at : ℕ) (op : QuestionOp) (argument : PostTree) → marks_prim (prims.Question at op argument) ≡ place at ∷ token (word (question_word op)) ∷ (nested (sign signs.OpenParenthesis) (marks_post argument) ++ token (sign signs.CloseParenthesis) ∷ [])
unfolding marks_prim marks_expr marks_add marks_params marks_keyed marks_post
marks_prim-Question at op argument = ap marks_prim (sym (prims.rolls-Question at op argument)) ∙ rw fold-roll-PrimTree refl

pub marks_sign-Negative : (at : ℕ) (inner : SignTree) → marks_sign (operands.Negative at inner) ≡ place at ∷ nested (sign signs.Minus) (marks_sign inner)
unfolding marks_sign marks_post
marks_sign-Negative at inner = ap marks_sign (sym (operands.rolls-Negative at inner)) ∙ rw fold-roll-SignTree refl

pub marks_sign-Postfix : (inner : PostTree) → marks_sign (operands.Postfix inner) ≡ marks_post inner
unfolding marks_sign marks_post
marks_sign-Postfix inner = ap marks_sign (sym (operands.rolls-Postfix inner)) ∙ rw fold-roll-SignTree refl

pub marks_suffix-Subscripts : (inner : SubscriptsTree) → marks_suffix (suffixes.Subscripts inner) ≡ marks_subscripts inner
unfolding marks_suffix marks_subscripts
marks_suffix-Subscripts inner = ap marks_suffix (sym (suffixes.rolls-Subscripts inner)) ∙ rw fold-roll-SuffixTree refl

pub marks_suffix-Field : (at : ℕ) (field : NameTree) → marks_suffix (suffixes.Field at field) ≡ place at ∷ token (sign signs.Dot) ∷ place field.at ∷ token (any field.text) ∷ []
unfolding marks_suffix marks_subscripts
marks_suffix-Field at field = ap marks_suffix (sym (suffixes.rolls-Field at field)) ∙ rw fold-roll-SuffixTree refl

pub marks_add_step-of : (op : AddOp) (term : MulTree) → marks_add_step (roll-AddStep (record { op = op; term = term })) ≡ token (sign (add_sign op)) ∷ marks_mul term
unfolding marks_add_step marks_mul
marks_add_step-of op term = rw fold-roll-AddStep refl

pub marks_add_step-is : (t : AddStep) → marks_add_step t ≡ token (sign (add_sign (out-AddStep t).op)) ∷ marks_mul (out-AddStep t).term
marks_add_step-is t = ap marks_add_step (sym (roll-out-AddStep t)) ∙ marks_add_step-of (out-AddStep t).op (out-AddStep t).term

pub marks_add-of : (at : ℕ) (first : MulTree) (rest : List AddStep) → marks_add (roll-AddTree (record { at = at; first = first; rest = rest })) ≡ place at ∷ (marks_mul first ++ joined (map marks_add_step rest))
unfolding marks_add marks_mul marks_add_step
marks_add-of at first rest = rw fold-roll-AddTree refl

pub marks_add-is : (t : AddTree) → marks_add t ≡ place (out-AddTree t).at ∷ (marks_mul (out-AddTree t).first ++ joined (map marks_add_step (out-AddTree t).rest))
marks_add-is t = ap marks_add (sym (roll-out-AddTree t)) ∙ marks_add-of (out-AddTree t).at (out-AddTree t).first (out-AddTree t).rest

pub marks_and-of : (at : ℕ) (first : NegTree) (rest : List NegTree) → marks_and (roll-AndTree (record { at = at; first = first; rest = rest })) ≡ place at ∷ (marks_neg first ++ behind signs.And (map marks_neg rest))
unfolding marks_and marks_neg
marks_and-of at first rest = rw fold-roll-AndTree refl

pub marks_and-is : (t : AndTree) → marks_and t ≡ place (out-AndTree t).at ∷ (marks_neg (out-AndTree t).first ++ behind signs.And (map marks_neg (out-AndTree t).rest))
marks_and-is t = ap marks_and (sym (roll-out-AndTree t)) ∙ marks_and-of (out-AndTree t).at (out-AndTree t).first (out-AndTree t).rest

pub marks_expr-of : (at : ℕ) (first : ImpTree) (rest : List ImpTree) → marks_expr (roll-ExprTree (record { at = at; first = first; rest = rest })) ≡ place at ∷ (marks_imp first ++ behind signs.Equivalent (map marks_imp rest))
unfolding marks_expr marks_imp
marks_expr-of at first rest = rw fold-roll-ExprTree refl

pub marks_expr-is : (t : ExprTree) → marks_expr t ≡ place (out-ExprTree t).at ∷ (marks_imp (out-ExprTree t).first ++ behind signs.Equivalent (map marks_imp (out-ExprTree t).rest))
marks_expr-is t = ap marks_expr (sym (roll-out-ExprTree t)) ∙ marks_expr-of (out-ExprTree t).at (out-ExprTree t).first (out-ExprTree t).rest

pub marks_group_step-of : (separator : GroupSeparator) (group : GroupTree) → marks_group_step (roll-GroupStep (record { separator = separator; group = group })) ≡ token (sign (separator_sign separator)) ∷ marks_group group
unfolding marks_group_step marks_group
marks_group_step-of separator group = rw fold-roll-GroupStep refl

pub marks_group_step-is : (t : GroupStep) → marks_group_step t ≡ token (sign (separator_sign (out-GroupStep t).separator)) ∷ marks_group (out-GroupStep t).group
marks_group_step-is t = ap marks_group_step (sym (roll-out-GroupStep t)) ∙ marks_group_step-of (out-GroupStep t).separator (out-GroupStep t).group

pub marks_group-of : (at : ℕ) (is_ordered : Bool) (first : PatternTree) (rest : List PatternTree) (set : SetTree) → marks_group (roll-GroupTree (record { at = at; is_ordered = is_ordered; first = first; rest = rest; set = set })) ≡ place at ∷ (optional (word keywords.Ordered) is_ordered ++ (marks_pattern first ++ (behind signs.Comma (map marks_pattern rest) ++ token (word keywords.In) ∷ marks_set set)))
unfolding marks_group marks_set
marks_group-of at is_ordered first rest set = rw fold-roll-GroupTree refl

pub marks_group-is : (t : GroupTree) → marks_group t ≡ place (out-GroupTree t).at ∷ (optional (word keywords.Ordered) (out-GroupTree t).is_ordered ++ (marks_pattern (out-GroupTree t).first ++ (behind signs.Comma (map marks_pattern (out-GroupTree t).rest) ++ token (word keywords.In) ∷ marks_set (out-GroupTree t).set)))
marks_group-is t = ap marks_group (sym (roll-out-GroupTree t)) ∙ marks_group-of (out-GroupTree t).at (out-GroupTree t).is_ordered (out-GroupTree t).first (out-GroupTree t).rest (out-GroupTree t).set

pub marks_imp-of : (at : ℕ) (premise : OrTree) (conclusion : Option ImpTree) → marks_imp (roll-ImpTree (record { at = at; premise = premise; conclusion = conclusion })) ≡ place at ∷ (marks_or premise ++ after_level (sign signs.Implies) (option_map marks_imp conclusion))
unfolding marks_imp marks_or
marks_imp-of at premise None = rw fold-roll-ImpTree refl
marks_imp-of at premise (Some conclusion) = rw fold-roll-ImpTree refl

pub marks_imp-is : (t : ImpTree) → marks_imp t ≡ place (out-ImpTree t).at ∷ (marks_or (out-ImpTree t).premise ++ after_level (sign signs.Implies) (option_map marks_imp (out-ImpTree t).conclusion))
marks_imp-is t = ap marks_imp (sym (roll-out-ImpTree t)) ∙ marks_imp-of (out-ImpTree t).at (out-ImpTree t).premise (out-ImpTree t).conclusion

pub marks_keyed-of : (key : AddTree) (value : AddTree) → marks_keyed (roll-KeyedTree (record { key = key; value = value })) ≡ marks_add key ++ token (sign signs.Colon) ∷ marks_add value
unfolding marks_keyed marks_add
marks_keyed-of key value = rw fold-roll-KeyedTree refl

pub marks_keyed-is : (t : KeyedTree) → marks_keyed t ≡ marks_add (out-KeyedTree t).key ++ token (sign signs.Colon) ∷ marks_add (out-KeyedTree t).value
marks_keyed-is t = ap marks_keyed (sym (roll-out-KeyedTree t)) ∙ marks_keyed-of (out-KeyedTree t).key (out-KeyedTree t).value

pub marks_last_step-of : (op : MulOp) (factor : OpenTree) → marks_last_step (roll-LastStep (record { op = op; factor = factor })) ≡ token (mul_part op) ∷ marks_open factor
unfolding marks_last_step marks_open
marks_last_step-of op factor = rw fold-roll-LastStep refl

pub marks_last_step-is : (t : LastStep) → marks_last_step t ≡ token (mul_part (out-LastStep t).op) ∷ marks_open (out-LastStep t).factor
marks_last_step-is t = ap marks_last_step (sym (roll-out-LastStep t)) ∙ marks_last_step-of (out-LastStep t).op (out-LastStep t).factor

pub marks_mul_step-of : (op : MulOp) (factor : SignTree) → marks_mul_step (roll-MulStep (record { op = op; factor = factor })) ≡ token (mul_part op) ∷ marks_sign factor
unfolding marks_mul_step marks_sign
marks_mul_step-of op factor = rw fold-roll-MulStep refl

pub marks_mul_step-is : (t : MulStep) → marks_mul_step t ≡ token (mul_part (out-MulStep t).op) ∷ marks_sign (out-MulStep t).factor
marks_mul_step-is t = ap marks_mul_step (sym (roll-out-MulStep t)) ∙ marks_mul_step-of (out-MulStep t).op (out-MulStep t).factor

pub marks_or-of : (at : ℕ) (first : AndTree) (rest : List AndTree) → marks_or (roll-OrTree (record { at = at; first = first; rest = rest })) ≡ place at ∷ (marks_and first ++ behind signs.Or (map marks_and rest))
unfolding marks_or marks_and
marks_or-of at first rest = rw fold-roll-OrTree refl

pub marks_or-is : (t : OrTree) → marks_or t ≡ place (out-OrTree t).at ∷ (marks_and (out-OrTree t).first ++ behind signs.Or (map marks_and (out-OrTree t).rest))
marks_or-is t = ap marks_or (sym (roll-out-OrTree t)) ∙ marks_or-of (out-OrTree t).at (out-OrTree t).first (out-OrTree t).rest

pub marks_params-of : (at : ℕ) (first : GroupTree) (rest : List GroupStep) (condition : Option ExprTree) → marks_params (roll-ParamsTree (record { at = at; first = first; rest = rest; condition = condition })) ≡ place at ∷ (marks_group first ++ (joined (map marks_group_step rest) ++ after (sign signs.Colon) (option_map marks_expr condition)))
unfolding marks_params marks_group marks_group_step marks_expr
marks_params-of at first rest None = rw fold-roll-ParamsTree refl
marks_params-of at first rest (Some condition) = rw fold-roll-ParamsTree refl

pub marks_params-is : (t : ParamsTree) → marks_params t ≡ place (out-ParamsTree t).at ∷ (marks_group (out-ParamsTree t).first ++ (joined (map marks_group_step (out-ParamsTree t).rest) ++ after (sign signs.Colon) (option_map marks_expr (out-ParamsTree t).condition)))
marks_params-is t = ap marks_params (sym (roll-out-ParamsTree t)) ∙ marks_params-of (out-ParamsTree t).at (out-ParamsTree t).first (out-ParamsTree t).rest (out-ParamsTree t).condition

pub marks_post-of : (at : ℕ) (prim : PrimTree) (suffixes : List SuffixTree) → marks_post (roll-PostTree (record { at = at; prim = prim; suffixes = suffixes })) ≡ place at ∷ (marks_prim prim ++ joined (map marks_suffix suffixes))
unfolding marks_post marks_prim marks_suffix
marks_post-of at prim suffixes = rw fold-roll-PostTree refl

pub marks_post-is : (t : PostTree) → marks_post t ≡ place (out-PostTree t).at ∷ (marks_prim (out-PostTree t).prim ++ joined (map marks_suffix (out-PostTree t).suffixes))
marks_post-is t = ap marks_post (sym (roll-out-PostTree t)) ∙ marks_post-of (out-PostTree t).at (out-PostTree t).prim (out-PostTree t).suffixes

pub marks_set-of : (at : ℕ) (low : AddTree) (high : Option AddTree) → marks_set (roll-SetTree (record { at = at; low = low; high = high })) ≡ place at ∷ (marks_add low ++ after (sign signs.Range) (option_map marks_add high))
unfolding marks_set marks_add
marks_set-of at low None = rw fold-roll-SetTree refl
marks_set-of at low (Some high) = rw fold-roll-SetTree refl

pub marks_set-is : (t : SetTree) → marks_set t ≡ place (out-SetTree t).at ∷ (marks_add (out-SetTree t).low ++ after (sign signs.Range) (option_map marks_add (out-SetTree t).high))
marks_set-is t = ap marks_set (sym (roll-out-SetTree t)) ∙ marks_set-of (out-SetTree t).at (out-SetTree t).low (out-SetTree t).high

pub marks_subscripts-of : (at : ℕ) (first : AddTree) (rest : List AddTree) → marks_subscripts (roll-SubscriptsTree (record { at = at; first = first; rest = rest })) ≡ place at ∷ (nested (sign signs.OpenBracket) (marks_add first ++ behind signs.Comma (map marks_add rest)) ++ token (sign signs.CloseBracket) ∷ [])
unfolding marks_subscripts marks_add
marks_subscripts-of at first rest = rw fold-roll-SubscriptsTree refl

pub marks_subscripts-is : (t : SubscriptsTree) → marks_subscripts t ≡ place (out-SubscriptsTree t).at ∷ (nested (sign signs.OpenBracket) (marks_add (out-SubscriptsTree t).first ++ behind signs.Comma (map marks_add (out-SubscriptsTree t).rest)) ++ token (sign signs.CloseBracket) ∷ [])
marks_subscripts-is t = ap marks_subscripts (sym (roll-out-SubscriptsTree t)) ∙ marks_subscripts-of (out-SubscriptsTree t).at (out-SubscriptsTree t).first (out-SubscriptsTree t).rest

pub marks_type-Int : (at : ℕ) → marks_type (kinds_of_type.Int at) ≡ place at ∷ token (word keywords.Int) ∷ []
unfolding marks_type
marks_type-Int at = ap marks_type (sym (kinds_of_type.rolls-Int at)) ∙ rw fold-roll-TypeTree refl

pub marks_type-Named : (named : NameTree) → marks_type (kinds_of_type.Named named) ≡ marks_name named
unfolding marks_type
marks_type-Named named = ap marks_type (sym (kinds_of_type.rolls-Named named)) ∙ rw fold-roll-TypeTree refl

pub marks_type-Set : (at : ℕ) (inner : TypeTree) → marks_type (kinds_of_type.Set at inner) ≡ place at ∷ (nested (sign signs.OpenBrace) (marks_type inner) ++ token (sign signs.CloseBrace) ∷ [])
unfolding marks_type
marks_type-Set at inner = ap marks_type (sym (kinds_of_type.rolls-Set at inner)) ∙ rw fold-roll-TypeTree refl

pub marks_dim-is : (t : DimTree) → marks_dim t ≡ place t.at ∷ (before (word keywords.In) (option_map marks_name t.name) ++ marks_set t.set)
unfolding marks_dim
marks_dim-is t = refl

pub marks_dims-is : (t : DimsTree) → marks_dims t ≡ place t.at ∷ (nested (sign signs.OpenBracket) (marks_dim t.first ++ behind signs.Comma (map marks_dim t.rest)) ++ token (sign signs.CloseBracket) ∷ [])
unfolding marks_dims
marks_dims-is t = refl

pub marks_initial-External : (at : ℕ) → marks_initial (initials.External at) ≡ place at ∷ token (sign signs.Ellipsis) ∷ []
unfolding marks_initial
marks_initial-External at = refl

pub marks_initial-Written : (value : AddTree) → marks_initial (initials.Written value) ≡ marks_add value
unfolding marks_initial
marks_initial-Written value = refl

pub marks_data-is : (t : DataDeclTree) → marks_data t ≡ place t.at ∷ (marks_type t.kind ++ (marks_name t.name ++ (written (option_map marks_dims t.dims) ++ token (sign signs.Equal) ∷ (marks_initial t.initial ++ token (sign signs.Semicolon) ∷ []))))
unfolding marks_data
marks_data-is t = refl

pub marks_range-is : (t : RangeTree) → marks_range t ≡ place t.at ∷ token (word keywords.Range) ∷ (marks_name t.name ++ (marks_add t.low ++ token (sign signs.Range) ∷ (marks_add t.high ++ token (sign signs.Semicolon) ∷ [])))
unfolding marks_range
marks_range-is t = refl

pub marks_enum_names-Listed : (at : ℕ) (head : NameTree) (rest : List NameTree) → marks_enum_names (enum_names.Listed at head rest) ≡ place at ∷ (nested (sign signs.OpenBrace) (marks_name head ++ behind signs.Comma (map marks_name rest)) ++ token (sign signs.CloseBrace) ∷ [])
unfolding marks_enum_names
marks_enum_names-Listed at head rest = refl

pub marks_enum_names-External : (at : ℕ) (is_equated : Bool) → marks_enum_names (enum_names.External at is_equated) ≡ place at ∷ (optional (sign signs.Equal) is_equated ++ token (sign signs.Ellipsis) ∷ [])
unfolding marks_enum_names
marks_enum_names-External at is_equated = refl

pub marks_enum-is : (t : EnumTree) → marks_enum t ≡ place t.at ∷ token (word keywords.Enum) ∷ (marks_name t.name ++ (marks_enum_names t.names ++ token (sign signs.Semicolon) ∷ []))
unfolding marks_enum
marks_enum-is t = refl

pub marks_field-is : (t : FieldTree) → marks_field t ≡ place t.at ∷ (marks_type t.kind ++ (marks_name t.name ++ token (sign signs.Semicolon) ∷ []))
unfolding marks_field
marks_field-is t = refl

pub marks_struct-is : (t : StructTree) → marks_struct t ≡ place t.at ∷ token (word keywords.Struct) ∷ (marks_name t.name ++ (nested (sign signs.OpenBrace) (marks_field t.first ++ joined (map marks_field t.rest)) ++ token (sign signs.CloseBrace) ∷ token (sign signs.Semicolon) ∷ []))
unfolding marks_struct
marks_struct-is t = refl

pub marks_variable_type-Int : (at : ℕ) → marks_variable_type (variable_types.Int at) ≡ place at ∷ token (word keywords.Int) ∷ []
unfolding marks_variable_type
marks_variable_type-Int at = refl

pub marks_variable_type-Named : (named : NameTree) → marks_variable_type (variable_types.Named named) ≡ marks_name named
unfolding marks_variable_type
marks_variable_type-Named named = refl

pub marks_bounds-is : (t : BoundsTree) → marks_bounds t ≡ place t.at ∷ token (word keywords.In) ∷ (marks_add t.low ++ token (sign signs.Range) ∷ marks_add t.high)
unfolding marks_bounds
marks_bounds-is t = refl

pub marks_variable-is : (t : VariableTree) → marks_variable t ≡ place t.at ∷ token (word keywords.Var) ∷ (marks_variable_type t.kind ++ (marks_name t.name ++ (written (option_map marks_dims t.dims) ++ (written (option_map marks_bounds t.bounds) ++ token (sign signs.Semicolon) ∷ []))))
unfolding marks_variable
marks_variable-is t = refl

pub marks_activity-is : (t : ActivityTree) → marks_activity t ≡ place t.at ∷ token (word keywords.Activity) ∷ (marks_name t.name ++ (written (option_map marks_dims t.dims) ++ (nested (sign signs.OpenParenthesis) (marks_add t.shortest ++ after (sign signs.Range) (option_map marks_add t.longest)) ++ token (sign signs.CloseParenthesis) ∷ token (sign signs.Semicolon) ∷ [])))
unfolding marks_activity
marks_activity-is t = refl

pub marks_unary-is : (t : UnaryTree) → marks_unary t ≡ place t.at ∷ token (word keywords.UnaryResource) ∷ (marks_name t.name ++ (written (option_map marks_dims t.dims) ++ token (sign signs.Semicolon) ∷ []))
unfolding marks_unary
marks_unary-is t = refl

pub marks_discrete-is : (t : DiscreteTree) → marks_discrete t ≡ place t.at ∷ token (word keywords.DiscreteResource) ∷ (marks_name t.name ++ (written (option_map marks_dims t.dims) ++ (nested (sign signs.OpenParenthesis) (marks_add t.capacity) ++ token (sign signs.CloseParenthesis) ∷ token (sign signs.Semicolon) ∷ [])))
unfolding marks_discrete
marks_discrete-is t = refl

pub marks_schedule-is : (t : ScheduleTree) → marks_schedule t ≡ place t.at ∷ token (word (schedule_word t.end)) ∷ token (sign signs.Equal) ∷ (marks_add t.value ++ token (sign signs.Semicolon) ∷ [])
unfolding marks_schedule
marks_schedule-is t = refl

pub marks_decl-Data : (inner : DataDeclTree) → marks_decl (decls.Data inner) ≡ marks_data inner
unfolding marks_decl
marks_decl-Data inner = refl

pub marks_decl-Range : (inner : RangeTree) → marks_decl (decls.Range inner) ≡ marks_range inner
unfolding marks_decl
marks_decl-Range inner = refl

pub marks_decl-Enumeration : (inner : EnumTree) → marks_decl (decls.Enumeration inner) ≡ marks_enum inner
unfolding marks_decl
marks_decl-Enumeration inner = refl

pub marks_decl-Structure : (inner : StructTree) → marks_decl (decls.Structure inner) ≡ marks_struct inner
unfolding marks_decl
marks_decl-Structure inner = refl

pub marks_decl-Variable : (inner : VariableTree) → marks_decl (decls.Variable inner) ≡ marks_variable inner
unfolding marks_decl
marks_decl-Variable inner = refl

pub marks_decl-Activity : (inner : ActivityTree) → marks_decl (decls.Activity inner) ≡ marks_activity inner
unfolding marks_decl
marks_decl-Activity inner = refl

pub marks_decl-Unary : (inner : UnaryTree) → marks_decl (decls.Unary inner) ≡ marks_unary inner
unfolding marks_decl
marks_decl-Unary inner = refl

pub marks_decl-Discrete : (inner : DiscreteTree) → marks_decl (decls.Discrete inner) ≡ marks_discrete inner
unfolding marks_decl
marks_decl-Discrete inner = refl

pub marks_decl-Schedule : (inner : ScheduleTree) → marks_decl (decls.Schedule inner) ≡ marks_schedule inner
unfolding marks_decl
marks_decl-Schedule inner = refl

pub marks_requires-is : (t : RequiresTree) → marks_requires t ≡ place t.at ∷ (marks_post t.activity ++ token (word keywords.Requires) ∷ (enclosed signs.OpenParenthesis signs.CloseParenthesis (option_map marks_add t.demand) ++ (marks_name t.resource ++ written (option_map marks_subscripts t.subscripts))))
unfolding marks_requires
marks_requires-is t = refl

pub marks_item-Block : (inner : BlockTree) → marks_item (items.Block inner) ≡ marks_block inner
unfolding marks_item marks_block marks_items
marks_item-Block inner = ap marks_item (sym (items.rolls-Block inner)) ∙ rw fold-roll-ItemTree refl

pub marks_item-ForAll : (at : ℕ) (params : ParamsTree) (body : ItemTree) → marks_item (items.ForAll at params body) ≡ place at ∷ nested (word keywords.ForAll) (nested (sign signs.OpenParenthesis) (marks_params params) ++ token (sign signs.CloseParenthesis) ∷ marks_item body)
unfolding marks_item marks_block marks_items
marks_item-ForAll at params body = ap marks_item (sym (items.rolls-ForAll at params body)) ∙ rw fold-roll-ItemTree refl

pub marks_item-If : (at : ℕ) (condition : ExprTree) (holds : ItemsTree) (fails : Option ItemsTree) → marks_item (items.If at condition holds fails) ≡ place at ∷ nested (word keywords.If) (marks_expr condition ++ token (word keywords.Then) ∷ (marks_items holds ++ (after (word keywords.Else) (option_map marks_items fails) ++ token (word keywords.EndIf) ∷ [])))
unfolding marks_item marks_block marks_items
marks_item-If at condition holds None = ap marks_item (sym (items.rolls-If at condition holds None)) ∙ rw fold-roll-ItemTree refl
marks_item-If at condition holds (Some fails) = ap marks_item (sym (items.rolls-If at condition holds (Some fails))) ∙ rw fold-roll-ItemTree refl

pub marks_item-Precedes : (at : ℕ) (earlier : PostTree) (later : PostTree) → marks_item (items.Precedes at earlier later) ≡ unbraced ∷ place at ∷ (marks_post earlier ++ token (word keywords.Precedes) ∷ marks_post later)
unfolding marks_item marks_block marks_items
marks_item-Precedes at earlier later = ap marks_item (sym (items.rolls-Precedes at earlier later)) ∙ rw fold-roll-ItemTree refl

pub marks_item-Requires : (inner : RequiresTree) → marks_item (items.Requires inner) ≡ unbraced ∷ marks_requires inner
unfolding marks_item marks_block marks_items
marks_item-Requires inner = ap marks_item (sym (items.rolls-Requires inner)) ∙ rw fold-roll-ItemTree refl

pub marks_item-Constraint : (inner : ExprTree) → marks_item (items.Constraint inner) ≡ unbraced ∷ marks_expr inner
unfolding marks_item marks_block marks_items
marks_item-Constraint inner = ap marks_item (sym (items.rolls-Constraint inner)) ∙ rw fold-roll-ItemTree refl

pub marks_items-Empty : (at : ℕ) → marks_items (item_lists.Empty at) ≡ place at ∷ []
unfolding marks_items marks_item
marks_items-Empty at = ap marks_items (sym (item_lists.rolls-Empty at)) ∙ rw fold-roll-ItemsTree refl

pub marks_items-Several : (at : ℕ) (head : ItemTree) (rest : List ItemTree) (is_closed : Bool) → marks_items (item_lists.Several at head rest is_closed) ≡ place at ∷ (marks_item head ++ (behind signs.Semicolon (map marks_item rest) ++ optional (sign signs.Semicolon) is_closed))
unfolding marks_items marks_item
marks_items-Several at head rest is_closed = ap marks_items (sym (item_lists.rolls-Several at head rest is_closed)) ∙ rw fold-roll-ItemsTree refl

pub marks_block-of : (at : ℕ) (items : ItemsTree) → marks_block (roll-BlockTree (record { at = at; items = items })) ≡ place at ∷ (nested (sign signs.OpenBrace) (marks_items items) ++ token (sign signs.CloseBrace) ∷ [])
unfolding marks_block marks_items
marks_block-of at items = rw fold-roll-BlockTree refl

pub marks_block-is : (t : BlockTree) → marks_block t ≡ place (out-BlockTree t).at ∷ (nested (sign signs.OpenBrace) (marks_items (out-BlockTree t).items) ++ token (sign signs.CloseBrace) ∷ [])
marks_block-is t = ap marks_block (sym (roll-out-BlockTree t)) ∙ marks_block-of (out-BlockTree t).at (out-BlockTree t).items

pub marks_instr-Solve : (at : ℕ) (block : BlockTree) → marks_instr (instrs.Solve at block) ≡ place at ∷ token (word keywords.Solve) ∷ (marks_block block ++ token (sign signs.Semicolon) ∷ [])
unfolding marks_instr
marks_instr-Solve at block = refl

pub marks_instr-Optimize : (at : ℕ) (optimum : Optimum) (objective : ExprTree) (block : BlockTree) → marks_instr (instrs.Optimize at optimum objective block) ≡ place at ∷ token (word (optimum_word optimum)) ∷ (marks_expr objective ++ token (word keywords.Subject) ∷ token (word keywords.To) ∷ (marks_block block ++ token (sign signs.Semicolon) ∷ []))
unfolding marks_instr
marks_instr-Optimize at optimum objective block = refl

pub marks_order-is : (t : OrderTree) → marks_order t ≡ place t.at ∷ token (word keywords.Ordered) ∷ token (word keywords.By) ∷ token (word (direction_word t.is_increasing)) ∷ marks_add t.key
unfolding marks_order
marks_order-is t = refl

pub marks_ordered_params-is : (t : OrderedParamsTree) → marks_ordered_params t ≡ place t.at ∷ (marks_params t.params ++ written (option_map marks_order t.order))
unfolding marks_ordered_params
marks_ordered_params-is t = refl

pub marks_statement-Block : (inner : SearchBlockTree) → marks_statement (statements.Block inner) ≡ marks_search_block inner
unfolding marks_statement marks_search_block marks_statements
marks_statement-Block inner = ap marks_statement (sym (statements.rolls-Block inner)) ∙ rw fold-roll-StatementTree refl

pub marks_statement-Try : (at : ℕ) (head : StatementsTree) (second : StatementsTree) (rest : List StatementsTree) → marks_statement (statements.Try at head second rest) ≡ place at ∷ nested (word keywords.Try) (marks_statements head ++ token (sign signs.Bar) ∷ (marks_statements second ++ (behind signs.Bar (map marks_statements rest) ++ token (word keywords.EndTry) ∷ [])))
unfolding marks_statement marks_search_block marks_statements
marks_statement-Try at head second rest = ap marks_statement (sym (statements.rolls-Try at head second rest)) ∙ rw fold-roll-StatementTree refl

pub marks_statement-Branch : (at : ℕ) (op : BranchOp) (params : OrderedParamsTree) (body : StatementTree) → marks_statement (statements.Branch at op params body) ≡ place at ∷ nested (word (branch_word op)) (nested (sign signs.OpenParenthesis) (marks_ordered_params params) ++ token (sign signs.CloseParenthesis) ∷ marks_statement body)
unfolding marks_statement marks_search_block marks_statements
marks_statement-Branch at op params body = ap marks_statement (sym (statements.rolls-Branch at op params body)) ∙ rw fold-roll-StatementTree refl

pub marks_statement-Once : (at : ℕ) (body : StatementTree) → marks_statement (statements.Once at body) ≡ place at ∷ nested (word keywords.Once) (marks_statement body)
unfolding marks_statement marks_search_block marks_statements
marks_statement-Once at body = ap marks_statement (sym (statements.rolls-Once at body)) ∙ rw fold-roll-StatementTree refl

pub marks_statement-While : (at : ℕ) (condition : ExprTree) (body : StatementTree) → marks_statement (statements.While at condition body) ≡ place at ∷ nested (word keywords.While) (marks_expr condition ++ token (word keywords.Do) ∷ marks_statement body)
unfolding marks_statement marks_search_block marks_statements
marks_statement-While at condition body = ap marks_statement (sym (statements.rolls-While at condition body)) ∙ rw fold-roll-StatementTree refl

pub marks_statement-If : (at : ℕ) (condition : ExprTree) (holds : StatementsTree) (fails : Option StatementsTree) → marks_statement (statements.If at condition holds fails) ≡ place at ∷ nested (word keywords.If) (marks_expr condition ++ token (word keywords.Then) ∷ (marks_statements holds ++ (after (word keywords.Else) (option_map marks_statements fails) ++ token (word keywords.EndIf) ∷ [])))
unfolding marks_statement marks_search_block marks_statements
marks_statement-If at condition holds None = ap marks_statement (sym (statements.rolls-If at condition holds None)) ∙ rw fold-roll-StatementTree refl
marks_statement-If at condition holds (Some fails) = ap marks_statement (sym (statements.rolls-If at condition holds (Some fails))) ∙ rw fold-roll-StatementTree refl

pub marks_statement-Label : (at : ℕ) (op : LabelOp) (argument : PostTree) → marks_statement (statements.Label at op argument) ≡ place at ∷ token (word (label_word op)) ∷ (nested (sign signs.OpenParenthesis) (marks_post argument) ++ token (sign signs.CloseParenthesis) ∷ [])
unfolding marks_statement marks_search_block marks_statements
marks_statement-Label at op argument = ap marks_statement (sym (statements.rolls-Label at op argument)) ∙ rw fold-roll-StatementTree refl

pub marks_statement-Precedes : (at : ℕ) (earlier : PostTree) (later : PostTree) → marks_statement (statements.Precedes at earlier later) ≡ unbraced ∷ place at ∷ (marks_post earlier ++ token (word keywords.Precedes) ∷ marks_post later)
unfolding marks_statement marks_search_block marks_statements
marks_statement-Precedes at earlier later = ap marks_statement (sym (statements.rolls-Precedes at earlier later)) ∙ rw fold-roll-StatementTree refl

pub marks_statement-Constraint : (inner : ExprTree) → marks_statement (statements.Constraint inner) ≡ unbraced ∷ marks_expr inner
unfolding marks_statement marks_search_block marks_statements
marks_statement-Constraint inner = ap marks_statement (sym (statements.rolls-Constraint inner)) ∙ rw fold-roll-StatementTree refl

pub marks_statements-Empty : (at : ℕ) → marks_statements (statement_lists.Empty at) ≡ place at ∷ []
unfolding marks_statements marks_statement
marks_statements-Empty at = ap marks_statements (sym (statement_lists.rolls-Empty at)) ∙ rw fold-roll-StatementsTree refl

pub marks_statements-Several : (at : ℕ) (head : StatementTree) (rest : List StatementTree) (is_closed : Bool) → marks_statements (statement_lists.Several at head rest is_closed) ≡ place at ∷ (marks_statement head ++ (behind signs.Semicolon (map marks_statement rest) ++ optional (sign signs.Semicolon) is_closed))
unfolding marks_statements marks_statement
marks_statements-Several at head rest is_closed = ap marks_statements (sym (statement_lists.rolls-Several at head rest is_closed)) ∙ rw fold-roll-StatementsTree refl

pub marks_search_block-of : (at : ℕ) (statements : StatementsTree) → marks_search_block (roll-SearchBlockTree (record { at = at; statements = statements })) ≡ place at ∷ (nested (sign signs.OpenBrace) (marks_statements statements) ++ token (sign signs.CloseBrace) ∷ [])
unfolding marks_search_block marks_statements
marks_search_block-of at statements = rw fold-roll-SearchBlockTree refl

pub marks_search_block-is : (t : SearchBlockTree) → marks_search_block t ≡ place (out-SearchBlockTree t).at ∷ (nested (sign signs.OpenBrace) (marks_statements (out-SearchBlockTree t).statements) ++ token (sign signs.CloseBrace) ∷ [])
marks_search_block-is t = ap marks_search_block (sym (roll-out-SearchBlockTree t)) ∙ marks_search_block-of (out-SearchBlockTree t).at (out-SearchBlockTree t).statements

pub marks_search-is : (t : SearchTree) → marks_search t ≡ place t.at ∷ token (word keywords.Search) ∷ (marks_search_block t.block ++ token (sign signs.Semicolon) ∷ [])
unfolding marks_search
marks_search-is t = refl

pub marks_model-is : (t : ModelTree) → marks_model t ≡ place t.at ∷ (joined (map marks_decl t.decls) ++ (marks_instr t.instr ++ written (option_map marks_search t.search)))
unfolding marks_model
marks_model-is t = refl

pub ruleset name_marks = (marks_name-is)

pub ruleset pattern_marks = (marks_pattern-Single, marks_pattern-Record)

pub ruleset compare_marks = (marks_compare-Single, marks_compare-Related, marks_compare-Member)

pub ruleset mul_marks = (marks_mul-Opened, marks_mul-Product)

pub ruleset neg_marks = (marks_neg-Not, marks_neg-Compare)

pub ruleset open_marks = (marks_open-NegativeOpen, marks_open-Aggregate)

pub ruleset prim_marks = (marks_prim-Number, marks_prim-Named, marks_prim-Bracket, marks_prim-Record, marks_prim-Listed, marks_prim-Described, marks_prim-Array, marks_prim-KeyedArray, marks_prim-Call, marks_prim-AllDifferent, marks_prim-Question)

pub ruleset sign_marks = (marks_sign-Negative, marks_sign-Postfix)

pub ruleset suffix_marks = (marks_suffix-Subscripts, marks_suffix-Field)

pub ruleset add_step_marks = (marks_add_step-is)

pub ruleset add_marks = (marks_add-is)

pub ruleset and_marks = (marks_and-is)

pub ruleset expr_marks = (marks_expr-is)

pub ruleset group_step_marks = (marks_group_step-is)

pub ruleset group_marks = (marks_group-is)

pub ruleset imp_marks = (marks_imp-is)

pub ruleset keyed_marks = (marks_keyed-is)

pub ruleset last_step_marks = (marks_last_step-is)

pub ruleset mul_step_marks = (marks_mul_step-is)

pub ruleset or_marks = (marks_or-is)

pub ruleset params_marks = (marks_params-is)

pub ruleset post_marks = (marks_post-is)

pub ruleset set_marks = (marks_set-is)

pub ruleset subscripts_marks = (marks_subscripts-is)

pub ruleset type_marks = (marks_type-Int, marks_type-Named, marks_type-Set)

pub ruleset dim_marks = (marks_dim-is)

pub ruleset dims_marks = (marks_dims-is)

pub ruleset initial_marks = (marks_initial-External, marks_initial-Written)

pub ruleset data_marks = (marks_data-is)

pub ruleset range_marks = (marks_range-is)

pub ruleset enum_names_marks = (marks_enum_names-Listed, marks_enum_names-External)

pub ruleset enum_marks = (marks_enum-is)

pub ruleset field_marks = (marks_field-is)

pub ruleset struct_marks = (marks_struct-is)

pub ruleset variable_type_marks = (marks_variable_type-Int, marks_variable_type-Named)

pub ruleset bounds_marks = (marks_bounds-is)

pub ruleset variable_marks = (marks_variable-is)

pub ruleset activity_marks = (marks_activity-is)

pub ruleset unary_marks = (marks_unary-is)

pub ruleset discrete_marks = (marks_discrete-is)

pub ruleset schedule_marks = (marks_schedule-is)

pub ruleset decl_marks = (marks_decl-Data, marks_decl-Range, marks_decl-Enumeration, marks_decl-Structure, marks_decl-Variable, marks_decl-Activity, marks_decl-Unary, marks_decl-Discrete, marks_decl-Schedule)

pub ruleset requires_marks = (marks_requires-is)

pub ruleset item_marks = (marks_item-Block, marks_item-ForAll, marks_item-If, marks_item-Precedes, marks_item-Requires, marks_item-Constraint)

pub ruleset items_marks = (marks_items-Empty, marks_items-Several)

pub ruleset block_marks = (marks_block-is)

pub ruleset instr_marks = (marks_instr-Solve, marks_instr-Optimize)

pub ruleset order_marks = (marks_order-is)

pub ruleset ordered_params_marks = (marks_ordered_params-is)

pub ruleset statement_marks = (marks_statement-Block, marks_statement-Try, marks_statement-Branch, marks_statement-Once, marks_statement-While, marks_statement-If, marks_statement-Label, marks_statement-Precedes, marks_statement-Constraint)

pub ruleset statements_marks = (marks_statements-Empty, marks_statements-Several)

pub ruleset search_block_marks = (marks_search_block-is)

pub ruleset search_marks = (marks_search-is)

pub ruleset model_marks = (marks_model-is)
