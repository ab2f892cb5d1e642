-- The marks of a tree: what it writes, token by token, with the place of each node before the node's first token.
use Rattle.std.specs.Prelude.{ℕ, suc, ℤ, Bool, true, false, List, [], ◌∷◌, ◌++◌, map, Option, None, Some}
use Rattle.std.specs.Option.{option_map}
use Rattle.opl_token.specs.declared.sign.Sign.{Sign}
use Rattle.opl_token.specs.declared.sign.Sign.TheVariants as signs
use Rattle.opl_tree.specs.declared.keyword.Keyword.{Keyword}
use Rattle.opl_tree.specs.declared.keyword.Keyword.TheVariants as keywords
use Rattle.opl_tree.specs.declared.expression.Relation.{Relation}
use Rattle.opl_tree.specs.declared.expression.Relation.TheVariants as relations
use Rattle.opl_tree.specs.declared.expression.AddOp.{AddOp}
use Rattle.opl_tree.specs.declared.expression.AddOp.TheVariants as add_ops
use Rattle.opl_tree.specs.declared.expression.MulOp.{MulOp}
use Rattle.opl_tree.specs.declared.expression.MulOp.TheVariants as mul_ops
use Rattle.opl_tree.specs.declared.expression.AggregateOp.{AggregateOp}
use Rattle.opl_tree.specs.declared.expression.AggregateOp.TheVariants as aggregate_ops
use Rattle.opl_tree.specs.declared.expression.CallOp.{CallOp}
use Rattle.opl_tree.specs.declared.expression.CallOp.TheVariants as call_ops
use Rattle.opl_tree.specs.declared.expression.QuestionOp.{QuestionOp}
use Rattle.opl_tree.specs.declared.expression.QuestionOp.TheVariants as question_ops
use Rattle.opl_tree.specs.declared.expression.GroupSeparator.{GroupSeparator}
use Rattle.opl_tree.specs.declared.expression.GroupSeparator.TheVariants as separators
use Rattle.opl_tree.specs.declared.declaration.ScheduleEnd.{ScheduleEnd}
use Rattle.opl_tree.specs.declared.declaration.ScheduleEnd.TheVariants as ends
use Rattle.opl_tree.specs.declared.instruction.Optimum.{Optimum}
use Rattle.opl_tree.specs.declared.instruction.Optimum.TheVariants as optima
use Rattle.opl_tree.specs.declared.search.BranchOp.{BranchOp}
use Rattle.opl_tree.specs.declared.search.BranchOp.TheVariants as branch_ops
use Rattle.opl_tree.specs.declared.search.LabelOp.{LabelOp}
use Rattle.opl_tree.specs.declared.search.LabelOp.TheVariants as label_ops
use Rattle.opl_tree.specs.declared.expression.NameTree.{NameTree}
use Rattle.opl_tree.specs.declared.expression.ExprTree.{ExprTree}
use Rattle.opl_tree.specs.declared.expression.ImpTree.{ImpTree}
use Rattle.opl_tree.specs.declared.expression.OrTree.{OrTree}
use Rattle.opl_tree.specs.declared.expression.AndTree.{AndTree}
use Rattle.opl_tree.specs.declared.expression.NegTree.{NegTree}
use Rattle.opl_tree.specs.declared.expression.CompareTree.{CompareTree}
use Rattle.opl_tree.specs.declared.expression.AddTree.{AddTree}
use Rattle.opl_tree.specs.declared.expression.AddStep.{AddStep}
use Rattle.opl_tree.specs.declared.expression.MulTree.{MulTree}
use Rattle.opl_tree.specs.declared.expression.MulStep.{MulStep}
use Rattle.opl_tree.specs.declared.expression.LastStep.{LastStep}
use Rattle.opl_tree.specs.declared.expression.OpenTree.{OpenTree}
use Rattle.opl_tree.specs.declared.expression.SignTree.{SignTree}
use Rattle.opl_tree.specs.declared.expression.PostTree.{PostTree}
use Rattle.opl_tree.specs.declared.expression.SuffixTree.{SuffixTree}
use Rattle.opl_tree.specs.declared.expression.SubscriptsTree.{SubscriptsTree}
use Rattle.opl_tree.specs.declared.expression.PrimTree.{PrimTree}
use Rattle.opl_tree.specs.declared.expression.KeyedTree.{KeyedTree}
use Rattle.opl_tree.specs.declared.expression.SetTree.{SetTree}
use Rattle.opl_tree.specs.declared.expression.ParamsTree.{ParamsTree}
use Rattle.opl_tree.specs.declared.expression.GroupStep.{GroupStep}
use Rattle.opl_tree.specs.declared.expression.GroupTree.{GroupTree}
use Rattle.opl_tree.specs.declared.expression.PatternTree.{PatternTree}
use Rattle.opl_tree.specs.declared.declaration.DeclTree.{DeclTree}
use Rattle.opl_tree.specs.declared.declaration.DataDeclTree.{DataDeclTree}
use Rattle.opl_tree.specs.declared.declaration.InitialTree.{InitialTree}
use Rattle.opl_tree.specs.declared.declaration.TypeTree.{TypeTree}
use Rattle.opl_tree.specs.declared.declaration.DimsTree.{DimsTree}
use Rattle.opl_tree.specs.declared.declaration.DimTree.{DimTree}
use Rattle.opl_tree.specs.declared.declaration.RangeTree.{RangeTree}
use Rattle.opl_tree.specs.declared.declaration.EnumTree.{EnumTree}
use Rattle.opl_tree.specs.declared.declaration.EnumNamesTree.{EnumNamesTree}
use Rattle.opl_tree.specs.declared.declaration.StructTree.{StructTree}
use Rattle.opl_tree.specs.declared.declaration.FieldTree.{FieldTree}
use Rattle.opl_tree.specs.declared.declaration.VariableTree.{VariableTree}
use Rattle.opl_tree.specs.declared.declaration.VariableTypeTree.{VariableTypeTree}
use Rattle.opl_tree.specs.declared.declaration.BoundsTree.{BoundsTree}
use Rattle.opl_tree.specs.declared.declaration.ActivityTree.{ActivityTree}
use Rattle.opl_tree.specs.declared.declaration.UnaryTree.{UnaryTree}
use Rattle.opl_tree.specs.declared.declaration.DiscreteTree.{DiscreteTree}
use Rattle.opl_tree.specs.declared.declaration.ScheduleTree.{ScheduleTree}
use Rattle.opl_tree.specs.declared.instruction.InstrTree.{InstrTree}
use Rattle.opl_tree.specs.declared.instruction.BlockTree.{BlockTree}
use Rattle.opl_tree.specs.declared.instruction.ItemsTree.{ItemsTree}
use Rattle.opl_tree.specs.declared.instruction.ItemTree.{ItemTree}
use Rattle.opl_tree.specs.declared.instruction.RequiresTree.{RequiresTree}
use Rattle.opl_tree.specs.declared.search.SearchTree.{SearchTree}
use Rattle.opl_tree.specs.declared.search.SearchBlockTree.{SearchBlockTree}
use Rattle.opl_tree.specs.declared.search.StatementsTree.{StatementsTree}
use Rattle.opl_tree.specs.declared.search.StatementTree.{StatementTree}
use Rattle.opl_tree.specs.declared.search.OrderedParamsTree.{OrderedParamsTree}
use Rattle.opl_tree.specs.declared.search.OrderTree.{OrderTree}
use Rattle.opl_tree.specs.declared.model.ModelTree.{ModelTree}
use Rattle.opl_tree.specs.declared.expression.PatternTree.TheVariants as patterns
use Rattle.opl_tree.specs.declared.declaration.DeclTree.TheVariants as decls
use Rattle.opl_tree.specs.declared.declaration.InitialTree.TheVariants as initials
use Rattle.opl_tree.specs.declared.declaration.EnumNamesTree.TheVariants as enum_names
use Rattle.opl_tree.specs.declared.declaration.VariableTypeTree.TheVariants as variable_types
use Rattle.opl_tree.specs.declared.instruction.InstrTree.TheVariants as instrs
use Rattle.opl_tree.specs.declared.expression.CompareTree.TheOpen.{CompareTree-F, MulTree-F, NegTree-F, OpenTree-F, PrimTree-F, SignTree-F, SuffixTree-F}
use Rattle.opl_tree.specs.declared.declaration.TypeTree.TheOpen.{TypeTree-F}
use Rattle.opl_tree.specs.declared.declaration.TypeTree.TheFolds.{fold-TypeTree}
use Rattle.opl_tree.specs.declared.instruction.ItemTree.TheOpen.{ItemTree-F, ItemsTree-F, BlockTree-F}
use Rattle.opl_tree.specs.declared.instruction.ItemTree.TheFolds.{fold-ItemTree, fold-ItemsTree, fold-BlockTree}
use Rattle.opl_tree.specs.declared.search.StatementTree.TheOpen.{StatementTree-F, StatementsTree-F, SearchBlockTree-F}
use Rattle.opl_tree.specs.declared.search.StatementTree.TheFolds.{fold-StatementTree, fold-StatementsTree, fold-SearchBlockTree}
use Rattle.opl_tree.specs.Layers.{ExpressionSteps, CompareLayer, MulLayer, NegLayer, OpenLayer, PrimLayer, SignLayer, SuffixLayer, AddStepLayer, AddLayer, AndLayer, ExprLayer, GroupStepLayer, GroupLayer, ImpLayer, KeyedLayer, LastStepLayer, MulStepLayer, OrLayer, ParamsLayer, PostLayer, SetLayer, SubscriptsLayer, compare_result, mul_result, neg_result, open_result, prim_result, sign_result, suffix_result, add_step_result, add_result, and_result, expr_result, group_step_result, group_result, imp_result, keyed_result, last_step_result, mul_step_result, or_result, params_result, post_result, set_result, subscripts_result}

-- what a tree writes as one token: a word of the language, a sign, a name, any word (as a field behind `.`), or a number
pub data Part : Type 0 where
  word : Keyword → Part
  sign : Sign → Part
  name : List ℕ → Part
  any : List ℕ → Part
  number : ℤ → Part

-- a node begins, with the place that it says it has; a token is written; an item or a statement that is no block begins, so
-- that the next token is not `{`; or the next token opens a level of nesting, and which one it is, counted from 1 outside
pub data Mark : Type 0 where
  place : ℕ → Mark
  token : Part → Mark
  unbraced : Mark
  opens : ℕ → Mark

-- what a tree writes
abbrev pub Marks : Type 0
Marks = List Mark

-- the same marks one level deeper
abbrev pub raised : Marks → Marks
raised [] = []
raised (place at ∷ ms) = place at ∷ raised ms
raised (token p ∷ ms) = token p ∷ raised ms
raised (unbraced ∷ ms) = unbraced ∷ raised ms
raised (opens k ∷ ms) = opens (suc k) ∷ raised ms

-- a token that opens a level, and what stands in it
abbrev pub nested : Part → Marks → Marks
nested p ms = opens 1 ∷ token p ∷ raised ms

-- it behind a token that opens a level
abbrev pub after_level : Part → Option Marks → Marks
after_level p None = []
after_level p (Some ms) = nested p ms

-- lists of marks, one after another
abbrev pub joined : List Marks → Marks
joined [] = []
joined (ms ∷ rest) = ms ++ joined rest

-- each behind a sign
abbrev pub behind : Sign → List Marks → Marks
behind s [] = []
behind s (ms ∷ rest) = token (sign s) ∷ (ms ++ behind s rest)

-- one after another, with a sign between
abbrev pub several : Sign → List Marks → Marks
several s [] = []
several s (ms ∷ rest) = ms ++ behind s rest

-- what may be written or not: it alone
abbrev pub written : Option Marks → Marks
written None = []
written (Some ms) = ms

-- it behind a token
abbrev pub after : Part → Option Marks → Marks
after p None = []
after p (Some ms) = token p ∷ ms

-- it and a token behind it
abbrev pub before : Part → Option Marks → Marks
before p None = []
before p (Some ms) = ms ++ token p ∷ []

-- it between two signs
abbrev pub enclosed : Sign → Sign → Option Marks → Marks
enclosed s e None = []
enclosed s e (Some ms) = nested (sign s) ms ++ token (sign e) ∷ []

-- the token, if it is written
abbrev pub optional : Part → Bool → Marks
optional p true = token p ∷ []
optional p false = []

-- the sign of a comparison
abbrev pub relation_sign : Relation → Sign
relation_sign relations.Equal = signs.Equal
relation_sign relations.NotEqual = signs.NotEqual
relation_sign relations.Less = signs.Less
relation_sign relations.LessOrEqual = signs.LessOrEqual
relation_sign relations.Greater = signs.Greater
relation_sign relations.GreaterOrEqual = signs.GreaterOrEqual

-- the sign of a step of a sum
abbrev pub add_sign : AddOp → Sign
add_sign add_ops.Plus = signs.Plus
add_sign add_ops.Minus = signs.Minus

-- the sign or the word of a step of a product
abbrev pub mul_part : MulOp → Part
mul_part mul_ops.Times = sign signs.Times
mul_part mul_ops.Quotient = word keywords.Div
mul_part mul_ops.Remainder = word keywords.Mod

-- the word of an aggregate
abbrev pub aggregate_word : AggregateOp → Keyword
aggregate_word aggregate_ops.Sum = keywords.Sum
aggregate_word aggregate_ops.Product = keywords.Prod
aggregate_word aggregate_ops.Min = keywords.Min
aggregate_word aggregate_ops.Max = keywords.Max

-- the word of a function
abbrev pub call_word : CallOp → Keyword
call_word call_ops.Absolute = keywords.Abs
call_word call_ops.Cardinality = keywords.Card

-- the word of a question
abbrev pub question_word : QuestionOp → Keyword
question_word question_ops.Size = keywords.DSize
question_word question_ops.Least = keywords.DMin
question_word question_ops.Greatest = keywords.DMax
question_word question_ops.Bound = keywords.Bound

-- what stands between two groups
abbrev pub separator_sign : GroupSeparator → Sign
separator_sign separators.Comma = signs.Comma
separator_sign separators.Ampersand = signs.And

-- the word of an end of the schedule
abbrev pub schedule_word : ScheduleEnd → Keyword
schedule_word ends.Origin = keywords.ScheduleOrigin
schedule_word ends.Horizon = keywords.ScheduleHorizon

-- the word of an objective
abbrev pub optimum_word : Optimum → Keyword
optimum_word optima.Least = keywords.Minimize
optimum_word optima.Greatest = keywords.Maximize

-- the word of a statement with parameters
abbrev pub branch_word : BranchOp → Keyword
branch_word branch_ops.TryAll = keywords.TryAll
branch_word branch_ops.ForAll = keywords.ForAll
branch_word branch_ops.Select = keywords.Select

-- the word of a statement on a whole item
abbrev pub label_word : LabelOp → Keyword
label_word label_ops.Generate = keywords.Generate
label_word label_ops.Rank = keywords.Rank

-- the word of an order: whether the least key comes first
abbrev pub direction_word : Bool → Keyword
direction_word true = keywords.Increasing
direction_word false = keywords.Decreasing

-- a name where it is written
unfoldable pub marks_name : NameTree → Marks
marks_name t = place t.at ∷ token (name t.text) ∷ []

-- `NAME` or `<NAME, NAME, ..>`
unfoldable pub marks_pattern : PatternTree → Marks
marks_pattern (patterns.Single named) = marks_name named
marks_pattern (patterns.Record at head rest) = place at ∷ (nested (sign signs.Less) (marks_name head ++ behind signs.Comma (map marks_name rest)) ++ token (sign signs.Greater) ∷ [])

-- `IMP <=> IMP <=> ..`
abbrev pub expr_marks : ExprLayer Marks → Marks
expr_marks t = place t.at ∷ (t.first ++ behind signs.Equivalent t.rest)

-- `OR`, or `OR => IMP`
abbrev pub imp_marks : ImpLayer Marks → Marks
imp_marks t = place t.at ∷ (t.premise ++ after_level (sign signs.Implies) t.conclusion)

-- `AND \/ AND \/ ..`
abbrev pub or_marks : OrLayer Marks → Marks
or_marks t = place t.at ∷ (t.first ++ behind signs.Or t.rest)

-- `NEG & NEG & ..`
abbrev pub and_marks : AndLayer Marks → Marks
and_marks t = place t.at ∷ (t.first ++ behind signs.And t.rest)

-- `not NEG`, or a comparison
abbrev pub neg_marks : NegLayer Marks → Marks
neg_marks (NegTree-F.Not at inner) = place at ∷ nested (word keywords.Not) inner
neg_marks (NegTree-F.Compare inner) = inner

-- `ADD`, `ADD RELATION ADD`, or `ADD in SET`
abbrev pub compare_marks : CompareLayer Marks → Marks
compare_marks (CompareTree-F.Single at only) = place at ∷ only
compare_marks (CompareTree-F.Related at left relation right) = place at ∷ (left ++ token (sign (relation_sign relation)) ∷ right)
compare_marks (CompareTree-F.Member at element set) = place at ∷ (element ++ token (word keywords.In) ∷ set)

-- `MUL + MUL - ..`
abbrev pub add_marks : AddLayer Marks → Marks
add_marks t = place t.at ∷ (t.first ++ joined t.rest)

-- `+ MUL` or `- MUL`
abbrev pub add_step_marks : AddStepLayer Marks → Marks
add_step_marks t = token (sign (add_sign t.op)) ∷ t.term

-- `OPEN`, or `SIGN * SIGN div ..` with or without a last `* OPEN`
abbrev pub mul_marks : MulLayer Marks → Marks
mul_marks (MulTree-F.Opened inner) = inner
mul_marks (MulTree-F.Product at head rest last) = place at ∷ (head ++ (joined rest ++ written last))

-- `* SIGN`, `div SIGN` or `mod SIGN`
abbrev pub mul_step_marks : MulStepLayer Marks → Marks
mul_step_marks t = token (mul_part t.op) ∷ t.factor

-- `* OPEN`, `div OPEN` or `mod OPEN`
abbrev pub last_step_marks : LastStepLayer Marks → Marks
last_step_marks t = token (mul_part t.op) ∷ t.factor

-- `- OPEN`, or `sum (PARAMS) MUL` and the like
abbrev pub open_marks : OpenLayer Marks → Marks
open_marks (OpenTree-F.NegativeOpen at inner) = place at ∷ nested (sign signs.Minus) inner
open_marks (OpenTree-F.Aggregate at op params body) = place at ∷ nested (word (aggregate_word op)) (nested (sign signs.OpenParenthesis) params ++ token (sign signs.CloseParenthesis) ∷ body)

-- `- SIGN`, or a postfix expression
abbrev pub sign_marks : SignLayer Marks → Marks
sign_marks (SignTree-F.Negative at inner) = place at ∷ nested (sign signs.Minus) inner
sign_marks (SignTree-F.Postfix inner) = inner

-- `PRIM` with subscripts and fields behind it
abbrev pub post_marks : PostLayer Marks → Marks
post_marks t = place t.at ∷ (t.prim ++ joined t.suffixes)

-- `[ADD, ADD, ..]` or `.NAME`, where the name may be any word
abbrev pub suffix_marks : SuffixLayer Marks → Marks
suffix_marks (SuffixTree-F.Subscripts inner) = inner
suffix_marks (SuffixTree-F.Field at field) = place at ∷ token (sign signs.Dot) ∷ place field.at ∷ token (any field.text) ∷ []

-- `[ADD, ADD, ..]`
abbrev pub subscripts_marks : SubscriptsLayer Marks → Marks
subscripts_marks t = place t.at ∷ (nested (sign signs.OpenBracket) (t.first ++ behind signs.Comma t.rest) ++ token (sign signs.CloseBracket) ∷ [])

-- what an expression begins with
abbrev pub prim_marks : PrimLayer Marks → Marks
prim_marks (PrimTree-F.Number at value) = place at ∷ token (number value) ∷ []
prim_marks (PrimTree-F.Named named) = marks_name named
prim_marks (PrimTree-F.Bracket at inner) = place at ∷ (nested (sign signs.OpenParenthesis) inner ++ token (sign signs.CloseParenthesis) ∷ [])
prim_marks (PrimTree-F.Record at head rest) = place at ∷ (nested (sign signs.Less) (head ++ behind signs.Comma rest) ++ token (sign signs.Greater) ∷ [])
prim_marks (PrimTree-F.Listed at elements) = place at ∷ (nested (sign signs.OpenBrace) (several signs.Comma elements) ++ token (sign signs.CloseBrace) ∷ [])
prim_marks (PrimTree-F.Described at element params) = place at ∷ (nested (sign signs.OpenBrace) (element ++ token (sign signs.Bar) ∷ params) ++ token (sign signs.CloseBrace) ∷ [])
prim_marks (PrimTree-F.Array at elements) = place at ∷ (nested (sign signs.OpenBracket) (several signs.Comma elements) ++ token (sign signs.CloseBracket) ∷ [])
prim_marks (PrimTree-F.KeyedArray at elements) = place at ∷ (nested (sign signs.OpenAssociation) (several signs.Comma elements) ++ token (sign signs.CloseAssociation) ∷ [])
prim_marks (PrimTree-F.Call at op argument) = place at ∷ token (word (call_word op)) ∷ (nested (sign signs.OpenParenthesis) argument ++ token (sign signs.CloseParenthesis) ∷ [])
prim_marks (PrimTree-F.AllDifferent at argument) = place at ∷ token (word keywords.AllDifferent) ∷ (nested (sign signs.OpenParenthesis) argument ++ token (sign signs.CloseParenthesis) ∷ [])
prim_marks (PrimTree-F.Question at op argument) = place at ∷ token (word (question_word op)) ∷ (nested (sign signs.OpenParenthesis) argument ++ token (sign signs.CloseParenthesis) ∷ [])

-- `ADD:ADD`
abbrev pub keyed_marks : KeyedLayer Marks → Marks
keyed_marks t = t.key ++ token (sign signs.Colon) ∷ t.value

-- `ADD` or `ADD..ADD`
abbrev pub set_marks : SetLayer Marks → Marks
set_marks t = place t.at ∷ (t.low ++ after (sign signs.Range) t.high)

-- `GROUP, GROUP & ..`, with or without `: EXPR`
abbrev pub params_marks : ParamsLayer Marks → Marks
params_marks t = place t.at ∷ (t.first ++ (joined t.rest ++ after (sign signs.Colon) t.condition))

-- `, GROUP` or `& GROUP`
abbrev pub group_step_marks : GroupStepLayer Marks → Marks
group_step_marks t = token (sign (separator_sign t.separator)) ∷ t.group

-- `PATTERN, PATTERN, .. in SET`, with or without `ordered` before it
abbrev pub group_marks : GroupLayer Marks → Marks
group_marks t = place t.at ∷ (optional (word keywords.Ordered) t.is_ordered ++ (marks_pattern t.first ++ (behind signs.Comma (map marks_pattern t.rest) ++ token (word keywords.In) ∷ t.set)))

-- what each node writes, once its parts have
abbrev pub marks_steps : ExpressionSteps Marks
marks_steps = record { at_compare = compare_marks; at_mul = mul_marks; at_neg = neg_marks; at_open = open_marks; at_prim = prim_marks; at_sign = sign_marks; at_suffix = suffix_marks; at_add_step = add_step_marks; at_add = add_marks; at_and = and_marks; at_expr = expr_marks; at_group_step = group_step_marks; at_group = group_marks; at_imp = imp_marks; at_keyed = keyed_marks; at_last_step = last_step_marks; at_mul_step = mul_step_marks; at_or = or_marks; at_params = params_marks; at_post = post_marks; at_set = set_marks; at_subscripts = subscripts_marks }

-- the marks of each kind of expression
unfoldable pub marks_expr : ExprTree → Marks
marks_expr = expr_result marks_steps

unfoldable pub marks_imp : ImpTree → Marks
marks_imp = imp_result marks_steps

unfoldable pub marks_or : OrTree → Marks
marks_or = or_result marks_steps

unfoldable pub marks_and : AndTree → Marks
marks_and = and_result marks_steps

unfoldable pub marks_neg : NegTree → Marks
marks_neg = neg_result marks_steps

unfoldable pub marks_compare : CompareTree → Marks
marks_compare = compare_result marks_steps

unfoldable pub marks_add : AddTree → Marks
marks_add = add_result marks_steps

unfoldable pub marks_add_step : AddStep → Marks
marks_add_step = add_step_result marks_steps

unfoldable pub marks_mul : MulTree → Marks
marks_mul = mul_result marks_steps

unfoldable pub marks_mul_step : MulStep → Marks
marks_mul_step = mul_step_result marks_steps

unfoldable pub marks_last_step : LastStep → Marks
marks_last_step = last_step_result marks_steps

unfoldable pub marks_open : OpenTree → Marks
marks_open = open_result marks_steps

unfoldable pub marks_sign : SignTree → Marks
marks_sign = sign_result marks_steps

unfoldable pub marks_post : PostTree → Marks
marks_post = post_result marks_steps

unfoldable pub marks_suffix : SuffixTree → Marks
marks_suffix = suffix_result marks_steps

unfoldable pub marks_subscripts : SubscriptsTree → Marks
marks_subscripts = subscripts_result marks_steps

unfoldable pub marks_prim : PrimTree → Marks
marks_prim = prim_result marks_steps

unfoldable pub marks_keyed : KeyedTree → Marks
marks_keyed = keyed_result marks_steps

unfoldable pub marks_set : SetTree → Marks
marks_set = set_result marks_steps

unfoldable pub marks_params : ParamsTree → Marks
marks_params = params_result marks_steps

unfoldable pub marks_group_step : GroupStep → Marks
marks_group_step = group_step_result marks_steps

unfoldable pub marks_group : GroupTree → Marks
marks_group = group_result marks_steps

-- `int`, `NAME` or `{TYPE}`
abbrev pub type_marks : TypeTree-F Marks → Marks
type_marks (TypeTree-F.Int at) = place at ∷ token (word keywords.Int) ∷ []
type_marks (TypeTree-F.Named named) = marks_name named
type_marks (TypeTree-F.Set at inner) = place at ∷ (nested (sign signs.OpenBrace) inner ++ token (sign signs.CloseBrace) ∷ [])

-- the marks of a type
unfoldable pub marks_type : TypeTree → Marks
marks_type = fold-TypeTree Marks type_marks

-- `SET` or `NAME in SET`
unfoldable pub marks_dim : DimTree → Marks
marks_dim t = place t.at ∷ (before (word keywords.In) (option_map marks_name t.name) ++ marks_set t.set)

-- `[DIM, DIM, ..]`
unfoldable pub marks_dims : DimsTree → Marks
marks_dims t = place t.at ∷ (nested (sign signs.OpenBracket) (marks_dim t.first ++ behind signs.Comma (map marks_dim t.rest)) ++ token (sign signs.CloseBracket) ∷ [])

-- `...` or `ADD`
unfoldable pub marks_initial : InitialTree → Marks
marks_initial (initials.External at) = place at ∷ token (sign signs.Ellipsis) ∷ []
marks_initial (initials.Written value) = marks_add value

-- `TYPE NAME [DIMS] = INITIAL;`
unfoldable pub marks_data : DataDeclTree → Marks
marks_data t = place t.at ∷ (marks_type t.kind ++ (marks_name t.name ++ (written (option_map marks_dims t.dims) ++ token (sign signs.Equal) ∷ (marks_initial t.initial ++ token (sign signs.Semicolon) ∷ []))))

-- `range NAME ADD..ADD;`
unfoldable pub marks_range : RangeTree → Marks
marks_range t = place t.at ∷ token (word keywords.Range) ∷ (marks_name t.name ++ (marks_add t.low ++ token (sign signs.Range) ∷ (marks_add t.high ++ token (sign signs.Semicolon) ∷ [])))

-- `{NAME, NAME, ..}`, or `...` with or without `=` before it
unfoldable pub marks_enum_names : EnumNamesTree → Marks
marks_enum_names (enum_names.Listed at head rest) = place at ∷ (nested (sign signs.OpenBrace) (marks_name head ++ behind signs.Comma (map marks_name rest)) ++ token (sign signs.CloseBrace) ∷ [])
marks_enum_names (enum_names.External at is_equated) = place at ∷ (optional (sign signs.Equal) is_equated ++ token (sign signs.Ellipsis) ∷ [])

-- `enum NAME NAMES;`
unfoldable pub marks_enum : EnumTree → Marks
marks_enum t = place t.at ∷ token (word keywords.Enum) ∷ (marks_name t.name ++ (marks_enum_names t.names ++ token (sign signs.Semicolon) ∷ []))

-- `TYPE NAME;`
unfoldable pub marks_field : FieldTree → Marks
marks_field t = place t.at ∷ (marks_type t.kind ++ (marks_name t.name ++ token (sign signs.Semicolon) ∷ []))

-- `struct NAME {FIELD FIELD ..};`
unfoldable pub marks_struct : StructTree → Marks
marks_struct t = place t.at ∷ token (word keywords.Struct) ∷ (marks_name t.name ++ (nested (sign signs.OpenBrace) (marks_field t.first ++ joined (map marks_field t.rest)) ++ token (sign signs.CloseBrace) ∷ token (sign signs.Semicolon) ∷ []))

-- `int` or `NAME`
unfoldable pub marks_variable_type : VariableTypeTree → Marks
marks_variable_type (variable_types.Int at) = place at ∷ token (word keywords.Int) ∷ []
marks_variable_type (variable_types.Named named) = marks_name named

-- `in ADD..ADD`
unfoldable pub marks_bounds : BoundsTree → Marks
marks_bounds t = place t.at ∷ token (word keywords.In) ∷ (marks_add t.low ++ token (sign signs.Range) ∷ marks_add t.high)

-- `var TYPE NAME [DIMS] [BOUNDS];`
unfoldable pub marks_variable : VariableTree → Marks
marks_variable t = place t.at ∷ token (word keywords.Var) ∷ (marks_variable_type t.kind ++ (marks_name t.name ++ (written (option_map marks_dims t.dims) ++ (written (option_map marks_bounds t.bounds) ++ token (sign signs.Semicolon) ∷ []))))

-- `Activity NAME [DIMS] (ADD);` or `Activity NAME [DIMS] (ADD..ADD);`
unfoldable pub marks_activity : ActivityTree → Marks
marks_activity t = place t.at ∷ token (word keywords.Activity) ∷ (marks_name t.name ++ (written (option_map marks_dims t.dims) ++ (nested (sign signs.OpenParenthesis) (marks_add t.shortest ++ after (sign signs.Range) (option_map marks_add t.longest)) ++ token (sign signs.CloseParenthesis) ∷ token (sign signs.Semicolon) ∷ [])))

-- `UnaryResource NAME [DIMS];`
unfoldable pub marks_unary : UnaryTree → Marks
marks_unary t = place t.at ∷ token (word keywords.UnaryResource) ∷ (marks_name t.name ++ (written (option_map marks_dims t.dims) ++ token (sign signs.Semicolon) ∷ []))

-- `DiscreteResource NAME [DIMS] (ADD);`
unfoldable pub marks_discrete : DiscreteTree → Marks
marks_discrete t = place t.at ∷ token (word keywords.DiscreteResource) ∷ (marks_name t.name ++ (written (option_map marks_dims t.dims) ++ (nested (sign signs.OpenParenthesis) (marks_add t.capacity) ++ token (sign signs.CloseParenthesis) ∷ token (sign signs.Semicolon) ∷ [])))

-- `scheduleOrigin = ADD;` or `scheduleHorizon = ADD;`
unfoldable pub marks_schedule : ScheduleTree → Marks
marks_schedule t = place t.at ∷ token (word (schedule_word t.end)) ∷ token (sign signs.Equal) ∷ (marks_add t.value ++ token (sign signs.Semicolon) ∷ [])

-- a declaration
unfoldable pub marks_decl : DeclTree → Marks
marks_decl (decls.Data inner) = marks_data inner
marks_decl (decls.Range inner) = marks_range inner
marks_decl (decls.Enumeration inner) = marks_enum inner
marks_decl (decls.Structure inner) = marks_struct inner
marks_decl (decls.Variable inner) = marks_variable inner
marks_decl (decls.Activity inner) = marks_activity inner
marks_decl (decls.Unary inner) = marks_unary inner
marks_decl (decls.Discrete inner) = marks_discrete inner
marks_decl (decls.Schedule inner) = marks_schedule inner

-- `POST requires NAME`, with `(ADD)` before the name and subscripts behind it where they are written
unfoldable pub marks_requires : RequiresTree → Marks
marks_requires t = place t.at ∷ (marks_post t.activity ++ token (word keywords.Requires) ∷ (enclosed signs.OpenParenthesis signs.CloseParenthesis (option_map marks_add t.demand) ++ (marks_name t.resource ++ written (option_map marks_subscripts t.subscripts))))

-- `{ITEMS}`
abbrev pub block_marks : BlockTree-F Marks Marks Marks → Marks
block_marks t = place t.at ∷ (nested (sign signs.OpenBrace) t.items ++ token (sign signs.CloseBrace) ∷ [])

-- items with `;` between them. A list with items may end with one more `;`, an empty one may not
abbrev pub items_marks : ItemsTree-F Marks Marks Marks → Marks
items_marks (ItemsTree-F.Empty at) = place at ∷ []
items_marks (ItemsTree-F.Several at head rest is_closed) = place at ∷ (head ++ (behind signs.Semicolon rest ++ optional (sign signs.Semicolon) is_closed))

-- an item of a block
abbrev pub item_marks : ItemTree-F Marks Marks Marks → Marks
item_marks (ItemTree-F.Block inner) = inner
item_marks (ItemTree-F.ForAll at params body) = place at ∷ nested (word keywords.ForAll) (nested (sign signs.OpenParenthesis) (marks_params params) ++ token (sign signs.CloseParenthesis) ∷ body)
item_marks (ItemTree-F.If at condition holds fails) = place at ∷ nested (word keywords.If) (marks_expr condition ++ token (word keywords.Then) ∷ (holds ++ (after (word keywords.Else) fails ++ token (word keywords.EndIf) ∷ [])))
item_marks (ItemTree-F.Precedes at earlier later) = unbraced ∷ place at ∷ (marks_post earlier ++ token (word keywords.Precedes) ∷ marks_post later)
item_marks (ItemTree-F.Requires inner) = unbraced ∷ marks_requires inner
item_marks (ItemTree-F.Constraint inner) = unbraced ∷ marks_expr inner

-- the marks of an item, of a list of items and of a block
unfoldable pub marks_item : ItemTree → Marks
marks_item = fold-ItemTree Marks Marks Marks item_marks items_marks block_marks

unfoldable pub marks_items : ItemsTree → Marks
marks_items = fold-ItemsTree Marks Marks Marks item_marks items_marks block_marks

unfoldable pub marks_block : BlockTree → Marks
marks_block = fold-BlockTree Marks Marks Marks item_marks items_marks block_marks

-- what a model asks for
unfoldable pub marks_instr : InstrTree → Marks
marks_instr (instrs.Solve at block) = place at ∷ token (word keywords.Solve) ∷ (marks_block block ++ token (sign signs.Semicolon) ∷ [])
marks_instr (instrs.Optimize at optimum objective block) = place at ∷ token (word (optimum_word optimum)) ∷ (marks_expr objective ++ token (word keywords.Subject) ∷ token (word keywords.To) ∷ (marks_block block ++ token (sign signs.Semicolon) ∷ []))

-- `ordered by increasing ADD` or `ordered by decreasing ADD`
unfoldable pub marks_order : OrderTree → Marks
marks_order t = place t.at ∷ token (word keywords.Ordered) ∷ token (word keywords.By) ∷ token (word (direction_word t.is_increasing)) ∷ marks_add t.key

-- `PARAMS`, or `PARAMS ORDER`
unfoldable pub marks_ordered_params : OrderedParamsTree → Marks
marks_ordered_params t = place t.at ∷ (marks_params t.params ++ written (option_map marks_order t.order))

-- `{STATEMENTS}`
abbrev pub search_block_marks : SearchBlockTree-F Marks Marks Marks → Marks
search_block_marks t = place t.at ∷ (nested (sign signs.OpenBrace) t.statements ++ token (sign signs.CloseBrace) ∷ [])

-- statements with `;` between them. A list with statements may end with one more `;`, an empty one may not
abbrev pub statements_marks : StatementsTree-F Marks Marks Marks → Marks
statements_marks (StatementsTree-F.Empty at) = place at ∷ []
statements_marks (StatementsTree-F.Several at head rest is_closed) = place at ∷ (head ++ (behind signs.Semicolon rest ++ optional (sign signs.Semicolon) is_closed))

-- a statement of a search section
abbrev pub statement_marks : StatementTree-F Marks Marks Marks → Marks
statement_marks (StatementTree-F.Block inner) = inner
statement_marks (StatementTree-F.Try at head second rest) = place at ∷ nested (word keywords.Try) (head ++ token (sign signs.Bar) ∷ (second ++ (behind signs.Bar rest ++ token (word keywords.EndTry) ∷ [])))
statement_marks (StatementTree-F.Branch at op params body) = place at ∷ nested (word (branch_word op)) (nested (sign signs.OpenParenthesis) (marks_ordered_params params) ++ token (sign signs.CloseParenthesis) ∷ body)
statement_marks (StatementTree-F.Once at body) = place at ∷ nested (word keywords.Once) body
statement_marks (StatementTree-F.While at condition body) = place at ∷ nested (word keywords.While) (marks_expr condition ++ token (word keywords.Do) ∷ body)
statement_marks (StatementTree-F.If at condition holds fails) = place at ∷ nested (word keywords.If) (marks_expr condition ++ token (word keywords.Then) ∷ (holds ++ (after (word keywords.Else) fails ++ token (word keywords.EndIf) ∷ [])))
statement_marks (StatementTree-F.Label at op argument) = place at ∷ token (word (label_word op)) ∷ (nested (sign signs.OpenParenthesis) (marks_post argument) ++ token (sign signs.CloseParenthesis) ∷ [])
statement_marks (StatementTree-F.Precedes at earlier later) = unbraced ∷ place at ∷ (marks_post earlier ++ token (word keywords.Precedes) ∷ marks_post later)
statement_marks (StatementTree-F.Constraint inner) = unbraced ∷ marks_expr inner

-- the marks of a statement, of a list of statements and of a block
unfoldable pub marks_statement : StatementTree → Marks
marks_statement = fold-StatementTree Marks Marks Marks statement_marks statements_marks search_block_marks

unfoldable pub marks_statements : StatementsTree → Marks
marks_statements = fold-StatementsTree Marks Marks Marks statement_marks statements_marks search_block_marks

unfoldable pub marks_search_block : SearchBlockTree → Marks
marks_search_block = fold-SearchBlockTree Marks Marks Marks statement_marks statements_marks search_block_marks

-- `search {STATEMENTS};`
unfoldable pub marks_search : SearchTree → Marks
marks_search t = place t.at ∷ token (word keywords.Search) ∷ (marks_search_block t.block ++ token (sign signs.Semicolon) ∷ [])

-- a model: its declarations, then its instruction, then its search section if it has one
unfoldable pub marks_model : ModelTree → Marks
marks_model t = place t.at ∷ (joined (map marks_decl t.decls) ++ (marks_instr t.instr ++ written (option_map marks_search t.search)))
