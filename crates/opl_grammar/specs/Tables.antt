-- The operators of the grammar, and the tokens that its phrases begin with.
use Rattle.std.specs.Prelude.{Bool, true, false, ◌||◌, Option, Some, None, is_some}
use Rattle.opl_token.specs.declared.sign.Sign.{Sign}
use Rattle.opl_token.specs.declared.sign.Sign.TheVariants as signs
use Rattle.opl_token.specs.declared.token.Kind.{Kind}
use Rattle.opl_tree.specs.declared.keyword.Keyword.{Keyword}
use Rattle.opl_tree.specs.declared.keyword.Keyword.TheVariants as words
use Rattle.opl_tree.specs.declared.expression.Relation.{Relation}
use Rattle.opl_tree.specs.declared.expression.Relation.TheVariants as relations
use Rattle.opl_tree.specs.declared.expression.AddOp.{AddOp}
use Rattle.opl_tree.specs.declared.expression.AddOp.TheVariants as add_ops
use Rattle.opl_tree.specs.declared.expression.MulOp.{MulOp}
use Rattle.opl_tree.specs.declared.expression.MulOp.TheVariants as mul_ops
use Rattle.opl_tree.specs.declared.expression.AggregateOp.{AggregateOp}
use Rattle.opl_tree.specs.declared.expression.AggregateOp.TheVariants as aggregate_ops
use Rattle.opl_tree.specs.declared.expression.CallOp.{CallOp}
use Rattle.opl_tree.specs.declared.expression.CallOp.TheVariants as call_ops
use Rattle.opl_tree.specs.declared.expression.QuestionOp.{QuestionOp}
use Rattle.opl_tree.specs.declared.expression.QuestionOp.TheVariants as question_ops
use Rattle.opl_tree.specs.declared.expression.GroupSeparator.{GroupSeparator}
use Rattle.opl_tree.specs.declared.expression.GroupSeparator.TheVariants as separators
use Rattle.opl_tree.specs.declared.declaration.ScheduleEnd.{ScheduleEnd}
use Rattle.opl_tree.specs.declared.declaration.ScheduleEnd.TheVariants as schedule_ends
use Rattle.opl_tree.specs.declared.instruction.Optimum.{Optimum}
use Rattle.opl_tree.specs.declared.instruction.Optimum.TheVariants as optima
use Rattle.opl_tree.specs.declared.search.BranchOp.{BranchOp}
use Rattle.opl_tree.specs.declared.search.BranchOp.TheVariants as branch_ops
use Rattle.opl_tree.specs.declared.search.LabelOp.{LabelOp}
use Rattle.opl_tree.specs.declared.search.LabelOp.TheVariants as label_ops
use Rattle.opl_grammar.specs.declared.look.Look.{Look}
use Rattle.opl_grammar.specs.declared.look.Look.TheVariants as looks
use Rattle.opl_grammar.specs.Input.{look, sign_seen, word_seen, is_sign, is_word}

-- ---- operators

-- a table, where there is something to look up
abbrev pub through : {A B : Type 0} → (A → Option B) → Option A → Option B
through table (Some a) = table a
through table None = None

-- the relation that a sign stands for
abbrev pub relation_of : Sign → Option Relation
relation_of signs.Equal = Some relations.Equal
relation_of signs.NotEqual = Some relations.NotEqual
relation_of signs.Less = Some relations.Less
relation_of signs.LessOrEqual = Some relations.LessOrEqual
relation_of signs.Greater = Some relations.Greater
relation_of signs.GreaterOrEqual = Some relations.GreaterOrEqual
relation_of _ = None

-- the relation of a token
abbrev pub relation_in : Option Kind → Option Relation
relation_in k = through relation_of (sign_seen (look k))

-- the operator of a sum
abbrev pub add_op_of : Sign → Option AddOp
add_op_of signs.Plus = Some add_ops.Plus
add_op_of signs.Minus = Some add_ops.Minus
add_op_of _ = None

-- the operator of a sum that a token is
abbrev pub add_op_in : Option Kind → Option AddOp
add_op_in k = through add_op_of (sign_seen (look k))

-- the operator of a product that is a sign
abbrev pub mul_sign_of : Sign → Option MulOp
mul_sign_of signs.Times = Some mul_ops.Times
mul_sign_of _ = None

-- the operator of a product that is a word
abbrev pub mul_word_of : Keyword → Option MulOp
mul_word_of words.Div = Some mul_ops.Quotient
mul_word_of words.Mod = Some mul_ops.Remainder
mul_word_of _ = None

-- the operator of a product that is seen
abbrev pub mul_op_seen : Look → Option MulOp
mul_op_seen (looks.Sign s) = mul_sign_of s
mul_op_seen (looks.Word w) = mul_word_of w
mul_op_seen _ = None

-- the operator of a product that a token is
abbrev pub mul_op_in : Option Kind → Option MulOp
mul_op_in k = mul_op_seen (look k)

-- the words of aggregates
abbrev pub aggregate_of : Keyword → Option AggregateOp
aggregate_of words.Sum = Some aggregate_ops.Sum
aggregate_of words.Prod = Some aggregate_ops.Product
aggregate_of words.Min = Some aggregate_ops.Min
aggregate_of words.Max = Some aggregate_ops.Max
aggregate_of _ = None

-- the aggregate of a token
abbrev pub aggregate_in : Option Kind → Option AggregateOp
aggregate_in k = through aggregate_of (word_seen (look k))

-- the words of functions
abbrev pub call_of : Keyword → Option CallOp
call_of words.Abs = Some call_ops.Absolute
call_of words.Card = Some call_ops.Cardinality
call_of _ = None

-- the function of a token
abbrev pub call_in : Option Kind → Option CallOp
call_in k = through call_of (word_seen (look k))

-- the words of questions
abbrev pub question_of : Keyword → Option QuestionOp
question_of words.DSize = Some question_ops.Size
question_of words.DMin = Some question_ops.Least
question_of words.DMax = Some question_ops.Greatest
question_of words.Bound = Some question_ops.Bound
question_of _ = None

-- the question of a token
abbrev pub question_in : Option Kind → Option QuestionOp
question_in k = through question_of (word_seen (look k))

-- what may stand between groups of parameters
abbrev pub separator_of : Sign → Option GroupSeparator
separator_of signs.Comma = Some separators.Comma
separator_of signs.And = Some separators.Ampersand
separator_of _ = None

-- the separator of groups that a token is
abbrev pub separator_in : Option Kind → Option GroupSeparator
separator_in k = through separator_of (sign_seen (look k))

-- the words of orders: whether the least key comes first
abbrev pub direction_of : Keyword → Option Bool
direction_of words.Increasing = Some true
direction_of words.Decreasing = Some false
direction_of _ = None

-- the order of a token
abbrev pub direction_in : Option Kind → Option Bool
direction_in k = through direction_of (word_seen (look k))

-- the words of the ends of the schedule
abbrev pub schedule_end_of : Keyword → Option ScheduleEnd
schedule_end_of words.ScheduleOrigin = Some schedule_ends.Origin
schedule_end_of words.ScheduleHorizon = Some schedule_ends.Horizon
schedule_end_of _ = None

-- the end of the schedule that a token names
abbrev pub schedule_end_in : Option Kind → Option ScheduleEnd
schedule_end_in k = through schedule_end_of (word_seen (look k))

-- the words of optima
abbrev pub optimum_of : Keyword → Option Optimum
optimum_of words.Minimize = Some optima.Least
optimum_of words.Maximize = Some optima.Greatest
optimum_of _ = None

-- the optimum of a token
abbrev pub optimum_in : Option Kind → Option Optimum
optimum_in k = through optimum_of (word_seen (look k))

-- the words of statements with parameters
abbrev pub branch_of : Keyword → Option BranchOp
branch_of words.TryAll = Some branch_ops.TryAll
branch_of words.ForAll = Some branch_ops.ForAll
branch_of words.Select = Some branch_ops.Select
branch_of _ = None

-- the statement with parameters that a token begins
abbrev pub branch_in : Option Kind → Option BranchOp
branch_in k = through branch_of (word_seen (look k))

-- the words of statements that decide a whole item
abbrev pub label_of : Keyword → Option LabelOp
label_of words.Generate = Some label_ops.Generate
label_of words.Rank = Some label_ops.Rank
label_of _ = None

-- the statement that decides a whole item that a token begins
abbrev pub label_in : Option Kind → Option LabelOp
label_in k = through label_of (word_seen (look k))

-- whether a token is in such a table
abbrev pub is_relation : Option Kind → Bool
is_relation k = is_some (relation_in k)

abbrev pub is_add_op : Option Kind → Bool
is_add_op k = is_some (add_op_in k)

abbrev pub is_mul_op : Option Kind → Bool
is_mul_op k = is_some (mul_op_in k)

abbrev pub is_aggregate : Option Kind → Bool
is_aggregate k = is_some (aggregate_in k)

abbrev pub is_call : Option Kind → Bool
is_call k = is_some (call_in k)

abbrev pub is_separator : Option Kind → Bool
is_separator k = is_some (separator_in k)

abbrev pub is_branch : Option Kind → Bool
is_branch k = is_some (branch_in k)

abbrev pub is_label : Option Kind → Bool
is_label k = is_some (label_in k)

-- ---- first tokens

-- whether an expression may begin with a token seen as this: a name, a number, one of the signs or one of the words
abbrev pub begins : (Sign → Bool) → (Keyword → Bool) → Look → Bool
begins sign word (looks.Sign s) = sign s
begins sign word (looks.Word w) = word w
begins sign word looks.Name = true
begins sign word looks.Number = true
begins sign word looks.Nothing = false
begins sign word looks.Other = false

-- the signs that a sum begins with
abbrev pub sign_starts : Sign → Bool
sign_starts signs.OpenParenthesis = true
sign_starts signs.Less = true
sign_starts signs.OpenBrace = true
sign_starts signs.OpenBracket = true
sign_starts signs.OpenAssociation = true
sign_starts signs.Minus = true
sign_starts _ = false

-- the words that a sum begins with
abbrev pub word_starts_add : Keyword → Bool
word_starts_add words.Abs = true
word_starts_add words.AllDifferent = true
word_starts_add words.Bound = true
word_starts_add words.Card = true
word_starts_add words.DMax = true
word_starts_add words.DMin = true
word_starts_add words.DSize = true
word_starts_add words.Max = true
word_starts_add words.Min = true
word_starts_add words.Prod = true
word_starts_add words.Sum = true
word_starts_add _ = false

-- the words that an expression begins with
abbrev pub word_starts_expr : Keyword → Bool
word_starts_expr words.Not = true
word_starts_expr w = word_starts_add w

-- the words that an item begins with
abbrev pub word_starts_item : Keyword → Bool
word_starts_item words.ForAll = true
word_starts_item words.If = true
word_starts_item w = word_starts_expr w

-- the words that a statement begins with
abbrev pub word_starts_statement : Keyword → Bool
word_starts_statement words.Try = true
word_starts_statement words.TryAll = true
word_starts_statement words.ForAll = true
word_starts_statement words.Select = true
word_starts_statement words.Once = true
word_starts_statement words.While = true
word_starts_statement words.If = true
word_starts_statement words.Generate = true
word_starts_statement words.Rank = true
word_starts_statement w = word_starts_expr w

-- whether a sum begins with the token
abbrev pub starts_add : Option Kind → Bool
starts_add k = begins sign_starts word_starts_add (look k)

-- whether an item begins with it
abbrev pub starts_item : Option Kind → Bool
starts_item k = begins sign_starts word_starts_item (look k)

-- whether a statement begins with it
abbrev pub starts_statement : Option Kind → Bool
starts_statement k = begins sign_starts word_starts_statement (look k)

-- whether a suffix begins with it
abbrev pub starts_suffix : Option Kind → Bool
starts_suffix k = is_sign signs.OpenBracket k || is_sign signs.Dot k

-- whether a type begins with what is seen
abbrev pub type_begins : Look → Bool
type_begins looks.Name = true
type_begins (looks.Word words.Int) = true
type_begins (looks.Sign signs.OpenBrace) = true
type_begins _ = false

-- whether a type begins with the token
abbrev pub starts_type : Option Kind → Bool
starts_type k = type_begins (look k)

-- the words that a declaration begins with
abbrev pub word_starts_decl : Keyword → Bool
word_starts_decl words.Activity = true
word_starts_decl words.DiscreteResource = true
word_starts_decl words.Enum = true
word_starts_decl words.Int = true
word_starts_decl words.Range = true
word_starts_decl words.ScheduleHorizon = true
word_starts_decl words.ScheduleOrigin = true
word_starts_decl words.Struct = true
word_starts_decl words.UnaryResource = true
word_starts_decl words.Var = true
word_starts_decl _ = false

-- whether a declaration begins with what is seen
abbrev pub decl_begins : Look → Bool
decl_begins looks.Name = true
decl_begins (looks.Word w) = word_starts_decl w
decl_begins (looks.Sign signs.OpenBrace) = true
decl_begins _ = false

-- whether a declaration begins with the token
abbrev pub starts_decl : Option Kind → Bool
starts_decl k = decl_begins (look k)
