-- The operators that a token may be.
use Rattle.std.proofs.Common.{◌≡◌, Bool, true, false, Option, Some, refl, ap, ◌∙◌}
use Rattle.std.specs.Prelude.{is_some}
use Rattle.opl_token.specs.declared.sign.Sign.{Sign}
use Rattle.opl_token.specs.declared.sign.Sign.TheVariants as signs
use Rattle.opl_token.specs.declared.token.Kind.{Kind}
use Rattle.opl_tree.specs.declared.keyword.Keyword.{Keyword}
use Rattle.opl_tree.specs.declared.keyword.Keyword.TheVariants as words
use Rattle.opl_tree.specs.declared.expression.MulOp.{MulOp}
use Rattle.opl_tree.specs.declared.expression.MulOp.TheVariants as mul_ops
use Rattle.opl_tree.specs.declared.expression.Relation.{Relation}
use Rattle.opl_tree.specs.declared.expression.Relation.TheVariants as relations
use Rattle.opl_tree.specs.declared.expression.AddOp.{AddOp}
use Rattle.opl_tree.specs.declared.expression.AddOp.TheVariants as add_ops
use Rattle.opl_tree.specs.declared.expression.GroupSeparator.{GroupSeparator}
use Rattle.opl_tree.specs.declared.expression.GroupSeparator.TheVariants as separators
use Rattle.opl_tree.specs.declared.expression.AggregateOp.{AggregateOp}
use Rattle.opl_tree.specs.declared.expression.AggregateOp.TheVariants as aggregate_ops
use Rattle.opl_tree.specs.declared.expression.CallOp.{CallOp}
use Rattle.opl_tree.specs.declared.expression.CallOp.TheVariants as call_ops
use Rattle.opl_tree.specs.declared.expression.QuestionOp.{QuestionOp}
use Rattle.opl_tree.specs.declared.expression.QuestionOp.TheVariants as question_ops
use Rattle.opl_tree.specs.declared.declaration.ScheduleEnd.{ScheduleEnd}
use Rattle.opl_tree.specs.declared.declaration.ScheduleEnd.TheVariants as schedule_ends
use Rattle.opl_tree.specs.declared.instruction.Optimum.{Optimum}
use Rattle.opl_tree.specs.declared.instruction.Optimum.TheVariants as optima
use Rattle.opl_tree.specs.declared.search.BranchOp.{BranchOp}
use Rattle.opl_tree.specs.declared.search.BranchOp.TheVariants as branch_ops
use Rattle.opl_tree.specs.declared.search.LabelOp.{LabelOp}
use Rattle.opl_tree.specs.declared.search.LabelOp.TheVariants as label_ops
use Rattle.opl_tree.specs.Marks.{Part, sign as sign_part, word as word_part, mul_part, direction_word, relation_sign, add_sign, separator_sign, aggregate_word, call_word, question_word, schedule_word, optimum_word, branch_word, label_word}
use Rattle.opl_tree.specs.Spelling.{kind_of, IsProper}
use Rattle.opl_grammar.specs.declared.look.Look.{Look}
use Rattle.opl_grammar.specs.declared.look.Look.TheVariants as looks
use Rattle.opl_grammar.specs.Input.{look}
use Rattle.opl_grammar.specs.Tables.{mul_sign_of, mul_word_of, mul_op_seen, mul_op_in, direction_of, direction_in, relation_of, relation_in, add_op_of, add_op_in, separator_of, separator_in, aggregate_of, aggregate_in, call_of, call_in, question_of, question_in, schedule_end_of, schedule_end_in, optimum_of, optimum_in, branch_of, branch_in, label_of, label_in}
use Rattle.opl_reader_laws.proofs.Phrases.{Reads}
use Rattle.opl_reader_laws.proofs.Tokens.{some_eq, look_sign, look_word, look_of_text, sign_table_reads, word_table_reads, from_sign_table, from_word_table}

relation_found : (s : Sign) (a : Relation) → relation_of s ≡ Some a → s ≡ relation_sign a
relation_found signs.Equal a h = ap relation_sign (some_eq h)
relation_found signs.NotEqual a h = ap relation_sign (some_eq h)
relation_found signs.Less a h = ap relation_sign (some_eq h)
relation_found signs.LessOrEqual a h = ap relation_sign (some_eq h)
relation_found signs.Greater a h = ap relation_sign (some_eq h)
relation_found signs.GreaterOrEqual a h = ap relation_sign (some_eq h)
relation_found s a h = cc

relation_known : (a : Relation) → relation_of (relation_sign a) ≡ Some a
relation_known relations.Equal = refl
relation_known relations.NotEqual = refl
relation_known relations.Less = refl
relation_known relations.LessOrEqual = refl
relation_known relations.Greater = refl
relation_known relations.GreaterOrEqual = refl

abbrev pub relation_part : Relation → Part
relation_part a = sign_part (relation_sign a)

abbrev pub relation_first : Option Kind → Type 0
relation_first k = is_some (relation_in k) ≡ true

pub relation_reads : Reads relation_in relation_part relation_first
relation_reads = sign_table_reads relation_of relation_sign relation_found relation_known relations.Equal

add_op_found : (s : Sign) (a : AddOp) → add_op_of s ≡ Some a → s ≡ add_sign a
add_op_found signs.Plus a h = ap add_sign (some_eq h)
add_op_found signs.Minus a h = ap add_sign (some_eq h)
add_op_found s a h = cc

add_op_known : (a : AddOp) → add_op_of (add_sign a) ≡ Some a
add_op_known add_ops.Plus = refl
add_op_known add_ops.Minus = refl

abbrev pub add_op_part : AddOp → Part
add_op_part a = sign_part (add_sign a)

abbrev pub add_op_first : Option Kind → Type 0
add_op_first k = is_some (add_op_in k) ≡ true

pub add_op_reads : Reads add_op_in add_op_part add_op_first
add_op_reads = sign_table_reads add_op_of add_sign add_op_found add_op_known add_ops.Plus

separator_found : (s : Sign) (a : GroupSeparator) → separator_of s ≡ Some a → s ≡ separator_sign a
separator_found signs.Comma a h = ap separator_sign (some_eq h)
separator_found signs.And a h = ap separator_sign (some_eq h)
separator_found s a h = cc

separator_known : (a : GroupSeparator) → separator_of (separator_sign a) ≡ Some a
separator_known separators.Comma = refl
separator_known separators.Ampersand = refl

abbrev pub separator_part : GroupSeparator → Part
separator_part a = sign_part (separator_sign a)

abbrev pub separator_first : Option Kind → Type 0
separator_first k = is_some (separator_in k) ≡ true

pub separator_reads : Reads separator_in separator_part separator_first
separator_reads = sign_table_reads separator_of separator_sign separator_found separator_known separators.Comma

pub from_separator : (P : Look → Type 0) (k : Option Kind) → separator_first k → ((a : GroupSeparator) → P (looks.Sign (separator_sign a))) → P (look k)
from_separator = from_sign_table separator_of separator_sign separator_found separator_known separators.Comma

aggregate_found : (s : Keyword) (a : AggregateOp) → aggregate_of s ≡ Some a → s ≡ aggregate_word a
aggregate_found words.Sum a h = ap aggregate_word (some_eq h)
aggregate_found words.Prod a h = ap aggregate_word (some_eq h)
aggregate_found words.Min a h = ap aggregate_word (some_eq h)
aggregate_found words.Max a h = ap aggregate_word (some_eq h)
aggregate_found s a h = cc

aggregate_known : (a : AggregateOp) → aggregate_of (aggregate_word a) ≡ Some a
aggregate_known aggregate_ops.Sum = refl
aggregate_known aggregate_ops.Product = refl
aggregate_known aggregate_ops.Min = refl
aggregate_known aggregate_ops.Max = refl

abbrev pub aggregate_part : AggregateOp → Part
aggregate_part a = word_part (aggregate_word a)

abbrev pub aggregate_first : Option Kind → Type 0
aggregate_first k = is_some (aggregate_in k) ≡ true

pub aggregate_reads : Reads aggregate_in aggregate_part aggregate_first
aggregate_reads = word_table_reads aggregate_of aggregate_word aggregate_found aggregate_known aggregate_ops.Sum

pub from_aggregate : (P : Look → Type 0) (k : Option Kind) → aggregate_first k → ((a : AggregateOp) → P (looks.Word (aggregate_word a))) → P (look k)
from_aggregate = from_word_table aggregate_of aggregate_word aggregate_found aggregate_known aggregate_ops.Sum

call_found : (s : Keyword) (a : CallOp) → call_of s ≡ Some a → s ≡ call_word a
call_found words.Abs a h = ap call_word (some_eq h)
call_found words.Card a h = ap call_word (some_eq h)
call_found s a h = cc

call_known : (a : CallOp) → call_of (call_word a) ≡ Some a
call_known call_ops.Absolute = refl
call_known call_ops.Cardinality = refl

abbrev pub call_part : CallOp → Part
call_part a = word_part (call_word a)

abbrev pub call_first : Option Kind → Type 0
call_first k = is_some (call_in k) ≡ true

pub call_reads : Reads call_in call_part call_first
call_reads = word_table_reads call_of call_word call_found call_known call_ops.Absolute

pub from_call : (P : Look → Type 0) (k : Option Kind) → call_first k → ((a : CallOp) → P (looks.Word (call_word a))) → P (look k)
from_call = from_word_table call_of call_word call_found call_known call_ops.Absolute

question_found : (s : Keyword) (a : QuestionOp) → question_of s ≡ Some a → s ≡ question_word a
question_found words.DSize a h = ap question_word (some_eq h)
question_found words.DMin a h = ap question_word (some_eq h)
question_found words.DMax a h = ap question_word (some_eq h)
question_found words.Bound a h = ap question_word (some_eq h)
question_found s a h = cc

question_known : (a : QuestionOp) → question_of (question_word a) ≡ Some a
question_known question_ops.Size = refl
question_known question_ops.Least = refl
question_known question_ops.Greatest = refl
question_known question_ops.Bound = refl

abbrev pub question_part : QuestionOp → Part
question_part a = word_part (question_word a)

abbrev pub question_first : Option Kind → Type 0
question_first k = is_some (question_in k) ≡ true

pub question_reads : Reads question_in question_part question_first
question_reads = word_table_reads question_of question_word question_found question_known question_ops.Size

pub from_question : (P : Look → Type 0) (k : Option Kind) → question_first k → ((a : QuestionOp) → P (looks.Word (question_word a))) → P (look k)
from_question = from_word_table question_of question_word question_found question_known question_ops.Size

schedule_end_found : (s : Keyword) (a : ScheduleEnd) → schedule_end_of s ≡ Some a → s ≡ schedule_word a
schedule_end_found words.ScheduleOrigin a h = ap schedule_word (some_eq h)
schedule_end_found words.ScheduleHorizon a h = ap schedule_word (some_eq h)
schedule_end_found s a h = cc

schedule_end_known : (a : ScheduleEnd) → schedule_end_of (schedule_word a) ≡ Some a
schedule_end_known schedule_ends.Origin = refl
schedule_end_known schedule_ends.Horizon = refl

abbrev pub schedule_end_part : ScheduleEnd → Part
schedule_end_part a = word_part (schedule_word a)

abbrev pub schedule_end_first : Option Kind → Type 0
schedule_end_first k = is_some (schedule_end_in k) ≡ true

pub schedule_end_reads : Reads schedule_end_in schedule_end_part schedule_end_first
schedule_end_reads = word_table_reads schedule_end_of schedule_word schedule_end_found schedule_end_known schedule_ends.Origin

pub from_schedule_end : (P : Look → Type 0) (k : Option Kind) → schedule_end_first k → ((a : ScheduleEnd) → P (looks.Word (schedule_word a))) → P (look k)
from_schedule_end = from_word_table schedule_end_of schedule_word schedule_end_found schedule_end_known schedule_ends.Origin

optimum_found : (s : Keyword) (a : Optimum) → optimum_of s ≡ Some a → s ≡ optimum_word a
optimum_found words.Minimize a h = ap optimum_word (some_eq h)
optimum_found words.Maximize a h = ap optimum_word (some_eq h)
optimum_found s a h = cc

optimum_known : (a : Optimum) → optimum_of (optimum_word a) ≡ Some a
optimum_known optima.Least = refl
optimum_known optima.Greatest = refl

abbrev pub optimum_part : Optimum → Part
optimum_part a = word_part (optimum_word a)

abbrev pub optimum_first : Option Kind → Type 0
optimum_first k = is_some (optimum_in k) ≡ true

pub optimum_reads : Reads optimum_in optimum_part optimum_first
optimum_reads = word_table_reads optimum_of optimum_word optimum_found optimum_known optima.Least

pub from_optimum : (P : Look → Type 0) (k : Option Kind) → optimum_first k → ((a : Optimum) → P (looks.Word (optimum_word a))) → P (look k)
from_optimum = from_word_table optimum_of optimum_word optimum_found optimum_known optima.Least

branch_found : (s : Keyword) (a : BranchOp) → branch_of s ≡ Some a → s ≡ branch_word a
branch_found words.TryAll a h = ap branch_word (some_eq h)
branch_found words.ForAll a h = ap branch_word (some_eq h)
branch_found words.Select a h = ap branch_word (some_eq h)
branch_found s a h = cc

branch_known : (a : BranchOp) → branch_of (branch_word a) ≡ Some a
branch_known branch_ops.TryAll = refl
branch_known branch_ops.ForAll = refl
branch_known branch_ops.Select = refl

abbrev pub branch_part : BranchOp → Part
branch_part a = word_part (branch_word a)

abbrev pub branch_first : Option Kind → Type 0
branch_first k = is_some (branch_in k) ≡ true

pub branch_reads : Reads branch_in branch_part branch_first
branch_reads = word_table_reads branch_of branch_word branch_found branch_known branch_ops.TryAll

pub from_branch : (P : Look → Type 0) (k : Option Kind) → branch_first k → ((a : BranchOp) → P (looks.Word (branch_word a))) → P (look k)
from_branch = from_word_table branch_of branch_word branch_found branch_known branch_ops.TryAll

label_found : (s : Keyword) (a : LabelOp) → label_of s ≡ Some a → s ≡ label_word a
label_found words.Generate a h = ap label_word (some_eq h)
label_found words.Rank a h = ap label_word (some_eq h)
label_found s a h = cc

label_known : (a : LabelOp) → label_of (label_word a) ≡ Some a
label_known label_ops.Generate = refl
label_known label_ops.Rank = refl

abbrev pub label_part : LabelOp → Part
label_part a = word_part (label_word a)

abbrev pub label_first : Option Kind → Type 0
label_first k = is_some (label_in k) ≡ true

pub label_reads : Reads label_in label_part label_first
label_reads = word_table_reads label_of label_word label_found label_known label_ops.Generate

pub from_label : (P : Look → Type 0) (k : Option Kind) → label_first k → ((a : LabelOp) → P (looks.Word (label_word a))) → P (look k)
from_label = from_word_table label_of label_word label_found label_known label_ops.Generate

-- increasing or decreasing
direction_found : (w : Keyword) (a : Bool) → direction_of w ≡ Some a → w ≡ direction_word a
direction_found words.Increasing a h = ap direction_word (some_eq h)
direction_found words.Decreasing a h = ap direction_word (some_eq h)
direction_found w a h = cc

direction_known : (a : Bool) → direction_of (direction_word a) ≡ Some a
direction_known true = refl
direction_known false = refl

abbrev pub direction_part : Bool → Part
direction_part a = word_part (direction_word a)

abbrev pub direction_first : Option Kind → Type 0
direction_first k = is_some (direction_in k) ≡ true

pub direction_reads : Reads direction_in direction_part direction_first
direction_reads = word_table_reads direction_of direction_word direction_found direction_known true

-- the operator of a product is a sign or a word
times_found : (s : Sign) (a : MulOp) (k : Option Kind) → look k ≡ looks.Sign s → mul_sign_of s ≡ Some a → k ≡ Some (kind_of (mul_part a))
times_found signs.Times a k e h = look_sign k signs.Times e ∙ ap (λ x. Some (kind_of (mul_part x))) (some_eq h)
times_found s a k e h = cc

div_found : (w : Keyword) (a : MulOp) (k : Option Kind) → look k ≡ looks.Word w → mul_word_of w ≡ Some a → k ≡ Some (kind_of (mul_part a))
div_found words.Div a k e h = look_word k words.Div e ∙ ap (λ x. Some (kind_of (mul_part x))) (some_eq h)
div_found words.Mod a k e h = look_word k words.Mod e ∙ ap (λ x. Some (kind_of (mul_part x))) (some_eq h)
div_found w a k e h = cc

mul_found : (l : Look) (a : MulOp) (k : Option Kind) → look k ≡ l → mul_op_seen l ≡ Some a → k ≡ Some (kind_of (mul_part a))
mul_found (looks.Sign s) a k e h = times_found s a k e h
mul_found (looks.Word w) a k e h = div_found w a k e h
mul_found looks.Nothing a k e h = cc
mul_found looks.Name a k e h = cc
mul_found looks.Number a k e h = cc
mul_found looks.Other a k e h = cc

mul_proper : (a : MulOp) → IsProper (mul_part a)
mul_proper mul_ops.Times = tt
mul_proper mul_ops.Quotient = tt
mul_proper mul_ops.Remainder = tt

mul_known : (a : MulOp) → mul_op_in (Some (kind_of (mul_part a))) ≡ Some a
mul_known mul_ops.Times = refl
mul_known mul_ops.Quotient = ap mul_op_seen (look_of_text words.Div)
mul_known mul_ops.Remainder = ap mul_op_seen (look_of_text words.Mod)

abbrev pub mul_first : Option Kind → Type 0
mul_first k = is_some (mul_op_in k) ≡ true

pub mul_reads : Reads mul_op_in mul_part mul_first
mul_reads = record {
  found = λ k a h. (mul_found (look k) a k refl h, mul_proper a);
  known = λ a h. mul_known a;
  starts = λ a h. ap is_some (mul_known a);
  sample = mul_ops.Times;
  proper = tt;
}
