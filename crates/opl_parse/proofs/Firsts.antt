-- What begins a prim, a sum and an expression.
use Rattle.std.proofs.Common.{◌≡◌, true, false, Option, refl}
use Rattle.std.specs.Prelude.{is_some}
use Rattle.opl_token.specs.declared.sign.Sign.{Sign}
use Rattle.opl_token.specs.declared.sign.Sign.TheVariants as signs
use Rattle.opl_token.specs.declared.token.Kind.{Kind}
use Rattle.opl_tree.specs.declared.expression.AggregateOp.{AggregateOp}
use Rattle.opl_tree.specs.declared.keyword.Keyword.{Keyword}
use Rattle.opl_tree.specs.declared.keyword.Keyword.TheVariants as words
use Rattle.opl_grammar.specs.declared.look.Look.{Look}
use Rattle.opl_grammar.specs.declared.look.Look.TheVariants as looks
use Rattle.opl_tree.specs.Marks.{aggregate_word}
use Rattle.opl_grammar.specs.Input.{look, sees_sign, sees_word, is_sign, is_word, word_seen}
use Rattle.opl_grammar.specs.Tables.{through, aggregate_of, is_aggregate, sign_starts, word_starts_add, word_starts_expr, starts_add}
use Rattle.opl_parse.proofs.Ops.{aggregate_first, from_aggregate}
use Rattle.opl_parse.proofs.Shapes.{prim_sign, prim_word, starts_prim, starts_expr}
use Rattle.opl_grammar.specs.Tables as tables
use Rattle.opl_tree.specs.declared.expression.AggregateOp.TheVariants as aggregate_ops

-- ---- a prim begins a sum, and nothing else does

prim_sign_starts : (s : Sign) → prim_sign s ≡ true → sign_starts s ≡ true
prim_sign_starts signs.OpenParenthesis h = refl
prim_sign_starts signs.Less h = refl
prim_sign_starts signs.OpenBrace h = refl
prim_sign_starts signs.OpenBracket h = refl
prim_sign_starts signs.OpenAssociation h = refl
prim_sign_starts s h = cc

prim_word_starts : (w : Keyword) → prim_word w ≡ true → word_starts_add w ≡ true
prim_word_starts words.Abs h = refl
prim_word_starts words.AllDifferent h = refl
prim_word_starts words.Bound h = refl
prim_word_starts words.Card h = refl
prim_word_starts words.DMax h = refl
prim_word_starts words.DMin h = refl
prim_word_starts words.DSize h = refl
prim_word_starts w h = cc

prim_seen_starts : (l : Look) → tables.begins prim_sign prim_word l ≡ true → tables.begins sign_starts word_starts_add l ≡ true
prim_seen_starts (looks.Sign s) h = prim_sign_starts s h
prim_seen_starts (looks.Word w) h = prim_word_starts w h
prim_seen_starts looks.Name h = refl
prim_seen_starts looks.Number h = refl
prim_seen_starts looks.Nothing h = h
prim_seen_starts looks.Other h = h

pub prim_starts_add : (k : Option Kind) → starts_prim k ≡ true → starts_add k ≡ true
prim_starts_add k h = prim_seen_starts (look k) h

prim_no_minus_sign : (s : Sign) → prim_sign s ≡ true → sees_sign signs.Minus (looks.Sign s) ≡ false
prim_no_minus_sign signs.OpenParenthesis h = refl
prim_no_minus_sign signs.Less h = refl
prim_no_minus_sign signs.OpenBrace h = refl
prim_no_minus_sign signs.OpenBracket h = refl
prim_no_minus_sign signs.OpenAssociation h = refl
prim_no_minus_sign s h = cc

prim_no_minus_seen : (l : Look) → tables.begins prim_sign prim_word l ≡ true → sees_sign signs.Minus l ≡ false
prim_no_minus_seen (looks.Sign s) h = prim_no_minus_sign s h
prim_no_minus_seen (looks.Word w) h = refl
prim_no_minus_seen looks.Name h = refl
prim_no_minus_seen looks.Number h = refl
prim_no_minus_seen looks.Nothing h = refl
prim_no_minus_seen looks.Other h = refl

pub prim_no_minus : (k : Option Kind) → starts_prim k ≡ true → is_sign signs.Minus k ≡ false
prim_no_minus k h = prim_no_minus_seen (look k) h

prim_no_aggregate_word : (w : Keyword) → prim_word w ≡ true → is_some (aggregate_of w) ≡ false
prim_no_aggregate_word words.Abs h = refl
prim_no_aggregate_word words.AllDifferent h = refl
prim_no_aggregate_word words.Bound h = refl
prim_no_aggregate_word words.Card h = refl
prim_no_aggregate_word words.DMax h = refl
prim_no_aggregate_word words.DMin h = refl
prim_no_aggregate_word words.DSize h = refl
prim_no_aggregate_word w h = cc

prim_no_aggregate_seen : (l : Look) → tables.begins prim_sign prim_word l ≡ true → is_some (through aggregate_of (word_seen l)) ≡ false
prim_no_aggregate_seen (looks.Word w) h = prim_no_aggregate_word w h
prim_no_aggregate_seen (looks.Sign s) h = refl
prim_no_aggregate_seen looks.Name h = refl
prim_no_aggregate_seen looks.Number h = refl
prim_no_aggregate_seen looks.Nothing h = refl
prim_no_aggregate_seen looks.Other h = refl

pub prim_no_aggregate : (k : Option Kind) → starts_prim k ≡ true → is_aggregate k ≡ false
prim_no_aggregate k h = prim_no_aggregate_seen (look k) h

aggregate_word_starts : (a : AggregateOp) → word_starts_add (aggregate_word a) ≡ true
aggregate_word_starts aggregate_ops.Sum = refl
aggregate_word_starts aggregate_ops.Product = refl
aggregate_word_starts aggregate_ops.Min = refl
aggregate_word_starts aggregate_ops.Max = refl

pub aggregate_starts_add : (k : Option Kind) → aggregate_first k → starts_add k ≡ true
aggregate_starts_add k h = from_aggregate (λ l. tables.begins sign_starts word_starts_add l ≡ true) k h aggregate_word_starts

-- ---- a sum begins an expression, and `not` begins no sum

add_word_starts : (w : Keyword) → word_starts_add w ≡ true → word_starts_expr w ≡ true
add_word_starts words.Not h = refl
add_word_starts w h = h

add_seen_starts : (l : Look) → tables.begins sign_starts word_starts_add l ≡ true → tables.begins sign_starts word_starts_expr l ≡ true
add_seen_starts (looks.Word w) h = add_word_starts w h
add_seen_starts (looks.Sign s) h = h
add_seen_starts looks.Name h = refl
add_seen_starts looks.Number h = refl
add_seen_starts looks.Nothing h = h
add_seen_starts looks.Other h = h

pub add_starts_expr : (k : Option Kind) → starts_add k ≡ true → starts_expr k ≡ true
add_starts_expr k h = add_seen_starts (look k) h

add_not_word : (w : Keyword) → word_starts_add w ≡ true → sees_word words.Not (looks.Word w) ≡ false
add_not_word words.Not h = cc
add_not_word w h = refl

add_not_seen : (l : Look) → tables.begins sign_starts word_starts_add l ≡ true → sees_word words.Not l ≡ false
add_not_seen (looks.Word w) h = add_not_word w h
add_not_seen (looks.Sign s) h = refl
add_not_seen looks.Name h = refl
add_not_seen looks.Number h = refl
add_not_seen looks.Nothing h = refl
add_not_seen looks.Other h = refl

pub add_not : (k : Option Kind) → starts_add k ≡ true → is_word words.Not k ≡ false
add_not k h = add_not_seen (look k) h
