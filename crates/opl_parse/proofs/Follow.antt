-- How loosely the phrases are bound that a token goes on with. A phrase stops before what binds more loosely.
use Rattle.std.proofs.Common.{◌≡◌, ℕ, ◌<◌, Bool, true, false, Option, refl, subst, arith}
use Rattle.std.specs.Prelude.{is_some, ◌||◌}
use Rattle.opl_token.specs.declared.sign.Sign.{Sign}
use Rattle.opl_token.specs.declared.sign.Sign.TheVariants as signs
use Rattle.opl_token.specs.declared.token.Kind.{Kind}
use Rattle.opl_tree.specs.declared.keyword.Keyword.{Keyword}
use Rattle.opl_tree.specs.declared.keyword.Keyword.TheVariants as words
use Rattle.opl_grammar.specs.declared.look.Look.{Look}
use Rattle.opl_grammar.specs.declared.look.Look.TheVariants as looks
use Rattle.opl_grammar.specs.Input.{look, sees_sign, is_sign, is_word, sign_seen}
use Rattle.opl_reader_laws.proofs.Tokens.{sees_sign_true, sees_word_true, from_sign, from_word}
use Rattle.opl_grammar.specs.Tables.{through, relation_of, add_op_of, mul_op_seen, mul_sign_of, mul_word_of, is_relation, is_add_op, is_mul_op, starts_suffix}

-- suffixes 1, products 2, sums 3, sets 4, comparisons 5, `&` 6, `\/` 7, `=>` 8, `<=>` 9, items 10, and all else 11
abbrev pub sign_binds : Sign → ℕ
sign_binds signs.OpenBracket = 1
sign_binds signs.Dot = 1
sign_binds signs.Times = 2
sign_binds signs.Plus = 3
sign_binds signs.Minus = 3
sign_binds signs.Range = 4
sign_binds signs.Equal = 5
sign_binds signs.NotEqual = 5
sign_binds signs.Less = 5
sign_binds signs.LessOrEqual = 5
sign_binds signs.Greater = 5
sign_binds signs.GreaterOrEqual = 5
sign_binds signs.And = 6
sign_binds signs.Or = 7
sign_binds signs.Implies = 8
sign_binds signs.Equivalent = 9
sign_binds s = 11

abbrev pub word_binds : Keyword → ℕ
word_binds words.Div = 2
word_binds words.Mod = 2
word_binds words.In = 5
word_binds words.Precedes = 10
word_binds words.Requires = 10
word_binds w = 11

abbrev pub binds : Look → ℕ
binds (looks.Sign s) = sign_binds s
binds (looks.Word w) = word_binds w
binds _ = 11

-- the token binds more loosely than that
abbrev pub Ends : ℕ → Option Kind → Type 0
Ends level k = level < binds (look k)

-- ---- what does not go on

suffix_of_sign : (s : Sign) → 1 < sign_binds s → (sees_sign signs.OpenBracket (looks.Sign s) || sees_sign signs.Dot (looks.Sign s)) ≡ false
suffix_of_sign signs.OpenBracket h = absurd (omega (arith, h))
suffix_of_sign signs.Dot h = absurd (omega (arith, h))
suffix_of_sign s h = refl

no_suffix_seen : (l : Look) → 1 < binds l → (sees_sign signs.OpenBracket l || sees_sign signs.Dot l) ≡ false
no_suffix_seen (looks.Sign s) h = suffix_of_sign s h
no_suffix_seen looks.Nothing h = refl
no_suffix_seen (looks.Word w) h = refl
no_suffix_seen looks.Name h = refl
no_suffix_seen looks.Number h = refl
no_suffix_seen looks.Other h = refl

pub no_suffix : (k : Option Kind) → Ends 1 k → starts_suffix k ≡ false
no_suffix k h = no_suffix_seen (look k) h

mul_of_sign : (s : Sign) → 2 < sign_binds s → is_some (mul_sign_of s) ≡ false
mul_of_sign signs.Times h = absurd (omega (arith, h))
mul_of_sign s h = refl

mul_of_word : (w : Keyword) → 2 < word_binds w → is_some (mul_word_of w) ≡ false
mul_of_word words.Div h = absurd (omega (arith, h))
mul_of_word words.Mod h = absurd (omega (arith, h))
mul_of_word w h = refl

no_mul_seen : (l : Look) → 2 < binds l → is_some (mul_op_seen l) ≡ false
no_mul_seen (looks.Sign s) h = mul_of_sign s h
no_mul_seen (looks.Word w) h = mul_of_word w h
no_mul_seen looks.Nothing h = refl
no_mul_seen looks.Name h = refl
no_mul_seen looks.Number h = refl
no_mul_seen looks.Other h = refl

pub no_mul : (k : Option Kind) → Ends 2 k → is_mul_op k ≡ false
no_mul k h = no_mul_seen (look k) h

mul_sign_binds : (s : Sign) → is_some (mul_sign_of s) ≡ true → 1 < sign_binds s
mul_sign_binds signs.Times h = omega arith
mul_sign_binds s h = cc

mul_word_binds : (w : Keyword) → is_some (mul_word_of w) ≡ true → 1 < word_binds w
mul_word_binds words.Div h = omega arith
mul_word_binds words.Mod h = omega arith
mul_word_binds w h = cc

mul_seen_binds : (l : Look) → is_some (mul_op_seen l) ≡ true → 1 < binds l
mul_seen_binds (looks.Sign s) h = mul_sign_binds s h
mul_seen_binds (looks.Word w) h = mul_word_binds w h
mul_seen_binds looks.Nothing h = cc
mul_seen_binds looks.Name h = cc
mul_seen_binds looks.Number h = cc
mul_seen_binds looks.Other h = cc

-- the operator of a product ends a factor
pub mul_ends : (k : Option Kind) → is_mul_op k ≡ true → Ends 1 k
mul_ends k h = mul_seen_binds (look k) h

add_of_sign : (s : Sign) → 3 < sign_binds s → is_some (add_op_of s) ≡ false
add_of_sign signs.Plus h = absurd (omega (arith, h))
add_of_sign signs.Minus h = absurd (omega (arith, h))
add_of_sign s h = refl

no_add_seen : (l : Look) → 3 < binds l → is_some (through add_op_of (sign_seen l)) ≡ false
no_add_seen (looks.Sign s) h = add_of_sign s h
no_add_seen (looks.Word w) h = refl
no_add_seen looks.Nothing h = refl
no_add_seen looks.Name h = refl
no_add_seen looks.Number h = refl
no_add_seen looks.Other h = refl

pub no_add : (k : Option Kind) → Ends 3 k → is_add_op k ≡ false
no_add k h = no_add_seen (look k) h

add_sign_binds : (s : Sign) → is_some (add_op_of s) ≡ true → 2 < sign_binds s
add_sign_binds signs.Plus h = omega arith
add_sign_binds signs.Minus h = omega arith
add_sign_binds s h = cc

add_seen_binds : (l : Look) → is_some (through add_op_of (sign_seen l)) ≡ true → 2 < binds l
add_seen_binds (looks.Sign s) h = add_sign_binds s h
add_seen_binds (looks.Word w) h = cc
add_seen_binds looks.Nothing h = cc
add_seen_binds looks.Name h = cc
add_seen_binds looks.Number h = cc
add_seen_binds looks.Other h = cc

-- the operator of a sum ends a product
pub add_ends : (k : Option Kind) → is_add_op k ≡ true → Ends 2 k
add_ends k h = add_seen_binds (look k) h

relation_of_sign : (s : Sign) → 5 < sign_binds s → is_some (relation_of s) ≡ false
relation_of_sign signs.Equal h = absurd (omega (arith, h))
relation_of_sign signs.NotEqual h = absurd (omega (arith, h))
relation_of_sign signs.Less h = absurd (omega (arith, h))
relation_of_sign signs.LessOrEqual h = absurd (omega (arith, h))
relation_of_sign signs.Greater h = absurd (omega (arith, h))
relation_of_sign signs.GreaterOrEqual h = absurd (omega (arith, h))
relation_of_sign s h = refl

no_relation_seen : (l : Look) → 5 < binds l → is_some (through relation_of (sign_seen l)) ≡ false
no_relation_seen (looks.Sign s) h = relation_of_sign s h
no_relation_seen (looks.Word w) h = refl
no_relation_seen looks.Nothing h = refl
no_relation_seen looks.Name h = refl
no_relation_seen looks.Number h = refl
no_relation_seen looks.Other h = refl

pub no_relation : (k : Option Kind) → Ends 5 k → is_relation k ≡ false
no_relation k h = no_relation_seen (look k) h

relation_sign_binds : (s : Sign) → is_some (relation_of s) ≡ true → 4 < sign_binds s
relation_sign_binds signs.Equal h = omega arith
relation_sign_binds signs.NotEqual h = omega arith
relation_sign_binds signs.Less h = omega arith
relation_sign_binds signs.LessOrEqual h = omega arith
relation_sign_binds signs.Greater h = omega arith
relation_sign_binds signs.GreaterOrEqual h = omega arith
relation_sign_binds s h = cc

relation_seen_binds : (l : Look) → is_some (through relation_of (sign_seen l)) ≡ true → 4 < binds l
relation_seen_binds (looks.Sign s) h = relation_sign_binds s h
relation_seen_binds (looks.Word w) h = cc
relation_seen_binds looks.Nothing h = cc
relation_seen_binds looks.Name h = cc
relation_seen_binds looks.Number h = cc
relation_seen_binds looks.Other h = cc

-- a relation ends a sum
pub relation_ends : (k : Option Kind) → is_relation k ≡ true → Ends 4 k
relation_ends k h = relation_seen_binds (look k) h

-- ---- a sign or a word that a looser token is not

false_unless : (b : Bool) → (b ≡ true → ⊥) → b ≡ false
false_unless true h = absurd (h refl)
false_unless false h = refl

pub no_sign : (s : Sign) (level : ℕ) → (level < sign_binds s → ⊥) → (k : Option Kind) → Ends level k → is_sign s k ≡ false
no_sign s level tight k h = false_unless (is_sign s k) (λ e. tight (subst (λ l. level < binds l) (sees_sign_true s (look k) e) h))

pub no_word : (w : Keyword) (level : ℕ) → (level < word_binds w → ⊥) → (k : Option Kind) → Ends level k → is_word w k ≡ false
no_word w level tight k h = false_unless (is_word w k) (λ e. tight (subst (λ l. level < binds l) (sees_word_true w (look k) e) h))

-- a sign or a word that ends a phrase
pub sign_ends : (s : Sign) (level : ℕ) → level < sign_binds s → (k : Option Kind) → is_sign s k ≡ true → Ends level k
sign_ends s level loose k h = from_sign s (λ l. level < binds l) k h loose

pub word_ends : (w : Keyword) (level : ℕ) → level < word_binds w → (k : Option Kind) → is_word w k ≡ true → Ends level k
word_ends w level loose k h = from_word w (λ l. level < binds l) k h loose
