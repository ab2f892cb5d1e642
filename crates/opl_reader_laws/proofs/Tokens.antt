-- The single tokens, and what is seen in them.
use Rattle.std.proofs.Common.{◌≡◌, ℕ, Bool, true, false, List, [], Option, Some, None, refl, sym, ap, ◌∙◌, subst, ℤ, pos}
use Rattle.std.specs.Prelude.{negsuc, is_some}
use Rattle.std.specs.Int.{IsNonNegative}
use denote.Enum.Bare.{same_true, true_same}
use Rattle.opl_token.specs.contracts.sign.Sign as sign_contracts
use Rattle.opl_token.specs.declared.sign.Sign.{Sign}
use Rattle.opl_token.specs.declared.token.Kind.{Kind}
use Rattle.opl_token.specs.declared.token.Kind.TheVariants as kinds
use Rattle.opl_tree.specs.contracts.keyword.Keyword as keyword_contracts
use Rattle.opl_tree.specs.declared.keyword.Keyword.{Keyword}
use Rattle.opl_tree.specs.Keywords.{keyword_text, keyword_of}
use Rattle.opl_tree.proofs.Keywords.{keyword_of-text, text_of-keyword}
use Rattle.opl_tree.specs.Marks.{word as word_part, sign as sign_part, name as name_part, any as any_part, number as number_part}
use Rattle.opl_grammar.specs.declared.look.Look.{Look}
use Rattle.opl_grammar.specs.declared.look.Look.TheVariants as looks
use Rattle.opl_grammar.specs.Input.{seen, sign, word, look, look_of_word, sees_sign, sees_word, sees_name, sees_number, is_sign, is_word, is_name, is_number, name_in, name_unless, any_in, number_in, sign_seen, word_seen}
use Rattle.opl_grammar.specs.Tables.{through}
use Rattle.opl_reader_laws.proofs.Phrases.{Shape, Law, Reads, one_shape, one_law}

pub some_eq : {X : Type 0} {x y : X} → ◌≡◌ {A = Option X} (Some x) (Some y) → x ≡ y
some_eq h = cc

-- ---- what is seen

sign_eq : {s t : Sign} → looks.Sign s ≡ looks.Sign t → s ≡ t
sign_eq h = cc

word_eq : {v w : Keyword} → looks.Word v ≡ looks.Word w → v ≡ w
word_eq h = cc

word_no_sign : (o : Option Keyword) (s : Sign) → look_of_word o ≡ looks.Sign s → ⊥
word_no_sign None s h = cc
word_no_sign (Some w) s h = cc

pub look_sign : (k : Option Kind) (s : Sign) → look k ≡ looks.Sign s → k ≡ Some (kinds.Sign s)
look_sign None s h = cc
look_sign (Some (kinds.Word w)) s h = absurd (word_no_sign (keyword_of w) s h)
look_sign (Some (kinds.Number (pos n))) s h = cc
look_sign (Some (kinds.Number (negsuc n))) s h = cc
look_sign (Some (kinds.Text t)) s h = cc
look_sign (Some (kinds.Sign t)) s h = ap (λ x. Some (kinds.Sign x)) (sign_eq h)

word_known : (o : Option Keyword) (w : Keyword) → look_of_word o ≡ looks.Word w → o ≡ Some w
word_known None w h = cc
word_known (Some v) w h = ap Some (word_eq h)

pub look_word : (k : Option Kind) (w : Keyword) → look k ≡ looks.Word w → k ≡ Some (kinds.Word (keyword_text w))
look_word None w h = cc
look_word (Some (kinds.Word v)) w h = ap (λ x. Some (kinds.Word x)) (text_of-keyword v w (word_known (keyword_of v) w h))
look_word (Some (kinds.Number (pos n))) w h = cc
look_word (Some (kinds.Number (negsuc n))) w h = cc
look_word (Some (kinds.Text t)) w h = cc
look_word (Some (kinds.Sign t)) w h = cc

pub look_of_text : (w : Keyword) → look (Some (kinds.Word (keyword_text w))) ≡ looks.Word w
look_of_text w = ap look_of_word (keyword_of-text w)

pub sees_sign_true : (s : Sign) (l : Look) → sees_sign s l ≡ true → l ≡ looks.Sign s
sees_sign_true s (looks.Sign t) h = ap looks.Sign (same_true sign_contracts.the_type tt t s h)
sees_sign_true s looks.Nothing h = cc
sees_sign_true s (looks.Word w) h = cc
sees_sign_true s looks.Name h = cc
sees_sign_true s looks.Number h = cc
sees_sign_true s looks.Other h = cc

pub sees_word_true : (w : Keyword) (l : Look) → sees_word w l ≡ true → l ≡ looks.Word w
sees_word_true w (looks.Word v) h = ap looks.Word (same_true keyword_contracts.the_type tt v w h)
sees_word_true w looks.Nothing h = cc
sees_word_true w (looks.Sign t) h = cc
sees_word_true w looks.Name h = cc
sees_word_true w looks.Number h = cc
sees_word_true w looks.Other h = cc

pub sees_name_true : (l : Look) → sees_name l ≡ true → l ≡ looks.Name
sees_name_true looks.Name h = refl
sees_name_true looks.Nothing h = cc
sees_name_true (looks.Sign t) h = cc
sees_name_true (looks.Word w) h = cc
sees_name_true looks.Number h = cc
sees_name_true looks.Other h = cc

pub sees_number_true : (l : Look) → sees_number l ≡ true → l ≡ looks.Number
sees_number_true looks.Number h = refl
sees_number_true looks.Nothing h = cc
sees_number_true (looks.Sign t) h = cc
sees_number_true (looks.Word w) h = cc
sees_number_true looks.Name h = cc
sees_number_true looks.Other h = cc

-- what holds of a token, by what is seen in it
pub from_sign : (s : Sign) (P : Look → Type 0) (k : Option Kind) → is_sign s k ≡ true → P (looks.Sign s) → P (look k)
from_sign s P k h p = subst P (sym (sees_sign_true s (look k) h)) p

pub from_word : (w : Keyword) (P : Look → Type 0) (k : Option Kind) → is_word w k ≡ true → P (looks.Word w) → P (look k)
from_word w P k h p = subst P (sym (sees_word_true w (look k) h)) p

pub from_name : (P : Look → Type 0) (k : Option Kind) → is_name k ≡ true → P looks.Name → P (look k)
from_name P k h p = subst P (sym (sees_name_true (look k) h)) p

pub from_number : (P : Look → Type 0) (k : Option Kind) → is_number k ≡ true → P looks.Number → P (look k)
from_number P k h p = subst P (sym (sees_number_true (look k) h)) p

-- ---- signs and words

pub seen_true : (b : Bool) (u : Unit {0}) → seen b ≡ Some u → b ≡ true
seen_true true u h = refl
seen_true false u h = cc

pub is_sign_same : (s : Sign) → is_sign s (Some (kinds.Sign s)) ≡ true
is_sign_same s = true_same sign_contracts.the_type s s refl

pub is_word_same : (w : Keyword) → is_word w (Some (kinds.Word (keyword_text w))) ≡ true
is_word_same w = ap (sees_word w) (look_of_text w) ∙ true_same keyword_contracts.the_type w w refl

abbrev pub sign_table : Sign → Option Kind → Option (Unit {0})
sign_table s k = seen (is_sign s k)

abbrev pub word_table : Keyword → Option Kind → Option (Unit {0})
word_table w k = seen (is_word w k)

abbrev pub sign_first : Sign → Option Kind → Type 0
sign_first s k = is_sign s k ≡ true

abbrev pub word_first : Keyword → Option Kind → Type 0
word_first w k = is_word w k ≡ true

pub sign_reads : (s : Sign) → Reads (sign_table s) (λ u. sign_part s) (sign_first s)
sign_reads s = record {
  found = λ k u h. (look_sign k s (sees_sign_true s (look k) (seen_true (is_sign s k) u h)), tt);
  known = λ u h. ap seen (is_sign_same s);
  starts = λ u h. is_sign_same s;
  sample = tt;
  proper = tt;
}

pub word_reads : (w : Keyword) → Reads (word_table w) (λ u. word_part w) (word_first w)
word_reads w = record {
  found = λ k u h. (look_word k w (sees_word_true w (look k) (seen_true (is_word w k) u h)), tt);
  known = λ u h. ap seen (is_word_same w);
  starts = λ u h. is_word_same w;
  sample = tt;
  proper = tt;
}

abbrev pub sign_shape : Sign → Shape (Unit {0})
sign_shape s = one_shape (λ u. sign_part s) (sign_first s)

abbrev pub word_shape : Keyword → Shape (Unit {0})
word_shape w = one_shape (λ u. word_part w) (word_first w)

pub sign_law : {n : ℕ} (s : Sign) → Law n (sign s) (sign s) (sign_shape s)
sign_law s = one_law (sign_reads s)

pub word_law : {n : ℕ} (w : Keyword) → Law n (word w) (word w) (word_shape w)
word_law w = one_law (word_reads w)

-- ---- names and numbers

name_found : (o : Option Keyword) (w v : List ℕ) → keyword_of w ≡ o → name_unless o w ≡ Some v → (w ≡ v) × (keyword_of w ≡ None)
name_found None w v e h = (some_eq h, e)
name_found (Some k) w v e h = cc

name_in_some : (k : Option Kind) (v : List ℕ) → name_in k ≡ Some v → (k ≡ Some (kinds.Word v)) × (keyword_of v ≡ None)
name_in_some None v h = cc
name_in_some (Some (kinds.Word w)) v h =
    let f = name_found (keyword_of w) w v refl h in
    (ap (λ x. Some (kinds.Word x)) f.0, subst (λ x. keyword_of x ≡ None) f.0 f.1)
name_in_some (Some (kinds.Number n)) v h = cc
name_in_some (Some (kinds.Text w)) v h = cc
name_in_some (Some (kinds.Sign t)) v h = cc

pub empty_name : keyword_of [] ≡ None
unfolding keyword_of
empty_name = refl

pub name_reads : Reads name_in name_part (λ k. is_name k ≡ true)
name_reads = record {
  found = name_in_some;
  known = λ w h. rw h refl;
  starts = λ w h. rw h refl;
  sample = [];
  proper = empty_name;
}

any_in_some : (k : Option Kind) (v : List ℕ) → any_in k ≡ Some v → (k ≡ Some (kinds.Word v)) × Unit {0}
any_in_some None v h = cc
any_in_some (Some (kinds.Word w)) v h = (ap (λ x. Some (kinds.Word x)) (some_eq h), tt)
any_in_some (Some (kinds.Number n)) v h = cc
any_in_some (Some (kinds.Text w)) v h = cc
any_in_some (Some (kinds.Sign t)) v h = cc

pub any_reads : Reads any_in any_part (λ k. is_some (any_in k) ≡ true)
any_reads = record {
  found = any_in_some;
  known = λ w h. refl;
  starts = λ w h. refl;
  sample = [];
  proper = tt;
}

number_in_some : (k : Option Kind) (n : ℤ) → number_in k ≡ Some n → (k ≡ Some (kinds.Number n)) × IsNonNegative n
number_in_some None n h = cc
number_in_some (Some (kinds.Word w)) n h = cc
number_in_some (Some (kinds.Number (pos m))) n h = (ap (λ x. Some (kinds.Number x)) (some_eq h), subst IsNonNegative (some_eq h) tt)
number_in_some (Some (kinds.Number (negsuc m))) n h = cc
number_in_some (Some (kinds.Text w)) n h = cc
number_in_some (Some (kinds.Sign t)) n h = cc

number_known : (n : ℤ) → IsNonNegative n → number_in (Some (kinds.Number n)) ≡ Some n
number_known (pos m) h = refl
number_known (negsuc m) h = absurd h

number_seen : (n : ℤ) → IsNonNegative n → is_number (Some (kinds.Number n)) ≡ true
number_seen (pos m) h = refl
number_seen (negsuc m) h = absurd h

pub number_reads : Reads number_in number_part (λ k. is_number k ≡ true)
number_reads = record {
  found = number_in_some;
  known = number_known;
  starts = number_seen;
  sample = pos 0;
  proper = tt;
}

-- ---- tables of signs and of words

record Found {A : Type 0} (o : Option A) : Type 0 where
  value : A
  is : o ≡ Some value

found_in : {A : Type 0} (o : Option A) → is_some o ≡ true → Found o
found_in (Some a) h = record { value = a; is = refl }
found_in None h = cc

module _ {A : Type 0} (table : Sign → Option A) (of : A → Sign) (found : (s : Sign) (a : A) → table s ≡ Some a → s ≡ of a) (known : (a : A) → table (of a) ≡ Some a) (sample : A) where
  sign_table_some : (l : Look) (a : A) → through table (sign_seen l) ≡ Some a → l ≡ looks.Sign (of a)
  sign_table_some (looks.Sign s) a h = ap looks.Sign (found s a h)
  sign_table_some looks.Nothing a h = cc
  sign_table_some (looks.Word w) a h = cc
  sign_table_some looks.Name a h = cc
  sign_table_some looks.Number a h = cc
  sign_table_some looks.Other a h = cc

  pub sign_table_reads : Reads (λ k. through table (sign_seen (look k))) (λ a. sign_part (of a)) (λ k. is_some (through table (sign_seen (look k))) ≡ true)
  sign_table_reads = record {
    found = λ k a h. (look_sign k (of a) (sign_table_some (look k) a h), tt);
    known = λ a h. known a;
    starts = λ a h. ap is_some (known a);
    sample = sample;
    proper = tt;
  }

  -- what holds of a token that the table has
  pub from_sign_table : (P : Look → Type 0) (k : Option Kind) → is_some (through table (sign_seen (look k))) ≡ true → ((a : A) → P (looks.Sign (of a))) → P (look k)
  from_sign_table P k h p =
      let f = found_in (through table (sign_seen (look k))) h in
      subst P (sym (sign_table_some (look k) f.value f.is)) (p f.value)

module _ {A : Type 0} (table : Keyword → Option A) (of : A → Keyword) (found : (w : Keyword) (a : A) → table w ≡ Some a → w ≡ of a) (known : (a : A) → table (of a) ≡ Some a) (sample : A) where
  word_table_some : (l : Look) (a : A) → through table (word_seen l) ≡ Some a → l ≡ looks.Word (of a)
  word_table_some (looks.Word w) a h = ap looks.Word (found w a h)
  word_table_some looks.Nothing a h = cc
  word_table_some (looks.Sign s) a h = cc
  word_table_some looks.Name a h = cc
  word_table_some looks.Number a h = cc
  word_table_some looks.Other a h = cc

  word_table_known : (a : A) → through table (word_seen (look (Some (kinds.Word (keyword_text (of a)))))) ≡ Some a
  word_table_known a = ap (λ l. through table (word_seen l)) (look_of_text (of a)) ∙ known a

  pub word_table_reads : Reads (λ k. through table (word_seen (look k))) (λ a. word_part (of a)) (λ k. is_some (through table (word_seen (look k))) ≡ true)
  word_table_reads = record {
    found = λ k a h. (look_word k (of a) (word_table_some (look k) a h), tt);
    known = λ a h. word_table_known a;
    starts = λ a h. ap is_some (word_table_known a);
    sample = sample;
    proper = tt;
  }

  -- what holds of a token that the table has
  pub from_word_table : (P : Look → Type 0) (k : Option Kind) → is_some (through table (word_seen (look k))) ≡ true → ((a : A) → P (looks.Word (of a))) → P (look k)
  from_word_table P k h p =
      let f = found_in (through table (word_seen (look k))) h in
      subst P (sym (word_table_some (look k) f.value f.is)) (p f.value)
