-- The tests on kinds decide equality.
use Rattle.std.proofs.Common.{◌≡◌, ◌≢◌, ℕ, true, false, List, refl, ap, ◌∙◌}
use Rattle.std.proofs.lemmas.Slice.Eq.{bytes_eq-Decides}
use denote.Enum.Bare as bare
use Rattle.opl_token.specs.contracts.sign.Sign.{the_type}
use Rattle.opl_token.specs.declared.sign.Sign.{Sign}
use Rattle.opl_token.specs.declared.token.Kind.{Kind}
use Rattle.opl_token.specs.declared.token.Kind.TheVariants as kind
use Rattle.opl_token.specs.Kinds.{same_sign, is_sign, is_word}

pub same_true : (s t : Sign) → same_sign s t ≡ true → s ≡ t
same_true s t h = bare.same_true the_type tt s t h

pub true_same : (s t : Sign) → s ≡ t → same_sign s t ≡ true
true_same s t e = bare.true_same the_type s t e

pub same_false : (s t : Sign) → same_sign s t ≡ false → s ≢ t
same_false s t h = bare.same_false the_type s t h

pub false_same : (s t : Sign) → s ≢ t → same_sign s t ≡ false
false_same s t differ = bare.false_same the_type tt s t differ

pub is_sign_true : (k : Kind) (s : Sign) → is_sign k s ≡ true → k ≡ kind.Sign s
is_sign_true (kind.Sign found) s h = ap kind.Sign (same_true found s h)
is_sign_true (kind.Word name) s h = cc
is_sign_true (kind.Number n) s h = cc
is_sign_true (kind.Text inner) s h = cc

pub true_is_sign : (k : Kind) (s : Sign) → k ≡ kind.Sign s → is_sign k s ≡ true
true_is_sign k s e = ap (λ x. is_sign x s) e ∙ true_same s s refl

pub is_word_true : (k : Kind) (word : List ℕ) → is_word k word ≡ true → k ≡ kind.Word word
is_word_true (kind.Word name) word h = ap kind.Word ((bytes_eq-Decides name word).0 h)
is_word_true (kind.Number n) word h = cc
is_word_true (kind.Text inner) word h = cc
is_word_true (kind.Sign found) word h = cc

pub true_is_word : (k : Kind) (word : List ℕ) → k ≡ kind.Word word → is_word k word ≡ true
true_is_word k word e = ap (λ x. is_word x word) e ∙ (bytes_eq-Decides word word).1 refl
