-- Tests on what a token is.
use Rattle.std.specs.Prelude.{ℕ, Bool, false, List}
use Rattle.std.specs.Str.{bytes_eq}
use denote.Enum.Bare.{sameb}
use Rattle.opl_token.specs.contracts.sign.Sign.{the_type}
use Rattle.opl_token.specs.declared.sign.Sign.{Sign}
use Rattle.opl_token.specs.declared.token.Kind.{Kind}
use Rattle.opl_token.specs.declared.token.Kind.TheVariants as kind

-- whether two signs are one
abbrev pub same_sign : Sign → Sign → Bool
same_sign = sameb the_type

-- whether a token is this sign
abbrev pub is_sign : Kind → Sign → Bool
is_sign (kind.Sign found) sign = same_sign found sign
is_sign (kind.Word name) sign = false
is_sign (kind.Number n) sign = false
is_sign (kind.Text inner) sign = false

-- whether a token is this word
abbrev pub is_word : Kind → List ℕ → Bool
is_word (kind.Word name) word = bytes_eq name word
is_word (kind.Number n) word = false
is_word (kind.Text inner) word = false
is_word (kind.Sign found) word = false
