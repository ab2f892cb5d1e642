-- The text of each form of values, and how each form of dimensions is written.
use Rattle.std.proofs.Common.{◌≡◌, ℕ, ℤ, Bool, List, [], ◌++◌, cond, codes, map, refl, ap, ◌∙◌, sym}
use Rattle.std.specs.Fmt.{signed_decimal}
use Rattle.opl_value.specs.declared.value.Value.{Value}
use Rattle.opl_value.specs.declared.value.Value.TheVariants as values
use Rattle.opl_value.specs.declared.value.IndexSpace.{IndexSpace}
use Rattle.opl_value.specs.declared.value.Dimension.TheVariants as dims
use Rattle.opl_value.specs.declared.value.Dimension.TheViews.{roll-out-IndexSpace}
use Rattle.opl_value.specs.declared.value.Dimension.TheFolds.{fold-IndexSpace, fold-roll-Value, fold-roll-IndexSpace, fold-roll-Dimension}
use Rattle.opl_value.specs.Places.{dimensions, numbers_between}
use Rattle.opl_show.specs.Texts.{Enumerations, Brackets, joined, nested, name_text, dimension_layer, value_layer, space_layer, value_text, brackets}

module _ (e : Enumerations) where
  pub text-Int : (n : ℤ) → value_text e (values.Int n) ≡ signed_decimal n
  unfolding value_text
  text-Int n = ap (value_text e) (sym (values.rolls-Int n)) ∙ rw fold-roll-Value refl

  pub text-Bool : (b : Bool) → value_text e (values.Bool b) ≡ cond b (codes "1") (codes "0")
  unfolding value_text
  text-Bool b = ap (value_text e) (sym (values.rolls-Bool b)) ∙ rw fold-roll-Value refl

  pub text-Enum : (d p : ℕ) → value_text e (values.Enum d p) ≡ name_text e d p
  unfolding value_text
  text-Enum d p = ap (value_text e) (sym (values.rolls-Enum d p)) ∙ rw fold-roll-Value refl

  pub text-Record : (parts : List Value) → value_text e (values.Record parts) ≡ codes "<" ++ joined (map (value_text e) parts) ++ codes ">"
  unfolding value_text
  text-Record parts = ap (value_text e) (sym (values.rolls-Record parts)) ∙ rw fold-roll-Value refl

  pub text-Set : (elements : List Value) → value_text e (values.Set elements) ≡ codes "{" ++ joined (map (value_text e) elements) ++ codes "}"
  unfolding value_text
  text-Set elements = ap (value_text e) (sym (values.rolls-Set elements)) ∙ rw fold-roll-Value refl

  pub text-Range : (low high : ℤ) → value_text e (values.Range low high) ≡ []
  unfolding value_text
  text-Range low high = ap (value_text e) (sym (values.rolls-Range low high)) ∙ rw fold-roll-Value refl

  pub text-Names : (names : List (List ℕ)) → value_text e (values.Names names) ≡ []
  unfolding value_text
  text-Names names = ap (value_text e) (sym (values.rolls-Names names)) ∙ rw fold-roll-Value refl

  space_brackets : IndexSpace → List Brackets
  space_brackets = fold-IndexSpace Brackets (List ℕ) (List Brackets) dimension_layer (value_layer e) space_layer

  space-dims : (space : IndexSpace) → space_brackets space ≡ map (brackets e) (dimensions space)
  unfolding space_brackets brackets
  space-dims space = ap space_brackets (sym (roll-out-IndexSpace space)) ∙ rw fold-roll-IndexSpace refl

  pub text-Array : (space : IndexSpace) (cells : List Value) → value_text e (values.Array space cells) ≡ nested (map (brackets e) (dimensions space)) (map (value_text e) cells)
  unfolding value_text space_brackets
  text-Array space cells = ap (value_text e) (sym (values.rolls-Array space cells)) ∙ rw fold-roll-Value (ap (λ bs. nested bs (map (value_text e) cells)) (space-dims space))

  pub brackets-Whole : (low high : ℤ) → brackets e (dims.Whole low high) ≡ record { opening = codes "["; closing = codes "]"; prefixes = map (λ v. []) (numbers_between low high) }
  unfolding brackets
  brackets-Whole low high = ap (brackets e) (sym (dims.rolls-Whole low high)) ∙ rw fold-roll-Dimension refl

  pub brackets-Listed : (listed : List Value) (rising : List ℕ) → brackets e (dims.Listed listed rising) ≡ record { opening = codes "#["; closing = codes "]#"; prefixes = map (λ t. t ++ codes ":") (map (value_text e) listed) }
  unfolding brackets value_text
  brackets-Listed listed rising = ap (brackets e) (sym (dims.rolls-Listed listed rising)) ∙ rw fold-roll-Dimension refl

-- each of these
pub ruleset texts = (text-Int, text-Bool, text-Enum, text-Record, text-Set, text-Range, text-Names, text-Array, brackets-Whole, brackets-Listed)
