use Rattle.std.proofs.Common.{◌≡◌, ℕ, ◌+◌, ◌<◌, ◌≤◌, List, [], ◌++◌, OnOk, codes, get_or, length, map, sym, ap, subst, ◌∙◌, arith, rules}
use Rattle.std.specs.Prelude.{FitsSigned}
use mir.Syntax.{w128}
use Rattle.std.proofs.lemmas.Int.{to_z-of_z}
use Rattle.std.proofs.lemmas.List.{append-nil}
use Rattle.opl_value.specs.declared.value.Dimension.{Dimension}
use Rattle.opl_value.specs.declared.value.Value.{Value}
use Rattle.opl_value.specs.Places.{numbers_between}
use Rattle.opl_show.specs.Courses.{all_brackets}
use Rattle.opl_show.specs.Parts.{texts}
use Rattle.opl_show.specs.Readings.{names_of, values_of}
use Rattle.opl_show.specs.Texts.{Enumerations, brackets, nested, value_text}
use Rattle.opl_show.proofs.Texts.{brackets-Whole, text-Range, text-Names}
use Rattle.opl_show.proofs.Weights.{dimension_weight, weight, total, weight-dimension, weight-item}
use Rattle.opl_show.proofs.value.+texts.Goals as goal

-- a value that has no text adds nothing
adds_nothing : (e : Enumerations) (s : List ℕ) (v : Value) → value_text e v ≡ [] → s ≡ s ++ value_text e v
adds_nothing e s v h = sym (ap (λ t. s ++ t) h ∙ append-nil s)

pub push_value-returns-in-Range : goal.push_value-returns-in-Range
push_value-returns-in-Range t c =
    let e = names_of c.args.enumerations.now in
    adds_nothing e c.args.text.now.items c.args.value.now (ap (value_text e) c.in-Range.is ∙ text-Range e _ _)

pub push_value-returns-in-Names : goal.push_value-returns-in-Names
push_value-returns-in-Names t c =
    let e = names_of c.args.enumerations.now in
    adds_nothing e c.args.text.now.items c.args.value.now (ap (value_text e) c.in-Names.is ∙ text-Names e _)

-- an element weighs no more than all of them
item_weighs : (xs : List Value) (i : ℕ) (x : Value) → i < length xs → x ≡ get_or xs i x → weight x ≤ total (map weight xs)
item_weighs xs i x h is = subst (λ y. weight y ≤ total (map weight xs)) (sym is) (weight-item xs i x h)

pub push_values-push_value-requires-in-loop-value : goal.push_values-push_value-requires-in-loop-value
push_values-push_value-requires-in-loop-value t c =
    let h : c.loop-value.value-index < length c.in-Some.others.now = omega arith in
    let w = item_weighs c.in-Some.others.now c.loop-value.value-index c.value-item.result h c.value-item.is in
    let k : total (map weight c.args.values.now) ≡ weight c.in-Some.first.now + total (map weight c.in-Some.others.now) = ap (λ vs. total (map weight vs)) c.in-Some.ensures.cases.0 in
    first_of (search (rules, w, k), omega (arith, w, k))

-- a dimension weighs no more than all of them
dimension_weighs : (xs : List Dimension) (i : ℕ) (x : Dimension) → i < length xs → x ≡ get_or xs i x → dimension_weight x ≤ total (map dimension_weight xs)
dimension_weighs xs i x h is = subst (λ y. dimension_weight y ≤ total (map dimension_weight xs)) (sym is) (weight-dimension xs i x h)

pub layers_of-layer_of-requires : goal.layers_of-layer_of-requires
layers_of-layer_of-requires t c =
    let h : c.loop-dimension.dimension-index < length c.args.dims.now = omega arith in
    let w = dimension_weighs c.args.dims.now c.loop-dimension.dimension-index c.dimension-item.result h c.dimension-item.is in
    first_of (search (rules, w), omega (arith, w))

pub key_texts-key_text-requires : goal.key_texts-key_text-requires
key_texts-key_text-requires t c =
    let h : c.loop-key.key-index < length c.args.keys.now = omega arith in
    let w = item_weighs c.args.keys.now c.loop-key.key-index c.key-item.result h c.key-item.is in
    first_of (search (rules, w), omega (arith, w))

pub push_nested-loop-course-init : goal.push_nested-loop-course-init
push_nested-loop-course-init t c = record {
  text = ap (λ s. c.args.text.now.items ++ s) (sym (c.new-course.ensures (texts (names_of c.args.enumerations.now) (values_of c.args.cells))));
  weighs = omega arith;
}

pub push_array-returns : goal.push_array-returns
push_array-returns t c =
    subst (λ ds. OnOk c.push_nested.result (c.push_nested.new.text.items ≡ c.args.text.now.items ++ nested ds (texts (names_of c.args.enumerations.now) (values_of c.args.cells))))
    (ap all_brackets c.as_slice.ensures.value ∙ c.in_ok-layers.ensures) c.push_nested.ensures

pub layer_of-returns-in-Whole : goal.layer_of-returns-in-Whole
layer_of-returns-in-Whole t c =
    let e = names_of c.args.enumerations.now in
    let low : FitsSigned w128 c.in-Whole.low = search rules in
    let high : FitsSigned w128 c.in-Whole.high = search rules in
    (λ i. record { opening = codes "["; closing = codes "]"; prefixes = map (λ v. []) (numbers_between (to_z-of_z w128 c.in-Whole.low low i) (to_z-of_z w128 c.in-Whole.high high i)) })
    ∙ sym (ap (brackets e) c.in-Whole.is ∙ brackets-Whole e c.in-Whole.low c.in-Whole.high)
