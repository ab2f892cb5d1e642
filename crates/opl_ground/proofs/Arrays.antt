-- The tables of the arrays that a model declares are sound.
use Rattle.std.proofs.Common.{◌≡◌, ℕ, zero, suc, ◌+◌, ◌<◌, ◌≤◌, ℤ, pos, ◌+ℤ◌, true, nat_lt, ◌&&◌, length, List, [], ◌∷◌, ◌++◌, map, Option, None, Some, refl, sym, ap, subst, ◌∙◌, arith, length-append}
use Rattle.std.specs.Prelude.{◌-ℤ◌}
use Rattle.std.proofs.lemmas.Int.{ints}
use Rattle.std.specs.List.{All, flat_map, list_all}
use Rattle.std.proofs.lemmas.List.Elements.{All-cons, All-head, All-nil, All-tail}
use Rattle.opl_value.specs.declared.value.Dimension.{Dimension}
use Rattle.opl_value.specs.declared.value.Dimension.TheOpen.{Dimension-F, Value-F}
use Rattle.opl_value.specs.declared.value.Dimension.TheViews.{out-Dimension, out-Value}
use Rattle.opl_value.specs.declared.value.IndexSpace.{IndexSpace}
use Rattle.opl_value.specs.declared.value.Value.{Value}
use Rattle.opl_value.specs.declared.value.Value.TheVariants.{Int}
use Rattle.opl_value.specs.Laws.{AllDiffer}
use Rattle.opl_value.specs.Places.{AreDifferent, AreSorted, dimension_values, dimensions, elements, lists, numbers_between, numbers_from, or_zero, sorted_layer, value_at, values_layer}
use Rattle.opl_value.proofs.Places.{same_number}
use Rattle.opl_eval.specs.ArrayKeys.{IsKeyed, keyed_layer}
use Rattle.opl_eval.specs.Compare.{rank}
use Rattle.opl_eval.specs.Evaluation.{Item}
use Rattle.opl_bind.specs.Laws.{AreFilled, filled_layer}
use Rattle.opl_meaning.specs.declared.variable.DeclaredSet.{DeclaredSet}
use Rattle.opl_meaning.specs.declared.variable.Kind.{Kind}
use Rattle.opl_meaning.specs.declared.variable.VariableItem.{VariableItem}
use Rattle.opl_meaning.specs.Runs.{Text}
use Rattle.opl_draft.specs.Drafts.{Cells}
use Rattle.opl_draft.specs.Drafts.Leaves.{listed, numbered}
use Rattle.opl_draft.specs.Numbers.{Entry, arrays_of, cells_layer, data_cells, data_entries, variable_cells, variable_entries, with_cells}
use Rattle.opl_expr.specs.declared.tables.Cell.TheVariants as cell
use Rattle.opl_expr.specs.Sound.{IsSoundTable, is_there}
use Rattle.opl_form.specs.Laws.{declared_ends}
use Rattle.opl_form.specs.Parts.{number_cells, table_of}
use Rattle.opl_form.proofs.Indices.{keys-indices, length-map}
use Rattle.opl_ground.specs.Declared.{IsLaidOut, IsLaidOver}
use Rattle.opl_ground.specs.Laws.{ArraysAreSound}
use Rattle.opl_ground.proofs.Indices.{all-clear}

some-same : {A : Type 0} (a b : A) → Some a ≡ Some b → a ≡ b
some-same a b e = cc

-- ---- dimensions

length-numbers : (low : ℤ) (n : ℕ) → length (numbers_from low n) ≡ n
length-numbers low zero = refl
length-numbers low (suc n) = ap (λ m. suc m) (length-numbers (low +ℤ pos 1) n)

number-at : (low : ℤ) (n p : ℕ) → p < n → value_at (numbers_from low n) p ≡ Int (low +ℤ pos p)
number-at low zero p l = absurd (omega (arith, l))
number-at low (suc n) zero l = ap Int (omega (arith, ints))
number-at low (suc n) (suc p) l = number-at (low +ℤ pos 1) n p (omega (arith, l)) ∙ ap Int (omega (arith, ints))

numbers-differ : (low : ℤ) (n : ℕ) → AreDifferent (numbers_from low n)
numbers-differ low n j k jl kl e =
    let jn : j < n = omega (arith, jl, length-numbers low n) in
    let kn : k < n = omega (arith, kl, length-numbers low n) in
    let same : low +ℤ pos j ≡ low +ℤ pos k = same_number (low +ℤ pos j) (low +ℤ pos k) (sym (number-at low n j jn) ∙ e ∙ number-at low n k kn) in
    omega (arith, ints, same)

pub between-differ : (low high : ℤ) → AreDifferent (numbers_between low high)
between-differ low high = numbers-differ low (or_zero (high +ℤ pos 1 -ℤ low))

layer-differs : (d : Dimension-F Dimension Value IndexSpace) → sorted_layer d → AreDifferent (values_layer d)
layer-differs (Dimension-F.Whole low high) h = between-differ low high
layer-differs (Dimension-F.Listed values rising) h = h.different

dimensions-differ : (ds : List Dimension) → AreSorted ds → AllDiffer (map dimension_values ds)
dimensions-differ [] h = tt
dimensions-differ (d ∷ ds) h = (layer-differs (out-Dimension d) h.0, dimensions-differ ds h.1)

-- ---- tables

module _ (sets : List (ℤ × ℤ)) where
  abbrev Sound : Cells → Type 0
  Sound a = IsSoundTable sets (Some (table_of a))

  -- the cells of values
  ranks-there : (vs : List Value) → list_all (is_there (length sets)) (map (λ v. cell.Const (rank v)) vs) ≡ true
  ranks-there [] = refl
  ranks-there (v ∷ vs) = ranks-there vs

  listed-sound : (name : Text) (space : IndexSpace) (cells : List Value) → AreSorted (dimensions space) → length cells ≡ elements (lists space) → Sound (record { name = name; dims = lists space; leaves = listed cells })
  listed-sound name space cells sorted filled =
      (length-map (λ v. cell.Const (rank v)) cells ∙ filled ∙ sym (keys-indices (lists space)), all-clear (lists space) (dimensions-differ (dimensions space) sorted), ranks-there cells)

  layer-sound : (name : Text) (x : Value-F Dimension Value IndexSpace) → keyed_layer x → filled_layer x → (a : Cells) → cells_layer name x ≡ Some a → Sound a
  layer-sound name (Value-F.Array space cells) k f a e = subst Sound (some-same (record { name = name; dims = lists space; leaves = listed cells }) a e) (listed-sound name space cells k.0 f)
  layer-sound name (Value-F.Int n) k f a e = absurd (cc)
  layer-sound name (Value-F.Bool b) k f a e = absurd (cc)
  layer-sound name (Value-F.Enum d p) k f a e = absurd (cc)
  layer-sound name (Value-F.Record parts) k f a e = absurd (cc)
  layer-sound name (Value-F.Set vs) k f a e = absurd (cc)
  layer-sound name (Value-F.Range low high) k f a e = absurd (cc)
  layer-sound name (Value-F.Names names) k f a e = absurd (cc)

  -- the cells of variables
  length-variables : (kind : Kind) (x n : ℕ) → length (number_cells kind x n) ≡ n
  length-variables kind x zero = refl
  length-variables kind x (suc n) = ap (λ m. suc m) (length-variables kind (suc x) n)

  below-true : (x n : ℕ) → x < n → nat_lt x n ≡ true
  below-true x n l = grind (arith, l)

  variables-there : (kind : Kind) (x n : ℕ) → x + n ≤ length sets → list_all (is_there (length sets)) (number_cells kind x n) ≡ true
  variables-there kind x zero l = refl
  variables-there kind x (suc n) l = λ i. below-true x (length sets) (omega (arith, l)) i && variables-there kind (suc x) n (omega (arith, l)) i

  variable-sound : (v : VariableItem) (first : ℕ) (space : Option IndexSpace) → IsLaidOver space (length v.sets) → first + length v.sets ≤ length sets → (a : Cells) → variable_cells v first space ≡ Some a → Sound a
  variable-sound v first None h l a e = absurd (cc)
  variable-sound v first (Some space) h l a e =
      subst Sound (some-same (record { name = v.name; dims = lists space; leaves = numbered v.kind first (length v.sets) }) a e)
      (length-variables v.kind first (length v.sets) ∙ h.1 ∙ sym (keys-indices (lists space)), all-clear (lists space) h.0, variables-there v.kind first (length v.sets) l)

  -- ---- all arrays

  with-sound : (c : Option Cells) (others : List Cells) → ((a : Cells) → c ≡ Some a → Sound a) → All Sound others → All Sound (with_cells c others)
  with-sound None others h k = k
  with-sound (Some a) others h k = All-cons Sound a others (h a refl) k

  variables-sound : (number : ℕ) (items : List VariableItem) → All IsLaidOut items → number + length (flat_map (λ v. v.sets) items) ≤ length sets → All Sound (arrays_of (variable_entries number items))
  variables-sound number [] h l = All-nil Sound
  variables-sound number (v ∷ vs) h l =
      let sum : length (flat_map (λ v. v.sets) (v ∷ vs)) ≡ length v.sets + length (flat_map (λ v. v.sets) vs) = length-append v.sets (flat_map (λ v. v.sets) vs) in
      with-sound (variable_cells v number v.space) (arrays_of (variable_entries (number + length v.sets) vs))
      (variable-sound v number v.space (All-head IsLaidOut v vs h) (omega (arith, l, sum)))
      (variables-sound (number + length v.sets) vs (All-tail IsLaidOut v vs h) (omega (arith, l, sum)))

  data-sound : (items : List Item) (others : List Entry) → All (λ i. IsKeyed i.value) items → AreFilled items → All Sound (arrays_of others) → All Sound (arrays_of (data_entries items ++ others))
  data-sound [] others k f h = h
  data-sound (i ∷ items) others k f h =
      with-sound (data_cells i.name i.value) (arrays_of (data_entries items ++ others)) (layer-sound i.name (out-Value i.value) (All-head (λ i. IsKeyed i.value) i items k) f.0)
      (data-sound items others (All-tail (λ i. IsKeyed i.value) i items k) f.1 h)

nothing-before : (n : ℕ) → 0 + n ≤ n
nothing-before n = omega arith

pub arrays_are_sound : ArraysAreSound
arrays_are_sound env items keyed filled laid =
    let all : List DeclaredSet = flat_map (λ v. v.sets) items in
    let e : length (declared_ends items) ≡ length all = length-map (λ set. (set.low, set.high)) all in
    data-sound (declared_ends items) env.items (variable_entries 0 items) keyed filled
    (variables-sound (declared_ends items) 0 items laid (subst (λ n. 0 + length all ≤ n) (sym e) (nothing-before (length all))))
