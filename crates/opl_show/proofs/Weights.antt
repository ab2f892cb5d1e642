-- How much there is to write in a value: what a recursion over values and lists of them takes less of.
use Rattle.std.proofs.Common.{◌≡◌, ℕ, ◌+◌, ◌<◌, ◌≤◌, ℤ, List, [], ◌∷◌, get_or, length, map, zero, suc, refl, ap, ◌∙◌, sym, arith}
use Rattle.opl_value.specs.declared.value.Value.{Value}
use Rattle.opl_value.specs.declared.value.Value.TheVariants as values
use Rattle.opl_value.specs.declared.value.IndexSpace.{IndexSpace}
use Rattle.opl_value.specs.declared.value.Dimension.{Dimension}
use Rattle.opl_value.specs.declared.value.Dimension.TheVariants as dims
use Rattle.opl_value.specs.declared.value.Dimension.TheOpen.{Dimension-F, IndexSpace-F, Value-F}
use Rattle.opl_value.specs.declared.value.Dimension.TheViews.{roll-out-IndexSpace}
use Rattle.opl_value.specs.declared.value.Dimension.TheFolds.{fold-Dimension, fold-IndexSpace, fold-Value, fold-roll-Value, fold-roll-IndexSpace, fold-roll-Dimension}
use Rattle.opl_value.specs.Places.{dimensions}

-- the sum of numbers
abbrev pub total : List ℕ → ℕ
total [] = 0
total (n ∷ ns) = n + total ns

abbrev pub dimension_layer : Dimension-F ℕ ℕ ℕ → ℕ
dimension_layer (Dimension-F.Whole low high) = 20
dimension_layer (Dimension-F.Listed listed rising) = total listed + 20

abbrev pub space_layer : IndexSpace-F ℕ ℕ ℕ → ℕ
space_layer space = total space.dims

abbrev pub value_layer : Value-F ℕ ℕ ℕ → ℕ
value_layer (Value-F.Int n) = 20
value_layer (Value-F.Bool b) = 20
value_layer (Value-F.Enum declaration position) = 20
value_layer (Value-F.Record parts) = total parts + 20
value_layer (Value-F.Set elements) = total elements + 20
value_layer (Value-F.Range low high) = 20
value_layer (Value-F.Names names) = 20
value_layer (Value-F.Array space cells) = space + total cells + 20

unfoldable pub weight : Value → ℕ
weight = fold-Value ℕ ℕ ℕ dimension_layer value_layer space_layer

unfoldable pub dimension_weight : Dimension → ℕ
dimension_weight = fold-Dimension ℕ ℕ ℕ dimension_layer value_layer space_layer

space_weight : IndexSpace → ℕ
space_weight = fold-IndexSpace ℕ ℕ ℕ dimension_layer value_layer space_layer

pub weight-Record : (parts : List Value) → weight (values.Record parts) ≡ total (map weight parts) + 20
unfolding weight
weight-Record parts = ap weight (sym (values.rolls-Record parts)) ∙ rw fold-roll-Value refl

pub weight-Set : (elements : List Value) → weight (values.Set elements) ≡ total (map weight elements) + 20
unfolding weight
weight-Set elements = ap weight (sym (values.rolls-Set elements)) ∙ rw fold-roll-Value refl

space-dims : (space : IndexSpace) → space_weight space ≡ total (map dimension_weight (dimensions space))
unfolding space_weight dimension_weight
space-dims space = ap space_weight (sym (roll-out-IndexSpace space)) ∙ rw fold-roll-IndexSpace refl

pub weight-Array : (space : IndexSpace) (cells : List Value) → weight (values.Array space cells) ≡ total (map dimension_weight (dimensions space)) + total (map weight cells) + 20
unfolding weight space_weight
weight-Array space cells = ap weight (sym (values.rolls-Array space cells)) ∙ rw fold-roll-Value (ap (λ n. n + total (map weight cells) + 20) (space-dims space))

pub weight-Whole : (low high : ℤ) → dimension_weight (dims.Whole low high) ≡ 20
unfolding dimension_weight
weight-Whole low high = ap dimension_weight (sym (dims.rolls-Whole low high)) ∙ rw fold-roll-Dimension refl

pub weight-Listed : (listed : List Value) (rising : List ℕ) → dimension_weight (dims.Listed listed rising) ≡ total (map weight listed) + 20
unfolding dimension_weight weight
weight-Listed listed rising = ap dimension_weight (sym (dims.rolls-Listed listed rising)) ∙ rw fold-roll-Dimension refl

pub ruleset weights = (weight-Record, weight-Set, weight-Array, weight-Whole, weight-Listed)

-- a value of a list weighs no more than all of them
pub weight-item : (vs : List Value) (i : ℕ) (d : Value) → i < length vs → weight (get_or vs i d) ≤ total (map weight vs)
weight-item [] i d h = absurd (omega arith)
weight-item (v ∷ vs) zero d h = omega arith
weight-item (v ∷ vs) (suc i) d h = let l = weight-item vs i d (omega arith) in omega arith

pub weight-dimension : (ds : List Dimension) (i : ℕ) (d : Dimension) → i < length ds → dimension_weight (get_or ds i d) ≤ total (map dimension_weight ds)
weight-dimension [] i d h = absurd (omega arith)
weight-dimension (e ∷ ds) zero d h = omega arith
weight-dimension (e ∷ ds) (suc i) d h = let l = weight-dimension ds i d (omega arith) in omega arith
