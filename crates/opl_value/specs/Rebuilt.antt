-- A value is known from its nested list.
use Rattle.std.proofs.Common.{◌≡◌, ℕ, ℤ, pos, Bool, true, false, cond, nat_eq, nat_lt, List, [], ◌∷◌, map, refl, sym, ap, ◌∙◌, subst}
use Rattle.opl_value.specs.declared.value.Value.{Value}
use Rattle.opl_value.specs.declared.value.Value.TheVariants as values
use Rattle.opl_value.specs.declared.value.IndexSpace.{IndexSpace}
use Rattle.opl_value.specs.declared.value.Dimension.{Dimension}
use Rattle.opl_value.specs.declared.value.Dimension.TheVariants as dimensions
use Rattle.opl_value.specs.declared.value.Dimension.TheOpen.{Value-F, IndexSpace-F, Dimension-F}
use Rattle.opl_value.specs.declared.value.Dimension.TheViews.{roll-Value, roll-IndexSpace, roll-Dimension}
use Rattle.opl_value.specs.declared.value.Dimension.TheFolds.{fold-roll-Value, fold-roll-IndexSpace, fold-roll-Dimension, map-Value, map-IndexSpace, map-Dimension, ind-Value}
use Rattle.opl_value.specs.Order.{Tree, number, empty, more, row, naturals, value_tree, space_tree, dimension_tree, value_layer, space_layer, dimension_layer}

-- ---- from a nested list to what it is that of

abbrev integer : Tree → ℤ
integer (number n) = n
integer t = pos 0

abbrev size : Tree → ℕ
size (number (pos n)) = n
size t = 0

abbrev sizes : Tree → List ℕ
sizes (more t ts) = size t ∷ sizes ts
sizes t = []

abbrev all_sizes : Tree → List (List ℕ)
all_sizes (more t ts) = sizes t ∷ all_sizes ts
all_sizes t = []

-- a value of one part, and one of two, by the number of the variant
abbrev one_part : ℕ → Tree → List Value → Value
one_part variant t inner =
    cond (nat_eq variant 0) (values.Int (integer t)) (cond (nat_eq variant 1) (values.Bool (nat_lt 0 (size t)))
    (cond (nat_eq variant 3) (values.Record inner) (cond (nat_eq variant 4) (values.Set inner) (values.Names (all_sizes t)))))

abbrev two_parts : ℕ → Tree → Tree → List Dimension → List Value → Value
two_parts variant s t dims inner =
    cond (nat_eq variant 2) (values.Enum (size s) (size t)) (cond (nat_eq variant 5) (values.Range (integer s) (integer t))
    (values.Array (roll-IndexSpace (record { dims = dims })) inner))

abbrev dimension_parts : ℕ → Tree → Tree → List Value → Dimension
dimension_parts variant s t inner = cond (nat_eq variant 0) (dimensions.Whole (integer s) (integer t)) (dimensions.Listed inner (sizes t))

abbrev mutual
  pub value_of : Tree → Value
  value_of (more k (more t empty)) = one_part (size k) t (values_of t)
  value_of (more k (more s (more t ts))) = two_parts (size k) s t (dimensions_of s) (values_of t)
  value_of t = values.Int (pos 0)

  values_of : Tree → List Value
  values_of (more t ts) = value_of t ∷ values_of ts
  values_of t = []

  dimension_of : Tree → Dimension
  dimension_of (more k (more s (more t ts))) = dimension_parts (size k) s t (values_of s)
  dimension_of t = dimensions.Whole (pos 0) (pos 0)

  dimensions_of : Tree → List Dimension
  dimensions_of (more t ts) = dimension_of t ∷ dimensions_of ts
  dimensions_of t = []

-- ---- and back

sizes_back : (ns : List ℕ) → sizes (naturals ns) ≡ ns
sizes_back [] = refl
sizes_back (n ∷ ns) = ap (λ xs. n ∷ xs) (sizes_back ns)

all_sizes_back : (names : List (List ℕ)) → all_sizes (row (map naturals names)) ≡ names
all_sizes_back [] = refl
all_sizes_back (n ∷ ns) = λ i. sizes_back n i ∷ all_sizes_back ns i

truth_back : (b : Bool) → nat_lt 0 (cond b 1 0) ≡ b
truth_back true = refl
truth_back false = refl

abbrev IsValueBack : Value → Type 0
IsValueBack v = value_of (value_tree v) ≡ v

abbrev IsDimensionBack : Dimension → Type 0
IsDimensionBack d = dimension_of (dimension_tree d) ≡ d

abbrev IsSpaceBack : IndexSpace → Type 0
IsSpaceBack s = roll-IndexSpace (record { dims = dimensions_of (space_tree s) }) ≡ s

abbrev InValue : Type 0
InValue = (v : Value) × IsValueBack v

abbrev InDimension : Type 0
InDimension = (d : Dimension) × IsDimensionBack d

abbrev InSpace : Type 0
InSpace = (s : IndexSpace) × IsSpaceBack s

abbrev value_inner : Value-F InDimension InValue InSpace → Value-F Dimension Value IndexSpace
value_inner = map-Value InDimension InValue InSpace Dimension Value IndexSpace (λ e. e.0) (λ e. e.0) (λ e. e.0)

abbrev dimension_inner : Dimension-F InDimension InValue InSpace → Dimension-F Dimension Value IndexSpace
dimension_inner = map-Dimension InDimension InValue InSpace Dimension Value IndexSpace (λ e. e.0) (λ e. e.0) (λ e. e.0)

abbrev space_inner : IndexSpace-F InDimension InValue InSpace → IndexSpace-F Dimension Value IndexSpace
space_inner = map-IndexSpace InDimension InValue InSpace Dimension Value IndexSpace (λ e. e.0) (λ e. e.0) (λ e. e.0)

abbrev value_here : Value-F Dimension Value IndexSpace → Tree
value_here x = value_layer (map-Value Dimension Value IndexSpace Tree Tree Tree dimension_tree value_tree space_tree x)

abbrev dimension_here : Dimension-F Dimension Value IndexSpace → Tree
dimension_here x = dimension_layer (map-Dimension Dimension Value IndexSpace Tree Tree Tree dimension_tree value_tree space_tree x)

abbrev space_here : IndexSpace-F Dimension Value IndexSpace → Tree
space_here x = space_layer (map-IndexSpace Dimension Value IndexSpace Tree Tree Tree dimension_tree value_tree space_tree x)

value-roll : (x : Value-F Dimension Value IndexSpace) → value_tree (roll-Value x) ≡ value_here x
unfolding value_tree dimension_tree space_tree
value-roll x = fold-roll-Value Tree Tree Tree dimension_layer value_layer space_layer x

dimension-roll : (x : Dimension-F Dimension Value IndexSpace) → dimension_tree (roll-Dimension x) ≡ dimension_here x
unfolding value_tree dimension_tree space_tree
dimension-roll x = fold-roll-Dimension Tree Tree Tree dimension_layer value_layer space_layer x

space-roll : (x : IndexSpace-F Dimension Value IndexSpace) → space_tree (roll-IndexSpace x) ≡ space_here x
unfolding value_tree dimension_tree space_tree
space-roll x = fold-roll-IndexSpace Tree Tree Tree dimension_layer value_layer space_layer x

values_back : (vs : List InValue) → values_of (row (map value_tree (map (λ e. e.0) vs))) ≡ map (λ e. e.0) vs
values_back [] = refl
values_back (v ∷ vs) = λ i. v.1 i ∷ values_back vs i

dimensions_back : (ds : List InDimension) → dimensions_of (row (map dimension_tree (map (λ e. e.0) ds))) ≡ map (λ e. e.0) ds
dimensions_back [] = refl
dimensions_back (d ∷ ds) = λ i. d.1 i ∷ dimensions_back ds i

value_step : (y : Value-F InDimension InValue InSpace) → value_of (value_here (value_inner y)) ≡ roll-Value (value_inner y)
value_step (Value-F.Int n) = sym (values.rolls-Int n)
value_step (Value-F.Bool b) = ap values.Bool (truth_back b) ∙ sym (values.rolls-Bool b)
value_step (Value-F.Enum d p) = sym (values.rolls-Enum d p)
value_step (Value-F.Record vs) = ap values.Record (values_back vs) ∙ sym (values.rolls-Record (map (λ e. e.0) vs))
value_step (Value-F.Set vs) = ap values.Set (values_back vs) ∙ sym (values.rolls-Set (map (λ e. e.0) vs))
value_step (Value-F.Range l h) = sym (values.rolls-Range l h)
value_step (Value-F.Names names) = ap values.Names (all_sizes_back names) ∙ sym (values.rolls-Names names)
value_step (Value-F.Array s vs) = (λ i. values.Array (s.1 i) (values_back vs i)) ∙ sym (values.rolls-Array s.0 (map (λ e. e.0) vs))

dimension_step : (y : Dimension-F InDimension InValue InSpace) → dimension_of (dimension_here (dimension_inner y)) ≡ roll-Dimension (dimension_inner y)
dimension_step (Dimension-F.Whole l h) = sym (dimensions.rolls-Whole l h)
dimension_step (Dimension-F.Listed vs ns) = (λ i. dimensions.Listed (values_back vs i) (sizes_back ns i)) ∙ sym (dimensions.rolls-Listed (map (λ e. e.0) vs) ns)

space_step : (y : IndexSpace-F InDimension InValue InSpace) → roll-IndexSpace (record { dims = dimensions_of (space_here (space_inner y)) }) ≡ roll-IndexSpace (space_inner y)
space_step y = λ i. roll-IndexSpace (record { dims = dimensions_back y.dims i })

-- each value is that of its nested list
pub value_back : (v : Value) → value_of (value_tree v) ≡ v
value_back = ind-Value IsDimensionBack IsValueBack IsSpaceBack
    (λ x y is. ap dimension_of (dimension-roll x) ∙ subst (λ z. dimension_of (dimension_here z) ≡ roll-Dimension z) is (dimension_step y))
    (λ x y is. ap value_of (value-roll x) ∙ subst (λ z. value_of (value_here z) ≡ roll-Value z) is (value_step y))
    (λ x y is. ap (λ t. roll-IndexSpace (record { dims = dimensions_of t })) (space-roll x)
    ∙ subst (λ z. roll-IndexSpace (record { dims = dimensions_of (space_here z) }) ≡ roll-IndexSpace z) is (space_step y))
