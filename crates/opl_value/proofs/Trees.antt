-- The nested list of each value.
use Rattle.std.proofs.Common.{◌≡◌, ℕ, ℤ, pos, Bool, true, false, cond, arith, List, [], ◌∷◌, map, refl, ap, ◌∙◌, sym}
use Rattle.std.specs.Ordering.{ordering_then, int_cmp, nat_cmp, bool_cmp}
use Rattle.std.specs.declared.cmp.Ordering.{Ordering}
use Rattle.std.specs.declared.cmp.Ordering.TheVariants.{Less, Equal, Greater}
use Rattle.std.proofs.lemmas.Bool.Decides.{nat_tests}
use Rattle.std.specs.Cmp.Lexicographic.{slice_cmp}
use Rattle.opl_value.specs.declared.value.Value.{Value}
use Rattle.opl_value.specs.declared.value.Value.TheVariants as values
use Rattle.opl_value.specs.declared.value.IndexSpace.{IndexSpace}
use Rattle.opl_value.specs.declared.value.Dimension.{Dimension}
use Rattle.opl_value.specs.declared.value.Dimension.TheVariants as dimensions
use Rattle.opl_value.specs.declared.value.Dimension.TheViews.{out-IndexSpace, roll-out-IndexSpace}
use Rattle.opl_value.specs.declared.value.Dimension.TheFolds.{fold-roll-Value, fold-roll-IndexSpace, fold-roll-Dimension}
use Rattle.opl_value.specs.Order.{Tree, number, tree_cmp, row, natural, naturals, value_tree, space_tree, dimension_tree, value_cmp, dimension_cmp}

pub tree-Int : (n : ℤ) → value_tree (values.Int n) ≡ row (natural 0 ∷ number n ∷ [])
unfolding value_tree
tree-Int n = ap value_tree (sym (values.rolls-Int n)) ∙ rw fold-roll-Value refl

pub tree-Bool : (b : Bool) → value_tree (values.Bool b) ≡ row (natural 1 ∷ natural (cond b 1 0) ∷ [])
unfolding value_tree
tree-Bool b = ap value_tree (sym (values.rolls-Bool b)) ∙ rw fold-roll-Value refl

pub tree-Enum : (d p : ℕ) → value_tree (values.Enum d p) ≡ row (natural 2 ∷ natural d ∷ natural p ∷ [])
unfolding value_tree
tree-Enum d p = ap value_tree (sym (values.rolls-Enum d p)) ∙ rw fold-roll-Value refl

pub tree-Record : (parts : List Value) → value_tree (values.Record parts) ≡ row (natural 3 ∷ row (map value_tree parts) ∷ [])
unfolding value_tree
tree-Record parts = ap value_tree (sym (values.rolls-Record parts)) ∙ rw fold-roll-Value refl

pub tree-Set : (elements : List Value) → value_tree (values.Set elements) ≡ row (natural 4 ∷ row (map value_tree elements) ∷ [])
unfolding value_tree
tree-Set elements = ap value_tree (sym (values.rolls-Set elements)) ∙ rw fold-roll-Value refl

pub tree-Range : (low high : ℤ) → value_tree (values.Range low high) ≡ row (natural 5 ∷ number low ∷ number high ∷ [])
unfolding value_tree
tree-Range low high = ap value_tree (sym (values.rolls-Range low high)) ∙ rw fold-roll-Value refl

pub tree-Names : (names : List (List ℕ)) → value_tree (values.Names names) ≡ row (natural 6 ∷ row (map naturals names) ∷ [])
unfolding value_tree
tree-Names names = ap value_tree (sym (values.rolls-Names names)) ∙ rw fold-roll-Value refl

pub tree-Array : (space : IndexSpace) (elements : List Value) → value_tree (values.Array space elements) ≡ row (natural 7 ∷ space_tree space ∷ row (map value_tree elements) ∷ [])
unfolding value_tree space_tree
tree-Array space elements = ap value_tree (sym (values.rolls-Array space elements)) ∙ rw fold-roll-Value refl

pub tree-Whole : (low high : ℤ) → dimension_tree (dimensions.Whole low high) ≡ row (natural 0 ∷ number low ∷ number high ∷ [])
unfolding dimension_tree
tree-Whole low high = ap dimension_tree (sym (dimensions.rolls-Whole low high)) ∙ rw fold-roll-Dimension refl

pub tree-Listed : (listed : List Value) (rising : List ℕ) → dimension_tree (dimensions.Listed listed rising) ≡ row (natural 1 ∷ row (map value_tree listed) ∷ naturals rising ∷ [])
unfolding dimension_tree value_tree
tree-Listed listed rising = ap dimension_tree (sym (dimensions.rolls-Listed listed rising)) ∙ rw fold-roll-Dimension refl

pub tree-IndexSpace : (space : IndexSpace) → space_tree space ≡ row (map dimension_tree (out-IndexSpace space).dims)
unfolding space_tree dimension_tree
tree-IndexSpace space = ap space_tree (sym (roll-out-IndexSpace space)) ∙ rw fold-roll-IndexSpace refl

-- lists are ordered as std orders slices
pub row_cmp : {X : Type 0} (f : X → Tree) (xs ys : List X) → tree_cmp (row (map f xs)) (row (map f ys)) ≡ slice_cmp (λ x y. tree_cmp (f x) (f y)) xs ys
row_cmp f [] [] = refl
row_cmp f [] (y ∷ ys) = refl
row_cmp f (x ∷ xs) [] = refl
row_cmp f (x ∷ xs) (y ∷ ys) = ap (ordering_then (tree_cmp (f x) (f y))) (row_cmp f xs ys)

-- numbers that are not negative are ordered as std orders them
pub natural_cmp : (m n : ℕ) → int_cmp (pos m) (pos n) ≡ nat_cmp m n
natural_cmp m n = grind (arith, nat_tests)

pub naturals_cmp : (xs ys : List ℕ) → tree_cmp (naturals xs) (naturals ys) ≡ slice_cmp nat_cmp xs ys
naturals_cmp [] [] = refl
naturals_cmp [] (y ∷ ys) = refl
naturals_cmp (x ∷ xs) [] = refl
naturals_cmp (x ∷ xs) (y ∷ ys) = λ i. ordering_then (natural_cmp x y i) (naturals_cmp xs ys i)

pub names_cmp : (xs ys : List (List ℕ)) → tree_cmp (row (map naturals xs)) (row (map naturals ys)) ≡ slice_cmp (slice_cmp nat_cmp) xs ys
names_cmp [] [] = refl
names_cmp [] (y ∷ ys) = refl
names_cmp (x ∷ xs) [] = refl
names_cmp (x ∷ xs) (y ∷ ys) = λ i. ordering_then (naturals_cmp x y i) (names_cmp xs ys i)

pub truth_cmp : (a b : Bool) → int_cmp (pos (cond a 1 0)) (pos (cond b 1 0)) ≡ bool_cmp a b
truth_cmp false false = refl
truth_cmp false true = refl
truth_cmp true false = refl
truth_cmp true true = refl

pub then_equal : (o : Ordering) → ordering_then o Equal ≡ o
then_equal Less = refl
then_equal Equal = refl
then_equal Greater = refl

pub values_cmp : (xs ys : List Value) → tree_cmp (row (map value_tree xs)) (row (map value_tree ys)) ≡ slice_cmp value_cmp xs ys
values_cmp = row_cmp value_tree

pub dimensions_cmp : (xs ys : List Dimension) → tree_cmp (row (map dimension_tree xs)) (row (map dimension_tree ys)) ≡ slice_cmp dimension_cmp xs ys
dimensions_cmp = row_cmp dimension_tree

-- how parts of two values are ordered
pub ruleset parts = (natural_cmp, naturals_cmp, names_cmp, truth_cmp, then_equal, values_cmp, dimensions_cmp)

-- each of these
pub ruleset trees = (tree-Int, tree-Bool, tree-Enum, tree-Record, tree-Set, tree-Range, tree-Names, tree-Array, tree-Whole, tree-Listed, tree-IndexSpace)
