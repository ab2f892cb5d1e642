-- How values are ordered: as nested lists of numbers.
use Rattle.std.specs.Prelude.{ℕ, ℤ, pos, Bool, cond, List, [], ◌∷◌, map}
use Rattle.std.specs.Ordering.{int_cmp, is_eq, ordering_then}
use Rattle.std.specs.declared.cmp.Ordering.{Ordering}
use Rattle.std.specs.declared.cmp.Ordering.TheVariants.{Less, Equal, Greater}
use Rattle.opl_value.specs.declared.value.Value.{Value}
use Rattle.opl_value.specs.declared.value.IndexSpace.{IndexSpace}
use Rattle.opl_value.specs.declared.value.Dimension.{Dimension}
use Rattle.opl_value.specs.declared.value.Dimension.TheOpen.{Value-F, IndexSpace-F, Dimension-F}
use Rattle.opl_value.specs.declared.value.Dimension.TheFolds.{fold-Value, fold-IndexSpace, fold-Dimension}

-- a number, the empty list, or a list with a first member and the list of the others
pub data Tree : Type 0 where
  number : ℤ → Tree
  empty : Tree
  more : Tree → Tree → Tree

-- numbers come before lists, and are ordered by size; lists are ordered member by member, and a list comes before those that it begins
abbrev pub tree_cmp : Tree → Tree → Ordering
tree_cmp (number m) (number n) = int_cmp m n
tree_cmp (number m) t = Less
tree_cmp empty (number n) = Greater
tree_cmp empty empty = Equal
tree_cmp empty (more t ts) = Less
tree_cmp (more s ss) (more t ts) = ordering_then (tree_cmp s t) (tree_cmp ss ts)
tree_cmp (more s ss) t = Greater

-- the list of these members
abbrev pub row : List Tree → Tree
row [] = empty
row (t ∷ ts) = more t (row ts)

-- a number that is not negative
abbrev pub natural : ℕ → Tree
natural n = number (pos n)

-- a list of numbers that are not negative
abbrev pub naturals : List ℕ → Tree
naturals ns = row (map natural ns)

-- a value is the list of its variant's number and its parts, each of the lists in it being one part
abbrev pub value_layer : Value-F Tree Tree Tree → Tree
value_layer (Value-F.Int n) = row (natural 0 ∷ number n ∷ [])
value_layer (Value-F.Bool b) = row (natural 1 ∷ natural (cond b 1 0) ∷ [])
value_layer (Value-F.Enum declaration position) = row (natural 2 ∷ natural declaration ∷ natural position ∷ [])
value_layer (Value-F.Record parts) = row (natural 3 ∷ row parts ∷ [])
value_layer (Value-F.Set elements) = row (natural 4 ∷ row elements ∷ [])
value_layer (Value-F.Range low high) = row (natural 5 ∷ number low ∷ number high ∷ [])
value_layer (Value-F.Names names) = row (natural 6 ∷ row (map naturals names) ∷ [])
value_layer (Value-F.Array space elements) = row (natural 7 ∷ space ∷ row elements ∷ [])

-- so is a dimension
abbrev pub dimension_layer : Dimension-F Tree Tree Tree → Tree
dimension_layer (Dimension-F.Whole low high) = row (natural 0 ∷ number low ∷ number high ∷ [])
dimension_layer (Dimension-F.Listed values rising) = row (natural 1 ∷ row values ∷ naturals rising ∷ [])

-- an index space is the list of its dimensions
abbrev pub space_layer : IndexSpace-F Tree Tree Tree → Tree
space_layer space = row space.dims

unfoldable pub value_tree : Value → Tree
value_tree = fold-Value Tree Tree Tree dimension_layer value_layer space_layer

unfoldable pub space_tree : IndexSpace → Tree
space_tree = fold-IndexSpace Tree Tree Tree dimension_layer value_layer space_layer

unfoldable pub dimension_tree : Dimension → Tree
dimension_tree = fold-Dimension Tree Tree Tree dimension_layer value_layer space_layer

-- the order of values, of index spaces and of dimensions: by variant, then by parts
abbrev pub value_cmp : Value → Value → Ordering
value_cmp a b = tree_cmp (value_tree a) (value_tree b)

abbrev pub space_cmp : IndexSpace → IndexSpace → Ordering
space_cmp a b = tree_cmp (space_tree a) (space_tree b)

abbrev pub dimension_cmp : Dimension → Dimension → Ordering
dimension_cmp a b = tree_cmp (dimension_tree a) (dimension_tree b)

-- two values of which neither comes first
abbrev pub value_eq : Value → Value → Bool
value_eq a b = is_eq (value_cmp a b)
