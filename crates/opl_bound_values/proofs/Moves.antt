-- A value of a type that names only declarations before is of it also behind more declarations.
use Rattle.std.proofs.Common.{◌≡◌, ◌<◌, ◌≤◌, ℕ, List, sym, subst, arith}
use Rattle.opl_type_rules.specs.Types.{Sort, Sorts}
use Rattle.opl_type_rules.specs.Types.Sort.{enumeration, structure, row, set, array, index}
use Rattle.opl_type_rules.specs.Types.Sorts.{no_sorts, more_sorts}
use Rattle.opl_value.specs.declared.value.Value.{Value}
use Rattle.opl_typed_values.specs.OfSort.{AllHaveSort, HasSort, HaveSorts, IsArrayOf, a_name, a_number, a_record, a_row, a_set, a_truth, more_have, more_parts, no_elements, no_parts, none_has}

-- a type names declarations with numbers below k alone
abbrev mutual
  pub Below : ℕ → Sort → Type 0
  Below k (enumeration j) = j < k
  Below k (structure j) = j < k
  Below k (row ss) = AllBelow k ss
  Below k (set s) = Below k s
  Below k (array is s) = Below k s
  Below k (index s) = Below k s
  Below k s = Unit {0}

  pub AllBelow : ℕ → Sorts → Type 0
  AllBelow k no_sorts = Unit {0}
  AllBelow k (more_sorts s ss) = Below k s × AllBelow k ss

mutual
  pub below-more : (k l : ℕ) → k ≤ l → (s : Sort) → Below k s → Below l s
  below-more k l h (enumeration j) b = omega (arith, h, b)
  below-more k l h (structure j) b = omega (arith, h, b)
  below-more k l h (row ss) b = all-below-more k l h ss b
  below-more k l h (set s) b = below-more k l h s b
  below-more k l h (array is s) b = below-more k l h s b
  below-more k l h (index s) b = below-more k l h s b
  below-more k l h s b = tt

  pub all-below-more : (k l : ℕ) → k ≤ l → (ss : Sorts) → AllBelow k ss → AllBelow l ss
  all-below-more k l h no_sorts b = tt
  all-below-more k l h (more_sorts s ss) b = (below-more k l h s b.0, all-below-more k l h ss b.1)

module _ (k : ℕ) (fields others : ℕ → Sorts) (names more : ℕ → ℕ) (same : (j : ℕ) → j < k → others j ≡ fields j) (below : (j : ℕ) → AllBelow k (fields j)) (grow : (j : ℕ) → j < k → names j ≤ more j) where
  mutual
    pub has-moves : (s : Sort) (v : Value) → Below k s → HasSort fields names s v → HasSort others more s v
    has-moves _ _ b (a_number n) = a_number n
    has-moves _ _ b (a_truth t) = a_truth t
    has-moves _ _ b (a_name d p l) = let g = grow d b in a_name d p (omega (arith, l, g))
    has-moves _ _ b (a_record d vs h) = a_record d vs (subst (λ (ss : Sorts). HaveSorts others more ss vs) (sym (same d b)) (have-moves (fields d) vs (below d) h))
    has-moves _ _ b (a_row ss vs h) = a_row ss vs (have-moves ss vs b h)
    has-moves _ _ b (a_set s vs h d) = a_set s vs (all-move s vs b h) d
    has-moves _ _ b no_elements = no_elements

    have-moves : (ss : Sorts) (vs : List Value) → AllBelow k ss → HaveSorts fields names ss vs → HaveSorts others more ss vs
    have-moves _ _ b no_parts = no_parts
    have-moves _ _ b (more_parts s v ss vs h hs) = more_parts s v ss vs (has-moves s v b.0 h) (have-moves ss vs b.1 hs)

    pub all-move : (s : Sort) (vs : List Value) → Below k s → AllHaveSort fields names s vs → AllHaveSort others more s vs
    all-move s _ b (none_has _) = none_has s
    all-move s _ b (more_have _ v vs h hs) = more_have s v vs (has-moves s v b h) (all-move s vs b hs)

  pub array-moves : (s : Sort) (v : Value) → Below k s → IsArrayOf fields names s v → IsArrayOf others more s v
  array-moves s v b a = record { space = a.space; cells = a.cells; is = a.is; each = all-move s a.cells b a.each; filled = a.filled }
