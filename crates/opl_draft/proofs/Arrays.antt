-- The array of a name stands in the list of arrays at its number.
use Rattle.std.proofs.Common.{◌≡◌, ℕ, ℤ, suc, ◌+◌, Bool, true, false, cond, List, [], ◌∷◌, Option, None, Some, refl, ap, ◌∙◌, arith}
use Rattle.std.specs.Prelude.{bytes_eq, slice_get}
use Rattle.opl_meaning.specs.Runs.{Text}
use Rattle.opl_draft.specs.Drafts.{Cells, array_at}
use Rattle.opl_draft.specs.Numbers.{Entry, array_or, arrays_of, cells_or, number_after, number_of, with_cells}

zero-behind : (k : ℕ) → k ≡ k + 0
zero-behind k = omega arith

next-behind : (k j : ℕ) → suc k + j ≡ k + suc j
next-behind k j = omega arith

-- where the arrays of the names stand in a list from a number on, the number found is that of the latest
from-number : (ns : List ℤ) (all : List Cells) (before : Option ℕ) (k : ℕ) (name : Text) (es : List Entry) → ((j : ℕ) → slice_get all (k + j) ≡ slice_get (arrays_of es) j) →
    array_at all ns (array_or before k name es) ≡ cells_or (array_at all ns before) name es
from-number ns all before k name [] h = refl
from-number ns all before k name (e ∷ es) h = by (λ b k h. from-number ns all b k name es h) e.cells h
  where
    chosen : (b : Bool) (i : Option ℕ) → array_at all ns (cond b i before) ≡ cond b (array_at all ns i) (array_at all ns before)
    chosen true i = refl
    chosen false i = refl

    by : ((b : Option ℕ) (k : ℕ) → ((j : ℕ) → slice_get all (k + j) ≡ slice_get (arrays_of es) j) → array_at all ns (array_or b k name es) ≡ cells_or (array_at all ns b) name es) →
        (c : Option Cells) → ((j : ℕ) → slice_get all (k + j) ≡ slice_get (with_cells c (arrays_of es)) j) →
        array_at all ns (array_or (cond (bytes_eq name e.name) (number_of k c) before) (number_after k c) name es) ≡ cells_or (cond (bytes_eq name e.name) c (array_at all ns before)) name es
    by again None h = again (cond (bytes_eq name e.name) None before) k h ∙ ap (λ c. cells_or c name es) (chosen (bytes_eq name e.name) None)
    by again (Some a) h =
        again (cond (bytes_eq name e.name) (Some k) before) (suc k) (λ j. ap (slice_get all) (next-behind k j) ∙ h (suc j))
        ∙ ap (λ c. cells_or c name es) (chosen (bytes_eq name e.name) (Some k) ∙ ap (λ c. cond (bytes_eq name e.name) c (array_at all ns before)) (ap (slice_get all) (zero-behind k) ∙ h 0))

from-nothing : (j : ℕ) → 0 + j ≡ j
from-nothing j = omega arith

pub array-named : (ns : List ℤ) (name : Text) (es : List Entry) → array_at (arrays_of es) ns (array_or None 0 name es) ≡ cells_or None name es
array-named ns name es = from-number ns (arrays_of es) None 0 name es (λ j. ap (slice_get (arrays_of es)) (from-nothing j))
