-- Arrays one after another.
use Rattle.std.proofs.Common.{◌≡◌, ℕ, ◌+◌, inl, inr, List, [], ◌∷◌, ◌++◌, drop, Option, Some, None, refl, sym, ap, ◌∙◌}
use Rattle.std.specs.List.{slice_get}
use Rattle.std.proofs.lemmas.List.{append-nil, at_drop_all, drop_more}
use Rattle.std.proofs.lemmas.Option.{get_or_from_slice_get, slice_get_cases, slice_get_within}
use Rattle.opl_eval.specs.Evaluation.{Item}
use Rattle.opl_draft.specs.Drafts.{Cells}
use Rattle.opl_draft.specs.Numbers.{Entry, arrays_of, data_cells, data_entries, with_cells}

append-in : {A : Type 0} (xs ys zs : List A) → (xs ++ ys) ++ zs ≡ xs ++ (ys ++ zs)
append-in [] ys zs = refl
append-in (x ∷ xs) ys zs = ap (λ l. x ∷ l) (append-in xs ys zs)

-- an array, if it is one, before others
with-some : (o : Option Cells) (xs : List Cells) → with_cells o [] ++ xs ≡ with_cells o xs
with-some None xs = refl
with-some (Some a) xs = refl

with-append : (o : Option Cells) (xs ys : List Cells) → with_cells o (xs ++ ys) ≡ with_cells o xs ++ ys
with-append None xs ys = refl
with-append (Some a) xs ys = refl

-- the arrays among some names, then those among others
pub arrays-append : (xs ys : List Entry) → arrays_of (xs ++ ys) ≡ arrays_of xs ++ arrays_of ys
arrays-append [] ys = refl
arrays-append (e ∷ es) ys = ap (with_cells e.cells) (arrays-append es ys) ∙ with-append e.cells (arrays_of es) (arrays_of ys)

-- one array more, and those that are left
pub pushed : (before after : List Cells) (o : Option Cells) (left all : List Cells) → after ≡ before ++ with_cells o [] → before ++ with_cells o left ≡ all → after ++ left ≡ all
pushed before after o left all h k = ap (λ xs. xs ++ left) h ∙ append-in before (with_cells o []) left ∙ ap (λ xs. before ++ xs) (with-some o left) ∙ k

-- ---- the names of data that are left

data-next : (items : List Item) (k : ℕ) (i : Item) → slice_get items k ≡ Some i →
    arrays_of (data_entries (drop k items)) ≡ with_cells (data_cells i.name i.value) (arrays_of (data_entries (drop (k + 1) items)))
data-next items k i h =
    ap (λ is. arrays_of (data_entries is)) (drop_more items k i (slice_get_within items k i h) ∙ ap (λ j. j ∷ drop (k + 1) items) (get_or_from_slice_get items k i i h))

no-item : (o : Option Item) (i : Item) (xs : List Cells) → o ≡ Some i → o ≡ None → xs ≡ []
no-item o i xs h k = absurd (cc)

data-end : (items : List Item) (k : ℕ) → slice_get items k ≡ None → arrays_of (data_entries (drop k items)) ≡ []
data-end items k h = elim (slice_get_cases items k).1 [ inl p ↦ no-item (slice_get items k) p.0 (arrays_of (data_entries (drop k items))) p.2 h | inr q ↦ at_drop_all (λ is. arrays_of (data_entries is)) items k q.0 ]

-- one name of data more
pub data-more : (items : List Item) (k : ℕ) (i : Item) (before after : List Cells) (o : Option Cells) → slice_get items k ≡ Some i → o ≡ data_cells i.name i.value → after ≡ before ++ with_cells o [] →
    before ++ arrays_of (data_entries (drop k items)) ≡ arrays_of (data_entries items) → after ++ arrays_of (data_entries (drop (k + 1) items)) ≡ arrays_of (data_entries items)
data-more items k i before after o h e a all =
    let left = arrays_of (data_entries (drop (k + 1) items)) in
    pushed before after o left (arrays_of (data_entries items)) a
    (ap (λ o. before ++ with_cells o left) e ∙ ap (λ xs. before ++ xs) (sym (data-next items k i h)) ∙ all)

-- no name of data is left
pub data-done : (items : List Item) (k : ℕ) (xs : List Cells) → slice_get items k ≡ None → xs ++ arrays_of (data_entries (drop k items)) ≡ arrays_of (data_entries items) → xs ≡ arrays_of (data_entries items)
data-done items k xs h all = sym (append-nil xs) ∙ ap (λ ys. xs ++ ys) (sym (data-end items k h)) ∙ all
