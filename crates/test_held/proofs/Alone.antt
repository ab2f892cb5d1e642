-- The site of one variable that is alone.
use Rattle.std.proofs.Common.{◌≡◌, suc, ℤ, List, [], ◌∷◌, ◌++◌, length, refl, sym, ap, ◌∙◌}
use Rattle.std.specs.List.{flat_map}
use Rattle.opl_eval.specs.Evaluation.{Item}
use Rattle.opl_meaning.specs.declared.variable.VariableItem.{VariableItem}
use Rattle.opl_draft.specs.Laws.{Fits}
use Rattle.opl_draft.specs.Numbers.{arrays_of, entries, variable_cells, with_cells}
use Rattle.test_held.specs.Single.{AreSingle}

-- no arrays
pub no-arrays : (is : List Item) (vs : List VariableItem) → is ≡ [] → AreSingle vs → arrays_of (entries is vs) ≡ []
no-arrays is vs e h = ap (λ is. arrays_of (entries is vs)) e ∙ ap (λ vs. arrays_of (entries [] vs)) h.alone ∙ ap (λ space. with_cells (variable_cells h.item 0 space) []) h.plain.space

-- one number for one variable
pub one-fits : (vs : List VariableItem) (n : ℤ) → AreSingle vs → Fits vs (n ∷ [])
one-fits vs n h = sym (ap (λ vs. length (flat_map (λ v. v.sets) vs)) h.alone ∙ by h.item.sets ∙ h.plain.sets)
  where
    by : {A : Type 0} (xs : List A) → length (xs ++ []) ≡ length xs
    by [] = refl
    by (x ∷ xs) = ap suc (by xs)
