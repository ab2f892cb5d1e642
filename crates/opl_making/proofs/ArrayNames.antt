-- What names stand for where parameters hide some of them.
use Rattle.std.proofs.Common.{◌≡◌, ℕ, ℤ, List, [], ◌∷◌, map, Option, None, Some, Ok, refl, ap, sym, ◌∙◌}
use Rattle.opl_value.specs.declared.value.IndexSpace.{IndexSpace}
use Rattle.opl_value.specs.declared.value.Value.{Value}
use Rattle.opl_value.specs.declared.value.Value.TheVariants as values
use Rattle.opl_value.specs.declared.value.Dimension.TheOpen.{Value-F}
use Rattle.opl_value.specs.declared.value.Dimension.TheViews.{out-Value}
use Rattle.opl_eval.specs.declared.environment.Environment as code
use Rattle.opl_eval.specs.declared.environment.Parameter as parameters
use Rattle.opl_eval.specs.Compare.{all_different}
use Rattle.opl_eval.specs.Evaluation.{different_layer, parameter_or}
use Rattle.opl_eval.specs.Visible.{parameter_of, seen, within}
use Rattle.opl_meaning.specs.declared.variable.VariableItem.{VariableItem}
use Rattle.opl_meaning.specs.Runs.{Text}
use Rattle.opl_draft.specs.Drafts.{Cells}
use Rattle.opl_draft.specs.Numbers.{Entry, array_or, arrays_of, cells_layer, cells_or, data_cells, entries}
use Rattle.opl_draft.specs.Unrolled.{named_array, named_cells}
use Rattle.opl_expr.specs.declared.forms.Cons.TheVariants as C
use Rattle.opl_form.specs.Made.{array_of}
use Rattle.opl_form.specs.Nodes.{condition_node, different, folded, known_node, size, sized, two_greatest}
use Rattle.opl_form.specs.Parts.{all_known, ranked, with_value}
use Rattle.opl_form.specs.Parts.Form.{known}
use Rattle.opl_declared.specs.Lookups.{array_named, cells_at, cells_named}
use Rattle.opl_declared.proofs.Arrays.{cells-numbered}

module _ (items : List VariableItem) (name : Text) (e : code.Environment) (ps : List parameters.Parameter) where
  pub parameters-within : (within e ps).parameters ≡ map parameter_of ps
  unfolding within
  parameters-within = refl

  -- the number of an array
  pub number-hidden : (v : Value) → parameter_or None name (map parameter_of ps) ≡ Some v → array_named items (Some name) (within e ps) ≡ None
  unfolding within
  number-hidden v h = ap (λ p. named_array p (array_or None 0 name (entries (within e ps).items items))) h

  pub number-seen : parameter_or None name (map parameter_of ps) ≡ None → array_named items (Some name) (within e ps) ≡ array_or None 0 name (entries (seen e).items items)
  unfolding within seen
  number-seen h = ap (λ p. named_array p (array_or None 0 name (entries (within e ps).items items))) h

  -- its elements
  pub cells-hidden : (v : Value) → parameter_or None name (map parameter_of ps) ≡ Some v → cells_named items (Some name) (within e ps) ≡ data_cells [] v
  unfolding within
  cells-hidden v h = ap (λ p. named_cells p (cells_or None name (entries (within e ps).items items))) h

  pub cells-seen : parameter_or None name (map parameter_of ps) ≡ None → cells_named items (Some name) (within e ps) ≡ cells_or None name (entries (seen e).items items)
  unfolding within seen
  cells-seen h = ap (λ p. named_cells p (cells_or None name (entries (within e ps).items items))) h

array-at : (arrays : List Cells) (k : Option ℕ) → array_of arrays k ≡ cells_at k arrays
array-at arrays None = refl
array-at arrays (Some k) = refl

-- the array of a name has its number
pub array-numbered : (name : Text) (es : List Entry) (arrays : List Cells) → arrays ≡ arrays_of es → array_of arrays (array_or None 0 name es) ≡ cells_or None name es
array-numbered name es arrays h = array-at arrays (array_or None 0 name es) ∙ ap (cells_at (array_or None 0 name es)) h ∙ sym (cells-numbered name es)

-- ---- arrays of values

values-known : (vs : List Value) → all_known (map known vs) ≡ Some vs
values-known [] = refl
values-known (v ∷ vs) = ap (with_value (known v)) (values-known vs)

module _ (sets : List (ℤ × ℤ)) (arrays : List Cells) (item at n : ℕ) where
  differ-layer : {A : Type 0} (x : Value-F A Value IndexSpace) → different sets arrays item at n (cells_layer [] x) ≡ known_node item n (values.Bool (different_layer x))
  differ-layer (Value-F.Array space cells) =
      ap
      (λ k. folded item n k (λ vs. Ok (values.Bool (all_different vs))) (sized at (two_greatest (map (λ g. size sets arrays (ranked g)) (map known cells))) (condition_node item n (C.AllDifferent (map ranked (map known cells))))))
      (values-known cells)
  differ-layer (Value-F.Int k) = refl
  differ-layer (Value-F.Bool b) = refl
  differ-layer (Value-F.Enum d p) = refl
  differ-layer (Value-F.Record vs) = refl
  differ-layer (Value-F.Set vs) = refl
  differ-layer (Value-F.Range l h) = refl
  differ-layer (Value-F.Names ns) = refl

  -- the elements of a value that is an array differ or not
  pub data-differ : (v : Value) → different sets arrays item at n (data_cells [] v) ≡ known_node item n (values.Bool (different_layer (out-Value v)))
  data-differ v = differ-layer (out-Value v)
