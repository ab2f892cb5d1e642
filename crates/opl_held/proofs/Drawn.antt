-- Elements of arrays, as the program finds them.
use Rattle.std.proofs.Common.{◌≡◌, ℕ, ℤ, pos, Bool, true, false, cond, ◌&&◌, List, [], ◌∷◌, map, Option, Some, None, Ok, Err, refl, sym, ap, ◌∙◌}
use Rattle.std.specs.List.{list_all}
use Rattle.std.specs.Option.{is_some}
use Rattle.opl_value.specs.declared.value.Value.{Value}
use Rattle.opl_value.specs.declared.value.IndexSpace.{IndexSpace}
use Rattle.opl_value.specs.declared.value.Dimension.TheOpen.{Value-F}
use Rattle.opl_value.specs.declared.value.Dimension.TheViews.{out-Value}
use Rattle.opl_value.specs.declared.value.Value.TheVariants as values
use Rattle.opl_value.specs.Places.{place_of, value_at}
use Rattle.opl_eval.specs.declared.fault.EvalFault.TheVariants.{OutOfIndex}
use Rattle.opl_eval.specs.Evaluation.{Found, at_place, different_layer, found}
use Rattle.opl_draft.specs.Drafts.{Cells, Draft, are_different, array_at, chosen, leaf_values}
use Rattle.opl_draft.specs.Numbers.{cells_layer, data_cells}
use Rattle.opl_draft.specs.Settled as settled
use Rattle.opl_form.specs.Made.{array_of}
use Rattle.opl_held.specs.declared.outcome.Outcome.{Outcome}
use Rattle.opl_held.specs.declared.outcome.Outcome.TheVariants.{Fixed, Live}
use Rattle.opl_held.specs.Arrays.{is_defined, no_element, placed}
use Rattle.opl_held.specs.Keys.{is_fixed, key_place}
use Rattle.opl_held.specs.Outcomes.{Worth, both, changed, data_of, each, told, value_of}
use Rattle.opl_held.specs.Worth.{are_live, drawn, indexed, worth}
use Rattle.opl_held.proofs.Places.{key-fixed, key-place}
use Rattle.opl_held.proofs.Values.{follow, values_of}

module _ (ns : List ℤ) (at : ℕ) where
  -- an element by a key
  abbrev taken : Cells → Outcome (List Value) → Found Worth
  taken a key = found (drawn (Some a)) (told (changed (chosen [] ns at (Some a)) key))

  drawn-again : {A : Type 0} (z : Bool) (v : Option A) → cond {A = Outcome A} z (Live v) (Live v) ≡ Live v
  drawn-again true v = refl
  drawn-again false v = refl

  -- by its place
  taken-placed : (a : Cells) (key : Outcome (List Value)) → taken a key ≡ placed ns at a.leaves (is_some (data_of key)) (follow (value_of key) (place_of a.dims))
  taken-placed a (Fixed key) = by (place_of a.dims key)
    where
      by : (p : Option ℕ) → found (drawn (Some a)) (found (λ v. Fixed v) (at_place at (leaf_values [] ns a.leaves) p)) ≡ placed ns at a.leaves true p
      by None = refl
      by (Some p) = refl
  taken-placed a (Live None) = ap (λ o. Ok o) (drawn-again (are_live a.leaves) None)
  taken-placed a (Live (Some key)) = by (place_of a.dims key)
    where
      by : (p : Option ℕ) → found (drawn (Some a)) (told (Live (Some (at_place at (leaf_values [] ns a.leaves) p)))) ≡ placed ns at a.leaves false p
      by None = ap (λ o. Ok o) (drawn-again (are_live a.leaves) None)
      by (Some p) = ap (λ o. Ok o) (drawn-again (are_live a.leaves) (Some (value_at (leaf_values [] ns a.leaves) p)))

  -- an element whose subscripts without variables are indices
  pub indexed-fit : (a : Cells) (os : List Worth) → settled.are_indices a.dims (map data_of os) ≡ true → indexed [] ns at (Some a) os ≡ placed ns at a.leaves (list_all is_fixed os) (key_place a.dims os)
  indexed-fit a os h =
      ap (λ z. cond z (taken a (each os)) (Err (OutOfIndex at))) h
      ∙ taken-placed a (each os)
      ∙ (λ i. placed ns at a.leaves (sym (key-fixed os) i) (sym (key-place a.dims os) i))

  pub indexed-unfit : (a : Cells) (os : List Worth) → settled.are_indices a.dims (map data_of os) ≡ false → indexed [] ns at (Some a) os ≡ Err (OutOfIndex at)
  indexed-unfit a os h = ap (λ z. cond z (taken a (each os)) (Err (OutOfIndex at))) h

  defined-key : (os : List Worth) → list_all is_defined os ≡ is_some (values_of os)
  defined-key [] = refl
  defined-key (o ∷ os) = ap (λ z. is_defined o && z) (defined-key os) ∙ by o (each os)
    where
      by : (o : Worth) (vs : Outcome (List Value)) → (is_defined o && is_some (value_of vs)) ≡ is_some (value_of (changed (λ p. p.0 ∷ p.1) (both o vs)))
      by (Fixed v) (Fixed vs) = refl
      by (Fixed v) (Live None) = refl
      by (Fixed v) (Live (Some vs)) = refl
      by (Live None) (Fixed vs) = refl
      by (Live (Some v)) (Fixed vs) = refl
      by (Live None) (Live vs) = refl
      by (Live (Some v)) (Live None) = refl
      by (Live (Some v)) (Live (Some vs)) = refl

  -- an element of what is no array
  pub indexed-none : (os : List Worth) → indexed [] ns at None os ≡ Ok (no_element os)
  indexed-none os =
      by (each os)
      ∙ (λ i. Ok (cond (sym (key-fixed os) i) (Fixed (values.Int (pos 0))) (cond (sym (defined-key os) i) (Live (Some (values.Int (pos 0)))) (Live None))))
    where
      by : (key : Outcome (List Value)) →
          found (drawn None) (told (changed (chosen [] ns at None) key)) ≡ Ok (cond (is_some (data_of key)) (Fixed (values.Int (pos 0))) (cond (is_some (value_of key)) (Live (Some (values.Int (pos 0)))) (Live None)))
      by (Fixed key) = refl
      by (Live None) = refl
      by (Live (Some key)) = refl

-- the array of a number
pub array-same : (arrays : List Cells) (k : Option ℕ) → array_of arrays k ≡ array_at arrays [] k
array-same arrays None = refl
array-same arrays (Some k) = refl

pub array-under : (arrays : List Cells) (ns : List ℤ) (k : Option ℕ) → array_at arrays [] k ≡ array_at arrays ns k
array-under arrays ns None = refl
array-under arrays ns (Some k) = refl

-- the elements of a value that is an array differ or not
differ-layer : {A : Type 0} (arrays : List Cells) (ns : List ℤ) (x : Value-F A Value IndexSpace) →
    drawn (cells_layer [] x) (Fixed (values.Bool (are_different arrays ns (cells_layer [] x)))) ≡ Fixed (values.Bool (different_layer x))
differ-layer arrays ns (Value-F.Array space cells) = refl
differ-layer arrays ns (Value-F.Int k) = refl
differ-layer arrays ns (Value-F.Bool b) = refl
differ-layer arrays ns (Value-F.Enum d p) = refl
differ-layer arrays ns (Value-F.Record vs) = refl
differ-layer arrays ns (Value-F.Set vs) = refl
differ-layer arrays ns (Value-F.Range l h) = refl
differ-layer arrays ns (Value-F.Names names) = refl

pub data-differ : (arrays : List Cells) (ns : List ℤ) (at : ℕ) (v : Value) → worth arrays ns (Draft.different at (data_cells [] v)) ≡ Ok (Fixed (values.Bool (different_layer (out-Value v))))
data-differ arrays ns at v = ap (λ o. Ok o) (differ-layer arrays ns (out-Value v))
