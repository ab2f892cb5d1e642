-- The indices of a table.
use Rattle.std.proofs.Common.{◌≡◌, ℕ, zero, suc, ◌*◌, Bool, true, false, cond, length, List, [], ◌∷◌, map, refl, ap, subst}
use Rattle.std.proofs.lemmas.Bool.{and_parts}
use Rattle.opl_value.specs.declared.value.Value.{Value}
use Rattle.opl_value.specs.declared.value.Dimension.TheViews.{out-Value}
use Rattle.opl_value.specs.Places.{elements}
use Rattle.opl_eval.specs.Compare.{rank}
use Rattle.opl_expr.specs.Sound.{keys}
use Rattle.opl_form.specs.Parts.{Sort, alike, all_alike, first_sort, indices_of, key_layer, places_from}
use Rattle.opl_form.proofs.Values.{alike-same}

pub length-map : {A B : Type 0} (f : A → B) (xs : List A) → length (map f xs) ≡ length xs
length-map f [] = refl
length-map f (x ∷ xs) = ap (λ n. suc n) (length-map f xs)

length-places : (n count : ℕ) → length (places_from n count) ≡ count
length-places n zero = refl
length-places n (suc count) = ap (λ m. suc m) (length-places (suc n) count)

-- there are as many as values
pub length-indices : (d : List Value) → length (indices_of d) ≡ length d
length-indices d = by (all_alike (first_sort d) d)
  where
    by : (b : Bool) → length (cond b (map rank d) (places_from 0 (length d))) ≡ length d
    by true = length-map rank d
    by false = length-places 0 (length d)

pub keys-indices : (ds : List (List Value)) → keys (map indices_of ds) ≡ elements ds
keys-indices [] = refl
keys-indices (d ∷ ds) = λ i. length-indices d i * keys-indices ds i

-- values of one sort stand by their ranks
pub alike-indices : (s : Sort) (d : List Value) → all_alike s d ≡ true → indices_of d ≡ map rank d
alike-indices s [] h = refl
alike-indices s (v ∷ vs) h =
    let p = and_parts (alike s (key_layer (out-Value v))) (all_alike s vs) h in
    ap (λ b. cond b (map rank (v ∷ vs)) (places_from 0 (length (v ∷ vs)))) (subst (λ t. all_alike t (v ∷ vs) ≡ true) (alike-same s (key_layer (out-Value v)) p.0) h)
