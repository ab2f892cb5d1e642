-- Subscripts, dimension after dimension.
use Rattle.std.proofs.Common.{◌≡◌, ℕ, zero, suc, ◌+◌, ◌*◌, ◌^◌, ◌<◌, Bool, true, false, cond, nat_lt, ◌&&◌, List, [], ◌∷◌, length, Option, Some, None, Err, refl, sym, ap, ◌∙◌, arith}
use Rattle.std.specs.List.{list_any}
use Rattle.opl_value.specs.declared.value.Value.{Value}
use Rattle.opl_value.specs.Places.{elements, has_none, joint, place_in, place_of}
use Rattle.opl_value.proofs.Joint.{behind-first, place_in-within}
use Rattle.std.proofs.lemmas.Bool.Decides.{nat_tests}
use Rattle.opl_expr.specs.Sound.{greatest_abs}
use Rattle.opl_form.specs.Parts.{Form, all_alike, all_known, are_indices, indices_of, is_index, key_sort, ranked, subscripts_fit, with_value}
use Rattle.opl_form.specs.Parts.Form.{known, number, name, condition, truth}
use Rattle.opl_form.specs.Nodes.{Made, sized, with_indices}
use Rattle.opl_form.specs.Nodes.Fault.{large}
use Rattle.opl_nodes.specs.declared.context.Context.{Context}
use Rattle.opl_nodes.specs.Contexts.{arrays, sets}
use Rattle.opl_nodes.specs.Pieces.{magnitude}
use Rattle.opl_elements.specs.Places.{all_fit, first_large, fits, key_place, subscript_place}

-- ---- keys without variables

pub subscript-within : (d : List Value) (g : Form) (p : ℕ) → subscript_place d g ≡ Some p → p < length d
subscript-within d (known v) p h = place_in-within v d p h
subscript-within d (number e) p h = absurd (cc)
subscript-within d (name n e) p h = absurd (cc)
subscript-within d (condition c) p h = absurd (cc)
subscript-within d (truth c) p h = absurd (cc)

-- the key that the subscripts are
pub key-place : (ds : List (List Value)) (gs : List Form) (vs : List Value) → all_known gs ≡ Some vs → key_place ds gs ≡ place_of ds vs
key-place [] [] [] h = refl
key-place [] [] (v ∷ vs) h = absurd (cc)
key-place (d ∷ ds) [] [] h = refl
key-place (d ∷ ds) [] (v ∷ vs) h = absurd (cc)
key-place ds (number e ∷ gs) vs h = absurd (cc)
key-place ds (name n e ∷ gs) vs h = absurd (cc)
key-place ds (condition c ∷ gs) vs h = absurd (cc)
key-place ds (truth c ∷ gs) vs h = absurd (cc)
key-place ds (known w ∷ gs) vs h = by ds (all_known gs) h (λ ds us e. key-place ds gs us e)
  where
    by : (ds : List (List Value)) (o : Option (List Value)) → with_value (known w) o ≡ Some vs → ((ds : List (List Value)) (us : List Value) → o ≡ Some us → key_place ds gs ≡ place_of ds us) → key_place ds (known w ∷ gs) ≡ place_of ds vs
    by ds None k f = absurd (cc)
    by [] (Some us) k f = let s : w ∷ us ≡ vs = cc in ap (λ vs. place_of [] vs) s
    by (d ∷ ds) (Some us) k f = let s : w ∷ us ≡ vs = cc in ap (joint (elements ds) (place_in w d)) (f ds us refl) ∙ ap (λ vs. place_of (d ∷ ds) vs) s

-- where there are no keys there is no place, and else no dimension is empty
pub no-place : (ds : List (List Value)) (gs : List Form) → elements ds ≡ 0 → key_place ds gs ≡ None
no-place [] gs h = absurd (cc)
no-place (d ∷ ds) [] h = refl
no-place ([] ∷ ds) (g ∷ gs) h = nowhere (subscript_place [] g) (key_place ds gs) (λ p e. subscript-within [] g p e) refl
  where
    nowhere : (o q : Option ℕ) → ((p : ℕ) → o ≡ Some p → p < 0) → o ≡ o → joint (elements ds) o q ≡ None
    nowhere None q f e = refl
    nowhere (Some p) q f e = absurd (omega (arith, f p refl))
no-place ((v ∷ vs) ∷ ds) (g ∷ gs) h = ap (joint (elements ds) (subscript_place (v ∷ vs) g)) (no-place ds gs (rest (length vs) (elements ds) h)) ∙ nowhere (subscript_place (v ∷ vs) g)
  where
    rest : (m n : ℕ) → suc m * n ≡ 0 → n ≡ 0
    rest m zero e = refl
    rest m (suc n) e = absurd (omega (arith, e))

    nowhere : (p : Option ℕ) → joint (elements ds) p None ≡ None
    nowhere None = refl
    nowhere (Some p) = refl

pub all-filled : (ds : List (List Value)) → 0 < elements ds → list_any has_none ds ≡ false
all-filled [] h = refl
all-filled ([] ∷ ds) h = absurd (omega (arith, h))
all-filled ((v ∷ vs) ∷ ds) h = behind-first v vs ds ∙ all-filled ds (rest (length vs) (elements ds) h)
  where
    rest : (m n : ℕ) → 0 < suc m * n → 0 < n
    rest m zero e = absurd (omega (arith, e))
    rest m (suc n) e = omega arith

-- ---- subscripts with variables

shuffle : (a b x y : Bool) → ((a && x) && (b && y)) ≡ ((a && b) && (x && y))
shuffle true b true y = refl
shuffle true true false y = refl
shuffle true false false y = refl
shuffle false b x y = refl

pub all-fit : (ds : List (List Value)) (gs : List Form) → (are_indices ds gs && subscripts_fit ds gs) ≡ all_fit ds gs
all-fit [] [] = refl
all-fit [] (g ∷ gs) = refl
all-fit (d ∷ ds) [] = refl
all-fit (d ∷ ds) (g ∷ gs) =
    shuffle (is_index d g) (all_alike (key_sort g) d) (are_indices ds gs) (subscripts_fit ds gs) ∙ ap (λ b. fits d g && b) (all-fit ds gs)

-- what is left where no subscript is too large, else the refusal
abbrev pub or_large : {A : Type 0} → Option ℕ → Made A → Made A
or_large None r = r
or_large (Some at) r = Err (large at)

module _ (c : Context) (A : Type 0) (r : Made A) where
  pub indices-tested : (ds : List (List Value)) (ats : List ℕ) (gs : List Form) → with_indices (sets c) (arrays c) c.item ds ats gs r ≡ or_large (first_large c ds ats gs) r
  unfolding magnitude
  indices-tested [] ats gs = refl
  indices-tested (d ∷ ds) [] gs = refl
  indices-tested (d ∷ ds) (at ∷ ats) [] = refl
  indices-tested (d ∷ ds) (at ∷ ats) (g ∷ gs) =
      ap (sized at (magnitude c (ranked g) + greatest_abs (indices_of d))) (indices-tested ds ats gs) ∙ by (nat_lt (magnitude c (ranked g) + greatest_abs (indices_of d)) (2 ^ 127))
    where
      by : (b : Bool) → cond b (or_large (first_large c ds ats gs) r) (Err (large at)) ≡ or_large (cond b (first_large c ds ats gs) (Some at)) r
      by true = refl
      by false = refl

-- a subscript that is not too large
pub first-next : (c : Context) (d : List Value) (ds : List (List Value)) (at : ℕ) (ats : List ℕ) (g : Form) (gs : List Form) (m : ℕ) → m ≡ magnitude c (ranked g) + greatest_abs (indices_of d) → m < 2 ^ 127 →
    first_large c (d ∷ ds) (at ∷ ats) (g ∷ gs) ≡ first_large c ds ats gs
first-next c d ds at ats g gs m e h = ap (λ m. cond (nat_lt m (2 ^ 127)) (first_large c ds ats gs) (Some at)) (sym e) ∙ ap (λ b. cond b (first_large c ds ats gs) (Some at)) (is-below m (2 ^ 127) h)
  where
    is-below : (m n : ℕ) → m < n → nat_lt m n ≡ true
    is-below m n h = grind (arith, nat_tests)
