-- Where a value stands in a dimension.
use Rattle.std.proofs.Common.{◌≡◌, ℕ, zero, suc, ◌<◌, ℤ, pos, negsuc, ◌+ℤ◌, ◌-ℤ◌, Bool, true, false, cond, List, [], ◌∷◌, ◌++◌, length, None, Some, refl, sym, ap, subst, ◌∙◌, arith}
use Rattle.std.specs.Option.{option_map}
use Rattle.std.proofs.lemmas.Int.{ints}
use lib.Signed.{◌<ℤ◌, ◌≤ℤ◌}
use Rattle.opl_value.specs.declared.value.Value.{Value}
use Rattle.opl_value.specs.declared.value.Value.TheVariants.{Int}
use Rattle.opl_value.specs.declared.value.Value.TheVariants as made
use Rattle.opl_value.specs.declared.value.IndexSpace.{IndexSpace}
use Rattle.opl_value.specs.declared.value.Dimension.{Dimension}
use Rattle.opl_value.specs.declared.value.Dimension.TheViews.{out-roll-IndexSpace, roll-out-IndexSpace}
use Rattle.opl_value.specs.declared.value.Dimension.TheVariants as dims
use Rattle.opl_value.specs.declared.value.Dimension.TheVariants.{outs-Whole, outs-Listed}
use Rattle.opl_value.specs.Order.{value_eq}
use Rattle.opl_value.specs.Total.{value_same}
use Rattle.opl_value.specs.Places.{value_at, AreDifferent, numbers_from, numbers_between, or_zero, place_in, dimension_values, values_layer, sorted_layer, IsSorted, AreSorted, AreRising, dimensions, space_of}

-- what a value's comparison with the first one of a list gives
pub by_first : {G : Type 0} (v w : Value) → (value_eq v w ≡ true → v ≡ w → G) → (value_eq v w ≡ false → G) → G
by_first {G} v w same other = by (value_eq v w) refl
  where
    by : (b : Bool) → value_eq v w ≡ b → G
    by true e = same e ((value_same v w).0 e)
    by false e = other e

different_rest : (w : Value) (ws : List Value) → AreDifferent (w ∷ ws) → AreDifferent ws
different_rest w ws d j k jl kl e = let s : suc j ≡ suc k = d (suc j) (suc k) (omega arith) (omega arith) e in omega arith

pub place_in-found : (v : Value) (ws : List Value) → AreDifferent ws → (p : ℕ) → p < length ws → value_at ws p ≡ v → place_in v ws ≡ Some p
place_in-found v [] d p l e = absurd (omega arith)
place_in-found v (w ∷ ws) d zero l e = ap (λ b. cond b (Some 0) (option_map suc (place_in v ws))) ((value_same v w).1 (sym e))
place_in-found v (w ∷ ws) d (suc p) l e = by_first v w
    (λ t s. let z : zero ≡ suc p = d zero (suc p) (omega arith) l (sym s ∙ sym e) in absurd (omega arith))
    (λ f. ap (λ b. cond b (Some 0) (option_map suc (place_in v ws))) f ∙ ap (option_map suc) (place_in-found v ws (different_rest w ws d) p (omega arith) e))

pub place_in-missing : (v : Value) (ws : List Value) → ((p : ℕ) → p < length ws → value_at ws p ≡ v → ⊥) → place_in v ws ≡ None
place_in-missing v [] none = refl
place_in-missing v (w ∷ ws) none = by_first v w
    (λ t s. absurd (none zero (omega arith) (sym s)))
    (λ f. ap (λ b. cond b (Some 0) (option_map suc (place_in v ws))) f ∙ ap (option_map suc) (place_in-missing v ws (λ p l e. none (suc p) (omega arith) e)))

-- ---- whole numbers

length-numbers_from : (low : ℤ) (n : ℕ) → length (numbers_from low n) ≡ n
length-numbers_from low zero = refl
length-numbers_from low (suc n) = omega (arith, length-numbers_from (low +ℤ pos 1) n)

at-numbers_from : (low : ℤ) (n p : ℕ) → p < n → value_at (numbers_from low n) p ≡ Int (low +ℤ pos p)
at-numbers_from low zero p l = absurd (omega arith)
at-numbers_from low (suc n) zero l = ap Int (omega (arith, ints))
at-numbers_from low (suc n) (suc p) l = at-numbers_from (low +ℤ pos 1) n p (omega arith) ∙ ap Int (omega (arith, ints))

pub same_number : (m n : ℤ) → Int m ≡ Int n → m ≡ n
same_number m n e = cc

different_numbers : (low : ℤ) (n : ℕ) → AreDifferent (numbers_from low n)
different_numbers low n j k jl kl e =
    let jn : j < n = omega (arith, length-numbers_from low n) in
    let kn : k < n = omega (arith, length-numbers_from low n) in
    let same : low +ℤ pos j ≡ low +ℤ pos k = same_number _ _ (sym (at-numbers_from low n j jn) ∙ e ∙ at-numbers_from low n k kn) in
    omega (arith, ints)

pub length-numbers_between : (low high : ℤ) → low ≤ℤ high → pos (length (numbers_between low high)) ≡ high +ℤ pos 1 -ℤ low
length-numbers_between low high h = ap pos (length-numbers_from low (or_zero (high +ℤ pos 1 -ℤ low))) ∙ known (high +ℤ pos 1 -ℤ low) (omega (arith, ints))
  where
    known : (z : ℤ) → pos 0 ≤ℤ z → pos (or_zero z) ≡ z
    known (pos n) l = refl
    known (negsuc n) l = absurd (omega (arith, ints))

pub length-numbers_between-none : (low high : ℤ) → high <ℤ low → length (numbers_between low high) ≡ 0
length-numbers_between-none low high h = length-numbers_from low (or_zero (high +ℤ pos 1 -ℤ low)) ∙ known (high +ℤ pos 1 -ℤ low) (omega (arith, ints))
  where
    known : (z : ℤ) → z ≤ℤ pos 0 → or_zero z ≡ 0
    known (pos n) l = omega (arith, ints)
    known (negsuc n) l = refl

pub place_in-number : (low high n : ℤ) (p : ℕ) → low +ℤ pos p ≡ n → n ≤ℤ high → place_in (Int n) (numbers_between low high) ≡ Some p
place_in-number low high n p e h =
    let count = or_zero (high +ℤ pos 1 -ℤ low) in
    let here : p < length (numbers_between low high) = omega (arith, ints, length-numbers_between low high (omega (arith, ints))) in
    let there : p < count = omega (arith, length-numbers_from low count) in
    place_in-found (Int n) (numbers_between low high) (different_numbers low count) p here (at-numbers_from low count p there ∙ ap Int e)

pub place_in-no_number : (low high : ℤ) (v : Value) → ((n : ℤ) → v ≡ Int n → low ≤ℤ n → n ≤ℤ high → ⊥) → place_in v (numbers_between low high) ≡ None
place_in-no_number low high v none = place_in-missing v (numbers_between low high) (λ p l e.
    let count = or_zero (high +ℤ pos 1 -ℤ low) in
    let there : p < count = omega (arith, length-numbers_from low count) in
    let known : (pos p) <ℤ (high +ℤ pos 1 -ℤ low) = inside (high +ℤ pos 1 -ℤ low) p there in
    none (low +ℤ pos p) (sym e ∙ at-numbers_from low count p there) (omega (arith, ints)) (omega (arith, ints)))
  where
    inside : (z : ℤ) (p : ℕ) → p < or_zero z → pos p <ℤ z
    inside (pos n) p l = omega (arith, ints)
    inside (negsuc n) p l = absurd (omega arith)

-- what is no whole number is not there
pub no_Bool : (low high : ℤ) (b : Bool) → place_in (made.Bool b) (numbers_between low high) ≡ None
no_Bool low high b = place_in-no_number low high (made.Bool b) (λ n e l h. cc)

pub no_Enum : (low high : ℤ) (d p : ℕ) → place_in (made.Enum d p) (numbers_between low high) ≡ None
no_Enum low high d p = place_in-no_number low high (made.Enum d p) (λ n e l h. cc)

pub no_Record : (low high : ℤ) (parts : List Value) → place_in (made.Record parts) (numbers_between low high) ≡ None
no_Record low high parts = place_in-no_number low high (made.Record parts) (λ n e l h. cc)

pub no_Set : (low high : ℤ) (elements : List Value) → place_in (made.Set elements) (numbers_between low high) ≡ None
no_Set low high elements = place_in-no_number low high (made.Set elements) (λ n e l h. cc)

pub no_Range : (low high l h : ℤ) → place_in (made.Range l h) (numbers_between low high) ≡ None
no_Range low high l h = place_in-no_number low high (made.Range l h) (λ n e a b. cc)

pub no_Names : (low high : ℤ) (names : List (List ℕ)) → place_in (made.Names names) (numbers_between low high) ≡ None
no_Names low high names = place_in-no_number low high (made.Names names) (λ n e l h. cc)

pub no_Array : (low high : ℤ) (space : IndexSpace) (cells : List Value) → place_in (made.Array space cells) (numbers_between low high) ≡ None
no_Array low high space cells = place_in-no_number low high (made.Array space cells) (λ n e l h. cc)

pub ruleset others = (no_Bool, no_Enum, no_Record, no_Set, no_Range, no_Names, no_Array)

-- ---- dimensions

pub values-Whole : (low high : ℤ) → dimension_values (dims.Whole low high) ≡ numbers_between low high
values-Whole low high = ap values_layer (outs-Whole low high)

pub values-Listed : (values : List Value) (rising : List ℕ) → dimension_values (dims.Listed values rising) ≡ values
values-Listed values rising = ap values_layer (outs-Listed values rising)

pub sorted-Listed : (values : List Value) (rising : List ℕ) → IsSorted (dims.Listed values rising) → AreRising values rising
sorted-Listed values rising s = subst sorted_layer (outs-Listed values rising) s

-- what the variants of a dimension come to
pub ruleset variants = (values-Whole, values-Listed, sorted-Listed)

-- ---- index spaces

pub dimensions-space_of : (ds : List Dimension) → dimensions (space_of ds) ≡ ds
dimensions-space_of ds = ap (λ s. s.dims) (out-roll-IndexSpace (record { dims = ds }))

pub is_space_of : (space : IndexSpace) (ds : List Dimension) → dimensions space ≡ ds → space ≡ space_of ds
is_space_of space ds e = sym (roll-out-IndexSpace space) ∙ ap space_of e

pub sorted-push : (ds : List Dimension) (d : Dimension) → AreSorted ds → IsSorted d → AreSorted (ds ++ d ∷ [])
sorted-push [] d s t = (t, tt)
sorted-push (e ∷ ds) d s t = (s.0, sorted-push ds d s.1 t)

-- what the making of a space comes to
pub ruleset spaces = (dimensions-space_of, is_space_of, sorted-push)
