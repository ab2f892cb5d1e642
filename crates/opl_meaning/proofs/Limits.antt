-- The numbers of variables and of their values.
use Rattle.std.proofs.Common.{◌≡◌, ℕ, ◌+◌, ℤ, pos, negsuc, List, [], ◌∷◌, ◌++◌, length, refl, ap, sym, ◌∙◌, arith, length-append}
use Rattle.std.specs.Prelude.{◌<ℤ◌, ◌≤ℤ◌, unsigned_abs}
use Rattle.std.proofs.lemmas.Int.{ints}
use Rattle.std.proofs.lemmas.List.{append-nil}
use Rattle.opl_value.specs.Places.{or_zero}
use Rattle.opl_meaning.specs.declared.variable.DeclaredSet.{DeclaredSet}
use Rattle.opl_meaning.specs.declared.variable.VariableItem.{VariableItem}
use Rattle.opl_meaning.specs.Variables.{sets_of, size_of, values_of}

pub zero-below : (z : ℤ) → z <ℤ pos 0 → 0 ≡ or_zero z
zero-below (pos n) h = absurd (omega (arith, ints, h))
zero-below (negsuc n) h = refl

pub abs-above : (z : ℤ) → pos 0 ≤ℤ z → unsigned_abs z ≡ or_zero z
abs-above (pos n) h = refl
abs-above (negsuc n) h = absurd (omega (arith, ints, h))

pub ruleset sizes = (zero-below, abs-above)

pub values-append : (xs ys : List DeclaredSet) → values_of (xs ++ ys) ≡ values_of xs + values_of ys
values-append [] ys = omega arith
values-append (x ∷ xs) ys = omega (arith, values-append xs ys)

pub values-more : (sets : List DeclaredSet) (set : DeclaredSet) → values_of (sets ++ set ∷ []) ≡ values_of sets + size_of set
values-more sets set = omega (arith, values-append sets (set ∷ []))

pub ruleset sums = (values-append, values-more)

pub sets-more : (items : List VariableItem) (v : VariableItem) → sets_of (items ++ v ∷ []) ≡ sets_of items ++ v.sets
sets-more [] v = append-nil v.sets
sets-more (u ∷ items) v = ap (λ sets. u.sets ++ sets) (sets-more items v) ∙ sym (assoc u.sets (sets_of items) v.sets)
  where
    assoc : (xs ys zs : List DeclaredSet) → (xs ++ ys) ++ zs ≡ xs ++ (ys ++ zs)
    assoc [] ys zs = refl
    assoc (x ∷ xs) ys zs = ap (λ l. x ∷ l) (assoc xs ys zs)

-- the totals of what is declared and of one declaration more
pub counted-more : (items : List VariableItem) (v : VariableItem) (n m : ℕ) → n ≡ length (sets_of items) → m ≡ n + length v.sets → m ≡ length (sets_of (items ++ v ∷ []))
counted-more items v n m h k = k ∙ ap (λ a. a + length v.sets) h ∙ sym (ap length (sets-more items v) ∙ length-append (sets_of items) v.sets)

pub summed-more : (items : List VariableItem) (v : VariableItem) (n m : ℕ) → n ≡ values_of (sets_of items) → m ≡ n + values_of v.sets → m ≡ values_of (sets_of (items ++ v ∷ []))
summed-more items v n m h k = k ∙ ap (λ a. a + values_of v.sets) h ∙ sym (ap values_of (sets-more items v) ∙ values-append (sets_of items) v.sets)
