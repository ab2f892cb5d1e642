-- The addends at some places, one after another.
use Rattle.std.proofs.Common.{◌≡◌, ◌∙◌, ℕ, zero, suc, ◌-◌, ◌≤◌, ◌<◌, Bool, refl, List, [], ◌∷◌, ◌++◌, map, length, get_or, drop, ℤ, ap, sym, subst, arith}
use Rattle.std.specs.Prelude.{Some, None, slice_get}
use Rattle.opl_expr.specs.Forms.{Term}
use Rattle.opl_expr.proofs.Parts.{any_default}
use Rattle.opl_range.proofs.Parts.{part_before}
use Rattle.opl_addends.specs.Addends.{CanAdd, listed, picked}
use Rattle.opl_addends.proofs.Sizes.{can_add_behind}

module _ {X : Type 0} (f : X → Bool × Term) where
  map_append : (xs ys : List X) → map f (xs ++ ys) ≡ map f xs ++ map f ys
  map_append [] ys = refl
  map_append (x ∷ xs) ys = ap (λ zs. f x ∷ zs) (map_append xs ys)

  picked_dropped : (sets : List (ℤ × ℤ)) (xs : List X) (places : List ℕ) (L : ℕ) → CanAdd sets (map f (picked xs places)) → CanAdd sets (map f (picked xs (drop L places)))
  picked_dropped sets xs places zero c = c
  picked_dropped sets xs [] (suc L) c = c
  picked_dropped sets xs (p ∷ places) (suc L) c =
      picked_dropped sets xs places L
      (can_add_behind sets (map f (listed (slice_get xs p))) (map f (picked xs places)) (subst (CanAdd sets) (map_append (listed (slice_get xs p)) (picked xs places)) c))

  module _ (xs : List X) (places : List ℕ) (L : ℕ) (h : 0 < L) (k : L ≤ length places) where
    abbrev place : ℕ
    place = get_or places (L - 1) 0

    place_is : place ≡ get_or places (L - 1) place
    place_is = any_default places (L - 1) 0 place (omega (arith, h, k))

    picked_before : picked xs (drop (L - 1) places) ≡ listed (slice_get xs place) ++ picked xs (drop L places)
    picked_before = ap (picked xs) (part_before places L place h k place_is)

    -- no element is at the place
    pub picked_none : None ≡ slice_get xs place → map f (picked xs (drop L places)) ≡ map f (picked xs (drop (L - 1) places))
    picked_none n = sym (ap (map f) (picked_before ∙ ap (λ o. listed o ++ picked xs (drop L places)) (sym n)))

    -- an element is there
    pub picked_one : (x : X) → Some x ≡ slice_get xs place → f x ∷ map f (picked xs (drop L places)) ≡ map f (picked xs (drop (L - 1) places))
    picked_one x n = sym (ap (map f) (picked_before ∙ ap (λ o. listed o ++ picked xs (drop L places)) (sym n)))

    pub picked_can_add : (sets : List (ℤ × ℤ)) (x : X) → Some x ≡ slice_get xs place → CanAdd sets (map f (picked xs places)) → CanAdd sets (f x ∷ map f (picked xs (drop L places)))
    picked_can_add sets x n c = subst (CanAdd sets) (sym (picked_one x n)) (picked_dropped sets xs places (L - 1) c)
