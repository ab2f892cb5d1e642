-- The closure: the union, variable by variable, of all stable families.
use Rattle.std.specs.Prelude.{ℕ, zero, suc, Bool, true, false, cond, ◌&&◌, not, List, [], ◌∷◌, ◌++◌, map, length, ℤ, Option, Some, None}
use Rattle.std.specs.List.{list_any, list_all, filter, flat_map}
use Rattle.opl_domain.specs.Family.{Family, set_of, has, only}

-- the list of all sublists of a list: each number is kept or left out
abbrev pub sublists : List ℤ → List (List ℤ)
sublists [] = [] ∷ []
sublists (v ∷ vs) = map (λ s. v ∷ s) (sublists vs) ++ sublists vs

-- the list of all families within D
abbrev pub families : Family → List Family
families [] = [] ∷ []
families (vs ∷ D) = flat_map (λ s. map (λ F. s ∷ F) (families D)) (sublists vs)

-- a list has a first member
abbrev pub is_some : List ℤ → Bool
is_some [] = false
is_some (v ∷ vs) = true

-- the family isn't dead, also once one of the first n variables has any one of its values alone
abbrev pub spares : (Family → Bool) → Family → ℕ → Bool
spares dead F zero = not (dead F)
spares dead F (suc n) = spares dead F n && list_all (λ v. not (dead (only F n v))) (set_of F n)

-- the family is stable
unfoldable pub is_stable : (Family → Bool) → Family → Bool
is_stable dead F = list_all is_some F && spares dead F (length F)

-- some stable family within D has the value v of x
unfoldable pub is_in_stable : (Family → Bool) → Family → ℕ → ℤ → Bool
is_in_stable dead D x v = list_any (λ F. is_stable dead F && has F x v) (families D)

-- the values of D that pass a test
abbrev pub restrict : (ℕ → ℤ → Bool) → Family → Family
restrict keeps [] = []
restrict keeps (vs ∷ D) = filter (keeps zero) vs ∷ restrict (λ x. keeps (suc x)) D

-- the closure of D: none where no family within D is stable, else the values that some stable one has
unfoldable pub closure : (Family → Bool) → Family → Option Family
closure dead D = cond (list_any (is_stable dead) (families D)) (Some (restrict (is_in_stable dead D) D)) None
